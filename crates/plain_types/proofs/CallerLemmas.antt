-- What other crates cite of the proofs here, by topic.

-- Laws of bags: totals of weights, members, tests for a member, and lists with no two alike.
pub use Rattle.plain_types.proofs.BagLaws.{In-append, In-append_left, In-append_right, In-filter, In-flat_map, In-flat_map_from, In-map, SameBag-append, SameBag-filter, SameBag-flat_map, SameBag-list_any, SameBag-refl, SameBag-sym, SameBag-trans}
pub use Rattle.plain_types.proofs.BagLaws.{total-append, total-filter, total-flat_map, total-map, total-plus, total-weights, total-zero}
-- The byte order of a bag of texts: it is one list for a bag, and the only one of the bag that is sorted.
pub use Rattle.plain_types.proofs.ByteOrderLaws.{Tells-texts}
-- Readings in steps.
pub use Rattle.plain_types.proofs.StepLaws.{one_value, two_steps}
-- Calls that write at the end of a list, one after another.
pub use Rattle.plain_types.proofs.AppendLaws.{appends_more, front_of_more, front_of_same}
-- What an answer says of its Ok and of its fault.
pub use Rattle.plain_types.proofs.AnswerLaws.{err_of, ok_of, told_as, told_err_of, told_ok_of}
