-- What other crates cite of the proofs here, by topic.

-- Induction over predicates, and predicates on the front of a row.
pub use Rattle.sql_predicates.proofs.FrontLaws.{Proved, and_left, and_right, both, by_levels, truth_in_front, truth_roll, within_roll}
-- An expression that fits a kind has a value of the kind, NULL or an overflow.
pub use Rattle.sql_predicates.proofs.KindLaws.{OfKind, and_both, kinds_joined, nulls_have_kinds, of_kind, or_right, row_has_kinds}
