-- What other crates cite of the proofs here, by topic.

-- How a step ends, by the statement at hand.
pub use Rattle.session_steps.proofs.Ends.{all_at}
-- On an open table each part of a step that reads can be read: the branch, its data files, and the schema.
pub use Rattle.session_steps.proofs.OpenLaws.{is_of_outside}
