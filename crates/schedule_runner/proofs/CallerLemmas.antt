-- What other crates cite of the proofs here, by topic.

-- A session is run on until it is finished or stopped.
pub use Rattle.schedule_runner.proofs.Outcomes.{unbegun}
-- An outcome between two counts of faults is one between wider counts.
pub use Rattle.schedule_runner.proofs.Counts.{outcome_wider}
