-- What other crates cite of the proofs here, by topic.

-- A step that the files tell is the same when files are added.
pub use Rattle.session_machine.proofs.Standing.{turn_stands}
