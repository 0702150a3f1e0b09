use Rattle.metadata_writer.proofs.Within.{writable-after_snapshot}
use Rattle.metadata_writer.proofs.laws.a_commit_can_be_written.Goals as goal

pub returns : goal.returns
returns c = writable-after_snapshot
