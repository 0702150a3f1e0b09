use Rattle.metadata_writer.proofs.ReadAfter.{read_snapshots-after_snapshot}
use Rattle.metadata_writer.proofs.laws.the_snapshot_is_read.Goals as goal

pub returns : goal.returns
returns c = read_snapshots-after_snapshot
