use Rattle.metadata_writer.proofs.Kept.{snapshots-after_snapshot}
use Rattle.metadata_writer.proofs.laws.old_snapshots_stay.Goals as goal

pub returns : goal.returns
returns c = snapshots-after_snapshot
