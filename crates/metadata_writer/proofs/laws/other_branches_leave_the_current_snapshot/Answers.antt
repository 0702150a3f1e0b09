use Rattle.metadata_writer.proofs.CurrentAfter.{kept_current-after_snapshot}
use Rattle.metadata_writer.proofs.laws.other_branches_leave_the_current_snapshot.Goals as goal

pub returns : goal.returns
returns c = kept_current-after_snapshot
