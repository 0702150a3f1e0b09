use Rattle.metadata_writer.proofs.CurrentAfter.{log-after_snapshot, read_current-after_snapshot}
use Rattle.metadata_writer.proofs.laws.the_head_of_main_is_current.Goals as goal

pub returns-clause-current : goal.returns-clause-current
returns-clause-current c = read_current-after_snapshot

pub returns-clause-log : goal.returns-clause-log
returns-clause-log c = log-after_snapshot
