use Rattle.metadata_writer.proofs.CommitRead.{parts-after_snapshot, text-after_snapshot}
use Rattle.metadata_writer.proofs.RefOrder.{refs_of_metadata}
use Rattle.metadata_writer.proofs.laws.a_commit_is_read.Goals as goal

pub returns-clause-data : goal.returns-clause-data
returns-clause-data c = parts-after_snapshot

pub returns-clause-text : goal.returns-clause-text
returns-clause-text c = text-after_snapshot

pub returns-clause-order : goal.returns-clause-order
returns-clause-order c = refs_of_metadata
