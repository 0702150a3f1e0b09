use Rattle.metadata_writer.proofs.Kept.{its_ref-after_snapshot, other_ref-after_snapshot}
use Rattle.metadata_writer.proofs.laws.other_refs_stay.Goals as goal

pub returns-clause-others : goal.returns-clause-others
returns-clause-others c = other_ref-after_snapshot

pub returns-clause-its : goal.returns-clause-its
returns-clause-its c = its_ref-after_snapshot
