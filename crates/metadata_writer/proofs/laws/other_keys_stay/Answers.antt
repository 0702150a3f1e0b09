use Rattle.metadata_writer.proofs.Kept.{kept-after_snapshot}
use Rattle.metadata_writer.proofs.laws.other_keys_stay.Goals as goal

pub returns : goal.returns
returns c = kept-after_snapshot
