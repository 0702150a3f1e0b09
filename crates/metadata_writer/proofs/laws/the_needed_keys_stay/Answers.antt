use Rattle.metadata_writer.proofs.StandAfter.{keys_stand-after_snapshot}
use Rattle.metadata_writer.proofs.laws.the_needed_keys_stay.Goals as goal

pub returns : goal.returns
returns c = keys_stand-after_snapshot
