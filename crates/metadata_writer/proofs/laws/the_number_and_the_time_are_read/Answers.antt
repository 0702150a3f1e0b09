use Rattle.metadata_writer.proofs.PlainAfter.{plain_keys-after_snapshot}
use Rattle.metadata_writer.proofs.laws.the_number_and_the_time_are_read.Goals as goal

pub returns : goal.returns
returns c = plain_keys-after_snapshot
