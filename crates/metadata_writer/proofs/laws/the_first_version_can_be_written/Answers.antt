use Rattle.metadata_writer.proofs.NewWithin.{writable-first_version}
use Rattle.metadata_writer.proofs.laws.the_first_version_can_be_written.Goals as goal

pub returns : goal.returns
returns c = writable-first_version
