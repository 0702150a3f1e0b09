use Rattle.manifest_writer.proofs.EntriesAgain.{entries_are_written}
use Rattle.manifest_writer.proofs.rewriting_laws.entries_that_are_read_can_be_written.Goals as goal

pub returns : goal.returns
returns c = entries_are_written
