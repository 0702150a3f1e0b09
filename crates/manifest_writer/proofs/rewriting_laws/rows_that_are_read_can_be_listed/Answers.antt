use Rattle.manifest_writer.proofs.RowsAgain.{rows_are_listed}
use Rattle.manifest_writer.proofs.rewriting_laws.rows_that_are_read_can_be_listed.Goals as goal

pub returns : goal.returns
returns c = rows_are_listed
