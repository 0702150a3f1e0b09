use Rattle.row_writer.proofs.ContainerAgain.{container_again}
use Rattle.row_writer.proofs.RowsAgain.{rows_again}
use Rattle.row_writer.proofs.laws.what_is_written_is_read.Goals as goal

pub returns-clause-container : goal.returns-clause-container
returns-clause-container c = container_again

pub returns-clause-rows : goal.returns-clause-rows
returns-clause-rows c = rows_again
