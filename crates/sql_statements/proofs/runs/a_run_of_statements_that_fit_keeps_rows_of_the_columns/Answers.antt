use Rattle.sql_statements.proofs.RunKinds.{run_keeps_rows}
use Rattle.sql_statements.proofs.runs.a_run_of_statements_that_fit_keeps_rows_of_the_columns.Goals as goal

pub returns : goal.returns
returns c = run_keeps_rows
