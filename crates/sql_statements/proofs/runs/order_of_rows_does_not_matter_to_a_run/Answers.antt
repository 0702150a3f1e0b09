use Rattle.sql_statements.proofs.RunLaws.{same_serial}
use Rattle.sql_statements.proofs.runs.order_of_rows_does_not_matter_to_a_run.Goals as goal

pub returns : goal.returns
returns c = same_serial
