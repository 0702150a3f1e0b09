use Rattle.sql_statements.proofs.RunLaws.{serial-append}
use Rattle.sql_statements.proofs.runs.a_run_goes_on_where_it_stopped.Goals as goal

pub returns : goal.returns
returns c = serial-append
