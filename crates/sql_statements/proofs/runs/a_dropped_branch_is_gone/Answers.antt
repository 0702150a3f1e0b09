use Rattle.sql_statements.proofs.RunLaws.{dropped_is_gone}
use Rattle.sql_statements.proofs.runs.a_dropped_branch_is_gone.Goals as goal

pub returns : goal.returns
returns c = dropped_is_gone
