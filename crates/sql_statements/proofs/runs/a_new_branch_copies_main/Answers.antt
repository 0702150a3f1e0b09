use Rattle.sql_statements.proofs.RunLaws.{copies_main}
use Rattle.sql_statements.proofs.runs.a_new_branch_copies_main.Goals as goal

pub returns : goal.returns
returns c = copies_main
