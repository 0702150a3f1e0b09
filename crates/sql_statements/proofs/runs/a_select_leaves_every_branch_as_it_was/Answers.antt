use Rattle.sql_statements.proofs.RunLaws.{select_keeps, select_stands}
use Rattle.sql_statements.proofs.runs.a_select_leaves_every_branch_as_it_was.Goals as goal

pub returns-clause-rows : goal.returns-clause-rows
returns-clause-rows c = select_keeps

pub returns-clause-stands : goal.returns-clause-stands
returns-clause-stands c = select_stands
