use Rattle.sql_statements.proofs.StatementLaws.{select_leaves}
use Rattle.sql_statements.proofs.laws.select_leaves_the_rows_as_they_are.Goals as goal

pub returns : goal.returns
returns c = select_leaves
