use Rattle.sql_statements.proofs.StatementLaws.{delete_all}
use Rattle.sql_statements.proofs.laws.delete_of_all_leaves_nothing.Goals as goal

pub returns : goal.returns
returns c = delete_all
