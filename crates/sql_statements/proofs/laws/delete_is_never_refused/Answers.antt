use Rattle.sql_statements.proofs.StatementLaws.{delete_is_not_refused}
use Rattle.sql_statements.proofs.laws.delete_is_never_refused.Goals as goal

pub returns : goal.returns
returns c = delete_is_not_refused
