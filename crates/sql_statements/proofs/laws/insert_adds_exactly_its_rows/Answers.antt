use Rattle.sql_statements.proofs.StatementLaws.{insert_adds}
use Rattle.sql_statements.proofs.laws.insert_adds_exactly_its_rows.Goals as goal

pub returns : goal.returns
returns c = insert_adds
