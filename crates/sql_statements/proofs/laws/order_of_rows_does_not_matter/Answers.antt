use Rattle.sql_statements.proofs.StatementLaws.{result_of_bag}
use Rattle.sql_statements.proofs.laws.order_of_rows_does_not_matter.Goals as goal

pub returns : goal.returns
returns c = result_of_bag
