use Rattle.sql_statements.proofs.Widths.{rows_are_wide}
use Rattle.sql_statements.proofs.laws.rows_of_the_columns_are_wide.Goals as goal

pub returns : goal.returns
returns c = rows_are_wide
