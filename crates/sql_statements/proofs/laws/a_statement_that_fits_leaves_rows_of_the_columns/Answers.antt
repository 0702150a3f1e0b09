use Rattle.sql_statements.proofs.KindLaws.{rows_stay}
use Rattle.sql_statements.proofs.laws.a_statement_that_fits_leaves_rows_of_the_columns.Goals as goal

pub returns : goal.returns
returns c = rows_stay
