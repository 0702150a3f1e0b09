use Rattle.sql_statements.proofs.LocalLaws.{acts_on_hits}
use Rattle.sql_statements.proofs.laws.a_statement_acts_on_the_rows_of_its_filter.Goals as goal

pub returns : goal.returns
returns c = acts_on_hits
