use Rattle.sql_statements.proofs.FilterLaws.{kept_outside}
use Rattle.sql_statements.proofs.laws.rows_outside_the_filter_are_kept.Goals as goal

pub returns : goal.returns
returns c = kept_outside
