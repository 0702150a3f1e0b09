use Rattle.sql_predicates.proofs.KindLaws.{value_has_kind, row_has_kinds}
use Rattle.sql_predicates.proofs.laws.an_expression_has_the_kind_that_it_fits.Goals as goal

pub returns-clause-value : goal.returns-clause-value
returns-clause-value c = value_has_kind

pub returns-clause-rows : goal.returns-clause-rows
returns-clause-rows c = row_has_kinds
