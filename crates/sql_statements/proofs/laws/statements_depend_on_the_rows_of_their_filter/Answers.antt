use Rattle.sql_statements.proofs.LocalLaws.{local_insertions, local_refusal}
use Rattle.sql_statements.proofs.laws.statements_depend_on_the_rows_of_their_filter.Goals as goal

pub returns-clause-inserted : goal.returns-clause-inserted
returns-clause-inserted c = local_insertions

pub returns-clause-refused : goal.returns-clause-refused
returns-clause-refused c = local_refusal
