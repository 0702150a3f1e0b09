use Rattle.sql_statements.proofs.RunLaws.{result_stands, refused_gives_nothing}
use Rattle.sql_statements.proofs.runs.a_statement_leaves_its_result.Goals as goal

pub returns-clause-result : goal.returns-clause-result
returns-clause-result c = result_stands

pub returns-clause-refused : goal.returns-clause-refused
returns-clause-refused c = refused_gives_nothing
