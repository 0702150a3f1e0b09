use Rattle.dml_parser.proofs.ScriptLaws.{are_read}
use Rattle.dml_parser.proofs.laws.statements_that_were_read_are_of_the_columns.Goals as goal

pub returns : goal.returns
returns c = are_read
