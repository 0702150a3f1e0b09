use Rattle.dml_parser.proofs.ScriptLaws.{are_short}
use Rattle.dml_parser.proofs.laws.scripts_that_were_read_are_short.Goals as goal

pub returns : goal.returns
returns c = are_short
