use Rattle.dml_parser.proofs.Texts.{a_text, no_text}
use Rattle.dml_parser.proofs.read.text_in.Goals as goal

pub returns-in-Ok : goal.returns-in-Ok
returns-in-Ok c = a_text c.args.bytes.now c.in-Ok.text.now c.in-Ok.ensures.cases.1 c.in-Ok.ensures.cases.0

pub returns-in-Err : goal.returns-in-Err
returns-in-Err c = λ _. no_text c.args.bytes.now c.in-Err.ensures.cases.0
