use Rattle.std.proofs.Common.{◌∙◌}
use Rattle.dml_parser.proofs.Texts.{a_text, no_text}
use Rattle.dml_parser.proofs.values.text_of.Goals as goal

pub returns-in_ok-copy_of-in-Ok : goal.returns-in_ok-copy_of-in-Ok
returns-in_ok-copy_of-in-Ok c = a_text c.args.bytes.now c.in_ok-copy_of-in-Ok.field-0 c.in-Ok.ensures.cases.1 (c.in_ok-copy_of-in-Ok.ensures ∙ c.in-Ok.ensures.cases.0)

pub returns-in-Err : goal.returns-in-Err
returns-in-Err c = λ _. no_text c.args.bytes.now c.in-Err.ensures.cases.0
