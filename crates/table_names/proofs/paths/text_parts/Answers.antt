use Rattle.std.proofs.Common.{refl}
use Rattle.std.proofs.lemmas.Str.{is_utf8-from_IsUtf8}
use Rattle.table_names.proofs.Texts.{no_text}
use Rattle.table_names.proofs.paths.text_parts.Goals as goal

pub returns-in-Ok : goal.returns-in-Ok
returns-in-Ok c = rw (is_utf8-from_IsUtf8 c.args.parts.now c.in-Ok.ensures.cases.1, c.plain_parts.ensures, c.in-Ok.ensures.cases.0) refl

pub returns-in-Err : goal.returns-in-Err
returns-in-Err c = rw (no_text c.args.parts.now c.in-Err.ensures.cases.0) refl
