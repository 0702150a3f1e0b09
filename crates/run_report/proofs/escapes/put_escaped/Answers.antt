use Rattle.std.proofs.Common.{take}
use Rattle.std.proofs.lemmas.Result.{err_from_is_err_and}
use Rattle.plain_types.proofs.CallerLemmas.{front_of_more}
use Rattle.run_report.specs.Escapes.{escaped}
use Rattle.run_report.proofs.escapes.put_escaped.Goals as goal

pub returns-in_err-put_byte : goal.returns-in_err-put_byte
returns-in_err-put_byte c =
    let p = err_from_is_err_and c.from_residual.result c.from_residual.ensures.1 in
    rw p.1 (front_of_more c.args.bytes.now.items (escaped (take c.loop-byte.byte-index c.args.text.now)) c.loop-byte.bytes.items c.put_byte.new.bytes.items c.loop-byte.invariant c.in_err-put_byte.ensures)
