use Rattle.std.proofs.Common.{take}
use Rattle.std.proofs.lemmas.Result.{err_from_is_err_and}
use Rattle.std.specs.List.{flat_map}
use Rattle.plain_types.proofs.CallerLemmas.{front_of_more}
use Rattle.run_report.specs.Texts.{hex_byte}
use Rattle.run_report.proofs.fields.put_hexadecimal.Goals as goal

pub returns-in_err-put_hex_byte : goal.returns-in_err-put_hex_byte
returns-in_err-put_hex_byte c =
    let p = err_from_is_err_and c.from_residual.result c.from_residual.ensures.1 in
    rw p.1 (front_of_more c.args.field.now.items (flat_map hex_byte (take c.loop-byte.byte-index c.args.bytes.now)) c.loop-byte.field.items c.put_hex_byte.new.field.items c.loop-byte.invariant c.in_err-put_hex_byte.ensures)
