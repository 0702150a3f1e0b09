use Rattle.std.proofs.Common.{◌≡◌, ◌++◌, take}
use Rattle.std.specs.List.{flat_map}
use Rattle.run_report.specs.Texts.{hex_byte}
use Rattle.run_report.proofs.fields.put_hexadecimal.Given as goal

abbrev pub invariant-loop-byte : goal.invariant-loop-byte
invariant-loop-byte l = l.field.items ≡ l.initial.field.items ++ flat_map hex_byte (take l.byte-index l.bytes)
