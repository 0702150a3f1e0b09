use Rattle.std.proofs.Common.{◌≡◌, ◌++◌, take}
use Rattle.run_report.specs.Escapes.{escaped}
use Rattle.run_report.proofs.escapes.put_escaped.Given as goal

abbrev pub invariant-loop-byte : goal.invariant-loop-byte
invariant-loop-byte l = l.bytes.items ≡ l.initial.bytes.items ++ escaped (take l.byte-index l.text)
