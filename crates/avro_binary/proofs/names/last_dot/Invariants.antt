use Rattle.std.proofs.Common.{◌≡◌, ◌+◌, length}
use Rattle.avro_binary.specs.Naming.{dot_from, last_dot}
use Rattle.avro_binary.proofs.names.last_dot.Given as goal

abbrev pub invariant-loop-rest : goal.invariant-loop-rest
invariant-loop-rest l = record { value : dot_from l.rest l.at l.last ≡ last_dot l.name; places : l.at + length l.rest ≡ length l.name }

abbrev pub decreases-loop-rest : goal.decreases-loop-rest
decreases-loop-rest l = length l.rest
