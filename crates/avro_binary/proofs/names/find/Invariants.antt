use Rattle.std.proofs.Common.{◌≡◌, length}
use Rattle.avro_binary.specs.Naming.{find}
use Rattle.avro_binary.proofs.names.find.Given as goal

abbrev pub invariant-loop-rest : goal.invariant-loop-rest
invariant-loop-rest l = find l.name l.rest ≡ find l.name l.finished

abbrev pub decreases-loop-rest : goal.decreases-loop-rest
decreases-loop-rest l = length l.rest
