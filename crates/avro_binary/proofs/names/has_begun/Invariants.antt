use Rattle.std.proofs.Common.{◌≡◌, length}
use Rattle.avro_binary.specs.Naming.{has_begun}
use Rattle.avro_binary.proofs.names.has_begun.Given as goal

abbrev pub invariant-loop-rest : goal.invariant-loop-rest
invariant-loop-rest l = has_begun l.name l.rest ≡ has_begun l.name l.begun

abbrev pub decreases-loop-rest : goal.decreases-loop-rest
decreases-loop-rest l = length l.rest
