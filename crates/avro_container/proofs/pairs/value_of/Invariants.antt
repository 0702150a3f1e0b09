use Rattle.std.proofs.Common.{◌≡◌, length}
use Rattle.avro_container.specs.Pairs.{value_of}
use Rattle.avro_container.proofs.pairs.value_of.Given as goal

abbrev pub invariant-loop-rest : goal.invariant-loop-rest
invariant-loop-rest l = value_of l.key l.rest ≡ value_of l.key l.pairs

abbrev pub decreases-loop-rest : goal.decreases-loop-rest
decreases-loop-rest l = length l.rest
