use Rattle.std.proofs.Common.{◌≡◌, ◌++◌, drop}
use Rattle.avro_container.specs.Pairs.{others}
use Rattle.avro_container.proofs.pairs.others.Given as goal

abbrev pub invariant-loop-pair : goal.invariant-loop-pair
invariant-loop-pair l = l.found.items ++ others (drop l.pair-index l.pairs) ≡ others l.pairs
