use Rattle.std.specs.List.{AllByRecursion}
use Rattle.avro_binary.specs.Shape.{long_shape}
use Rattle.avro_binary.specs.Spelling.{Fits}
use Rattle.call_tests.proofs.containers.longs.Given as goal

abbrev pub invariant-loop-n : goal.invariant-loop-n
invariant-loop-n l = AllByRecursion (Fits long_shape) l.datums.items
