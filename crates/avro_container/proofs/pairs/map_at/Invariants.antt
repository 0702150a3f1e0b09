use Rattle.std.proofs.Common.{◌≡◌, ◌-◌, [], length}
use Rattle.avro_container.specs.Pairs.{map_at}
use Rattle.avro_container.proofs.pairs.map_at.Given as goal

abbrev pub invariant-loop : goal.invariant-loop
invariant-loop l = map_at l.whole (length l.bytes - l.counter) l.pairs.items l.rest ≡ map_at l.whole (length l.bytes) [] l.bytes
