use Rattle.std.proofs.Common.{◌≡◌, ◌-◌}
use Rattle.avro_container.specs.Pairs.{pairs_at}
use Rattle.avro_container.proofs.pairs.pairs_at.Given as goal

abbrev pub invariant-loop : goal.invariant-loop
invariant-loop l = pairs_at l.whole (l.count - l.counter) l.pairs.items l.rest ≡ pairs_at l.whole l.count l.fn.before.items l.bytes
