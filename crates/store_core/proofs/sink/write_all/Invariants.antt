use Rattle.std.proofs.Common.{◌≡◌, ◌≤◌, ◌-◌, length, take}
use Rattle.store_core.specs.Written.{appended}
use Rattle.store_core.proofs.sink.write_all.Given as goal

-- the front that was taken, by a sink that has not failed
abbrev pub invariant-loop-taken : goal.invariant-loop-taken
invariant-loop-taken g l =
    (l.taken ≤ length l.bytes) × (g.S.Sink.written l.sink ≡ appended (take l.taken l.bytes) (g.S.Sink.written l.fn.sink)) × (g.S.Sink.faults l.sink ≡ g.S.Sink.faults l.fn.sink)

abbrev pub decreases-loop-taken : goal.decreases-loop-taken
decreases-loop-taken g l = length l.bytes - l.taken
