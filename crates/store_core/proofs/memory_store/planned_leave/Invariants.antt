use Rattle.std.proofs.Common.{◌≡◌, drop}
use Rattle.store_core.specs.Memory.{planned}
use Rattle.store_core.proofs.memory_store.planned_leave.Given as goal

abbrev pub invariant-loop-at : goal.invariant-loop-at
invariant-loop-at l = planned l.kind l.nth (drop l.at-index l.plan) ≡ planned l.kind l.nth l.plan
