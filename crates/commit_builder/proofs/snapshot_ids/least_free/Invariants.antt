use Rattle.std.proofs.Common.{◌≡◌, length, pos}
use Rattle.commit_builder.specs.SnapshotIds.{free_from}
use Rattle.commit_builder.proofs.snapshot_ids.least_free.Given as goal

abbrev pub invariant-loop-rest : goal.invariant-loop-rest
invariant-loop-rest l = free_from l.number l.rest l.ids ≡ free_from (pos 1) l.ids l.ids

abbrev pub decreases-loop-rest : goal.decreases-loop-rest
decreases-loop-rest l = length l.rest
