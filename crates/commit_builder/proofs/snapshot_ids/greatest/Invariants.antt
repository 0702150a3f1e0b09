use Rattle.std.proofs.Common.{◌≡◌, length, pos}
use Rattle.commit_builder.specs.SnapshotIds.{greatest}
use Rattle.commit_builder.proofs.snapshot_ids.greatest.Given as goal

abbrev pub invariant-loop-rest : goal.invariant-loop-rest
invariant-loop-rest l = greatest l.best l.rest ≡ greatest (pos 0) l.ids

abbrev pub decreases-loop-rest : goal.decreases-loop-rest
decreases-loop-rest l = length l.rest
