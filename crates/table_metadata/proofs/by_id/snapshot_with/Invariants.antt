use Rattle.std.proofs.Common.{◌≡◌, length}
use Rattle.table_metadata.specs.ById.{snapshot_with}
use Rattle.table_metadata.proofs.by_id.snapshot_with.Given as goal

abbrev pub invariant-loop-rest : goal.invariant-loop-rest
invariant-loop-rest l = snapshot_with l.id l.rest ≡ snapshot_with l.id l.snapshots

abbrev pub decreases-loop-rest : goal.decreases-loop-rest
decreases-loop-rest l = length l.rest
