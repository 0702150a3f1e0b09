use Rattle.std.proofs.Common.{◌≡◌, ◌++◌, map, take}
use Rattle.commit_builder.specs.SnapshotIds.{snapshot_id}
use Rattle.commit_builder.proofs.snapshot_ids.put_snapshots.Given as goal

abbrev pub invariant-loop-snapshot : goal.invariant-loop-snapshot
invariant-loop-snapshot l = l.ids.items ≡ l.initial.ids.items ++ map snapshot_id (take l.snapshot-index l.snapshots)
