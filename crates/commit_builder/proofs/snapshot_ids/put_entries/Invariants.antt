use Rattle.std.proofs.Common.{◌≡◌, ◌++◌, map, take}
use Rattle.commit_builder.specs.SnapshotIds.{entry_snapshot}
use Rattle.commit_builder.proofs.snapshot_ids.put_entries.Given as goal

abbrev pub invariant-loop-entry : goal.invariant-loop-entry
invariant-loop-entry l = l.ids.items ≡ l.initial.ids.items ++ map entry_snapshot (take l.entry-index l.entries)
