-- The id of a new snapshot (Iceberg specification, "Snapshots"): one above all ids of snapshots and of the snapshots of live
-- files, or, where there is no greater number, the least positive one that none of them is.
use Rattle.std.specs.Prelude.{ℤ, pos, ◌+ℤ◌, ◌^◌, ◌-◌, int_lt, if◌then◌else◌, List, [], ◌∷◌, ◌++◌, map}
use Rattle.std.specs.Int.{int_max}
use Rattle.manifest_files.specs.declared.entry.Entry.{Entry}
use Rattle.table_metadata.specs.declared.snapshots.Snapshot.{Snapshot}
use Rattle.table_state.specs.declared.live_set.LiveSet.{LiveSet}
use Rattle.commit_manifests.specs.Sorting.{has_id}

abbrev pub snapshot_id : Snapshot → ℤ
snapshot_id snapshot = snapshot.id

abbrev pub entry_snapshot : Entry → ℤ
entry_snapshot entry = entry.snapshot

abbrev pub ids_of : List Snapshot → LiveSet → List ℤ
ids_of snapshots live = (map snapshot_id snapshots ++ map entry_snapshot live.data_files) ++ map entry_snapshot live.deletes

-- the greatest id, not below this number
unfoldable pub greatest : ℤ → List ℤ → ℤ
greatest best [] = best
greatest best (id ∷ ids) = greatest (int_max id best) ids

abbrev pub last : ℤ
last = pos (2 ^ 63 - 1)

abbrev pub above : ℤ → ℤ
above n = if int_lt n last then n +ℤ pos 1 else n

-- the first number from this one on that none of the ids is, after at most so many numbers as the first list has
unfoldable pub free_from : ℤ → List ℤ → List ℤ → ℤ
free_from n [] ids = n
free_from n (one ∷ more) ids = if has_id n ids then free_from (above n) more ids else n

abbrev pub next_id : List ℤ → ℤ
next_id ids = if int_lt (greatest (pos 0) ids) last then above (greatest (pos 0) ids) else free_from (pos 1) ids ids
