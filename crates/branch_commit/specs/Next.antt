-- When a version can have a next one (Iceberg specification, "Sequence Numbers" and "Snapshots"): its numbers are not the
-- last of their types, and there are fewer snapshots and live files than ids.
use Rattle.std.specs.Prelude.{ℕ, ◌+◌, ◌-◌, ◌^◌, Bool, ◌&&◌, nat_lt, int_lt, length}
use Rattle.table_state.specs.declared.live_set.BranchState.{BranchState}
use Rattle.table_state.specs.declared.live_set.BranchState.TheVariants as state
use Rattle.table_state.specs.declared.state.State.{State}
use Rattle.commit_builder.specs.SnapshotIds.{last}

abbrev pub live_count : BranchState → ℕ
live_count state.Absent = 0
live_count state.Empty = 0
live_count (state.Head snapshot manifests live) = length live.data_files + length live.deletes

-- There is an id that no snapshot has, nor any live file's.
abbrev pub has_room : State → Bool
has_room state = nat_lt (length state.metadata.snapshots + live_count state.head) (2 ^ 62)

-- Neither number is the last one.
abbrev pub has_numbers : State → Bool
has_numbers state = nat_lt state.version (2 ^ 32 - 1) && int_lt state.metadata.last_sequence last

abbrev pub has_next : State → Bool
has_next state = nat_lt state.version (2 ^ 32 - 1) && (int_lt state.metadata.last_sequence last && has_room state)
