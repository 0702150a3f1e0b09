-- There are as many ids as snapshots and live files.
use Rattle.std.proofs.Common.{◌≡◌, ◌+◌, ◌<◌, ◌^◌, true, ◌++◌, List, map, length, length-append, refl, arith}
use Rattle.std.proofs.lemmas.List.{length-map}
use Rattle.table_metadata.specs.declared.snapshots.Snapshot.{Snapshot}
use Rattle.table_state.specs.declared.live_set.BranchState.{BranchState}
use Rattle.table_state.specs.declared.live_set.BranchState.TheVariants as state
use Rattle.table_state.specs.declared.live_set.LiveSet.{LiveSet}
use Rattle.table_state.specs.declared.state.State.{State}
use Rattle.commit_builder.specs.Commits.{live_in}
use Rattle.commit_builder.specs.SnapshotIds.{entry_snapshot, ids_of, snapshot_id}
use Rattle.branch_commit.specs.Next.{has_room, live_count}
use Rattle.session_steps.proofs.OneVersion.{below}

count_of_ids : (snapshots : List Snapshot) (live : LiveSet) → length (ids_of snapshots live) ≡ length snapshots + (length live.data_files + length live.deletes)
count_of_ids snapshots live = omega (
  arith,
  length-append (map snapshot_id snapshots ++ map entry_snapshot live.data_files) (map entry_snapshot live.deletes),
  length-append (map snapshot_id snapshots) (map entry_snapshot live.data_files),
  length-map snapshots snapshot_id,
  length-map live.data_files entry_snapshot,
  length-map live.deletes entry_snapshot,
)

count_of_live : (head : BranchState) → length (live_in head).data_files + length (live_in head).deletes ≡ live_count head
count_of_live state.Absent = refl
count_of_live state.Empty = refl
count_of_live (state.Head snapshot manifests live) = refl

pub few_ids : (head : State) → has_room head ≡ true → length (ids_of head.metadata.snapshots (live_in head.head)) < 2 ^ 62
few_ids head room = omega (
  arith,
  count_of_ids head.metadata.snapshots (live_in head.head),
  count_of_live head.head,
  below (length head.metadata.snapshots + live_count head.head) (2 ^ 62) room,
)
