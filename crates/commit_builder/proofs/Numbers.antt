-- The numbers of a table of the form are in the ranges of their types.
use Rattle.std.proofs.Common.{◌≡◌, ◌<◌, ◌^◌, nat_eq, ℕ, ℤ, pos, codes, Bool, true, false, List, [], ◌∷◌, length, Option, Some, None, Result, Ok, subst, arith}
use Rattle.std.specs.Prelude.{int_lt, if◌then◌else◌}
use Rattle.std.specs.Cmp.Lexicographic.{pointwise}
use Rattle.std.specs.List.{AllByRecursion}
use Rattle.std.specs.Ordering.{int_eq}
use Rattle.plain_types.specs.Steps.{◌>>=◌, by_option, or_fault}
use Rattle.store_core.specs.Files.{Files}
use Rattle.manifest_files.specs.declared.manifest_row.ManifestRow.{ManifestRow}
use Rattle.iceberg_schema.specs.Widths.{IsLong}
use Rattle.table_metadata.proofs.CallerLemmas.{there}
use Rattle.plain_types.proofs.CallerLemmas.{two_steps}
use Rattle.table_metadata.specs.declared.metadata_fault.MetadataFault.TheVariants as metadata
use Rattle.table_metadata.specs.declared.snapshots.Snapshot.{Snapshot}
use Rattle.table_metadata.specs.Metadata.{Parts, parts}
use Rattle.table_state.specs.declared.live_set.BranchState.{BranchState}
use Rattle.table_state.specs.declared.live_set.BranchState.TheVariants as state
use Rattle.table_state.specs.declared.live_set.LiveSet.{LiveSet}
use Rattle.table_state.specs.declared.load_fault.LoadFault.{LoadFault}
use Rattle.table_state.specs.declared.load_fault.LoadFault.TheVariants as fault
use Rattle.table_state.specs.Files.{list_at}
use Rattle.table_state.specs.Live.{branch_at, entries_at, head_at, head_of, set_of, snapshot_at, without_head}
use Rattle.table_metadata.specs.ById.{snapshot_with}
use Rattle.table_state.specs.declared.state.State.{State}
use Rattle.table_state.specs.States.{IsStateOf}
use Rattle.commit_builder.specs.Commits.{live_in, parent_of}
use Rattle.commit_builder.specs.NextVersion.{HasNumbers}
use Rattle.commit_builder.specs.SnapshotIds.{ids_of, last}
use Rattle.iceberg_schema.proofs.CallerLemmas.{long_of_int}
use Rattle.commit_builder.proofs.Rewriting.{read_soundly}

-- ---- the snapshot of a head is one of the table's

abbrev HasLongId : Snapshot → Type 0
HasLongId snapshot = IsLong snapshot.id

snapshot_found : (id : ℤ) (snapshots : List Snapshot) (s : Snapshot) → AllByRecursion HasLongId snapshots → snapshot_with id snapshots ≡ Some s → HasLongId s
unfolding snapshot_with
snapshot_found id [] s h e = absurd cc
snapshot_found id (snapshot ∷ snapshots) s h e = found_by (int_eq snapshot.id id) e (snapshot_found id snapshots s h.1)
  where
    found_by : (b : Bool) → (if b then Some snapshot else snapshot_with id snapshots) ≡ Some s
        → (snapshot_with id snapshots ≡ Some s → HasLongId s) → HasLongId s
    found_by true k others = let same : snapshot ≡ s = cc in subst HasLongId same h.0
    found_by false k others = others k

module _ (table : List ℕ) (p : Parts) (files : Files) where
  snapshot_is : (snapshot : Snapshot) (id : ℤ) (rows : List ManifestRow) (live : LiveSet)
      → snapshot_at table p snapshot files ≡ Ok (state.Head id rows live) → snapshot.id ≡ id
  unfolding snapshot_at
  snapshot_is snapshot id rows live e =
      let listed = two_steps (list_at table p snapshot.list files) (λ found. entries_at table p [] found files >>= λ all. Ok (state.Head snapshot.id found (set_of all))) (state.Head id rows live) e in
      let read = two_steps (entries_at table p [] listed.0 files) (λ all. Ok (state.Head snapshot.id listed.0 (set_of all))) (state.Head id rows live) listed.2 in
      let same : snapshot.id ≡ id = cc in
      same

  none_without : (b : Bool) (id : ℤ) (rows : List ManifestRow) (live : LiveSet)
      → (let r : Result BranchState LoadFault = Ok (if b then state.Empty else state.Absent) in r) ≡ Ok (state.Head id rows live)
      → IsLong id
  none_without true id rows live e = absurd cc
  none_without false id rows live e = absurd cc

  head_by : (branch : List ℕ) (found : Option ℤ) (id : ℤ) (rows : List ManifestRow) (live : LiveSet)
      → AllByRecursion HasLongId p.snapshots → by_option found (λ ref. head_at table p branch ref files)
      (Ok (without_head branch)) ≡ Ok (state.Head id rows live) → IsLong id
  unfolding head_at
  head_by branch (Some ref) id rows live all e =
      let found = two_steps (or_fault (fault.Metadata (metadata.Ref branch)) (snapshot_with ref p.snapshots)) (λ snapshot. snapshot_at table p snapshot files) (state.Head id rows live) e in
      subst IsLong (snapshot_is found.0 id rows live found.2) (snapshot_found ref p.snapshots found.0 all (there (fault.Metadata (metadata.Ref branch)) (snapshot_with ref p.snapshots) found.0 found.1))
  head_by branch None id rows live all e = none_without (pointwise nat_eq branch (codes "main")) id rows live e

  parent_is : (branch : List ℕ) (head : BranchState) → AllByRecursion HasLongId p.snapshots
      → branch_at table p branch files ≡ Ok head → (n : ℤ) → parent_of head ≡ Some n → IsLong n
  unfolding branch_at
  parent_is branch state.Absent all e n h = absurd cc
  parent_is branch state.Empty all e n h = absurd cc
  parent_is branch (state.Head id rows live) all e n h =
      let same : id ≡ n = cc in
      subst IsLong same (head_by branch (head_of branch p.refs) id rows live all e)

-- ---- the whole

pub has_numbers : (head : State) (now : ℤ) (version : ℕ) (files : Files) → IsStateOf head.table version head.branch files head
    → int_lt head.metadata.last_sequence last ≡ true → IsLong now
    → length (ids_of head.metadata.snapshots (live_in head.head)) < 2 ^ 62 → HasNumbers head now
has_numbers head now version files is small hour few =
    let read = read_soundly head version files is in
    record {
      few = few;
      sequence = small;
      number = read.sequence;
      hour = hour;
      updated = read.updated;
      parent = parent_is head.table (parts head.metadata) files head.branch head.head read.snapshots is.head;
      schema = (long_of_int head.metadata.current_schema read.schema_id, read.schema_id);
    }
