-- A branch that is loaded in steps is the branch that the files have.
use Rattle.std.proofs.Common.{◌≡◌, ℕ, nat_eq, ℤ, Bool, true, false, codes, List, [], Option, Some, None, Result, Ok, Err, refl, sym, ap, ◌∙◌, subst}
use Rattle.std.specs.Prelude.{if◌then◌else◌}
use Rattle.std.specs.Cmp.Lexicographic.{pointwise}
use Rattle.plain_types.specs.Steps.{◌>>=◌, or_fault, by_option, fault_as}
use Rattle.store_core.specs.Files.{Files}
use Rattle.manifest_files.specs.declared.entry.Entry.{Entry}
use Rattle.manifest_files.specs.declared.manifest_row.ManifestRow.{ManifestRow}
use Rattle.table_metadata.specs.declared.metadata.Metadata.{Metadata}
use Rattle.table_metadata.specs.declared.metadata_fault.MetadataFault.TheVariants as metadata
use Rattle.table_metadata.specs.declared.snapshots.Snapshot.{Snapshot}
use Rattle.table_metadata.specs.Metadata.{Parts, parts, metadata_of}
use Rattle.table_names.specs.Versions.{version_name}
use Rattle.table_state.specs.declared.load_fault.LoadFault.{LoadFault}
use Rattle.table_state.specs.declared.load_fault.LoadFault.TheVariants as fault
use Rattle.table_state.specs.declared.live_set.BranchState.{BranchState}
use Rattle.table_state.specs.declared.live_set.BranchState.TheVariants as state
use Rattle.table_state.specs.Files.{version_at, list_at}
use Rattle.table_state.specs.Live.{entries_at, set_of, head_of, snapshot_at, head_at, without_head, branch_at, live_of}
use Rattle.table_metadata.specs.ById.{snapshot_with}
use Rattle.table_state.specs.declared.loading.Loaded.{Loaded}
use Rattle.table_state.specs.declared.state.LiveCount.{LiveCount}
use Rattle.table_state.specs.Gathering.{Gathered, gathered_at, nothing}
use Rattle.table_state.specs.Loading.{with_set, loaded_snapshot, loaded_head, loaded_at, read_version}
use Rattle.table_state.specs.States.{manifests_of, counts_at, IsVersionOf}
use Rattle.table_state.proofs.GatheringLaws.{Agrees, gathers}

-- it is the branch, with the counts of its manifests, or the fault is the same
abbrev pub IsLoaded : Result Loaded LoadFault → Result BranchState LoadFault → (List ManifestRow → Result (List LiveCount) LoadFault) → Type 0
IsLoaded (Ok loaded) branch counts = (branch ≡ Ok loaded.head) × (counts (manifests_of loaded.head) ≡ Ok loaded.held)
IsLoaded (Err f) branch counts = branch ≡ Err f

gathered_is_loaded : (id : ℤ) (rows : List ManifestRow) (gathered : Result Gathered LoadFault)
    (entries : Result (List Entry) LoadFault) (counts : List ManifestRow → Result (List LiveCount) LoadFault)
    → Agrees gathered entries (counts rows) → IsLoaded (gathered >>= λ g. Ok (with_set id rows g))
    (entries >>= λ all. Ok (state.Head id rows (set_of all))) counts
gathered_is_loaded id rows (Ok g) entries counts (all, e, same, c) = (rw e (ap (λ live. Ok (state.Head id rows live)) (sym same)), c)
gathered_is_loaded id rows (Err f) entries counts e = rw e refl

module _ (table : List ℕ) (p : Parts) (files : Files) where
  abbrev counts_of : List ManifestRow → Result (List LiveCount) LoadFault
  counts_of rows = counts_at table p [] rows files

  rows_are_loaded : (id : ℤ) (read : Result (List ManifestRow) LoadFault)
      → IsLoaded (read >>= λ rows. gathered_at table p nothing rows files >>= λ g. Ok (with_set id rows g))
      (read >>= λ rows. entries_at table p [] rows files >>= λ all. Ok (state.Head id rows (set_of all))) counts_of
  rows_are_loaded id (Ok rows) = gathered_is_loaded id rows (gathered_at table p nothing rows files) (entries_at table p [] rows files) counts_of (gathers table p files nothing [] refl refl rows)
  rows_are_loaded id (Err f) = refl

  snapshot_is_loaded : (snapshot : Snapshot) → IsLoaded (loaded_snapshot table p snapshot files) (snapshot_at table p snapshot files) counts_of
  unfolding loaded_snapshot snapshot_at
  snapshot_is_loaded snapshot = rows_are_loaded snapshot.id (list_at table p snapshot.list files)

  found_is_loaded : (f : LoadFault) (found : Option Snapshot)
      → IsLoaded (or_fault f found >>= λ snapshot. loaded_snapshot table p snapshot files)
      (or_fault f found >>= λ snapshot. snapshot_at table p snapshot files) counts_of
  found_is_loaded f (Some snapshot) = snapshot_is_loaded snapshot
  found_is_loaded f None = refl

  head_is_loaded : (branch : List ℕ) (id : ℤ) → IsLoaded (loaded_head table p branch id files) (head_at table p branch id files) counts_of
  unfolding loaded_head head_at
  head_is_loaded branch id = found_is_loaded (fault.Metadata (metadata.Ref branch)) (snapshot_with id p.snapshots)

  no_manifests : (b : Bool) → counts_of (manifests_of (if b then state.Empty else state.Absent)) ≡ Ok []
  unfolding counts_at
  no_manifests true = refl
  no_manifests false = refl

  ref_is_loaded : (branch : List ℕ) (ref : Option ℤ) → IsLoaded (by_option ref (λ id. loaded_head table p branch id files)
      (Ok (record { head = without_head branch; held = [] })))
      (by_option ref (λ id. head_at table p branch id files) (Ok (without_head branch))) counts_of
  ref_is_loaded branch (Some id) = head_is_loaded branch id
  ref_is_loaded branch None = (refl, no_manifests (pointwise nat_eq branch (codes "main")))

  branch_is_loaded : (branch : List ℕ) → IsLoaded (loaded_at table p branch files) (branch_at table p branch files) counts_of
  unfolding loaded_at branch_at
  branch_is_loaded branch = ref_is_loaded branch (head_of branch p.refs)

  pub what_is_loaded : (branch : List ℕ) (loaded : Loaded) → loaded_at table p branch files ≡ Ok loaded
      → (branch_at table p branch files ≡ Ok loaded.head) × (counts_of (manifests_of loaded.head) ≡ Ok loaded.held)
  what_is_loaded branch loaded e = subst (λ r. IsLoaded r (branch_at table p branch files) counts_of) e (branch_is_loaded branch)

  branch_fault : (branch : List ℕ) (f : LoadFault) → loaded_at table p branch files ≡ Err f → branch_at table p branch files ≡ Err f
  branch_fault branch f e = subst (λ r. IsLoaded r (branch_at table p branch files) counts_of) e (branch_is_loaded branch)

module _ (table : List ℕ) (version : ℕ) (branch : List ℕ) (files : Files) where
  version_is_read : (m : Metadata) → IsVersionOf table version files m → version_at table version files ≡ Ok (parts m)
  unfolding version_at
  version_is_read m v = ap (λ found. or_fault (fault.Missing (version_name table version)) found >>= λ bytes. fault_as fault.Metadata (metadata_of bytes)) v.stands ∙ ap (fault_as fault.Metadata) v.read.read

  -- a fault of the metadata is that of the branch
  pub version_fails : (f : LoadFault) → read_version table version files ≡ Err f → live_of table version branch files ≡ Err f
  unfolding live_of version_at
  version_fails f e = ap (λ r. r >>= λ p. branch_at table p branch files) e

  -- and so is one behind it
  pub branch_fails : (m : Metadata) (f : LoadFault) → IsVersionOf table version files m
      → loaded_at table (parts m) branch files ≡ Err f → live_of table version branch files ≡ Err f
  unfolding live_of
  branch_fails m f v e = ap (λ r. r >>= λ p. branch_at table p branch files) (version_is_read m v) ∙ branch_fault table (parts m) files branch f e
