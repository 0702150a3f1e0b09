-- What the files of a table say stands when files are added.
use Rattle.std.proofs.Common.{◌≡◌, ℕ, ℤ, List, [], ◌∷◌, ◌++◌, Option, Some, None, Result, Ok, refl, sym, subst}
use Rattle.std.specs.FinMap as map
use Rattle.plain_types.specs.Steps.{◌>>=◌, or_fault, by_option, fault_as}
use Rattle.row_values.specs.declared.value.Value.{Value}
use Rattle.store_core.specs.Files.{Files, KeepsFiles}
pub use Rattle.plain_types.proofs.CallerLemmas.{two_steps}
use Rattle.manifest_files.specs.declared.entry.Entry.{Entry}
use Rattle.manifest_files.specs.declared.manifest_row.ManifestRow.{ManifestRow}
use Rattle.table_metadata.specs.Metadata.{Parts, metadata_of}
use Rattle.table_metadata.specs.declared.metadata_fault.MetadataFault.TheVariants as metadata
use Rattle.table_metadata.specs.declared.snapshots.Snapshot.{Snapshot}
use Rattle.table_state.specs.declared.load_fault.LoadFault.{LoadFault}
use Rattle.table_state.specs.declared.load_fault.LoadFault.TheVariants as fault
use Rattle.table_state.specs.declared.live_set.BranchState.TheVariants as state
use Rattle.table_names.specs.Paths.{name_of}
use Rattle.table_names.specs.Versions.{version_name}
use Rattle.table_state.specs.Files.{bytes_under, file_at, version_at, list_in, list_at, entries_in, manifest_at, rows_in, data_file_at}
use Rattle.table_state.specs.Live.{entries_at, set_of, head_of, snapshot_at, head_at, without_head, branch_at, live_of, data_rows, data_files_of, rows_at, rows_of_branch}
use Rattle.table_metadata.specs.ById.{snapshot_with}

module _ (now later : Files) (kept : KeepsFiles (Some now) (Some later)) where
  -- what is read before is read after
  abbrev pub Stands : {A : Type 0} → (Files → Result A LoadFault) → Type 0
  Stands {A = A} reading = (x : A) → reading now ≡ Ok x → reading later ≡ Ok x

  pub stands_then : {A B : Type 0} (first : Files → Result A LoadFault) (second : A → Files → Result B LoadFault) → Stands first
      → ((a : A) → Stands (second a)) → Stands (λ files. first files >>= λ a. second a files)
  stands_then {B = B} first second h k x e =
      let s = two_steps (first now) (λ a. second a now) x e in
      subst (λ r. (r >>= λ a. second a later) ≡ Ok x) (sym (h s.0 s.1)) (k s.0 x s.2)

  pub there : (f : LoadFault) (held found : Option (List ℕ)) → ((bytes : List ℕ) → held ≡ Some bytes → found ≡ Some bytes)
      → (x : List ℕ) → or_fault f held ≡ Ok x → or_fault f found ≡ Ok x
  there f (Some bytes) found keeps x e = subst (λ o. or_fault f o ≡ Ok x) (sym (keeps bytes refl)) e
  there f None found keeps x e = cc

  pub bytes_stand : (path name : List ℕ) → Stands (λ files. bytes_under path name files)
  bytes_stand path name x e = there (fault.Missing path) (map.get now name) (map.get later name) (kept name) x e

  pub file_stands : (table location path : List ℕ) → Stands (λ files. file_at table location path files)
  unfolding file_at
  file_stands table location path x e = stands_then (λ files. or_fault (fault.Outside path) (name_of table location path)) (λ name files. bytes_under path name files) (λ y h. h) (λ name. bytes_stand path name) x e

  pub version_stands : (table : List ℕ) (version : ℕ) → Stands (λ files. version_at table version files)
  unfolding version_at
  version_stands table version x e = stands_then (λ files. bytes_under (version_name table version) (version_name table version) files) (λ bytes files. fault_as fault.Metadata (metadata_of bytes)) (bytes_stand (version_name table version) (version_name table version)) (λ bytes y h. h) x e

  pub list_stands : (table : List ℕ) (parts : Parts) (path : List ℕ) → Stands (λ files. list_at table parts path files)
  unfolding list_at
  list_stands table parts path x e = stands_then (λ files. file_at table parts.location path files) (λ bytes files. list_in path bytes) (file_stands table parts.location path) (λ bytes y h. h) x e

  pub manifest_stands : (table : List ℕ) (parts : Parts) (row : ManifestRow) → Stands (λ files. manifest_at table parts row files)
  unfolding manifest_at
  manifest_stands table parts row x e = stands_then (λ files. file_at table parts.location row.manifest_path files) (λ bytes files. entries_in parts row bytes) (file_stands table parts.location row.manifest_path) (λ bytes y h. h) x e

  pub data_file_stands : (table : List ℕ) (parts : Parts) (path : List ℕ) → Stands (λ files. data_file_at table parts path files)
  unfolding data_file_at
  data_file_stands table parts path x e = stands_then (λ files. file_at table parts.location path files) (λ bytes files. rows_in parts path bytes) (file_stands table parts.location path) (λ bytes y h. h) x e

  pub entries_stand : (table : List ℕ) (parts : Parts) (earlier : List Entry) (rows : List ManifestRow)
      → Stands (λ files. entries_at table parts earlier rows files)
  unfolding entries_at
  entries_stand table parts earlier [] x e = e
  entries_stand table parts earlier (row ∷ rows) x e = stands_then (λ files. manifest_at table parts row files) (λ entries files. entries_at table parts (earlier ++ entries) rows files) (manifest_stands table parts row) (λ entries. entries_stand table parts (earlier ++ entries) rows) x e

  pub snapshot_stands : (table : List ℕ) (parts : Parts) (snapshot : Snapshot) → Stands (λ files. snapshot_at table parts snapshot files)
  unfolding snapshot_at
  snapshot_stands table parts snapshot x e =
      stands_then (λ files. list_at table parts snapshot.list files) (λ rows files. entries_at table parts [] rows files >>= λ entries. Ok (state.Head snapshot.id rows (set_of entries))) (list_stands table parts snapshot.list)
      (λ rows. stands_then (λ files. entries_at table parts [] rows files) (λ entries files. Ok (state.Head snapshot.id rows (set_of entries))) (entries_stand table parts [] rows) (λ entries y h. h)) x e

  pub head_stands : (table : List ℕ) (parts : Parts) (branch : List ℕ) (id : ℤ) → Stands (λ files. head_at table parts branch id files)
  unfolding head_at
  head_stands table parts branch id x e = stands_then (λ files. or_fault (fault.Metadata (metadata.Ref branch)) (snapshot_with id parts.snapshots)) (λ snapshot files. snapshot_at table parts snapshot files) (λ y h. h) (λ snapshot. snapshot_stands table parts snapshot) x e

  pub option_stands : {A B : Type 0} (o : Option A) (some : A → Files → Result B LoadFault) (none : Result B LoadFault)
      → ((a : A) → Stands (some a)) → Stands (λ files. by_option o (λ a. some a files) none)
  option_stands (Some a) some none h x e = h a x e
  option_stands None some none h x e = e

  pub branch_stands : (table : List ℕ) (parts : Parts) (branch : List ℕ) → Stands (λ files. branch_at table parts branch files)
  unfolding branch_at
  branch_stands table parts branch x e = option_stands (head_of branch parts.refs) (λ id files. head_at table parts branch id files) (Ok (without_head branch)) (λ id. head_stands table parts branch id) x e

  -- a branch at a version stays as it is
  pub live_stands : (table : List ℕ) (version : ℕ) (branch : List ℕ) → Stands (λ files. live_of table version branch files)
  unfolding live_of
  live_stands table version branch x e = stands_then (λ files. version_at table version files) (λ parts files. branch_at table parts branch files) (version_stands table version) (λ parts. branch_stands table parts branch) x e

  pub rows_stand : (table : List ℕ) (parts : Parts) (earlier : List (List Value)) (entries : List Entry)
      → Stands (λ files. data_rows table parts earlier entries files)
  unfolding data_rows
  rows_stand table parts earlier [] x e = e
  rows_stand table parts earlier (entry ∷ entries) x e = stands_then (λ files. data_file_at table parts entry.path files)
      (λ rows files. data_rows table parts (earlier ++ rows) entries files) (data_file_stands table parts entry.path)
      (λ rows. rows_stand table parts (earlier ++ rows) entries) x e

  pub branch_rows_stand : (table : List ℕ) (parts : Parts) (branch : List ℕ) → Stands (λ files. rows_at table parts branch files)
  unfolding rows_at
  branch_rows_stand table parts branch x e = stands_then (λ files. branch_at table parts branch files) (λ found files. data_rows table parts [] (data_files_of found) files) (branch_stands table parts branch) (λ found. rows_stand table parts [] (data_files_of found)) x e

  -- and so do its rows
  pub rows_of_branch_stand : (table : List ℕ) (version : ℕ) (branch : List ℕ) → Stands (λ files. rows_of_branch table version branch files)
  unfolding rows_of_branch
  rows_of_branch_stand table version branch x e = stands_then (λ files. version_at table version files) (λ parts files. rows_at table parts branch files) (version_stands table version) (λ parts. branch_rows_stand table parts branch) x e
