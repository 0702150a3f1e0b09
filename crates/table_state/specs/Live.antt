-- The files that are live in a branch, and its rows (Iceberg specification, "Snapshots", "Manifest Lists" and "Manifests").
use Rattle.std.specs.Prelude.{ℕ, nat_eq, ℤ, Bool, true, false, not, ◌&&◌, codes, List, [], ◌∷◌, ◌++◌, filter, Option, Some, None, Result, Ok, if◌then◌else◌}
use Rattle.std.specs.Cmp.Lexicographic.{pointwise}
use Rattle.plain_types.specs.Steps.{◌>>=◌, or_fault, by_option}
use Rattle.row_values.specs.declared.value.Value.{Value}
use Rattle.store_core.specs.Files.{Files}
use Rattle.manifest_files.specs.declared.entry.Content.{Content}
use Rattle.manifest_files.specs.declared.entry.Content.TheVariants as content
use Rattle.manifest_files.specs.declared.entry.Entry.{Entry}
use Rattle.manifest_files.specs.declared.manifest_row.ManifestRow.{ManifestRow}
use Rattle.manifest_files.specs.Entries as statuses
use Rattle.table_metadata.specs.ById.{snapshot_with}
use Rattle.table_metadata.specs.Metadata.{Parts}
use Rattle.table_metadata.specs.declared.metadata_fault.MetadataFault.TheVariants as metadata
use Rattle.table_metadata.specs.declared.references.RefItem.{RefItem}
use Rattle.table_metadata.specs.declared.snapshots.Snapshot.{Snapshot}
use Rattle.table_state.specs.declared.load_fault.LoadFault.{LoadFault}
use Rattle.table_state.specs.declared.load_fault.LoadFault.TheVariants as fault
use Rattle.table_state.specs.declared.live_set.LiveSet.{LiveSet}
use Rattle.table_state.specs.declared.live_set.BranchState.{BranchState}
use Rattle.table_state.specs.declared.live_set.BranchState.TheVariants as state
use Rattle.table_state.specs.Files.{version_at, list_at, manifest_at, data_file_at}

-- ---- the live set

abbrev pub is_live : Entry → Bool
is_live entry = statuses.is_live entry.status

abbrev pub is_data_content : Content → Bool
is_data_content content.Data = true
is_data_content content.PositionDeletes = false
is_data_content content.EqualityDeletes = false

abbrev pub is_data : Entry → Bool
is_data entry = is_data_content entry.content

-- the live entries among entries: those of data files, and those of delete files
abbrev pub set_of : List Entry → LiveSet
set_of entries = record { data_files = filter is_data (filter is_live entries); deletes = filter (λ entry. not (is_data entry)) (filter is_live entries) }

-- the entries of the manifests of these rows, behind those that are read
unfoldable pub entries_at : List ℕ → Parts → List Entry → List ManifestRow → Files → Result (List Entry) LoadFault
entries_at table parts earlier [] files = Ok earlier
entries_at table parts earlier (row ∷ rows) files = manifest_at table parts row files >>= λ entries. entries_at table parts (earlier ++ entries) rows files

-- ---- branches

-- the snapshot of a branch
unfoldable pub head_of : List ℕ → List RefItem → Option ℤ
head_of branch [] = None
head_of branch (ref ∷ refs) = if pointwise nat_eq ref.name branch && not ref.tag then Some ref.snapshot else head_of branch refs

-- `main` is there without a snapshot too.
abbrev pub without_head : List ℕ → BranchState
without_head branch = if pointwise nat_eq branch (codes "main") then state.Empty else state.Absent

unfoldable pub snapshot_at : List ℕ → Parts → Snapshot → Files → Result BranchState LoadFault
snapshot_at table parts snapshot files = do
  rows ← list_at table parts snapshot.list files
  entries ← entries_at table parts [] rows files
  Ok (state.Head snapshot.id rows (set_of entries))

unfoldable pub head_at : List ℕ → Parts → List ℕ → ℤ → Files → Result BranchState LoadFault
head_at table parts branch id files = or_fault (fault.Metadata (metadata.Ref branch)) (snapshot_with id parts.snapshots) >>= λ snapshot. snapshot_at table parts snapshot files

-- a branch, as a version's metadata and the files have it
unfoldable pub branch_at : List ℕ → Parts → List ℕ → Files → Result BranchState LoadFault
branch_at table parts branch files = by_option (head_of branch parts.refs) (λ id. head_at table parts branch id files) (Ok (without_head branch))

-- a branch at a version
unfoldable pub live_of : List ℕ → ℕ → List ℕ → Files → Result BranchState LoadFault
live_of table version branch files = version_at table version files >>= λ parts. branch_at table parts branch files

-- ---- rows

-- the rows of data files that no delete file touches, behind those that are read
unfoldable pub data_rows : List ℕ → Parts → List (List Value) → List Entry → Files → Result (List (List Value)) LoadFault
data_rows table parts earlier [] files = Ok earlier
data_rows table parts earlier (entry ∷ entries) files = data_file_at table parts entry.path files >>= λ rows. data_rows table parts (earlier ++ rows) entries files

abbrev pub data_files_of : BranchState → List Entry
data_files_of state.Absent = []
data_files_of state.Empty = []
data_files_of (state.Head snapshot manifests live) = live.data_files

-- the rows of a branch without delete files, as a version's metadata and the files have it
unfoldable pub rows_at : List ℕ → Parts → List ℕ → Files → Result (List (List Value)) LoadFault
rows_at table parts branch files = branch_at table parts branch files >>= λ found. data_rows table parts [] (data_files_of found) files

-- the rows of a branch without delete files, at a version
unfoldable pub rows_of_branch : List ℕ → ℕ → List ℕ → Files → Result (List (List Value)) LoadFault
rows_of_branch table version branch files = version_at table version files >>= λ parts. rows_at table parts branch files
