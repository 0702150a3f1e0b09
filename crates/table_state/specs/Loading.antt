-- The steps in which a branch is loaded, so that each manifest is read once.
use Rattle.std.specs.Prelude.{ℕ, ◌+◌, ℤ, List, [], length, Option, Result, Ok, Err}
use Rattle.plain_types.specs.Steps.{◌>>=◌, or_fault, fault_as, by_option}
use Rattle.store_core.specs.Files.{Files}
use Rattle.manifest_files.specs.declared.manifest_row.ManifestRow.{ManifestRow}
use Rattle.table_metadata.specs.Metadata.{Parts, metadata_of}
use Rattle.table_names.specs.Versions.{version_name}
use Rattle.table_metadata.specs.declared.metadata_fault.MetadataFault.TheVariants as metadata
use Rattle.table_metadata.specs.declared.snapshots.Snapshot.{Snapshot}
use Rattle.table_state.specs.declared.load_fault.LoadFault.{LoadFault}
use Rattle.table_state.specs.declared.load_fault.LoadFault.TheVariants as fault
use Rattle.table_state.specs.declared.live_set.BranchState.TheVariants as state
use Rattle.table_state.specs.Files.{bytes_under, list_at}
use Rattle.table_state.specs.Live.{head_of, without_head}
use Rattle.table_metadata.specs.ById.{snapshot_with}
use Rattle.table_state.specs.declared.loading.Loaded.{Loaded}
use Rattle.table_state.specs.Gathering.{Gathered, gathered_at, nothing, set_in}

-- the metadata of a version
abbrev pub read_version : List ℕ → ℕ → Files → Result Parts LoadFault
read_version table version files = bytes_under (version_name table version) (version_name table version) files >>= λ bytes. fault_as fault.Metadata (metadata_of bytes)

abbrev pub with_set : ℤ → List ManifestRow → Gathered → Loaded
with_set id rows gathered = record { head = state.Head id rows (set_in gathered); held = gathered.counts }

unfoldable pub loaded_snapshot : List ℕ → Parts → Snapshot → Files → Result Loaded LoadFault
loaded_snapshot table parts snapshot files = do
  rows ← list_at table parts snapshot.list files
  gathered ← gathered_at table parts nothing rows files
  Ok (with_set snapshot.id rows gathered)

unfoldable pub loaded_head : List ℕ → Parts → List ℕ → ℤ → Files → Result Loaded LoadFault
loaded_head table parts branch id files = or_fault (fault.Metadata (metadata.Ref branch)) (snapshot_with id parts.snapshots) >>= λ snapshot. loaded_snapshot table parts snapshot files

unfoldable pub loaded_at : List ℕ → Parts → List ℕ → Files → Result Loaded LoadFault
loaded_at table parts branch files = by_option (head_of branch parts.refs) (λ id. loaded_head table parts branch id files) (Ok (record { head = without_head branch; held = [] }))

-- the rows of a list that can be read
abbrev pub rows_or_none : Result (List ManifestRow) LoadFault → List ManifestRow
rows_or_none (Ok rows) = rows
rows_or_none (Err f) = []

-- the manifests of a snapshot that is there
abbrev pub manifests_under : List ℕ → Parts → Option Snapshot → Files → List ManifestRow
manifests_under table parts found files = by_option found (λ snapshot. rows_or_none (list_at table parts snapshot.list files)) []

-- the manifests of a branch's head
abbrev pub manifests_at : List ℕ → Parts → List ℕ → Files → List ManifestRow
manifests_at table parts branch files = by_option (head_of branch parts.refs) (λ id. manifests_under table parts (snapshot_with id parts.snapshots) files) []

abbrev pub manifests_read : List ℕ → List ℕ → Result Parts LoadFault → Files → List ManifestRow
manifests_read table branch (Ok parts) files = manifests_at table parts branch files
manifests_read table branch (Err f) files = []

-- how many files are read to load a branch: the metadata, and of a branch with a head its list and each manifest of it
abbrev pub files_to_load : List ℕ → ℕ → List ℕ → Files → ℕ
files_to_load table version branch files = 2 + length (manifests_read table branch (read_version table version files) files)
