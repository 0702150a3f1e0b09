-- A branch of a version as it is loaded (Iceberg specification, "Snapshots", "Manifest Lists" and "Manifests").
use Rattle.std.specs.Prelude.{◌≡◌, ℕ, List, [], ◌∷◌, ◌++◌, drop, Some, Result, Ok}
use Rattle.std.specs.FinMap as map
use Rattle.plain_types.specs.Steps.{◌>>=◌}
use Rattle.store_core.specs.Files.{Files}
use Rattle.manifest_files.specs.declared.entry.Entry.{Entry}
use Rattle.manifest_files.specs.declared.manifest_row.ManifestRow.{ManifestRow}
use Rattle.table_metadata.specs.declared.metadata.Metadata.{Metadata}
use Rattle.table_metadata.specs.Metadata.{Parts, IsMetadataOf, parts}
use Rattle.table_names.specs.Versions.{version_name}
use Rattle.table_state.specs.declared.load_fault.LoadFault.{LoadFault}
use Rattle.table_state.specs.declared.live_set.BranchState.{BranchState}
use Rattle.table_state.specs.declared.live_set.BranchState.TheVariants as state
use Rattle.table_state.specs.Files.{manifest_at}
use Rattle.table_state.specs.Live.{branch_at}
use Rattle.table_state.specs.declared.state.LiveCount.{LiveCount}
use Rattle.table_state.specs.declared.state.State.{State}
use Rattle.table_state.specs.Gathering.{count_of}

-- the manifests of a branch's head
abbrev pub manifests_of : BranchState → List ManifestRow
manifests_of state.Absent = []
manifests_of state.Empty = []
manifests_of (state.Head snapshot manifests live) = manifests

-- how much each manifest of these rows holds live, behind those that are counted
unfoldable pub counts_at : List ℕ → Parts → List LiveCount → List ManifestRow → Files → Result (List LiveCount) LoadFault
counts_at table parts earlier [] files = Ok earlier
counts_at table parts earlier (row ∷ rows) files = manifest_at table parts row files >>= λ entries. counts_at table parts (earlier ++ count_of entries ∷ []) rows files

-- each manifest holds so many of the live files, in their order, and together they hold all
unfoldable pub IsParted : List ManifestRow → List LiveCount → List Entry → List Entry → Type 0
IsParted [] counts data_files deletes = (data_files ≡ []) × (deletes ≡ [])
IsParted (row ∷ rows) [] data_files deletes = (data_files ≡ []) × (deletes ≡ [])
IsParted (row ∷ rows) (count ∷ counts) data_files deletes = IsParted rows counts (drop count.data_files data_files) (drop count.deletes deletes)

-- what was read from the bytes of a version
pub record IsVersionOf (table : List ℕ) (version : ℕ) (files : Files) (metadata : Metadata) : Type 0 where
  pub bytes : List ℕ
  pub stands : map.get files (version_name table version) ≡ Some bytes
  pub read : IsMetadataOf bytes metadata

-- the branch of the version in this folder, as the files have it
pub record IsStateOf (table : List ℕ) (version : ℕ) (branch : List ℕ) (files : Files) (loaded : State) : Type 0 where
  pub table_name : loaded.table ≡ table
  pub version_number : loaded.version ≡ version
  pub branch_name : loaded.branch ≡ branch
  pub metadata : IsVersionOf table version files loaded.metadata
  pub head : branch_at table (parts loaded.metadata) branch files ≡ Ok loaded.head
  pub held : counts_at table (parts loaded.metadata) [] (manifests_of loaded.head) files ≡ Ok loaded.held
