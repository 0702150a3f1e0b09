-- The rows of a table of the form that is read so far, or the path of the first of its files that is missing or of another
-- form: the metadata first, then the manifest list, the manifests in the list's order, and the data files in the order of
-- their manifests. Where all are, it is the least path in byte order that more than one of the live entries has.
use Rattle.std.specs.Prelude.{ℕ, Bool, true, false, codes, List, [], ◌∷◌, ◌++◌, filter, Result, Ok, Err}
use Rattle.std.specs.FinMap as map
use Rattle.std.specs.List.{list_all}
use Rattle.plain_types.specs.Steps.{◌>>=◌, or_fault, by_option, fault_as}
use Rattle.row_values.specs.declared.value.Value.{Value}
use Rattle.store_core.specs.Files.{Files}
use Rattle.manifest_files.specs.declared.entry.Entry.{Entry}
use Rattle.manifest_files.specs.declared.manifest_row.ManifestRow.{ManifestRow}
use Rattle.table_metadata.specs.Metadata.{Parts, metadata_of}
use Rattle.table_metadata.specs.declared.snapshots.Snapshot.{Snapshot}
use Rattle.table_state.specs.Files.{list_at, manifest_at, data_file_at}
use Rattle.table_state.specs.Live.{head_of, is_live, is_data}
use Rattle.table_metadata.specs.ById.{snapshot_with}
use Rattle.table_names.specs.Versions.{version_name}
use Rattle.table_state.specs.Form.{has_form, is_data_manifest}
use Rattle.dml_program.specs.Twice.{twice}

-- a value, or the path instead of why there is none
abbrev pub or_path : {A E : Type 0} → List ℕ → Result A E → Result A (List ℕ)
or_path path = fault_as (λ f. path)

abbrev pub if_form : {A : Type 0} → List ℕ → A → Bool → Result A (List ℕ)
if_form path a true = Ok a
if_form path a false = Err path

unfoldable pub list_in_form : List ℕ → Parts → List ℕ → Files → Result (List ManifestRow) (List ℕ)
list_in_form table parts path files = or_path path (list_at table parts path files) >>= λ rows. if_form path rows (list_all is_data_manifest rows)

-- the live entries of a manifest
unfoldable pub manifest_in_form : List ℕ → Parts → ManifestRow → Files → Result (List Entry) (List ℕ)
manifest_in_form table parts row files = or_path row.manifest_path (manifest_at table parts row files) >>= λ entries. if_form row.manifest_path (filter is_live entries) (list_all is_data entries)

-- the live entries of these manifests, behind those that are read
unfoldable pub entries_in_form : List ℕ → Parts → List Entry → List ManifestRow → Files → Result (List Entry) (List ℕ)
entries_in_form table parts earlier [] files = Ok earlier
entries_in_form table parts earlier (row ∷ rows) files = manifest_in_form table parts row files >>= λ entries. entries_in_form table parts (earlier ++ entries) rows files

abbrev pub file_in_form : List ℕ → Parts → List ℕ → Files → Result (List (List Value)) (List ℕ)
file_in_form table parts path files = or_path path (data_file_at table parts path files)

-- the rows of these data files, behind those that are read
unfoldable pub rows_in_form : List ℕ → Parts → List (List Value) → List Entry → Files → Result (List (List Value)) (List ℕ)
rows_in_form table parts earlier [] files = Ok earlier
rows_in_form table parts earlier (entry ∷ entries) files = file_in_form table parts entry.path files >>= λ rows. rows_in_form table parts (earlier ++ rows) entries files

-- the rows of these entries, unless two of them have one path
abbrev pub if_once : List Entry → List (List Value) → Result (List (List Value)) (List ℕ)
if_once entries rows = by_option (twice entries) Err (Ok rows)

unfoldable pub snapshot_in_form : List ℕ → Parts → Snapshot → Files → Result (List (List Value)) (List ℕ)
snapshot_in_form table parts snapshot files = do
  rows ← list_in_form table parts snapshot.list files
  entries ← entries_in_form table parts [] rows files
  found ← rows_in_form table parts [] entries files
  if_once entries found

-- `main`, of a version whose metadata has this name
unfoldable pub main_in_form : List ℕ → List ℕ → Parts → Files → Result (List (List Value)) (List ℕ)
main_in_form name table parts files = by_option (head_of (codes "main") parts.refs) (λ id. or_fault name (snapshot_with id parts.snapshots) >>= λ snapshot. snapshot_in_form table parts snapshot files) (Ok [])

-- the metadata that the bytes of a version are, which has this name
unfoldable pub metadata_in_form : List ℕ → ℕ → List ℕ → Result Parts (List ℕ)
metadata_in_form name version bytes = or_path name (metadata_of bytes) >>= λ parts. if_form name parts (has_form version parts)

unfoldable pub version_in_form : List ℕ → ℕ → Files → Result (List (List Value)) (List ℕ)
version_in_form table version files = do
  bytes ← or_fault (version_name table version) (map.get files (version_name table version))
  parts ← metadata_in_form (version_name table version) version bytes
  main_in_form (version_name table version) table parts files
