-- What the files of a table hold, by the paths that the table's own files name them by, or why that can't be said.
use Rattle.std.specs.Prelude.{◌≡◌, ℕ, codes, List, Result, Ok}
use Rattle.std.specs.FinMap as map
use Rattle.plain_types.specs.Steps.{◌>>=◌, or_fault, fault_as}
use Rattle.row_values.specs.declared.value.Value.{Value}
use Rattle.row_values.specs.declared.schema.TableSchema.{TableSchema}
use Rattle.row_values.specs.Rows.{AreRows}
use Rattle.store_core.specs.Files.{Files}
use Rattle.avro_container.specs.Container.{container_of}
use Rattle.avro_rows.specs.Rows.{rows_of}
use Rattle.manifest_files.specs.declared.entry.Entry.{Entry}
use Rattle.manifest_files.specs.declared.manifest_fault.ManifestFault.TheVariants as manifest
use Rattle.manifest_files.specs.declared.manifest_row.ManifestRow.{ManifestRow}
use Rattle.manifest_files.specs.Lists.{rows_of_list}
use Rattle.manifest_files.specs.Entries.{entries_of}
use Rattle.table_metadata.specs.ById.{schema_with, spec_with}
use Rattle.table_metadata.specs.Metadata.{Parts, metadata_of}
use Rattle.table_metadata.specs.declared.metadata_fault.MetadataFault.TheVariants as metadata
use Rattle.table_state.specs.declared.load_fault.LoadFault.{LoadFault}
use Rattle.table_state.specs.declared.load_fault.LoadFault.TheVariants as fault
use Rattle.table_names.specs.Paths.{name_of}
use Rattle.table_names.specs.Versions.{version_name}

-- the bytes under a name of the store, which the table knows by this path
abbrev pub bytes_under : List ℕ → List ℕ → Files → Result (List ℕ) LoadFault
bytes_under path name files = or_fault (fault.Missing path) (map.get files name)

-- the bytes of a path, of a table with this location in this folder
unfoldable pub file_at : List ℕ → List ℕ → List ℕ → Files → Result (List ℕ) LoadFault
file_at table location path files = or_fault (fault.Outside path) (name_of table location path) >>= λ name. bytes_under path name files

-- the metadata of a version
unfoldable pub version_at : List ℕ → ℕ → Files → Result Parts LoadFault
version_at table version files = bytes_under (version_name table version) (version_name table version) files >>= λ bytes. fault_as fault.Metadata (metadata_of bytes)

abbrev pub current_schema : Parts → Result TableSchema LoadFault
current_schema parts = or_fault (fault.Metadata (metadata.Shape (codes "current-schema-id"))) (schema_with parts.current_schema parts.schemas)

-- ---- manifest lists, manifests and data files

abbrev pub list_in : List ℕ → List ℕ → Result (List ManifestRow) LoadFault
list_in path bytes = fault_as (fault.Manifest path) (rows_of_list bytes)

-- the rows of a manifest list
unfoldable pub list_at : List ℕ → Parts → List ℕ → Files → Result (List ManifestRow) LoadFault
list_at table parts path files = file_at table parts.location path files >>= list_in path

unfoldable pub entries_in : Parts → ManifestRow → List ℕ → Result (List Entry) LoadFault
entries_in parts row bytes = do
  spec ← or_fault (fault.Manifest row.manifest_path (manifest.Spec row.partition_spec_id)) (spec_with row.partition_spec_id parts.specs)
  schema ← current_schema parts
  fault_as (fault.Manifest row.manifest_path) (entries_of bytes row spec schema)

-- the entries of the manifest that a row names
unfoldable pub manifest_at : List ℕ → Parts → ManifestRow → Files → Result (List Entry) LoadFault
manifest_at table parts row files = file_at table parts.location row.manifest_path files >>= entries_in parts row

unfoldable pub rows_in : Parts → List ℕ → List ℕ → Result (List (List Value)) LoadFault
rows_in parts path bytes = do
  container ← fault_as (fault.Container path) (container_of bytes)
  schema ← current_schema parts
  fault_as (fault.Rows path) (rows_of container schema.columns)

-- the rows of a data file, in the columns of the current schema
unfoldable pub data_file_at : List ℕ → Parts → List ℕ → Files → Result (List (List Value)) LoadFault
data_file_at table parts path files = file_at table parts.location path files >>= rows_in parts path

-- each of the rows is a row of the columns of the current schema
abbrev pub AreCurrentRows : Parts → List (List Value) → Type 0
AreCurrentRows parts rows = (schema : TableSchema) × (current_schema parts ≡ Ok schema) × AreRows schema.columns rows
