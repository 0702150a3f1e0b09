-- A table that a session works on (Iceberg specification, "File System Tables" and "Table Metadata Fields"): its current
-- version is read, is of the form that is written so far and has the schema that the script was read by, and the rows of `main`
-- can be read there.
use Rattle.std.specs.Prelude.{◌≡◌, true, ℕ, codes, List, Some, Ok}
use Rattle.row_values.specs.declared.schema.TableSchema.{TableSchema}
use Rattle.row_values.specs.declared.value.Value.{Value}
use Rattle.store_core.specs.Files.{Files}
use Rattle.table_metadata.specs.Metadata.{Parts}
use Rattle.table_names.specs.Versions.{version_of}
use Rattle.table_state.specs.Form.{table_in_form}
use Rattle.table_state.specs.Files.{current_schema, version_at}
use Rattle.table_state.specs.Live.{rows_of_branch}

pub record IsOpen (table : List ℕ) (schema : TableSchema) (files : Files) (current : ℕ) : Type 0 where
  pub newest : version_of table files ≡ Some current
  pub held : Parts
  pub read : version_at table current files ≡ Ok held
  pub by_schema : current_schema held ≡ Ok schema
  pub form : table_in_form held ≡ true
  pub rows : List (List Value)
  pub told : rows_of_branch table current (codes "main") files ≡ Ok rows
