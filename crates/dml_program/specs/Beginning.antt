-- What a run of a script begins with, or the status of what is wrong: with the script's name first, then with the table, then
-- with what the script says.
use Rattle.std.specs.Prelude.{ℕ, List, Option, Some, None, Result, Ok, Err}
use Rattle.plain_types.specs.Steps.{◌>>=◌, or_fault, fault_as}
use Rattle.row_values.specs.declared.schema.TableSchema.{TableSchema}
use Rattle.store_core.specs.Files.{Files}
use Rattle.dml_parser.specs.declared.script.Script.{Script}
use Rattle.dml_parser.specs.declared.script.ScriptFault.{ScriptFault}
use Rattle.dml_parser.specs.declared.script.ScriptFault.TheVariants as fault
use Rattle.dml_parser.specs.Script.{script_of}
use Rattle.table_metadata.specs.Metadata.{Parts}
use Rattle.table_names.specs.Versions.{version_name, version_of}
use Rattle.table_state.specs.Files.{version_at}
use Rattle.table_metadata.specs.ById.{schema_with}
use Rattle.dml_program.specs.declared.begin.Begun.{Begun}
use Rattle.dml_program.specs.declared.status.TableKind.TheVariants.{NoVersion, Later}
use Rattle.dml_program.specs.declared.status.ScriptKind.TheVariants as script
use Rattle.dml_program.specs.declared.status.Status.{Status}
use Rattle.dml_program.specs.declared.status.Status.TheVariants as status
use Rattle.dml_program.specs.Creating.{file_given}
use Rattle.dml_program.specs.Opening.{Fault, table_rows}

-- the current version of a table whose rows can be read, and its metadata
unfoldable pub opened_at : List ℕ → Files → Result (ℕ × Parts) Fault
opened_at table files = do
  _ ← table_rows table files
  version ← or_fault (NoVersion, table) (version_of table files)
  parts ← fault_as (λ _. (Later, version_name table version)) (version_at table version files)
  Ok (version, parts)

abbrev pub bad_table : Fault → Status
bad_table fault = status.TableBad fault.0 fault.1

-- the status of a script that is not in form
abbrev pub bad_script : ScriptFault → Status
bad_script fault.Text = status.ScriptBad 1 script.Text
bad_script (fault.Limit line) = status.ScriptBad line script.Limit
bad_script (fault.Token line) = status.ScriptBad line script.Token
bad_script (fault.Form line) = status.ScriptBad line script.Form
bad_script (fault.Name line) = status.ScriptBad line script.Name
bad_script (fault.Kind line) = status.ScriptBad line script.Kind
bad_script (fault.Later line) = status.ScriptBad line script.Later
bad_script fault.Memory = status.Memory

-- what the script's bytes say, where there are not too many
abbrev pub script_by : TableSchema → Option (List ℕ) → Result Script Status
script_by schema None = Err (status.ScriptBad 1 script.Limit)
script_by schema (Some bytes) = fault_as bad_script (script_of bytes schema)

unfoldable pub begun_of : List ℕ → List ℕ → Files → Files → Result Begun Status
begun_of table name files inputs = do
  bytes ← file_given name inputs
  opened ← fault_as bad_table (opened_at table files)
  schema ← or_fault (status.TableBad Later (version_name table opened.0)) (schema_with opened.1.current_schema opened.1.schemas)
  script ← script_by schema bytes
  Ok (record { version = opened.0; schema = schema; script = script })
