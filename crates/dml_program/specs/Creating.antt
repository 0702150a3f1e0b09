-- The first version of a table that is made, or the status of what is wrong: with the schema file's name first, then with
-- the place of the table, then with what the file says.
use Rattle.std.specs.Prelude.{◌≡◌, ◌⊎◌, ℕ, ℤ, ◌^◌, ◌&&◌, Bool, List, Option, Some, None, is_some, Result, Ok, Err, ⊤, if◌then◌else◌}
use Rattle.std.specs.FinMap as map
use Rattle.std.specs.List.{list_all}
use Rattle.plain_types.specs.Steps.{◌>>=◌, fault_if, fault_as, by_option}
use Rattle.store_core.specs.Files.{Files}
use Rattle.store_core.specs.Given.{given_of}
use Rattle.store_core.specs.declared.inputs.InputAnswer.{InputAnswer}
use Rattle.store_core.specs.declared.inputs.InputAnswer.TheVariants as given
use Rattle.table_definition.specs.Definition.{Asked, definition_of}
use Rattle.table_definition.specs.declared.definition.DefinitionFault.{DefinitionFault}
use Rattle.table_definition.specs.declared.definition.DefinitionFault.TheVariants as definition
use Rattle.table_definition.specs.FirstText.{first_text}
use Rattle.table_names.specs.Versions.{version_of, compressed_of}
use Rattle.dml_program.specs.declared.status.TableKind.TheVariants.{Exists, Later}
use Rattle.dml_program.specs.declared.status.ScriptKind.TheVariants as script
use Rattle.dml_program.specs.declared.status.Status.{Status}
use Rattle.dml_program.specs.declared.status.Status.TheVariants as status
use Rattle.table_state.specs.Form.{column_in_form, is_unpartitioned, writing_in_form}

-- the bytes of the schema file, where it is not too long
abbrev pub bytes_given : List ℕ → InputAnswer → Result (Option (List ℕ)) Status
bytes_given name given.Missing = Err (status.InputFailed name)
bytes_given name given.TooLong = Ok None
bytes_given name (given.Found bytes) = Ok (Some bytes)

-- what the inputs give of a file of at most 1 MiB
abbrev pub file_given : List ℕ → Files → Result (Option (List ℕ)) Status
file_given name inputs = bytes_given name (given_of (2 ^ 20) (map.get inputs name))

abbrev pub has_no_version : List ℕ → Files → Result ⊤ Status
has_no_version table files = fault_if (status.TableBad Exists table) (is_some (version_of table files))

abbrev pub is_not_compressed : List ℕ → Files → Result ⊤ Status
is_not_compressed table files = by_option (compressed_of table files) (λ name. Err (status.TableBad Later name)) (Ok tt)

-- A table may be made where there is none.
unfoldable pub may_be_made : List ℕ → Files → Result ⊤ Status
may_be_made table files = has_no_version table files >>= λ _. is_not_compressed table files

-- the status of a schema file that is not in form, which shows at its first line
abbrev pub bad_file : DefinitionFault → Status
bad_file definition.Text = status.ScriptBad 1 script.Text
bad_file definition.Schema = status.ScriptBad 1 script.Schema
bad_file definition.Memory = status.Memory

-- The tables that are made so far are those that are read so far.
abbrev pub in_form : Asked → Bool
in_form asked = list_all column_in_form asked.schema.columns && (is_unpartitioned asked.spec && writing_in_form asked.properties)

abbrev pub if_in_form : Asked → Result Asked Status
if_in_form asked = if in_form asked then Ok asked else Err (status.ScriptBad 1 script.Later)

-- what the file asks for
unfoldable pub asked_by : Option (List ℕ) → Result Asked Status
asked_by None = Err (status.ScriptBad 1 script.Limit)
asked_by (Some bytes) = fault_as bad_file (definition_of bytes) >>= if_in_form

-- the bytes of the first version
unfoldable pub first_version_of : List ℕ → List ℕ → Files → Files → ℤ → Result (List ℕ) Status
first_version_of table name files inputs now = do
  bytes ← file_given name inputs
  _ ← may_be_made table files
  asked ← asked_by bytes
  Ok (first_text table now asked)

-- the status of a call that stopped where this is wanted; an input fails where that is wanted, or where a read failed
abbrev pub StopsAt : {A : Type 0} → Type 0 → Result A Status → Status → Type 0
StopsAt failed wanted status.Done = ⊥
StopsAt failed wanted status.Refused = ⊥
StopsAt failed wanted status.Usage = ⊥
StopsAt failed wanted (status.ScriptBad line reason) = wanted ≡ Err (status.ScriptBad line reason)
StopsAt failed wanted (status.TableBad kind path) = wanted ≡ Err (status.TableBad kind path)
StopsAt failed wanted status.StoreFailed = Unit {0}
StopsAt failed wanted (status.InputFailed name) = failed ⊎ (wanted ≡ Err (status.InputFailed name))
StopsAt failed wanted status.OutputFailed = ⊥
StopsAt failed wanted (status.StateUnknown session number) = Unit {0}
StopsAt failed wanted status.Memory = Unit {0}
