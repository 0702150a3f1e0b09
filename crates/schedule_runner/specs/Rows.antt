-- The rows of a branch at the current version of its table (Iceberg specification, "File System Tables" and "Scan Planning").
use Rattle.std.specs.Prelude.{ℕ, List, Result}
use Rattle.plain_types.specs.Steps.{◌>>=◌, or_fault}
use Rattle.row_values.specs.declared.value.Value.{Value}
use Rattle.store_core.specs.Files.{Files}
use Rattle.table_names.specs.Versions.{version_of}
use Rattle.table_state.specs.declared.load_fault.LoadFault.{LoadFault}
use Rattle.table_state.specs.declared.load_fault.LoadFault.TheVariants as fault
use Rattle.table_state.specs.Live.{rows_of_branch}

-- the rows, or why they can't be said
abbrev pub current_rows : List ℕ → List ℕ → Files → Result (List (List Value)) LoadFault
current_rows table branch files = or_fault (fault.Missing table) (version_of table files) >>= λ version. rows_of_branch table version branch files
