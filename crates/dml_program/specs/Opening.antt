-- What a table holds over the files of its store, or what is wrong with it, with a path.
use Rattle.std.specs.Prelude.{◌≡◌, ℕ, List, Result, Err}
use Rattle.plain_types.specs.Steps.{by_option, fault_as}
use Rattle.row_values.specs.declared.value.Value.{Value}
use Rattle.store_core.specs.Files.{Files}
use Rattle.table_names.specs.Versions.{version_of}
use Rattle.table_state.specs.declared.load_fault.LoadFault.{LoadFault}
use Rattle.table_state.specs.declared.load_fault.LoadFault.TheVariants as load
use Rattle.dml_program.specs.declared.status.TableKind.{TableKind}
use Rattle.dml_program.specs.declared.status.TableKind.TheVariants.{NoVersion, Later}
use Rattle.dml_program.specs.declared.status.Status.{Status}
use Rattle.dml_program.specs.declared.status.Status.TheVariants as status
use Rattle.dml_program.specs.TableInForm.{version_in_form}

-- what is wrong, and where
abbrev pub Fault : Type 0
Fault = TableKind × List ℕ

-- the rows of `main` at the current version
unfoldable pub table_rows : List ℕ → Files → Result (List (List Value)) Fault
table_rows table files = by_option (version_of table files) (λ version. fault_as (λ path. (Later, path)) (version_in_form table version files)) (Err (NoVersion, table))

-- the status of a call that stopped where this is wanted: it names the path of the first file out of form, unless the
-- store failed or memory ran out
abbrev pub Refuses : {A : Type 0} → Result A (List ℕ) → Status → Type 0
Refuses wanted (status.TableBad kind path) = (kind ≡ Later) × (wanted ≡ Err path)
Refuses wanted status.StoreFailed = Unit {0}
Refuses wanted status.Memory = Unit {0}
Refuses wanted _ = ⊥

-- the same of a call that opens the table too
abbrev pub RefusesTable : {A : Type 0} → Result A Fault → Status → Type 0
RefusesTable wanted (status.TableBad kind path) = wanted ≡ Err (kind, path)
RefusesTable wanted status.StoreFailed = Unit {0}
RefusesTable wanted status.Memory = Unit {0}
RefusesTable wanted _ = ⊥

-- a status of a call that stopped before its end
abbrev pub IsRefusal : Status → Type 0
IsRefusal (status.TableBad kind path) = Unit {0}
IsRefusal status.StoreFailed = Unit {0}
IsRefusal status.Memory = Unit {0}
IsRefusal _ = ⊥

-- the status of a call that could not read the file with this path
abbrev pub load_status : List ℕ → LoadFault → Status
load_status path load.Store = status.StoreFailed
load_status path load.Memory = status.Memory
load_status path other = status.TableBad Later path
