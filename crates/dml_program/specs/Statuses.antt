-- Statuses: their numbers, and the fault lines that they end a report with.
use Rattle.std.specs.Prelude.{ℕ, ◌==◌, if◌then◌else◌, codes, List, [], ◌++◌}
use Rattle.std.specs.Fmt.{decimal}
use Rattle.run_report.specs.Report.{line}
use Rattle.store_core.specs.declared.store.StoreFault.{StoreFault}
use Rattle.store_core.specs.declared.store.StoreFault.TheVariants.{Failed, Memory as StoreMemory}
use Rattle.dml_program.specs.declared.status.TableKind.{TableKind}
use Rattle.dml_program.specs.declared.status.TableKind.TheVariants.{NoVersion, Exists, Later, Limit}
use Rattle.dml_program.specs.declared.status.ScriptKind.{ScriptKind}
use Rattle.dml_program.specs.declared.status.ScriptKind.TheVariants as script
use Rattle.dml_program.specs.declared.status.Status.{Status}
use Rattle.dml_program.specs.declared.status.Status.TheVariants.{Done, Refused, Usage, ScriptBad, TableBad, StoreFailed, InputFailed, OutputFailed, StateUnknown, Memory}

abbrev pub status_number : Status → ℕ
status_number Done = 0
status_number Refused = 1
status_number Usage = 2
status_number (ScriptBad at reason) = 3
status_number (TableBad kind path) = 4
status_number StoreFailed = 5
status_number (InputFailed name) = 6
status_number OutputFailed = 7
status_number (StateUnknown session number) = 8
status_number Memory = 9

abbrev pub status_of_fault : StoreFault → Status
status_of_fault Failed = StoreFailed
status_of_fault StoreMemory = Memory

abbrev pub kind_text : TableKind → List ℕ
kind_text NoVersion = codes "no-version"
kind_text Exists = codes "exists"
kind_text Later = codes "later"
kind_text Limit = codes "limit"

abbrev pub script_text : ScriptKind → List ℕ
script_text script.Text = codes "text"
script_text script.Limit = codes "limit"
script_text script.Token = codes "token"
script_text script.Form = codes "form"
script_text script.Name = codes "name"
script_text script.Kind = codes "kind"
script_text script.Schema = codes "schema"
script_text script.Later = codes "later"

-- the statement whose version may be there or not, and nothing where it is a table's first version
abbrev pub unknown_text : List ℕ → ℕ → List ℕ
unknown_text session number = if number == 0 then codes "fault unknown" else codes "fault unknown " ++ (session ++ (codes "." ++ decimal number))

-- what a status writes of itself
abbrev pub fault_lines : Status → List ℕ
fault_lines Done = []
fault_lines Refused = []
fault_lines Usage = line (codes "fault usage")
fault_lines (ScriptBad at reason) = line (codes "fault script " ++ (decimal at ++ (codes " " ++ script_text reason)))
fault_lines (TableBad kind path) = line (codes "fault table " ++ (kind_text kind ++ (codes " " ++ path)))
fault_lines StoreFailed = line (codes "fault store")
fault_lines (InputFailed name) = line (codes "fault input " ++ name)
fault_lines OutputFailed = []
fault_lines (StateUnknown session number) = line (unknown_text session number)
fault_lines Memory = []

-- what `create` prints
abbrev pub created_lines : List ℕ
created_lines = line (codes "created v1")
