-- What a call of the program answers: the answer that is wanted, how the status carries it, the lines that it prints and
-- the files that it leaves.
use Rattle.std.specs.Prelude.{◌≡◌, ◌⊎◌, ℕ, ℤ, List, [], Option, Some, None, Result, Ok, Err, IfErr}
use Rattle.std.specs.Option.{ForSome}
use Rattle.plain_types.specs.Causes.{Rose}
use Rattle.row_values.specs.declared.value.Value.{Value}
use Rattle.store_core.specs.Files.{Files, with_file}
use Rattle.store_core.specs.Written.{appended, TakesFront}
use Rattle.command_line.specs.Words.{Wanted, rows, create, run, command_of}
use Rattle.table_names.specs.Versions.{version_name}
use Rattle.run_report.specs.Report.{row_lines}
use Rattle.dml_program.specs.declared.status.Status.{Status}
use Rattle.dml_program.specs.declared.status.Status.TheVariants as status
use Rattle.dml_program.specs.Beginning.{begun_of}
use Rattle.dml_program.specs.Creating.{first_version_of}
use Rattle.dml_program.specs.Opening.{Fault, table_rows}
use Rattle.dml_program.specs.Statuses.{created_lines, fault_lines}

-- the lines that are printed and the files that are left, or the status of what is wrong
pub data ProgramAnswer : Type 0 where
  done : List ℕ → Files → ProgramAnswer
  refused : Status → ProgramAnswer

-- the rows that are printed, or what is wrong with the table
abbrev pub rows_answer : Files → Result (List (List Value)) Fault → ProgramAnswer
rows_answer files (Ok found) = done (row_lines found) files
rows_answer files (Err fault) = refused (status.TableBad fault.0 fault.1)

-- the table that is made, or why not
abbrev pub create_answer : List ℕ → Files → Result (List ℕ) Status → ProgramAnswer
create_answer table files (Ok bytes) = done created_lines (with_file (version_name table 1) bytes files)
create_answer table files (Err reason) = refused reason

-- where the store, the inputs and the clock tell
abbrev pub AllTold : Option Files → Option Files → Option ℤ → (Files → Files → ℤ → Type 0) → Type 0
AllTold files given now holds = ForSome files (λ f. ForSome given (λ g. ForSome now (λ n. holds f g n)))

-- Something holds of the files of the store and of the answer that a command wants, where all that it looks at tells: the
-- store, and where a table is made the inputs and the clock too. The answer to a run is fixed only where it can't begin.
abbrev pub ToldOf : Option Wanted → Option Files → Option Files → Option ℤ → (Files → ProgramAnswer → Type 0) → Type 0
ToldOf None files given now holds = ForSome files (λ f. holds f (refused status.Usage))
ToldOf (Some (rows table)) files given now holds = ForSome files (λ f. holds f (rows_answer f (table_rows table f)))
ToldOf (Some (create table schema)) files given now holds = AllTold files given now (λ f g n. holds f (create_answer table f (first_version_of table schema f g n)))
ToldOf (Some (run table script)) files given now holds = ForSome files (λ f. ForSome given (λ g. IfErr (begun_of table script f g) (λ reason. holds f (refused reason))))

-- the same of the answer that words want
abbrev pub Told : List (List ℕ) → Option Files → Option Files → Option ℤ → (Files → ProgramAnswer → Type 0) → Type 0
Told words files given now holds = ToldOf (command_of words) files given now holds

-- a command that changes no table
abbrev pub OnlyReads : Option Wanted → Type 0
OnlyReads None = Unit {0}
OnlyReads (Some (rows table)) = Unit {0}
OnlyReads (Some (create table schema)) = ⊥
OnlyReads (Some (run table script)) = ⊥

-- a command that runs no script
abbrev pub RunsNothing : Option Wanted → Type 0
RunsNothing None = Unit {0}
RunsNothing (Some (rows table)) = Unit {0}
RunsNothing (Some (create table schema)) = Unit {0}
RunsNothing (Some (run table script)) = ⊥

abbrev pub IsDone : ProgramAnswer → Type 0
IsDone (done lines left) = Unit {0}
IsDone (refused reason) = ⊥

-- The status is the wanted answer, or says that the store, an input, the output or memory failed. An input fails only where
-- that is the answer, or where a read failed; the output fails only once everything else is done.
abbrev pub Carries : Type 0 → ProgramAnswer → Status → Type 0
Carries failed answer status.Done = IsDone answer
Carries failed answer status.Refused = ⊥
Carries failed answer status.Usage = answer ≡ refused status.Usage
Carries failed answer (status.ScriptBad line reason) = answer ≡ refused (status.ScriptBad line reason)
Carries failed answer (status.TableBad kind path) = answer ≡ refused (status.TableBad kind path)
Carries failed answer status.StoreFailed = Unit {0}
Carries failed answer (status.InputFailed name) = failed ⊎ (answer ≡ refused (status.InputFailed name))
Carries failed answer status.OutputFailed = IsDone answer
Carries failed answer (status.StateUnknown session number) = Unit {0}
Carries failed answer status.Memory = Unit {0}

-- the status that an answer is
abbrev pub status_of : ProgramAnswer → Status
status_of (done lines left) = status.Done
status_of (refused reason) = reason

-- the lines that an answer prints
abbrev pub answer_lines : ProgramAnswer → List ℕ
answer_lines (done lines left) = lines
answer_lines (refused reason) = []

-- the whole report of a call that ends with a status
abbrev pub report_lines : ProgramAnswer → Status → List ℕ
report_lines answer status.Done = answer_lines answer
report_lines answer status.OutputFailed = answer_lines answer
report_lines answer other = fault_lines other

-- the files that are left where the answer is carried out
abbrev pub files_left : Files → ProgramAnswer → Files
files_left files (done lines left) = left
files_left files (refused reason) = files

-- The files that a call leaves: those of its answer where it was carried out, those that were there where it was not, and
-- one of the two where that is not known.
abbrev pub LeavesAnswered : ProgramAnswer → Status → Files → Option Files → Type 0
LeavesAnswered answer status.Done files new = new ≡ Some (files_left files answer)
LeavesAnswered answer status.OutputFailed files new = new ≡ Some (files_left files answer)
LeavesAnswered answer (status.StateUnknown session number) files new = (new ≡ Some files) ⊎ (new ≡ Some (files_left files answer))
LeavesAnswered answer status.Memory files new = (new ≡ Some files) ⊎ (new ≡ Some (files_left files answer))
LeavesAnswered answer other files new = new ≡ Some files

-- the lines were written whole, or a front of them by a sink that failed
abbrev pub Writes : List ℕ → Option (List ℕ) → Option (List ℕ) → ℕ → ℕ → Type 0
Writes lines old new before now = (new ≡ appended lines old) ⊎ (TakesFront lines old new × Rose before now)

-- ---- before the report is written

-- the status of a call that has not ended yet
abbrev pub so_far : {T : Type 0} → Result T Status → Status
so_far (Ok lines) = status.Done
so_far (Err reason) = reason

-- these are the lines that the answer prints
abbrev pub Prints : ProgramAnswer → List ℕ → Type 0
Prints (done lines left) printed = printed ≡ lines
Prints (refused reason) printed = ⊥

-- a status other than those of a command that is carried out
abbrev pub IsFault : Status → Type 0
IsFault status.Done = ⊥
IsFault status.Refused = ⊥
IsFault status.OutputFailed = ⊥
IsFault other = Unit {0}
