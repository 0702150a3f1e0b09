-- What a run leaves and writes (Iceberg specification, "Optimistic Concurrency"; SQL standard, "Data manipulation"): the steps of
-- its session are those of the machine over the files that are left, where each version on the way has the rows that plain SQL
-- gives of the statements that were carried out so far; the report tells these steps, and how many rows there are in the end.
use Rattle.std.specs.Prelude.{◌≡◌, ◌⊎◌, ◌+◌, ℕ, codes, List, [], ◌++◌, length, map, Option, Some, None, Ok, if◌then◌else◌, IfOk}
use Rattle.std.specs.Option.{ForSome}
use Rattle.plain_types.specs.Causes.{Rose}
use Rattle.row_values.specs.declared.value.Value.{Value}
use Rattle.store_core.specs.Files.{Files}
use Rattle.store_core.specs.Written.{appended}
use Rattle.session_machine.specs.declared.event.Stepped.{Stepped}
use Rattle.run_report.specs.Report.{is_refused, lines_of_branch, lines_of_steps, name_of}
use Rattle.command_line.specs.Words.{Wanted, rows, create, run}
use Rattle.dml_parser.specs.declared.script.Script.{Script}
use Rattle.schedule_runner.specs.Rows.{current_rows}
use Rattle.session_steps.specs.Open.{IsOpen}
use Rattle.session_steps.specs.declared.fault.RunFault.{RunFault}
use Rattle.session_steps.specs.declared.fault.RunFault.TheVariants as fault
use Rattle.schedule_runner.specs.Outcome.{IsOutcome, first_place}
use Rattle.schedule_runner.specs.Adding.{AddsAtMost}
use Rattle.schedule_runner.specs.Scripts.{name_in, statements_in}
use Rattle.dml_program.specs.declared.begin.Begun.{Begun}
use Rattle.dml_program.specs.declared.status.TableKind.TheVariants.{Later, Limit}
use Rattle.dml_program.specs.declared.status.Status.{Status}
use Rattle.dml_program.specs.declared.status.Status.TheVariants as status
use Rattle.dml_program.specs.Answers.{Writes}
use Rattle.dml_program.specs.Beginning.{begun_of}
use Rattle.dml_program.specs.Statuses.{fault_lines}

-- the names of the sessions, by their numbers
abbrev pub names_in : Script → List (List ℕ)
names_in script = map (λ item. item.name) script.sessions

-- ---- statuses

-- of a run that went to its end
abbrev pub status_of_steps : List Stepped → Status
status_of_steps steps = if is_refused steps then status.Refused else status.Done

-- of a run that stopped
abbrev pub status_of_fault : List ℕ → List (List ℕ) → RunFault → Status
status_of_fault table names fault.Store = status.StoreFailed
status_of_fault table names (fault.Unknown session statement) = status.StateUnknown (name_of names session) (statement + 1)
status_of_fault table names (fault.Table why) = status.TableBad Later table
status_of_fault table names (fault.Schema name) = status.TableBad Later name
status_of_fault table names (fault.Limit name) = status.TableBad Limit name
status_of_fault table names fault.Memory = status.Memory

-- ---- the report

-- the steps, and a fault
abbrev pub IsBroken : List (List ℕ) → List Stepped → Status → List ℕ → Type 0
IsBroken names steps wanted lines = lines ≡ lines_of_steps names steps ++ fault_lines wanted

module _ (table : List ℕ) (names : List (List ℕ)) (files : Files) (steps : List Stepped) where
  -- the steps and the number of rows, of a run that went to its end
  pub record IsWhole (wanted : Status) (lines : List ℕ) : Type 0 where
    pub rows : List (List Value)
    pub told : current_rows table (codes "main") files ≡ Ok rows
    pub by_steps : wanted ≡ status_of_steps steps
    pub whole : lines ≡ lines_of_steps names steps ++ lines_of_branch (codes "main") (length rows)

  -- The rows may not be counted where the store fails.
  abbrev pub IsReport : Option RunFault → Status → List ℕ → Type 0
  IsReport None wanted lines = IsWhole wanted lines ⊎ ((wanted ≡ status.StoreFailed) × IsBroken names steps wanted lines)
  IsReport (Some fault) wanted lines = (wanted ≡ status_of_fault table names fault) × IsBroken names steps wanted lines

-- a status of a run that went to its end
abbrev pub HasEnded : Status → Type 0
HasEnded status.Done = Unit {0}
HasEnded status.Refused = Unit {0}
HasEnded other = ⊥

-- a status of a run that began
abbrev pub IsRunEnd : Status → Type 0
IsRunEnd status.Usage = ⊥
IsRunEnd (status.ScriptBad line reason) = ⊥
IsRunEnd (status.InputFailed name) = ⊥
IsRunEnd other = Unit {0}

-- The status of a call that wrote a report: the output may have failed.
abbrev pub IsWritten : Status → Status → ℕ → ℕ → Type 0
IsWritten wanted result before now = (result ≡ wanted) ⊎ ((result ≡ status.OutputFailed) × HasEnded wanted × Rose before now)

-- ---- the run

-- what is written of the steps, and with which status, between these states of the output and these counts of its faults: all of it
-- where the run went to its end
abbrev pub IsTold : List ℕ → List (List ℕ) → Files → List Stepped → Option RunFault → Status → Option (List ℕ) → Option (List ℕ) → ℕ → ℕ → Type 0
IsTold table names files steps ended result old new before now =
    ((result ≡ status.Memory) × (new ≡ old)) ⊎ ((wanted : Status) × (lines : List ℕ) × IsReport table names files steps ended wanted lines × Writes lines old new before now × (HasEnded result → new ≡ appended lines old) × IsWritten wanted result before now)

-- of a script on a table that was open, between two counts of the store's faults, and two of the output's behind its two states
pub record IsRan (table : List ℕ) (begun : Begun) (start files : Files) (failed fails : ℕ) (result : Status) (old new : Option (List ℕ)) (before now : ℕ) : Type 0 where
  pub was : IsOpen table begun.schema start begun.version
  pub steps : List Stepped
  pub ended : Option RunFault
  pub outcome : IsOutcome table begun.schema [] (statements_in begun.script) start begun.version (first_place 0) was files steps failed fails ended
  pub report : IsTold table (names_in begun.script) files steps ended result old new before now
  pub adds : AddsAtMost table (name_in begun.script) start files

-- The script's read failed, and nothing was done.
abbrev pub IsUnread : Status → ℕ → ℕ → Files → Option Files → Type 0
IsUnread (status.InputFailed name) before now start new = Rose before now × (new ≡ Some start)
IsUnread other before now start new = ⊥

-- it holds of each run that begins
abbrev pub OfRun : Option Wanted → Option Files → Option Files → (List ℕ → Begun → Files → Type 0) → Type 0
OfRun None files given holds = Unit {0}
OfRun (Some (rows table)) files given holds = Unit {0}
OfRun (Some (create table schema)) files given holds = Unit {0}
OfRun (Some (run table script)) files given holds = ForSome files (λ f. ForSome given (λ g. IfOk (begun_of table script f g) (λ begun. holds table begun f)))
