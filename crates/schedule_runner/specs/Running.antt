-- A session at work on an open table (Iceberg specification, "Optimistic Concurrency"; SQL standard, "Data manipulation"): its steps
-- so far are the machine's over the files that are there, the table is open, and its rows are those of the serial run of the
-- statements that were carried out; and so it is at each version on the way.
use Rattle.std.specs.Prelude.{◌≡◌, ◌≤◌, ◌+◌, ◌⊎◌, ℕ, codes, List, [], ◌∷◌, ◌++◌, None, Ok, Some, slice_get}
use Rattle.row_values.specs.declared.schema.TableSchema.{TableSchema}
use Rattle.row_values.specs.declared.value.Value.{Value}
use Rattle.sql_statements.specs.declared.statement.Source.{Source}
use Rattle.sql_statements.specs.declared.statement.Statement.{Statement}
use Rattle.sql_statements.specs.Serial.{committed}
use Rattle.store_core.specs.Files.{Files}
use Rattle.session_machine.specs.declared.event.Stepped.{Stepped}
use Rattle.table_state.specs.Live.{rows_of_branch}
use Rattle.session_machine.specs.declared.place.Place.{Place}
use Rattle.session_steps.specs.Open.{IsOpen}
use Rattle.session_steps.specs.declared.fault.RunFault.{RunFault}
use Rattle.session_steps.specs.declared.session.Session.{Session}
use Rattle.session_steps.specs.Steps.{IsHeld, KeepsVersions, MayCommit}
use Rattle.schedule_runner.specs.Runs.{IsRun, IsSerial, told_in}

-- of a session of these statements, which began at this place on a table that was open at this version
module _ (table : List ℕ) (schema : TableSchema) (sources : List Source) (statements : List Statement) (start : Files) (first : ℕ) (place : Place) (begun : IsOpen table schema start first) where
  -- after these steps the rows of `main` are those of the statements that they carry out
  pub record IsPassed (files : Files) (steps : List Stepped) : Type 0 where
    pub version : ℕ
    pub to : Place
    pub run : IsRun table sources files statements first place steps version to
    pub rows : List (List Value)
    pub told : rows_of_branch table version (codes "main") files ≡ Ok rows
    pub serial_rows : IsSerial schema.columns sources begun.rows (told_in statements steps) rows

  -- and after each front of them
  abbrev pub ArePassed : Files → List Stepped → Type 0
  ArePassed files steps = (front rest : List Stepped) → front ++ rest ≡ steps → IsPassed files front

  pub record Running (files : Files) (session : Session) (steps : List Stepped) : Type 0 where
    pub last : ℕ
    pub up : first ≤ last
    pub below : KeepsVersions table first start files
    pub still : IsOpen table schema files last
    pub run : IsRun table sources files statements first place steps last session.place
    pub serial_rows : IsSerial schema.columns sources begun.rows (told_in statements steps) still.rows
    pub held : IsHeld table schema sources statements files session
    pub way : ArePassed files steps

  -- all its statements are answered
  pub record Finished (files : Files) (steps : List Stepped) : Type 0 where
    pub last : ℕ
    pub up : first ≤ last
    pub below : KeepsVersions table first start files
    pub to : Place
    pub still : IsOpen table schema files last
    pub run : IsRun table sources files statements first place steps last to
    pub serial_rows : IsSerial schema.columns sources begun.rows (told_in statements steps) still.rows
    pub way : ArePassed files steps
    pub through : slice_get statements to.at ≡ None

  -- the rows are those of the statements that were carried out
  pub record IsLeft (files : Files) (steps : List Stepped) (last : ℕ) : Type 0 where
    pub still : IsOpen table schema files last
    pub serial_rows : IsSerial schema.columns sources begun.rows (told_in statements steps) still.rows

  -- or of these and of the statement at hand, whose swap of the version behind the last one may have won
  pub record IsInFlight (files : Files) (steps : List Stepped) (last : ℕ) (to : Place) : Type 0 where
    pub s : Statement
    pub at_hand : slice_get statements to.at ≡ Some s
    pub saw : to.seen ≡ last
    pub next : IsOpen table schema files (last + 1)
    pub serial_rows : IsSerial schema.columns sources begun.rows (told_in statements steps ++ record { statement = s; answered = committed } ∷ []) next.rows

  -- a step was not made to its end, between these counts of the store's faults
  pub record Ended (files : Files) (to : Place) (steps : List Stepped) (before now : ℕ) (fault : RunFault) : Type 0 where
    pub last : ℕ
    pub up : first ≤ last
    pub below : KeepsVersions table first start files
    pub run : IsRun table sources files statements first place steps last to
    pub left : IsLeft files steps last ⊎ (MayCommit to.phase fault before now × IsInFlight files steps last to)
    pub way : ArePassed files steps
