-- What comes of a session that is run from its first statement on, on an open table that nobody else changes (Iceberg
-- specification, "Optimistic Concurrency"): it is finished, or a step of it was not made to its end, for a cause.
use Rattle.std.specs.Prelude.{◌≡◌, ℕ, List, Option, None, Some}
use Rattle.row_values.specs.declared.schema.TableSchema.{TableSchema}
use Rattle.sql_statements.specs.declared.statement.Source.{Source}
use Rattle.sql_statements.specs.declared.statement.Statement.{Statement}
use Rattle.store_core.specs.Files.{Files}
use Rattle.session_machine.specs.declared.event.Stepped.{Stepped}
use Rattle.session_machine.specs.declared.place.Phase.TheVariants as phase
use Rattle.session_machine.specs.declared.place.Place.{Place}
use Rattle.session_steps.specs.Open.{IsOpen}
use Rattle.session_steps.specs.Outside.{IsOfOutside}
use Rattle.session_steps.specs.declared.fault.RunFault.{RunFault}
use Rattle.session_steps.specs.declared.fault.RunFault.TheVariants as run
use Rattle.schedule_runner.specs.Running.{Ended, Finished}

-- before the first statement of the session of this number
abbrev pub first_place : ℕ → Place
first_place number = record { session = number; at = 0; phase = phase.Plan; planned = 0; seen = 0; lost = 0 }

-- what is not known is of the statement at hand
abbrev pub IsAtHand : Place → RunFault → Type 0
IsAtHand to (run.Unknown session statement) = (session ≡ to.session) × (statement ≡ to.at)
IsAtHand to other = Unit {0}

module _ (table : List ℕ) (schema : TableSchema) (sources : List Source) (statements : List Statement) (start : Files) (first : ℕ) (place : Place) (begun : IsOpen table schema start first) where
  -- Between these counts of the store's faults it was stopped by this fault, for a cause that is there on the table that is left.
  pub record Stopped (files : Files) (steps : List Stepped) (before now : ℕ) (fault : RunFault) : Type 0 where
    pub to : Place
    pub ended : Ended table schema sources statements start first place begun files to steps before now fault
    pub at_hand : IsAtHand to fault
    pub cause : IsOfOutside table files ended.last fault

  abbrev pub IsOutcome : Files → List Stepped → ℕ → ℕ → Option RunFault → Type 0
  IsOutcome files steps before now None = Finished table schema sources statements start first place begun files steps
  IsOutcome files steps before now (Some fault) = Stopped files steps before now fault
