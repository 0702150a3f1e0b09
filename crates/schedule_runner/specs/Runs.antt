-- The run of a session (Iceberg specification, "Optimistic Concurrency"; SQL standard, "Data manipulation"): its steps are the
-- machine's, one after another, and the statements that they carry out, in order, are a serial run on the rows of `main`.
use Rattle.std.specs.Prelude.{◌≡◌, ℕ, codes, List, [], ◌∷◌, Option, Some, slice_get, Ok}
use Rattle.std.specs.List.{flat_map}
use Rattle.plain_types.specs.Steps.{by_option}
use Rattle.row_values.specs.declared.schema.Column.{Column}
use Rattle.row_values.specs.declared.value.Value.{Value}
use Rattle.sql_statements.specs.declared.statement.Source.{Source}
use Rattle.sql_statements.specs.declared.statement.Statement.{Statement}
use Rattle.sql_statements.specs.Results.{SameOutcome}
use Rattle.sql_statements.specs.Serial.{State, Told, committed, serial, unchanged}
use Rattle.store_core.specs.Files.{Files}
use Rattle.session_machine.specs.declared.answer.Answer.{Answer}
use Rattle.session_machine.specs.declared.answer.Answer.TheVariants as answer
use Rattle.session_machine.specs.declared.event.Event.{Event}
use Rattle.session_machine.specs.declared.event.Stepped.{Stepped}
use Rattle.session_machine.specs.declared.place.Place.{Place}
use Rattle.session_machine.specs.Machine.{Turned, turn}

-- ---- the steps

module _ (table : List ℕ) (sources : List Source) (files : Files) (statements : List Statement) where
  -- these are the machine's steps, from a version and a place to the last ones
  unfoldable pub IsRun : ℕ → Place → List Stepped → ℕ → Place → Type 0
  IsRun current place [] last to = (current ≡ last) × (place ≡ to)
  IsRun current place (stepped ∷ steps) last to = (turned : Turned) × (turn table sources files current place statements ≡ Ok turned) × (turned.stepped ≡ stepped) × IsRun turned.current turned.place steps last to

-- ---- the statements that they carry out

-- by the answer of a statement
abbrev pub told_by : Statement → Option Answer → List Told
told_by s (Some (answer.Committed version)) = record { statement = s; answered = committed } ∷ []
told_by s (Some answer.Unchanged) = record { statement = s; answered = unchanged } ∷ []
told_by s other = []

abbrev pub told_of_event : List Statement → Option Answer → Event → List Told
told_of_event statements answer event = by_option (slice_get statements event.statement) (λ s. told_by s answer) []

abbrev pub told_at : List Statement → Stepped → List Told
told_at statements stepped = by_option stepped.event (told_of_event statements stepped.answer) []

-- in the order of their answers
abbrev pub told_in : List Statement → List Stepped → List Told
told_in statements steps = flat_map (told_at statements) steps

-- ---- the rows

abbrev pub main_with : List Column → List (List Value) → State
main_with columns rows = record { schema = columns; branches = record { name = codes "main"; rows = rows } ∷ [] }

-- The statements, one after another on these rows by plain SQL, leave those ones, as a bag.
abbrev pub IsSerial : List Column → List Source → List (List Value) → List Told → List (List Value) → Type 0
IsSerial columns sources begun told rows = SameOutcome (serial sources told (main_with columns begun)) (Some (main_with columns rows))
