-- What a step of a session leaves (Iceberg specification, "Optimistic Concurrency"), on a table that nobody else changes: the
-- step is the machine's over the files that were there, the table stays open, and the rows of `main` are, as a bag, those that the
-- statement leaves where the step answers that it is committed or changes nothing, and else as they were.
use Rattle.std.specs.Prelude.{◌≡◌, ◌≢◌, ◌⊎◌, option_map, codes, length, slice_get, ◌+◌, ◌<◌, ◌≤◌, ◌^◌, ℕ, IsSome, List, Option, Some, None, Ok}
use Rattle.std.specs.FinMap as map
use Rattle.std.specs.List.{AllByRecursion}
use Rattle.plain_types.specs.Bags.{SameBag}
use Rattle.plain_types.specs.Causes.{Rose, RoseTwice}
use Rattle.row_values.specs.declared.schema.Column.{Column}
use Rattle.row_values.specs.declared.schema.TableSchema.{TableSchema}
use Rattle.row_values.specs.declared.value.Value.{Value}
use Rattle.sql_statements.specs.declared.statement.Source.{Source}
use Rattle.sql_statements.specs.declared.statement.Statement.{Statement}
use Rattle.sql_statements.specs.Effects.{result_of}
use Rattle.sql_statements.specs.Tables.{branch_of}
use Rattle.store_core.specs.Files.{Files, bytes_of, swapped}
use Rattle.table_names.specs.declared.names.Names.{Names}
use Rattle.table_names.specs.FileNames.{data_name, metadata_name}
use Rattle.session_machine.specs.declared.answer.Answer.{Answer}
use Rattle.session_machine.specs.declared.answer.Answer.TheVariants as answer
use Rattle.session_machine.specs.declared.event.Stepped.{Stepped}
use Rattle.table_names.specs.Versions.{version_of_name, version_prefix}
use Rattle.commit_builder.specs.declared.commit.Prepared.{Prepared}
use Rattle.branch_commit.specs.declared.outcome.Pending.{Pending}
use Rattle.branch_commit.specs.Planning.{IsOfColumns}
use Rattle.session_machine.specs.declared.place.Phase.{Phase}
use Rattle.session_machine.specs.declared.place.Phase.TheVariants as phase
use Rattle.session_machine.specs.declared.place.Place.{Place}
use Rattle.session_machine.specs.Machine.{turn_of}
use Rattle.session_steps.specs.Open.{IsOpen}
use Rattle.session_steps.specs.Work.{IsPending, IsSwapping}
use Rattle.session_steps.specs.declared.fault.RunFault.{RunFault}
use Rattle.session_steps.specs.declared.fault.RunFault.TheVariants as run
use Rattle.session_steps.specs.declared.session.Session.{Session}

-- ---- what a session has between steps

pub record HasPending (table : List ℕ) (schema : TableSchema) (sources : List Source) (s : Statement) (files : Files) (session : Session) : Type 0 where
  pub pending : Pending
  pub held : session.pending ≡ Some pending
  pub planned : session.place.planned ≡ pending.base.version
  pub work : IsPending table schema sources s files pending

pub record HasPrepared (table : List ℕ) (schema : TableSchema) (sources : List Source) (s : Statement) (files : Files) (session : Session) : Type 0 where
  pub pending : Pending
  pub prepared : Prepared
  pub held : session.pending ≡ Some pending
  pub made : session.prepared ≡ Some prepared
  pub planned : session.place.planned ≡ pending.base.version
  pub seen : session.place.seen ≡ pending.base.version
  pub work : IsSwapping table schema sources s files pending prepared

-- in each phase: nothing, its plan, or its plan and the version that it prepared
abbrev pub InPhase : List ℕ → TableSchema → List Source → Statement → Files → Session → Phase → Type 0
InPhase table schema sources s files session phase.Plan = Unit {0}
InPhase table schema sources s files session phase.Validate = HasPending table schema sources s files session
InPhase table schema sources s files session phase.Swap = HasPrepared table schema sources s files session

-- and so over every store
abbrev pub InShape : Session → Phase → Type 0
InShape session phase.Plan = Unit {0}
InShape session phase.Validate = IsSome session.pending
InShape session phase.Swap = IsSome session.pending × IsSome session.prepared × (session.place.seen + 1 < 2 ^ 32)

abbrev pub HasShape : Session → Type 0
HasShape session = InShape session session.place.phase

-- ---- rows

-- the statement was carried out on the rows
abbrev pub IsCarriedOut : List Source → List Column → Statement → List (List Value) → List (List Value) → Type 0
IsCarriedOut sources columns s before after = (left : List (List Value)) × (result_of columns sources s before ≡ Ok left) × SameBag after left

abbrev pub LeavesRows : List Source → List Column → Statement → Option Answer → List (List Value) → List (List Value) → Type 0
LeavesRows sources columns s (Some (answer.Committed version)) before after = IsCarriedOut sources columns s before after
LeavesRows sources columns s (Some answer.Unchanged) before after = IsCarriedOut sources columns s before after
LeavesRows sources columns s other before after = after ≡ before

-- ---- steps

-- no version up to this one comes or goes
abbrev pub KeepsVersions : List ℕ → ℕ → Files → Files → Type 0
KeepsVersions table last old new = (name : List ℕ) → 0 < version_of_name (version_prefix table) name
    → version_of_name (version_prefix table) name ≤ last → map.get new name ≡ map.get old name

pub record IsStep (table : List ℕ) (schema : TableSchema) (sources : List Source) (s : Statement) (old new : Files) (current : ℕ)
    (place : Place) (session : Session) (stepped : Stepped) : Type 0 where
  pub was : IsOpen table schema old current
  pub next : ℕ
  pub up : current ≤ next
  pub below : KeepsVersions table current old new
  pub turned : turn_of table sources old current place s place.phase ≡ Ok (record { current = next; place = session.place; stepped = stepped })
  pub still : IsOpen table schema new next
  pub rows : LeavesRows sources schema.columns s stepped.answer was.rows still.rows
  pub held : InPhase table schema sources s new session session.place.phase

-- Each name is as it was but those of the files of this session, with a number from the next one on.
abbrev pub LeavesRest : List ℕ → Names → Option Files → Option Files → Type 0
LeavesRest table names old new = (name : List ℕ) → ((n : ℕ) → names.next ≤ n → name ≢ data_name table names.run names.session n)
    → ((n : ℕ) → names.next ≤ n → name ≢ metadata_name table names.run names.session n) → bytes_of new name ≡ bytes_of old name

-- Each name is as it was but those, and those of versions.
abbrev pub LeavesOthers : List ℕ → Names → Option Files → Option Files → Type 0
LeavesOthers table names old new = (name : List ℕ) → ((n : ℕ) → names.next ≤ n → name ≢ data_name table names.run names.session n)
    → ((n : ℕ) → names.next ≤ n → name ≢ metadata_name table names.run names.session n)
    → version_of_name (version_prefix table) name ≡ 0 → bytes_of new name ≡ bytes_of old name

-- ---- the statement at hand, where there is one

abbrev pub IsHeldOf : List ℕ → TableSchema → List Source → Files → Session → Option Statement → Type 0
IsHeldOf table schema sources files session None = Unit {0}
IsHeldOf table schema sources files session (Some s) = InPhase table schema sources s files session session.place.phase

abbrev pub IsHeld : List ℕ → TableSchema → List Source → List Statement → Files → Session → Type 0
IsHeld table schema sources statements files session = IsHeldOf table schema sources files session (slice_get statements session.place.at)

-- the statements are of the columns and on `main`, and no more than a script has
pub record AreWorkable (schema : TableSchema) (sources : List Source) (statements : List Statement) : Type 0 where
  pub columns : AllByRecursion (IsOfColumns schema.columns sources) statements
  pub main : AllByRecursion (λ s. branch_of s ≡ codes "main") statements
  pub few : length statements < 2 ^ 63

-- the step of a session of these statements: nothing where all are answered
abbrev pub IsStepOf : List ℕ → TableSchema → List Source → Option Statement → Files → Files → ℕ → Place → Session → Stepped → Type 0
IsStepOf table schema sources None old new current place session stepped = (new ≡ old) × (session.place ≡ place) × (stepped ≡ record { event = None; answer = None })
IsStepOf table schema sources (Some s) old new current place session stepped = IsStep table schema sources s old new current place session stepped

-- ---- a swap that failed

-- The files after a swap of these bytes that failed, between these counts of the store's faults: as they were, or with the version
-- where it is not known and the store failed twice, or where memory ran out and the store failed before.
abbrev pub LeftBy : List ℕ → List ℕ → Option Files → Option Files → ℕ → ℕ → RunFault → Type 0
LeftBy name bytes old new before now run.Store = new ≡ old
LeftBy name bytes old new before now (run.Unknown session statement) = (new ≡ old) ⊎ ((new ≡ option_map (swapped name bytes) old) × RoseTwice before now)
LeftBy name bytes old new before now run.Memory = (new ≡ old) ⊎ ((new ≡ option_map (swapped name bytes) old) × Rose before now)
LeftBy name bytes old new before now other = ⊥

-- ---- a step that is not made to its end

-- A step of this phase, between these counts, may have committed its statement: only a swap does, whose outcome is not known.
abbrev pub MayCommit : Phase → RunFault → ℕ → ℕ → Type 0
MayCommit phase.Swap (run.Unknown session statement) before now = RoseTwice before now
MayCommit phase.Swap run.Memory before now = Rose before now
MayCommit other fault before now = ⊥

-- The table is open as it was, or at the version behind the one that was seen, with the rows that the statement at hand leaves.
pub record IsCommitted (table : List ℕ) (schema : TableSchema) (sources : List Source) (s : Statement) (old new : Files) (current seen : ℕ) : Type 0 where
  pub was : IsOpen table schema old current
  pub saw : seen ≡ current
  pub below : KeepsVersions table current old new
  pub next : IsOpen table schema new (current + 1)
  pub rows : IsCarriedOut sources schema.columns s was.rows next.rows

pub record IsAsBefore (table : List ℕ) (schema : TableSchema) (old new : Files) (current : ℕ) : Type 0 where
  pub was : IsOpen table schema old current
  pub below : KeepsVersions table current old new
  pub still : IsOpen table schema new current
  pub rows : still.rows ≡ was.rows

abbrev pub EndsOf : List ℕ → TableSchema → List Source → Option Statement → Files → Files → ℕ → Place → ℕ → ℕ → RunFault → Type 0
EndsOf table schema sources None old new current place before now fault = ⊥
EndsOf table schema sources (Some s) old new current place before now fault = IsAsBefore table schema old new current ⊎ (MayCommit place.phase fault before now × IsCommitted table schema sources s old new current place.seen)
