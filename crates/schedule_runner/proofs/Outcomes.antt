-- A session is run on until it is finished or stopped.
use Rattle.std.proofs.Common.{◌≡◌, ◌≤◌, ◌<◌, ℕ, zero, suc, codes, arith, length, true, List, [], ◌∷◌, Option, Some, None, is_some, refl, sym, ap, subst, ◌∙◌, inl, slice_get}
use Rattle.std.specs.List.{AllByRecursion}
use Rattle.std.specs.Option.{ForSome}
use Rattle.std.specs.Prelude.{◌≢◌}
use Rattle.row_values.specs.declared.schema.TableSchema.{TableSchema}
use Rattle.sql_statements.specs.declared.statement.Source.{Source}
use Rattle.sql_statements.specs.declared.statement.Statement.{Statement}
use Rattle.sql_statements.specs.Tables.{branch_of}
use Rattle.store_core.specs.Files.{Files, KeepsFiles}
use Rattle.table_names.specs.declared.names.Names.{Names}
use Rattle.table_names.specs.FileNames.{data_name, metadata_name}
use Rattle.session_machine.specs.declared.event.Stepped.{Stepped}
use Rattle.session_machine.specs.declared.place.Phase.TheVariants as phase
use Rattle.session_machine.specs.declared.place.Place.{Place}
use Rattle.session_steps.specs.Open.{IsOpen}
use Rattle.session_steps.specs.declared.fault.RunFault.{RunFault}
use Rattle.session_steps.specs.declared.fault.RunFault.TheVariants as run
use Rattle.session_steps.specs.declared.session.Session.{Session}
use Rattle.session_steps.specs.Faults.{CannotStep}
use Rattle.session_steps.specs.Steps.{LeavesOthers}
use Rattle.session_steps.proofs.CallerLemmas.{all_at, is_of_outside}
use Rattle.schedule_runner.specs.Running.{Ended, Running}
use Rattle.schedule_runner.specs.Runs.{IsRun}
use Rattle.schedule_runner.proofs.RunningLaws.{begins, finishes, idle, serial_begins, way_begins}
use Rattle.session_steps.specs.Outside.{IsOfOutside}
use Rattle.schedule_runner.specs.Outcome.{IsAtHand, IsOutcome, Stopped}
use Rattle.schedule_runner.proofs.Counts.{cause_stands, outcome_wider}
use Rattle.schedule_runner.proofs.StepLaws.{keeps, some_of}

-- a session that runs from this place on since the table was opened
abbrev pub RunsFrom : List ℕ → TableSchema → List Source → List Statement → Place → Option Files → Option Files → Session → List Stepped → Type 0
RunsFrom table schema sources statements place old now session steps =
    ForSome old (λ start. (current : ℕ) (begun : IsOpen table schema start current) → (files : Files) × (now ≡ Some files) × Running table schema sources statements start current place begun files session steps)

at_hand_of : (to : Place) (fault : RunFault) → ((session statement : ℕ) → fault ≡ run.Unknown session statement
    → (session ≡ to.session) × (statement ≡ to.at)) → IsAtHand to fault
at_hand_of to (run.Unknown session statement) each = each session statement refl
at_hand_of to run.Store each = tt
at_hand_of to (run.Table fault) each = tt
at_hand_of to (run.Schema name) each = tt
at_hand_of to (run.Limit name) each = tt
at_hand_of to run.Memory each = tt

-- ---- names

-- the names that no step touches, of two steps one after another
pub others_then : (table : List ℕ) (a b : Names) (old middle new : Option Files) → (b.run ≡ a.run) × (b.session ≡ a.session)
    → a.next ≤ b.next
    → LeavesOthers table a old middle → LeavesOthers table b middle new → LeavesOthers table a old new
others_then table a b old middle new same raised first second name no_data no_metadata no_version =
    second name
    (λ n above. subst (λ (run : ℕ). name ≢ data_name table run b.session n) (sym same.0) (subst (λ (session : List ℕ). name ≢ data_name table a.run session n) (sym same.1) (no_data n (omega arith))))
    (λ n above. subst (λ (run : ℕ). name ≢ metadata_name table run b.session n) (sym same.0) (subst (λ (session : List ℕ). name ≢ metadata_name table a.run session n) (sym same.1) (no_metadata n (omega arith)))) no_version
    ∙ first name no_data no_metadata no_version

-- ---- the session

-- what stands at a place within a list
pub there : {X : Type 0} (xs : List X) (n : ℕ) → n < length xs → is_some (slice_get xs n) ≡ true
there [] n within = absurd (omega arith)
there (x ∷ xs) zero within = refl
there (x ∷ xs) (suc n) within = there xs n (omega arith)

-- a run that is stopped before its first step
pub unbegun : (table : List ℕ) (schema : TableSchema) (sources : List Source) (statements : List Statement) (start : Files)
    (first : ℕ) (place : Place) (begun : IsOpen table schema start first) (before now : ℕ) (fault : RunFault) → IsAtHand place fault
    → IsOfOutside table start first fault → Stopped table schema sources statements start first place begun start [] before now fault
unfolding IsRun
unbegun table schema sources statements start first place begun before now fault which cause = record {
  to = place;
  ended = record { last = first; up = omega arith; below = λ name is_version most. refl; run = (refl, refl); left = inl (record { still = begun; serial_rows = serial_begins schema.columns sources begun.rows }); way = way_begins table schema sources statements start first place begun };
  at_hand = which;
  cause = cause;
}

module _ (table : List ℕ) (schema : TableSchema) (sources : List Source) (statements : List Statement) (place : Place) (initial : Option Files) where
  pub started : (session : Session) → session.place ≡ place → place.phase ≡ phase.Plan
      → RunsFrom table schema sources statements place initial initial session []
  started session at is start told current begun = (
    start,
    told,
    begins table schema sources statements start current place begun session at (idle table schema sources start session (slice_get statements session.place.at) (ap (λ (p : Place). p.phase) at ∙ is)),
  )

  -- the outcome of a session that is run to its end, or to a fault
  abbrev pub HasOutcome : Option Files → List Stepped → ℕ → ℕ → Option RunFault → Type 0
  HasOutcome now steps before after ended = ForSome initial (λ start. (current : ℕ) (begun : IsOpen table schema start current) → (new : Files) × (now ≡ Some new) × IsOutcome table schema sources statements start current place begun new steps before after ended)

  pub as_run : (now : Option Files) (steps told_steps : List Stepped) (before after : ℕ) (ended told_ended : Option RunFault)
      → told_steps ≡ steps → told_ended ≡ ended → HasOutcome now steps before after ended
      → HasOutcome now told_steps before after told_ended
  as_run now steps told_steps before after ended told_ended same_steps same_ended held = subst (λ (xs : List Stepped). HasOutcome now xs before after told_ended) (sym same_steps) (subst (HasOutcome now steps before after) (sym same_ended) held)

  -- the same between wider counts
  pub outcome_then : (now : Option Files) (steps : List Stepped) (before middle after later : ℕ) (ended : Option RunFault)
      → before ≤ middle → after ≤ later → HasOutcome now steps middle after ended → HasOutcome now steps before later ended
  outcome_then now steps before middle after later ended below above held start told current begun =
      let made = held start told current begun in
      (made.0, made.1, outcome_wider table schema sources statements start current place begun made.0 steps before middle after later ended below above made.2)

  module _ (opened : ForSome initial (λ files. (current : ℕ) × IsOpen table schema files current)) (now : Option Files) (session : Session) (steps : List Stepped) (running : RunsFrom table schema sources statements place initial now session steps) where
    -- the session runs on the files that are there now
    pub runs_now : is_some now ≡ is_some initial → ForSome now (λ files. (start : Files) × (first : ℕ) × (place : Place)
        × (begun : IsOpen table schema start first)
        × Running table schema sources statements start first place begun files session steps)
    runs_now same files told =
        let start = some_of initial (sym same ∙ ap is_some told) in
        let opens = opened start.0 start.1 in
        let made = running start.0 start.1 opens.0 opens.1 in
        let one : made.0 ≡ files = cc in
        (start.0, opens.0, place, opens.1, subst (λ (f : Files). Running table schema sources statements start.0 opens.0 place opens.1 f session steps) one made.2)

    pub finished : (before after : ℕ) → slice_get statements session.place.at ≡ None → ForSome initial (λ start. (current : ℕ)
        (begun : IsOpen table schema start current) → (new : Files) × (now ≡ Some new)
        × IsOutcome table schema sources statements start current place begun new steps before after None)
    finished before after through start told current begun =
        let made = running start told current begun in
        (made.0, made.1, finishes table schema sources statements start current place begun made.0 session steps made.2 through)

    -- no step more can be recorded
    pub full : (before after : ℕ) → ForSome initial (λ start. (current : ℕ) (begun : IsOpen table schema start current) → (new : Files)
        × (now ≡ Some new) × IsOutcome table schema sources statements start current place begun new steps before after (Some run.Memory))
    full before after start told current begun =
        let made = running start told current begun in (
          made.0,
          made.1,
          record {
            to = session.place;
            ended = record { last = made.2.last; up = made.2.up; below = made.2.below; run = made.2.run; left = inl (record { still = made.2.still; serial_rows = made.2.serial_rows }); way = made.2.way };
            at_hand = tt;
            cause = tt;
          },
        )

    -- one step more
    module _ (new : Option Files) where
      pub goes : (after : Session) (more : List Stepped) → ForSome now (λ old. (start : Files) (first : ℕ) (place : Place)
          (begun : IsOpen table schema start first)
          → Running table schema sources statements start first place begun old session steps → (files : Files)
          × (new ≡ Some files) × Running table schema sources statements start first place begun files after more)
          → RunsFrom table schema sources statements place initial new after more
      goes after more each start told current begun =
          let made = running start told current begun in
          each made.0 made.1 start current place begun made.2

      pub stopped : AllByRecursion (λ (s : Statement). branch_of s ≡ codes "main") statements → KeepsFiles now new
          → is_some (slice_get statements session.place.at) ≡ true → (more : List Stepped) (before after : ℕ) (fault : RunFault)
          → ForSome now (λ old. (start : Files) (first : ℕ) (place : Place) (begun : IsOpen table schema start first)
          → (running : Running table schema sources statements start first place begun old session steps) → (files : Files) × (new ≡ Some files)
          × (ended : Ended table schema sources statements start first place begun files session.place more before after fault)
          × (ended.last ≡ running.last))
          → ForSome now (λ old. (s : Statement) → slice_get statements session.place.at ≡ Some s → CannotStep table schema s old fault)
          → ((number statement : ℕ) → fault ≡ run.Unknown number statement → (number ≡ session.place.session) × (statement ≡ session.place.at))
          → ForSome initial (λ start. (current : ℕ) (begun : IsOpen table schema start current) → (files : Files) × (new ≡ Some files) × IsOutcome table schema sources statements start current place begun files more before after (Some fault))
      stopped main kept at_hand more before after fault ends why which start told current begun =
          let made = running start told current begun in
          let left = ends made.0 made.1 start current place begun made.2 in
          let hand = some_of (slice_get statements session.place.at) at_hand in (
            left.0,
            left.1,
            record {
              to = session.place;
              ended = left.2;
              at_hand = at_hand_of session.place fault which;
              cause = cause_stands table schema sources statements start current place begun made.0 left.0
                  (keeps now new made.0 left.0 made.1 left.1 kept) made.2.last made.2.still more session.place before after fault left.2 left.3
                  (is_of_outside table schema hand.0 made.0 made.2.last
                  (all_at (λ (s : Statement). branch_of s ≡ codes "main") statements session.place.at hand.0 main hand.1) made.2.still fault
                  (why made.0 made.1 hand.0 hand.1));
            },
          )
