-- A session that begins is running, and a step that is made keeps it so.
use Rattle.std.proofs.Common.{◌≡◌, ◌≤◌, ℕ, codes, true, List, [], ◌∷◌, ◌++◌, Option, Some, None, Result, Ok, ⊎_elim, refl, sym, ap, subst, ◌∙◌, slice_get, inl, inr, arith}
use Rattle.std.specs.List.{AllByRecursion}
use Rattle.std.proofs.lemmas.Grind.{flat_map-append}
use Rattle.plain_types.specs.Steps.{by_option}
use Rattle.plain_types.proofs.CallerLemmas.{SameBag-refl}
use Rattle.row_values.specs.declared.schema.Column.{Column}
use Rattle.row_values.specs.declared.schema.TableSchema.{TableSchema}
use Rattle.row_values.specs.declared.value.Value.{Value}
use Rattle.sql_statements.specs.declared.statement.Source.{Source}
use Rattle.sql_statements.specs.declared.statement.Statement.{Statement}
use Rattle.sql_statements.specs.Serial.{Told}
use Rattle.sql_statements.specs.Tables.{branch_of, is_dml}
use Rattle.store_core.specs.Files.{Files, KeepsFiles}
use Rattle.session_machine.specs.declared.answer.Answer.TheVariants as answer
use Rattle.session_machine.specs.declared.event.Stepped.{Stepped}
use Rattle.table_names.specs.Versions.{version_of_name, version_prefix}
use Rattle.table_state.specs.declared.load_fault.LoadFault.{LoadFault}
use Rattle.table_state.proofs.CallerLemmas.{rows_of_branch_stand}
use Rattle.session_machine.specs.declared.place.Phase.TheVariants as phase
use Rattle.session_machine.specs.declared.place.Place.{Place}
use Rattle.session_machine.specs.Machine.{Turned, rests, turn, turn_of}
use Rattle.session_steps.specs.Open.{IsOpen}
use Rattle.session_steps.specs.declared.session.Session.{Session}
use Rattle.session_steps.specs.declared.fault.RunFault.{RunFault}
use Rattle.session_steps.specs.Steps.{EndsOf, InPhase, IsCarriedOut, IsHeld, IsHeldOf, IsStep, LeavesRows}
use Rattle.session_steps.proofs.CallerLemmas.{all_at}
use Rattle.schedule_runner.specs.Running.{ArePassed, Ended, Finished, IsPassed, Running}
use Rattle.schedule_runner.specs.Runs.{IsRun, IsSerial, told_at, told_by, told_in}
use Rattle.schedule_runner.proofs.RunLaws.{goes_on, run_stands}
use Rattle.schedule_runner.proofs.SerialLaws.{carries_on}
use Rattle.schedule_runner.proofs.TurnLaws.{stays, tells}

-- an open table has its rows once
rows_once : (table : List ℕ) (schema : TableSchema) (files : Files) (current : ℕ) (one other : IsOpen table schema files current) → one.rows ≡ other.rows
rows_once table schema files current one other =
    let same : ◌≡◌ {A = Result (List (List Value)) LoadFault} (Ok one.rows) (Ok other.rows) = sym one.told ∙ other.told in
    cc

higher : (low middle high : ℕ) → low ≤ middle → middle ≤ high → low ≤ high
higher low middle high h k = omega (arith, h, k)

-- before its plan a session has nothing of any statement
pub idle : (table : List ℕ) (schema : TableSchema) (sources : List Source) (files : Files) (session : Session)
    (found : Option Statement) → session.place.phase ≡ phase.Plan → IsHeldOf table schema sources files session found
idle table schema sources files session None is = tt
idle table schema sources files session (Some s) is = subst (InPhase table schema sources s files session) (sym is) tt

-- a list that ends with one of those of a longer one is a front of its front
shorter : {X : Type 0} (front : List X) (x : X) (rest steps : List X) (last : X) → front ++ (x ∷ rest) ≡ steps ++ last ∷ []
    → (before : List X) × (front ++ before ≡ steps)
shorter [] x rest steps last e = (steps, refl)
shorter (f ∷ front) x rest [] last e = absurd (not_empty front x rest (tail_of e))
  where
    tail_of : f ∷ (front ++ (x ∷ rest)) ≡ last ∷ [] → front ++ (x ∷ rest) ≡ []
    tail_of e = cc

    not_empty : {X : Type 0} (front : List X) (x : X) (rest : List X) → front ++ (x ∷ rest) ≡ [] → ⊥
    not_empty [] x rest e = absurd cc
    not_empty (f ∷ front) x rest e = absurd cc
shorter (f ∷ front) x rest (y ∷ steps) last e =
    let same : f ≡ y = cc in
    let more : front ++ (x ∷ rest) ≡ steps ++ last ∷ [] = cc in
    let found = shorter front x rest steps last more in
    (found.0, ap (λ z. z ∷ (front ++ found.0)) same ∙ ap (λ xs. y ∷ xs) found.1)

no_front : {X : Type 0} (front rest : List X) → front ++ rest ≡ [] → front ≡ []
no_front [] rest e = refl
no_front (f ∷ front) rest e = absurd cc

all_of : {X : Type 0} (xs : List X) → xs ++ [] ≡ xs
all_of [] = refl
all_of (x ∷ xs) = ap (λ ys. x ∷ ys) (all_of xs)

-- nothing was carried out
pub serial_begins : (columns : List Column) (sources : List Source) (rows : List (List Value)) → IsSerial columns sources rows [] rows
serial_begins columns sources rows = record { schema = refl; branches = (refl, SameBag-refl rows, tt) }

module _ (table : List ℕ) (schema : TableSchema) (sources : List Source) (statements : List Statement) (start : Files) (first : ℕ) (place : Place) (begun : IsOpen table schema start first) where
  -- ---- on the way

  passed_stands : (old new : Files) → KeepsFiles (Some old) (Some new) → (steps : List Stepped)
      → IsPassed table schema sources statements start first place begun old steps
      → IsPassed table schema sources statements start first place begun new steps
  passed_stands old new kept steps is = record {
    version = is.version;
    to = is.to;
    run = run_stands table sources old new statements kept steps first is.version place is.to is.run;
    rows = is.rows;
    told = rows_of_branch_stand old new kept table is.version (codes "main") is.rows is.told;
    serial_rows = is.serial_rows;
  }

  pub all_stand : (old new : Files) → KeepsFiles (Some old) (Some new) → (steps : List Stepped)
      → ArePassed table schema sources statements start first place begun old steps
      → ArePassed table schema sources statements start first place begun new steps
  all_stand old new kept steps way front rest e = passed_stands old new kept front (way front rest e)

  pub one_more : (files : Files) (steps : List Stepped) (stepped : Stepped)
      → ArePassed table schema sources statements start first place begun files steps
      → IsPassed table schema sources statements start first place begun files (steps ++ stepped ∷ [])
      → ArePassed table schema sources statements start first place begun files (steps ++ stepped ∷ [])
  one_more files steps stepped way is front [] e = subst (IsPassed table schema sources statements start first place begun files) (sym e ∙ all_of front) is
  one_more files steps stepped way is front (x ∷ rest) e =
      let found = shorter front x rest steps stepped e in
      way front found.0 found.1

  -- before its first step
  begins_passed : (steps : List Stepped) → [] ≡ steps → IsPassed table schema sources statements start first place begun start steps
  unfolding IsRun
  begins_passed steps e = subst (IsPassed table schema sources statements start first place begun start) e (record {
    version = first;
    to = place;
    run = (refl, refl);
    rows = begun.rows;
    told = begun.told;
    serial_rows = serial_begins schema.columns sources begun.rows;
  })

  pub way_begins : ArePassed table schema sources statements start first place begun start []
  way_begins front rest e = begins_passed front (sym (no_front front rest e))

  pub begins : (session : Session) → session.place ≡ place → IsHeld table schema sources statements start session
      → Running table schema sources statements start first place begun start session []
  unfolding IsRun
  begins session at held = record {
    last = first;
    up = omega arith;
    below = λ name is_version most. refl;
    still = begun;
    run = (refl, sym at);
    serial_rows = serial_begins schema.columns sources begun.rows;
    held = held;
    way = way_begins;
  }

  -- and behind its last one
  pub finishes : (files : Files) (session : Session) (steps : List Stepped)
      → Running table schema sources statements start first place begun files session steps
      → slice_get statements session.place.at ≡ None
      → Finished table schema sources statements start first place begun files steps
  finishes files session steps running through = record {
    last = running.last;
    up = running.up;
    below = running.below;
    to = session.place;
    still = running.still;
    run = running.run;
    serial_rows = running.serial_rows;
    way = running.way;
    through = through;
  }

module _ (table : List ℕ) (schema : TableSchema) (sources : List Source) (statements : List Statement) (changes : AllByRecursion (λ (s : Statement). is_dml s ≡ true) statements) (main : AllByRecursion (λ (s : Statement). branch_of s ≡ codes "main") statements)
    (start : Files) (first : ℕ) (place : Place) (begun : IsOpen table schema start first) where
  -- the step of a statement
  module _ (old new : Files) (kept : KeepsFiles (Some old) (Some new)) (session : Session) (steps : List Stepped) (running : Running table schema sources statements start first place begun old session steps) (s : Statement) (at_hand : slice_get statements session.place.at ≡ Some s) where
    turned_by : (turned : Turned) → turn_of table sources old running.last session.place s session.place.phase ≡ Ok turned
        → turn table sources old running.last session.place statements ≡ Ok turned
    unfolding turn
    turned_by turned is = ap (λ (found : Option Statement). by_option found (λ x. turn_of table sources old running.last session.place x session.place.phase) (Ok (rests running.last session.place))) at_hand ∙ is

    pub goes : (after : Session) (stepped : Stepped)
        → IsStep table schema sources s old new running.last session.place after stepped
        → Running table schema sources statements start first place begun new after (steps ++ stepped ∷ [])
    goes after stepped step =
        let turned : Turned = record { current = step.next; place = after.place; stepped = stepped } in
        let told : told_in statements (steps ++ stepped ∷ []) ≡ told_in statements steps ++ told_by s stepped.answer =
        flat_map-append (told_at statements) steps (stepped ∷ []) ∙ ap (λ (xs : List Told). told_in statements steps ++ xs) (all_of (told_at statements stepped) ∙ tells table sources old running.last session.place s statements turned at_hand step.turned) in
        let made : IsRun table sources new statements first place (steps ++ stepped ∷ []) step.next after.place =
        run_stands table sources old new statements kept (steps ++ stepped ∷ []) first step.next place after.place (goes_on table sources old statements steps first running.last place session.place turned running.run (turned_by turned step.turned)) in
        let serial_rows : IsSerial schema.columns sources begun.rows (told_in statements (steps ++ stepped ∷ [])) step.still.rows =
        subst (λ (xs : List Told). IsSerial schema.columns sources begun.rows xs step.still.rows) (sym told)
        (carries_on schema.columns sources s (all_at (λ (x : Statement). is_dml x ≡ true) statements session.place.at s changes at_hand)
        (all_at (λ (x : Statement). branch_of x ≡ codes "main") statements session.place.at s main at_hand) begun.rows
        (told_in statements steps) stepped.answer running.still.rows step.still.rows running.serial_rows
        (subst (λ (rows : List (List Value)). LeavesRows sources schema.columns s stepped.answer rows step.still.rows) (rows_once table schema old running.last step.was running.still) step.rows)) in
        record {
          last = step.next;
          up = higher first running.last step.next running.up step.up;
          below = λ name is_version most. step.below name is_version (higher (version_of_name (version_prefix table) name) first running.last most running.up) ∙ running.below name is_version most;
          still = step.still;
          run = made;
          serial_rows = serial_rows;
          way =
              one_more table schema sources statements start first place begun new steps stepped (all_stand table schema sources statements start first place begun old new kept steps running.way)
              (record { version = step.next; to = after.place; run = made; rows = step.still.rows; told = step.still.told; serial_rows = serial_rows });
          held =
              ⊎_elim (λ plan. idle table schema sources new after (slice_get statements after.place.at) plan)
              (λ same. subst (IsHeldOf table schema sources new after) (sym (ap (slice_get statements) same ∙ at_hand)) step.held)
              (stays table sources old running.last session.place s turned step.turned);
        }

    -- a step that is not made to its end
    pub ends : (before now : ℕ) (fault : RunFault) → EndsOf table schema sources (Some s) old new running.last session.place before now fault
        → (ended : Ended table schema sources statements start first place begun new session.place steps before now fault) × (ended.last ≡ running.last)
    ends before now fault either = (
      record {
        last = running.last;
        up = running.up;
        below = λ name is_version most.
            (let low : version_of_name (version_prefix table) name ≤ running.last = higher (version_of_name (version_prefix table) name) first running.last most running.up in
            ⊎_elim (λ same. same.below name is_version low) (λ flight. flight.1.below name is_version low) either)
            ∙ running.below name is_version most;
        run = run_stands table sources old new statements kept steps first running.last place session.place running.run;
        left =
            ⊎_elim
            (λ same. inl (record {
              still = same.still;
              serial_rows = subst (IsSerial schema.columns sources begun.rows (told_in statements steps)) (rows_once table schema old running.last running.still same.was ∙ sym same.rows) running.serial_rows;
            }))
            (λ flight. inr (
              flight.0,
              record {
                s = s;
                at_hand = at_hand;
                saw = flight.1.saw;
                next = flight.1.next;
                serial_rows =
                    carries_on schema.columns sources s (all_at (λ (x : Statement). is_dml x ≡ true) statements session.place.at s changes at_hand)
                    (all_at (λ (x : Statement). branch_of x ≡ codes "main") statements session.place.at s main at_hand) begun.rows
                    (told_in statements steps) (Some (answer.Committed 0)) running.still.rows flight.1.next.rows running.serial_rows
                    (subst (λ (rows : List (List Value)). IsCarriedOut sources schema.columns s rows flight.1.next.rows) (rows_once table schema old running.last flight.1.was running.still) flight.1.rows);
              },
            ))
            either;
        way = all_stand table schema sources statements start first place begun old new kept steps running.way;
      },
      refl,
    )
