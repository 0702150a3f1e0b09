-- The step in which a statement plans is the machine's: it answers a statement that is refused, or leaves what is to be validated.
use Rattle.std.proofs.Common.{◌≡◌, ◌≤◌, ◌<◌, ◌+◌, ◌^◌, ℕ, codes, true, false, List, Option, Some, None, Result, Ok, option_map, refl, sym, ap, subst, ◌∙◌, arith}
use Rattle.std.specs.FinMap as map
use Rattle.plain_types.specs.Steps.{◌>>=◌}
use Rattle.row_values.specs.declared.schema.Column.{Column}
use Rattle.row_values.specs.declared.schema.TableSchema.{TableSchema}
use Rattle.row_values.specs.declared.value.Value.{Value}
use Rattle.sql_statements.specs.declared.effect.SqlRefusal.{SqlRefusal}
use Rattle.sql_statements.specs.declared.effect.SqlRefusal.TheVariants as refused
use Rattle.sql_statements.specs.declared.statement.Source.{Source}
use Rattle.sql_statements.specs.declared.statement.Statement.{Statement}
use Rattle.sql_statements.specs.Effects.{refusal}
use Rattle.sql_statements.specs.Tables.{branch_of}
use Rattle.store_core.specs.Files.{Files, KeepsFiles}
use Rattle.table_names.specs.declared.names.Names.{Names}
use Rattle.table_names.specs.FileNames.{NoneFrom, data_name}
use Rattle.session_machine.specs.declared.answer.Answer.{Answer}
use Rattle.session_machine.specs.declared.answer.Answer.TheVariants as answer
use Rattle.session_machine.specs.declared.event.Stepped.{Stepped}
use Rattle.table_names.specs.Versions.{version_of_name, version_prefix}
use Rattle.table_state.specs.declared.load_fault.LoadFault.{LoadFault}
use Rattle.table_state.specs.declared.state.State.{State}
use Rattle.change_sets.specs.declared.scanned.ScannedFile.{ScannedFile}
use Rattle.change_sets.specs.Verdict.{is_absent}
use Rattle.cow_writer.specs.PutNames.{PutsDataFiles}
use Rattle.table_scan.specs.Decisions.{hit_rows}
use Rattle.branch_commit.specs.Committing.{IsScanned, columns_of}
use Rattle.commit_builder.specs.NextVersion.{AreNames}
use Rattle.branch_commit.specs.Current.{IsCurrent}
use Rattle.session_machine.specs.declared.place.Phase.TheVariants as phase
use Rattle.session_machine.specs.declared.place.Phase.{Phase}
use Rattle.session_machine.specs.declared.place.Place.{Place}
use Rattle.session_machine.specs.Machine.{Turned, plan_turn, turn_of}
use Rattle.session_machine.specs.Sights.{plan_answer, refused_as}
use Rattle.branch_commit.specs.declared.outcome.Outcome.{Outcome}
use Rattle.branch_commit.specs.declared.outcome.Outcome.TheVariants as outcome
use Rattle.branch_commit.specs.declared.outcome.Pending.{Pending}
use Rattle.branch_commit.specs.declared.outcome.Planned.{Planned}
use Rattle.branch_commit.specs.Planning.{HasSchema, IsOutcome, IsPlannedAt, IsReady, IsRefused}
use Rattle.session_steps.proofs.NoVersions.{of_data}
use Rattle.session_steps.proofs.StaysOpen.{stays_open}
use Rattle.session_steps.specs.Open.{IsOpen}
use Rattle.session_steps.specs.Work.{IsPending}
use Rattle.session_steps.proofs.Loaded.{columns_are}
use Rattle.session_steps.proofs.PlansFound.{is_absent_at, is_found, version_same}
use Rattle.session_steps.specs.declared.session.Session.{Session}
use Rattle.session_steps.specs.Choices.{answer_of, pending_of}
use Rattle.session_steps.specs.Steps.{HasPending, InPhase, IsStep, LeavesRows}

-- ---- rows

-- the answers at a plan leave them
module _ (sources : List Source) (columns : List Column) (s : Statement) (rows : List (List Value)) where
  no_branch_leaves : (said : Option Answer) → said ≡ Some (answer.NoBranch (branch_of s)) → LeavesRows sources columns s said rows rows
  no_branch_leaves said is = subst (λ (a : Option Answer). LeavesRows sources columns s a rows rows) (sym is) refl

  none_leaves : (said : Option Answer) → said ≡ None → LeavesRows sources columns s said rows rows
  none_leaves said is = subst (λ (a : Option Answer). LeavesRows sources columns s a rows rows) (sym is) refl

  refusal_leaves : (why : SqlRefusal) → LeavesRows sources columns s (Some (refused_as columns why)) rows rows
  refusal_leaves refused.Cardinality = refl
  refusal_leaves refused.Overflow = refl
  refusal_leaves (refused.Null at) = refl

  refused_leaves : (why : SqlRefusal) (said : Option Answer) → said ≡ Some (refused_as columns why) → LeavesRows sources columns s said rows rows
  refused_leaves why said is = subst (λ (a : Option Answer). LeavesRows sources columns s a rows rows) (sym is) (refusal_leaves why)

-- ---- places

module _ (table : List ℕ) (schema : TableSchema) (sources : List Source) (s : Statement) (files : Files) (session : Session) where
  at_plan : session.place.phase ≡ phase.Plan → InPhase table schema sources s files session session.place.phase
  at_plan is = subst (λ (p : Phase). InPhase table schema sources s files session p) (sym is) tt

  at_validate : session.place.phase ≡ phase.Validate → HasPending table schema sources s files session
      → InPhase table schema sources s files session session.place.phase
  at_validate is held = subst (λ (p : Phase). InPhase table schema sources s files session p) (sym is) held

-- ---- the step

module _ (table : List ℕ) (schema : TableSchema) (sources : List Source) (s : Statement) (old : Files) (current : ℕ) (is : IsOpen table schema old current) (place : Place) (session : Session) (stepped : Stepped) (plans : place.phase ≡ phase.Plan) where
  -- by what the machine answers
  turns : (said : Option Answer) → plan_answer table sources s old current ≡ Ok said
      → plan_turn current place said ≡ record { current = current; place = session.place; stepped = stepped }
      → turn_of table sources old current place s place.phase ≡ Ok (record { current = current; place = session.place; stepped = stepped })
  turns said answered turned =
      ap (λ (p : Phase). turn_of table sources old current place s p) plans
      ∙ ap (λ (r : Result (Option Answer) LoadFault). r >>= λ answer. Ok (plan_turn current place answer)) answered
      ∙ ap Ok turned

  -- where it answers the files are as they were
  module _ (said : Answer) (answered : plan_answer table sources s old current ≡ Ok (Some said)) (turned : plan_turn current place (Some said) ≡ record { current = current; place = session.place; stepped = stepped }) where
    says : stepped.answer ≡ Some said
    says = ap (λ (t : Turned). t.stepped.answer) (sym turned)

    answers_it : LeavesRows sources schema.columns s stepped.answer is.rows is.rows → IsStep table schema sources s old old current place session stepped
    answers_it rows = record {
      was = is;
      next = current;
      up = omega arith;
      below = λ name version most. refl;
      turned = turns (Some said) answered turned;
      still = is;
      rows = rows;
      held = at_plan table schema sources s old session (ap (λ (t : Turned). t.place.phase) (sym turned));
    }

  -- where it goes on only data files are new
  module _ (later : Files) (kept : KeepsFiles (Some old) (Some later)) (names : Names) (others : PutsDataFiles table names (Some old) (Some later)) where
    no_version : (name : List ℕ) → 0 < version_of_name (version_prefix table) name → (other : List ℕ) → name ≡ other
        → version_of_name (version_prefix table) other ≡ 0 → ⊥
    no_version name version other same none = let none_of : version_of_name (version_prefix table) name ≡ 0 = ap (version_of_name (version_prefix table)) same ∙ none in omega arith

    same_versions : (name : List ℕ) → 0 < version_of_name (version_prefix table) name → map.get later name ≡ map.get old name
    same_versions name version = others name (λ n from is_data. no_version name version (data_name table names.run names.session n) is_data (of_data table names.session names.run n))

    stays : (still : IsOpen table schema later current) × (still.rows ≡ is.rows)
    stays = stays_open table schema old later current is kept same_versions

    goes_on_with : plan_answer table sources s old current ≡ Ok None
        → plan_turn current place None ≡ record { current = current; place = session.place; stepped = stepped }
        → (pending : Pending) → session.pending ≡ Some pending → pending.base.version ≡ current
        → IsPending table schema sources s later pending → IsStep table schema sources s old later current place session stepped
    goes_on_with answered turned pending held at work = record {
      was = is;
      next = current;
      up = omega arith;
      below = λ name version most. same_versions name version;
      turned = turns None answered turned;
      still = stays.0;
      rows = subst (λ (rows : List (List Value)). LeavesRows sources schema.columns s stepped.answer is.rows rows) (sym stays.1) (none_leaves sources schema.columns s is.rows stepped.answer (ap (λ (t : Turned). t.stepped.answer) (sym turned)));
      held = at_validate table schema sources s later session (ap (λ (t : Turned). t.place.phase) (sym turned)) (record {
        pending = pending;
        held = held;
        planned = ap (λ (t : Turned). t.place.planned) (sym turned) ∙ sym at;
        work = work;
      });
    }

-- what a plan leaves to be validated
module _ (table : List ℕ) (schema : TableSchema) (sources : List Source) (s : Statement) (old : Files) (current : ℕ) (is : IsOpen table schema old current) (names after : Names) (new : Option Files) (base : State) (pending : Pending) (later : Files) (told : new ≡ Some later) where
  pends : base.version ≡ current → IsCurrent table (branch_of s) old base → is_absent base.head ≡ false → HasSchema base schema
      → IsReady sources s names base old new after pending → AreNames names → names.next < 2 ^ 126
      → after.next ≤ names.next + 2 ^ 64 → NoneFrom table names.run names.session names.next old
      → KeepsFiles (Some old) (Some later) → IsOpen table schema later current → IsPending table schema sources s later pending
  pends version loaded there by_schema ready named room few free kept still =
      let at : pending.base.version ≡ current = ap (λ (b : State). b.version) ready.read ∙ version in
      record {
        old = old;
        put = later;
        names = names;
        after = after;
        was = subst (λ (v : ℕ). IsOpen table schema old v) (sym at) is;
        loaded = subst (λ (b : State). IsCurrent table (branch_of s) old b) (sym ready.read) loaded;
        there = ap (λ (b : State). is_absent b.head) ready.read ∙ there;
        by_schema = subst (λ (b : State). HasSchema b schema) (sym ready.read) by_schema;
        ready = subst (λ (b : State). IsReady sources s names b old (Some later) after pending) (sym ready.read) (subst (λ (files : Option Files). IsReady sources s names base old files after pending) told ready);
        named = named;
        room = room;
        few = few;
        free = free;
        kept = kept;
        stays = λ name bytes there. there;
        newest = still.newest ∙ ap Some (sym at);
      }

-- the step by what comes of the plan
module _ (table : List ℕ) (schema : TableSchema) (sources : List Source) (s : Statement) (main : branch_of s ≡ codes "main") (old : Files)
    (current : ℕ) (is : IsOpen table schema old current) (place : Place) (session : Session) (stepped : Stepped) (plans : place.phase ≡ phase.Plan)
    (names after : Names) (new : Option Files) (named : AreNames names) (room : names.next < 2 ^ 126) (few : after.next ≤ names.next + 2 ^ 64)
    (free : NoneFrom table names.run names.session names.next old) (kept : KeepsFiles (Some old) new)
    (others : PutsDataFiles table names (Some old) new) where
  abbrev Steps : Type 0
  Steps = (later : Files) × (new ≡ Some later) × IsStep table schema sources s old later current place session stepped

  abbrev Turns : ℕ → Option Answer → Type 0
  Turns version said = plan_turn version place said ≡ record { current = version; place = session.place; stepped = stepped }

  module _ (base : State) (loaded : IsCurrent table (branch_of s) old base) (by_schema : HasSchema base schema) where
    version : base.version ≡ current
    version = version_same table schema s old current base is loaded

    -- what the machine answers for the rows that are hit
    answered : (scanned : List ScannedFile) → is_absent base.head ≡ false → IsScanned base s scanned old
        → (why : Option SqlRefusal) → refusal (columns_of base) sources s (hit_rows scanned) ≡ why
        → plan_answer table sources s old current ≡ Ok (option_map (refused_as schema.columns) why)
    answered scanned present scan why refuses =
        is_found table schema s old current base is loaded sources main scanned present scan
        ∙ ap (λ (columns : List Column). Ok (option_map (refused_as schema.columns) (refusal columns sources s (hit_rows scanned)))) (sym (columns_are base schema by_schema))
        ∙ ap (λ (refuse : Option SqlRefusal). Ok (option_map (refused_as schema.columns) refuse)) refuses

    without_branch : is_absent base.head ≡ true → Turns current (Some (answer.NoBranch (branch_of s)))
        → IsStep table schema sources s old old current place session stepped
    without_branch absent turned =
        answers_it table schema sources s old current is place session stepped plans (answer.NoBranch (branch_of s))
        (is_absent_at table schema s old current base is loaded sources absent)
        turned
        (no_branch_leaves sources schema.columns s is.rows stepped.answer (ap (λ (t : Turned). t.stepped.answer) (sym turned)))

    with_refusal : (why : SqlRefusal) → is_absent base.head ≡ false → IsRefused sources s names base old new after why
        → Turns current (Some (refused_as schema.columns why))
        → IsStep table schema sources s old old current place session stepped
    with_refusal why present refuses turned =
        answers_it table schema sources s old current is place session stepped plans (refused_as schema.columns why)
        (answered refuses.scanned present refuses.hit (Some why) refuses.refused)
        turned
        (refused_leaves sources schema.columns s is.rows why stepped.answer (ap (λ (t : Turned). t.stepped.answer) (sym turned)))

    with_pending : (pending : Pending) → is_absent base.head ≡ false → IsReady sources s names base old new after pending
        → (later : Files) → new ≡ Some later → Turns current None → session.pending ≡ Some pending
        → IsStep table schema sources s old later current place session stepped
    with_pending pending present ready later told turned held =
        let keeps : KeepsFiles (Some old) (Some later) = subst (λ (files : Option Files). KeepsFiles (Some old) files) told kept in
        let leaves : PutsDataFiles table names (Some old) (Some later) = subst (λ (files : Option Files). PutsDataFiles table names (Some old) files) told others in
        let still : IsOpen table schema later current = (stays table schema sources s old current is place session stepped plans later keeps names leaves).0 in
        goes_on_with table schema sources s old current is place session stepped plans later keeps names leaves
        (answered ready.scanned present ready.planned.reads None ready.planned.accepted)
        turned pending held (ap (λ (b : State). b.version) ready.read ∙ version)
        (pends table schema sources s old current is names after new base pending later told version loaded present by_schema ready named room few free keeps still)

    by_outcome : (came : Outcome) → IsOutcome sources s names base old new after came
        → Turns current (answer_of schema.columns s came) → session.pending ≡ pending_of came → Steps
    by_outcome outcome.NoBranch came turned held = (old, came.1, without_branch came.0 turned)
    by_outcome (outcome.Refused why) came turned held = (old, came.1.files, with_refusal why came.0 came.1 turned)
    by_outcome (outcome.Ready pending) came turned held = (_, came.1.files, with_pending pending came.0 came.1 _ came.1.files turned held)

  pub plan_steps : (planned : Planned) → IsPlannedAt sources s names table schema old new after planned
      → Turns planned.version (answer_of schema.columns s planned.outcome) → session.pending ≡ pending_of planned.outcome → Steps
  plan_steps planned found turned held =
      by_outcome found.base found.loaded found.by_schema planned.outcome found.is
      (subst (λ (v : ℕ). Turns v (answer_of schema.columns s planned.outcome)) (found.at ∙ version_same table schema s old current found.base is found.loaded) turned)
      held
