-- A session that is alone on a table meets no conflict, step by step.
use Rattle.std.proofs.Common.{◌≡◌, ◌&&◌, not, ℕ, true, List, [], ◌∷◌, refl, sym, ap, ◌∙◌, subst}
use Rattle.std.specs.List.{list_all}
use Rattle.std.proofs.lemmas.Bool.{and_parts}
use Rattle.sql_statements.specs.declared.statement.Source.{Source}
use Rattle.sql_statements.specs.declared.statement.Statement.{Statement}
use Rattle.store_core.specs.Files.{Files}
use Rattle.session_machine.specs.declared.event.Stepped.{Stepped}
use Rattle.session_machine.specs.declared.place.Phase.TheVariants as phase
use Rattle.session_machine.specs.declared.place.Place.{Place}
use Rattle.session_machine.specs.Plans.{is_creation}
use Rattle.schedule_runner.specs.Conflicts.{is_its_own, meets_none}
use Rattle.schedule_runner.specs.Runs.{IsRun}
use Rattle.schedule_runner.proofs.TurnsAlone.{IsAlone, own_meets_none, turn_alone}

abbrev all_own : List Stepped → Type 0
all_own steps = list_all (λ (stepped : Stepped). is_its_own stepped.answer) steps ≡ true

abbrev all_meet_none : List Stepped → Type 0
all_meet_none steps = list_all (λ (stepped : Stepped). meets_none stepped.answer) steps ≡ true

none_of_own : (steps : List Stepped) → all_own steps → all_meet_none steps
none_of_own [] own = refl
none_of_own (stepped ∷ steps) own =
    let both = and_parts (is_its_own stepped.answer) (list_all (λ (one : Stepped). is_its_own one.answer) steps) own in
    ap (λ b. b && list_all (λ (one : Stepped). meets_none one.answer) steps) (own_meets_none stepped.answer both.0)
    ∙ none_of_own steps both.1

module _ (table : List ℕ) (sources : List Source) (files : Files) (statements : List Statement) (changes : list_all (λ s. not (is_creation s)) statements ≡ true) where
  -- from a place where it is alone
  run_alone : (steps : List Stepped) (current last : ℕ) (place to : Place)
      → IsAlone table sources files statements current place place.phase
      → IsRun table sources files statements current place steps last to → all_own steps
  unfolding IsRun
  run_alone [] current last place to alone run = refl
  run_alone (stepped ∷ steps) current last place to alone run =
      let gone = turn_alone table sources files statements current place changes alone run.0 run.1 in
      let own : is_its_own stepped.answer ≡ true = ap (λ (one : Stepped). is_its_own one.answer) (sym run.2) ∙ gone.1 in
      ap (λ b. b && list_all (λ (one : Stepped). is_its_own one.answer) steps) own
      ∙ run_alone steps run.0.current last run.0.place to gone.0 run.3

  -- from the plan of a statement
  pub answers_its_own : (current : ℕ) (place : Place) (steps : List Stepped) (last : ℕ) (to : Place) → place.phase ≡ phase.Plan
      → IsRun table sources files statements current place steps last to → all_own steps
  answers_its_own current place steps last to at_plan run = run_alone steps current last place to (subst (IsAlone table sources files statements current place) (sym at_plan) tt) run

  pub meets_no_conflict : (current : ℕ) (place : Place) (steps : List Stepped) (last : ℕ) (to : Place) → place.phase ≡ phase.Plan
      → IsRun table sources files statements current place steps last to → all_meet_none steps
  meets_no_conflict current place steps last to at_plan run = none_of_own steps (answers_its_own current place steps last to at_plan run)
