-- Runs go on by a step, and stand when files are added.
use Rattle.std.proofs.Common.{◌≡◌, ℕ, List, [], ◌∷◌, ◌++◌, Some, Ok, refl, sym, subst}
use Rattle.sql_statements.specs.declared.statement.Source.{Source}
use Rattle.sql_statements.specs.declared.statement.Statement.{Statement}
use Rattle.store_core.specs.Files.{Files, KeepsFiles}
use Rattle.session_machine.specs.declared.event.Stepped.{Stepped}
use Rattle.session_machine.specs.declared.place.Place.{Place}
use Rattle.session_machine.specs.Machine.{Turned, turn}
use Rattle.session_machine.proofs.CallerLemmas.{turn_stands}
use Rattle.schedule_runner.specs.Runs.{IsRun}

module _ (table : List ℕ) (sources : List Source) (files : Files) (statements : List Statement) where
  one_step : (current last : ℕ) (place to : Place) (turned : Turned) → current ≡ last → place ≡ to
      → turn table sources files last to statements ≡ Ok turned
      → IsRun table sources files statements current place (turned.stepped ∷ []) turned.current turned.place
  unfolding IsRun
  one_step current last place to turned same_version same_place is =
      (turned, subst (λ (c : ℕ). turn table sources files c place statements ≡ Ok turned) (sym same_version) (subst (λ (p : Place). turn table sources files last p statements ≡ Ok turned) (sym same_place) is), refl, (refl, refl))

  pub goes_on : (steps : List Stepped) (current last : ℕ) (place to : Place) (turned : Turned)
      → IsRun table sources files statements current place steps last to → turn table sources files last to statements ≡ Ok turned
      → IsRun table sources files statements current place (steps ++ turned.stepped ∷ []) turned.current turned.place
  unfolding IsRun
  goes_on [] current last place to turned run is = one_step current last place to turned run.0 run.1 is
  goes_on (stepped ∷ steps) current last place to turned run is = (run.0, run.1, run.2, goes_on steps run.0.current last run.0.place to turned run.3 is)

pub run_stands : (table : List ℕ) (sources : List Source) (old new : Files) (statements : List Statement)
    → KeepsFiles (Some old) (Some new) → (steps : List Stepped) (current last : ℕ) (place to : Place)
    → IsRun table sources old statements current place steps last to
    → IsRun table sources new statements current place steps last to
unfolding IsRun
run_stands table sources old new statements kept [] current last place to run = run
run_stands table sources old new statements kept (stepped ∷ steps) current last place to run =
    (run.0, turn_stands old new kept table sources current place statements run.0 run.1, run.2, run_stands table sources old new statements kept steps run.0.current last run.0.place to run.3)
