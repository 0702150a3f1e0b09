-- What the steps of a session leave, of names that begin at 1 in a fresh run, is what a run adds.
use Rattle.std.proofs.Common.{◌≡◌, ℕ, List, Option, Some, None, is_some, arith, refl, subst, inl, inr}
use Rattle.store_core.specs.Files.{Files}
use Rattle.table_names.specs.declared.names.Names.{Names}
use Rattle.table_names.specs.FileNames.{data_name, metadata_name}
use Rattle.table_names.specs.Runs.{IsFreshRun}
use Rattle.session_steps.specs.Steps.{LeavesOthers}
use Rattle.schedule_runner.specs.Adding.{Adds, AddsAtMost}

module _ (table session : List ℕ) (names : Names) (start : Files) (is : names.session ≡ session) (one : names.next ≡ 1) (fresh : IsFreshRun table start names.run) where
  added : (files : Files) → LeavesOthers table names (Some start) (Some files) → Adds table session start files
  added files others = record {
    run = names.run;
    fresh = fresh;
    others = λ name none no_version.
        others name
        (λ n above e. none (n, omega (arith, above, one), inl (subst (λ (s : List ℕ). name ≡ data_name table names.run s n) is e)))
        (λ n above e. none (n, omega (arith, above, one), inr (subst (λ (s : List ℕ). name ≡ metadata_name table names.run s n) is e)))
        no_version;
  }

  pub adds_by : (old new : Option Files) → old ≡ Some start → is_some new ≡ is_some old → LeavesOthers table names old new
      → (files : Files) × (new ≡ Some files) × AddsAtMost table session start files
  adds_by old (Some files) told same others = (files, refl, inr (added files (subst (λ (o : Option Files). LeavesOthers table names o (Some files)) told others)))
  adds_by old None told same others = absurd cc
