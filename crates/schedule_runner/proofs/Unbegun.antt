-- A run whose first names can't be had leaves the table as it was.
use Rattle.std.proofs.Common.{◌≡◌, ◌⊎◌, inl, inr, ℕ, List, [], Option, Some, subst, sym, ◌∙◌}
use Rattle.std.specs.Option.{ForSome}
use Rattle.row_values.specs.declared.schema.TableSchema.{TableSchema}
use Rattle.sql_statements.specs.declared.statement.Source.{Source}
use Rattle.sql_statements.specs.declared.statement.Statement.{Statement}
use Rattle.store_core.specs.Files.{Files}
use Rattle.session_steps.specs.Open.{IsOpen}
use Rattle.session_steps.specs.declared.fault.RunFault.{RunFault}
use Rattle.session_steps.specs.declared.fault.RunFault.TheVariants as run
use Rattle.schedule_runner.specs.Outcome.{IsOutcome, first_place}
use Rattle.schedule_runner.proofs.Outcomes.{unbegun}

module _ (table : List ℕ) (schema : TableSchema) (sources : List Source) (statements : List Statement) (number : ℕ) (old new : Option Files) (same : new ≡ old) where
  pub by_fault : (before now : ℕ) (fault : RunFault) → (fault ≡ run.Store) ⊎ (fault ≡ run.Memory)
      → ForSome old (λ start. (current : ℕ) (begun : IsOpen table schema start current) → (files : Files) × (new ≡ Some files)
      × IsOutcome table schema sources statements start current (first_place number) begun files [] before now (Some fault))
  by_fault before now fault (inl is) start told current begun =
      (start, same ∙ told, subst (λ (f : RunFault). IsOutcome table schema sources statements start current (first_place number) begun start [] before now (Some f)) (sym is) (unbegun table schema sources statements start current (first_place number) begun before now run.Store tt tt))
  by_fault before now fault (inr is) start told current begun =
      (start, same ∙ told, subst (λ (f : RunFault). IsOutcome table schema sources statements start current (first_place number) begun start [] before now (Some f)) (sym is) (unbegun table schema sources statements start current (first_place number) begun before now run.Memory tt tt))
