-- Why a step can't be made, by why its part can't.
use Rattle.std.proofs.Common.{◌≡◌, ◌≢◌, ℕ, List, Option, Some, Result, Err, IfErr, inl, sym, subst}
use Rattle.row_values.specs.declared.schema.TableSchema.{TableSchema}
use Rattle.sql_statements.specs.declared.statement.Source.{Source}
use Rattle.sql_statements.specs.declared.statement.Statement.{Statement}
use Rattle.sql_statements.specs.Tables.{branch_of}
use Rattle.store_core.specs.Files.{Files}
use Rattle.table_state.specs.declared.load_fault.LoadFault.TheVariants as load
use Rattle.branch_commit.specs.declared.found.CommitFault.{CommitFault}
use Rattle.branch_commit.specs.declared.found.CommitFault.TheVariants as commit
use Rattle.branch_commit.specs.Validation.{CannotValidate}
use Rattle.change_sets.specs.declared.change.Plan.{Plan}
use Rattle.branch_commit.specs.declared.outcome.Pending.{Pending}
use Rattle.branch_commit.specs.declared.outcome.PlanFault.{PlanFault}
use Rattle.branch_commit.specs.declared.outcome.PlanFault.TheVariants as plan
use Rattle.branch_commit.specs.Planning.{CannotPlan}
use Rattle.session_steps.specs.declared.fault.RunFault.{RunFault}
use Rattle.session_steps.specs.declared.fault.RunFault.TheVariants as run
use Rattle.session_steps.specs.declared.session.Session.{Session}
use Rattle.session_steps.specs.Faults.{CannotStep, commit_fault, plan_fault}
use Rattle.session_steps.specs.Steps.{HasPending, LeftBy}

module _ (table : List ℕ) (schema : TableSchema) (s : Statement) (files : Files) where
  of_plan : (f : PlanFault) → CannotPlan table schema s files f → CannotStep table schema s files (plan_fault f)
  of_plan (plan.Load load.Store) why = tt
  of_plan (plan.Load load.Memory) why = tt
  of_plan (plan.Load (load.Missing path)) why = why (λ e. absurd cc) (λ e. absurd cc)
  of_plan (plan.Load (load.Outside path)) why = why (λ e. absurd cc) (λ e. absurd cc)
  of_plan (plan.Load (load.Metadata fault)) why = why (λ e. absurd cc) (λ e. absurd cc)
  of_plan (plan.Load (load.Manifest path fault)) why = why (λ e. absurd cc) (λ e. absurd cc)
  of_plan (plan.Load (load.Container path fault)) why = why (λ e. absurd cc) (λ e. absurd cc)
  of_plan (plan.Load (load.Rows path fault)) why = why (λ e. absurd cc) (λ e. absurd cc)
  of_plan (plan.Schema name) why = why

  pub by_plan : (f : PlanFault) (fault : RunFault) → fault ≡ plan_fault f → CannotPlan table schema s files f → CannotStep table schema s files fault
  by_plan f fault is why = subst (λ (r : RunFault). CannotStep table schema s files r) (sym is) (of_plan f why)

  of_commit : (f : CommitFault) → CannotValidate table (branch_of s) files f → CannotStep table schema s files (commit_fault f)
  of_commit (commit.Load load.Store) why = tt
  of_commit (commit.Load load.Memory) why = tt
  of_commit (commit.Load (load.Missing path)) why = inl (why (λ e. absurd cc) (λ e. absurd cc))
  of_commit (commit.Load (load.Outside path)) why = inl (why (λ e. absurd cc) (λ e. absurd cc))
  of_commit (commit.Load (load.Metadata fault)) why = inl (why (λ e. absurd cc) (λ e. absurd cc))
  of_commit (commit.Load (load.Manifest path fault)) why = inl (why (λ e. absurd cc) (λ e. absurd cc))
  of_commit (commit.Load (load.Container path fault)) why = inl (why (λ e. absurd cc) (λ e. absurd cc))
  of_commit (commit.Load (load.Rows path fault)) why = inl (why (λ e. absurd cc) (λ e. absurd cc))
  of_commit (commit.Limit name) why = why

  same_pending : (a b : Pending) (o : Option Pending) → o ≡ Some a → o ≡ Some b → a ≡ b
  same_pending a b o h k = cc

  pub by_commit : (sources : List Source) (session : Session) (pending : Pending) → session.pending ≡ Some pending
      → HasPending table schema sources s files session → (f : CommitFault) (fault : RunFault) → fault ≡ commit_fault f
      → CannotValidate table pending.plan.branch files f → CannotStep table schema s files fault
  by_commit sources session pending held has f fault is why =
      let ours = subst (λ (p : Pending). CannotValidate table p.plan.branch files f) (same_pending pending has.pending session.pending held has.held) why in
      let planned = subst (λ (p : Plan). CannotValidate table p.branch files f) has.work.ready.fixed ours in
      subst (λ (r : RunFault). CannotStep table schema s files r) (sym is) (of_commit f planned)

  pub by_swap : (name bytes : List ℕ) (old new : Option Files) (before now : ℕ) (fault : RunFault) → LeftBy name bytes old new before now fault → CannotStep table schema s files fault
  by_swap name bytes old new before now run.Store left = tt
  by_swap name bytes old new before now (run.Unknown number statement) left = tt
  by_swap name bytes old new before now run.Memory left = tt
  by_swap name bytes old new before now (run.Table why) left = absurd left
  by_swap name bytes old new before now (run.Schema which) left = absurd left
  by_swap name bytes old new before now (run.Limit which) left = absurd left

module _ (table : List ℕ) (schema : TableSchema) (files : Files) (found : Option Statement) where
  same_statement : (a b : Statement) → found ≡ Some a → found ≡ Some b → a ≡ b
  same_statement a b h k = cc

  pub at_hand : (a s : Statement) → found ≡ Some a → found ≡ Some s → (fault : RunFault) → CannotStep table schema a files fault
      → CannotStep table schema s files fault
  at_hand a s first second fault why = subst (λ (x : Statement). CannotStep table schema x files fault) (same_statement a s first second) why
