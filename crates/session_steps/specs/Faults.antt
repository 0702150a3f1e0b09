-- The fault of a part of a step as one of the step, of which want of memory is the same, and why a step can't be made (Iceberg
-- specification, "Table Metadata Fields" and "Snapshots").
use Rattle.std.specs.Prelude.{ℕ, List}
use Rattle.row_values.specs.declared.schema.TableSchema.{TableSchema}
use Rattle.sql_statements.specs.declared.statement.Statement.{Statement}
use Rattle.sql_statements.specs.Tables.{branch_of}
use Rattle.store_core.specs.Files.{Files}
use Rattle.table_state.specs.declared.load_fault.LoadFault.{LoadFault}
use Rattle.table_state.specs.declared.load_fault.LoadFault.TheVariants as load
use Rattle.branch_commit.specs.declared.swapping.SwapFault.{SwapFault}
use Rattle.branch_commit.specs.declared.swapping.SwapFault.TheVariants as swap
use Rattle.branch_commit.specs.declared.found.CommitFault.{CommitFault}
use Rattle.branch_commit.specs.declared.found.CommitFault.TheVariants as commit
use Rattle.branch_commit.specs.Validation.{CannotValidate}
use Rattle.branch_commit.specs.declared.outcome.PlanFault.{PlanFault}
use Rattle.branch_commit.specs.declared.outcome.PlanFault.TheVariants as plan
use Rattle.branch_commit.specs.Planning.{CannotPlan, CannotRead}
use Rattle.session_machine.specs.declared.place.Place.{Place}
use Rattle.session_steps.specs.declared.fault.RunFault.{RunFault}
use Rattle.session_steps.specs.declared.fault.RunFault.TheVariants as run

abbrev pub load_fault : LoadFault → RunFault
load_fault load.Store = run.Store
load_fault load.Memory = run.Memory
load_fault other = run.Table other

abbrev pub plan_fault : PlanFault → RunFault
plan_fault (plan.Load fault) = load_fault fault
plan_fault (plan.Schema name) = run.Schema name

abbrev pub commit_fault : CommitFault → RunFault
commit_fault (commit.Load fault) = load_fault fault
commit_fault (commit.Limit name) = run.Limit name

abbrev pub swap_fault : Place → SwapFault → RunFault
swap_fault place swap.Store = run.Store
swap_fault place swap.Unknown = run.Unknown place.session place.at
swap_fault place swap.Memory = run.Memory

-- Over these files the branch of the statement or its data files can't be read, the current version has another schema, or it has
-- no next one. Of the store's failures and of want of memory the files say nothing.
abbrev pub CannotStep : List ℕ → TableSchema → Statement → Files → RunFault → Type 0
CannotStep table schema s files (run.Table fault) = CannotRead table s files fault
CannotStep table schema s files (run.Schema name) = CannotPlan table schema s files (plan.Schema name)
CannotStep table schema s files (run.Limit name) = CannotValidate table (branch_of s) files (commit.Limit name)
CannotStep table schema s files other = Unit {0}
