-- Only a swap may end without it being known whether it won.
use Rattle.std.proofs.Common.{◌≡◌, ℕ, Err, IsErrOf}
use Rattle.session_machine.specs.declared.event.Stepped.{Stepped}
use Rattle.table_state.specs.declared.load_fault.LoadFault.{LoadFault}
use Rattle.table_state.specs.declared.load_fault.LoadFault.TheVariants as load
use Rattle.branch_commit.specs.declared.found.CommitFault.{CommitFault}
use Rattle.branch_commit.specs.declared.found.CommitFault.TheVariants as commit
use Rattle.branch_commit.specs.declared.outcome.PlanFault.{PlanFault}
use Rattle.branch_commit.specs.declared.outcome.PlanFault.TheVariants as plan
use Rattle.session_steps.specs.declared.fault.RunFault.{RunFault}
use Rattle.session_steps.specs.declared.fault.RunFault.TheVariants as run
use Rattle.session_steps.specs.Faults.{commit_fault, load_fault, plan_fault}

of_load : (f : LoadFault) (number statement : ℕ) → load_fault f ≡ run.Unknown number statement → ⊥
of_load load.Store number statement e = absurd cc
of_load load.Memory number statement e = absurd cc
of_load other number statement e = absurd cc

pub of_plan : (f : PlanFault) (fault : RunFault) (number statement : ℕ) → fault ≡ plan_fault f
    → IsErrOf {T = Stepped} (Err fault) (run.Unknown number statement) → ⊥
of_plan (plan.Load f) fault number statement is e = of_load f number statement cc
of_plan (plan.Schema name) fault number statement is e = absurd cc

pub of_commit : (f : CommitFault) (fault : RunFault) (number statement : ℕ) → fault ≡ commit_fault f
    → IsErrOf {T = Stepped} (Err fault) (run.Unknown number statement) → ⊥
of_commit (commit.Load f) fault number statement is e = of_load f number statement cc
of_commit (commit.Limit name) fault number statement is e = absurd cc
