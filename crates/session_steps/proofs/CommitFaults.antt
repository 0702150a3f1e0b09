-- A fault of a validation is one of the store, or of memory, exactly where that of the step is.
use Rattle.std.proofs.Common.{◌≡◌, ℕ, Result, Err, refl, ap}
use Rattle.plain_types.specs.Causes.{HasCause}
use Rattle.table_state.specs.declared.load_fault.LoadFault.TheVariants as load
use Rattle.branch_commit.specs.declared.found.CommitFault.{CommitFault}
use Rattle.branch_commit.specs.declared.found.CommitFault.TheVariants as commit
use Rattle.session_steps.specs.Faults.{commit_fault}
use Rattle.session_steps.specs.declared.fault.RunFault.{RunFault}
use Rattle.session_steps.specs.declared.fault.RunFault.TheVariants as run

store_alone : (fault : CommitFault) → commit_fault fault ≡ run.Store → fault ≡ commit.Load load.Store
store_alone (commit.Load load.Store) e = refl
store_alone (commit.Load load.Memory) e = absurd cc
store_alone (commit.Load (load.Missing path)) e = absurd cc
store_alone (commit.Load (load.Outside path)) e = absurd cc
store_alone (commit.Load (load.Metadata why)) e = absurd cc
store_alone (commit.Load (load.Manifest path why)) e = absurd cc
store_alone (commit.Load (load.Container path why)) e = absurd cc
store_alone (commit.Load (load.Rows path why)) e = absurd cc
store_alone (commit.Limit name) e = absurd cc

memory_alone : (fault : CommitFault) → commit_fault fault ≡ run.Memory → fault ≡ commit.Load load.Memory
memory_alone (commit.Load load.Store) e = absurd cc
memory_alone (commit.Load load.Memory) e = refl
memory_alone (commit.Load (load.Missing path)) e = absurd cc
memory_alone (commit.Load (load.Outside path)) e = absurd cc
memory_alone (commit.Load (load.Metadata why)) e = absurd cc
memory_alone (commit.Load (load.Manifest path why)) e = absurd cc
memory_alone (commit.Load (load.Container path why)) e = absurd cc
memory_alone (commit.Load (load.Rows path why)) e = absurd cc
memory_alone (commit.Limit name) e = absurd cc

one_fault : {Y : Type 0} (a b : RunFault) → ◌≡◌ {A = Result Y RunFault} (Err a) (Err b) → a ≡ b
one_fault a b e = cc

pub cause_stays : {X Y : Type 0} (before now : ℕ) (fault : CommitFault)
    → HasCause {T = X} (commit.Load load.Store) (commit.Load load.Memory) before now (Err fault)
    → HasCause {T = Y} run.Store run.Memory before now (Err (commit_fault fault))
cause_stays before now fault cause = record {
  later = cause.later;
  failed = λ is. cause.failed (ap Err (store_alone fault (one_fault (commit_fault fault) run.Store is)));
  memory = λ is. cause.memory (ap Err (memory_alone fault (one_fault (commit_fault fault) run.Memory is)));
  kept = tt;
}
