-- A branch at the current version of its table (Iceberg specification, "File System Tables" and "Snapshots").
use Rattle.std.specs.Prelude.{◌≡◌, ℕ, List, Some, Result}
use Rattle.plain_types.specs.Steps.{◌>>=◌, or_fault}
use Rattle.store_core.specs.Files.{Files}
use Rattle.table_names.specs.Versions.{version_of}
use Rattle.table_state.specs.declared.live_set.BranchState.{BranchState}
use Rattle.table_state.specs.declared.load_fault.LoadFault.{LoadFault}
use Rattle.table_state.specs.declared.load_fault.LoadFault.TheVariants as fault
use Rattle.table_state.specs.Live.{live_of}
use Rattle.table_state.specs.declared.state.State.{State}
use Rattle.table_state.specs.States.{IsStateOf}

-- the branch, or why it can't be said
abbrev pub current_branch : List ℕ → List ℕ → Files → Result BranchState LoadFault
current_branch table branch files = or_fault (fault.Missing table) (version_of table files) >>= λ version. live_of table version branch files

-- the branch as it was loaded
pub record IsCurrent (table : List ℕ) (branch : List ℕ) (files : Files) (loaded : State) : Type 0 where
  pub current : version_of table files ≡ Some loaded.version
  pub state : IsStateOf table loaded.version branch files loaded
