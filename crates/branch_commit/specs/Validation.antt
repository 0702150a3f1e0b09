-- What validation finds of a statement (Iceberg specification, "Optimistic Concurrency" and "Commit Conflict Resolution and
-- Retry"): the verdict on its branch at the current version, and the next version where nothing stands against it.
use Rattle.std.specs.Prelude.{◌≡◌, ◌≢◌, ℤ, Bool, true, false, ◌&&◌, ℕ, List, Option, Some, Err}
use Rattle.store_core.specs.Files.{Files}
use Rattle.table_names.specs.declared.names.Names.{Names}
use Rattle.manifest_files.specs.declared.entry.Entry.{Entry}
use Rattle.change_sets.specs.declared.said.Said.{Said}
use Rattle.change_sets.specs.declared.said.Said.TheVariants as said
use Rattle.table_names.specs.Versions.{version_name}
use Rattle.table_state.specs.declared.load_fault.LoadFault.TheVariants as load
use Rattle.table_state.specs.declared.state.State.{State}
use Rattle.change_sets.specs.declared.change.ChangeSet.{ChangeSet}
use Rattle.change_sets.specs.declared.change.Plan.{Plan}
use Rattle.commit_builder.specs.declared.commit.Prepared.{Prepared}
use Rattle.commit_builder.specs.Commits.{AreSpelled, drawn, files_after, list_names}
use Rattle.commit_builder.specs.Preparing.{Prepares}
use Rattle.commit_manifests.specs.Sorting.{is_empty}
use Rattle.change_sets.specs.Verdict.{verdict}
use Rattle.branch_commit.specs.declared.found.CommitFault.{CommitFault}
use Rattle.branch_commit.specs.declared.found.CommitFault.TheVariants as fault
use Rattle.branch_commit.specs.declared.found.Found.{Found}
use Rattle.branch_commit.specs.declared.found.Found.TheVariants as finding
use Rattle.branch_commit.specs.declared.found.Validated.{Validated}
use Rattle.branch_commit.specs.Current.{IsCurrent, current_branch}
use Rattle.branch_commit.specs.Next.{has_next, has_numbers}

-- No file is added and none is removed.
abbrev pub is_no_change : ChangeSet → Bool
is_no_change change = is_empty change.removed && (is_empty change.added_data && is_empty change.added_deletes)

-- ---- of a plan and its change, under these names and at this hour of the clock
module _ (plan : Plan) (change : ChangeSet) (names : Names) (now : ℤ) where
  -- The next version is prepared, and all that it names is put.
  pub record IsNext (head : State) (old : Files) (new : Option Files) (after : Names) (prepared : Prepared) : Type 0 where
    pub changes : is_no_change change ≡ false
    pub next : Prepares head plan.branch change names now prepared
    pub spelled : AreSpelled head change names
    pub files : new ≡ Some (files_after head change names old)
    pub rest : after ≡ drawn (list_names head change names)

  -- what is found of a change against which nothing stands
  abbrev pub IsLaid : State → Files → Option Files → Names → Found → Type 0
  IsLaid head old new after (finding.Good prepared) = IsNext head old new after prepared
  IsLaid head old new after finding.Unchanged = (is_no_change change ≡ true) × (new ≡ Some old) × (after ≡ names)
  IsLaid head old new after (finding.Conflict rule name) = ⊥

-- and of a branch that had these data files when it was planned
module _ (plan : Plan) (change : ChangeSet) (base : List Entry) (names : Names) (now : ℤ) where
  -- what is found of a head by the verdict on it, and the files and names that are left
  abbrev pub IsSaid : Said → State → Files → Option Files → Names → Found → Type 0
  IsSaid said.Good head old new after found = IsLaid plan change names now head old new after found
  IsSaid (said.Conflict rule name) head old new after found = (found ≡ finding.Conflict rule name) × (new ≡ Some old) × (after ≡ names)

  abbrev pub IsFound : State → Files → Option Files → Names → Found → Type 0
  IsFound head = IsSaid (verdict plan change.depended base head.head) head

  -- the branch was loaded at the current version, and this was found of it
  pub record IsValidated (table : List ℕ) (old : Files) (new : Option Files) (after : Names) (validated : Validated) : Type 0 where
    pub head : State
    pub loaded : IsCurrent table plan.branch old head
    pub goes_on : has_next head ≡ true
    pub at : validated.version ≡ head.version
    pub is : IsFound head old new after validated.found

-- The branch can't be loaded, or the current version or its sequence number is the last one. Of the store's failures and of want of
-- memory, where there may be no room for an id too, the files say nothing.
abbrev pub CannotValidate : List ℕ → List ℕ → Files → CommitFault → Type 0
CannotValidate table branch old (fault.Load f) = f ≢ load.Store → f ≢ load.Memory → current_branch table branch old ≡ Err f
CannotValidate table branch old (fault.Limit name) = (head : State) × IsCurrent table branch old head × (has_numbers head ≡ false) × (name ≡ version_name table head.version)
