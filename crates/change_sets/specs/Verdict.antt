-- What may stand between a statement's plan and its commit (Iceberg specification, "Commit Conflict Resolution and Retry"; of
-- the isolation levels, "Write properties", `write.delete.isolation-level`). A rule that forbids the commit names a file, or
-- the branch.
use Rattle.std.specs.Prelude.{ℕ, Bool, true, false, not, ◌||◌, if◌then◌else◌, List, [], ◌∷◌, Option, Some, None}
use Rattle.std.specs.Cmp.Lexicographic.{slice_cmp}
use Rattle.std.specs.Ordering.{nat_cmp, is_lt}
use Rattle.manifest_files.specs.declared.entry.Entry.{Entry}
use Rattle.change_sets.specs.declared.said.Said.{Said}
use Rattle.change_sets.specs.declared.said.Said.TheVariants as said
use Rattle.change_sets.specs.declared.rule.Rule.{Rule}
use Rattle.change_sets.specs.declared.rule.Rule.TheVariants.{V0, V1, V2}
use Rattle.table_state.specs.declared.live_set.BranchState.{BranchState}
use Rattle.table_state.specs.declared.live_set.BranchState.TheVariants as state
use Rattle.table_state.specs.Live.{data_files_of}
use Rattle.change_sets.specs.declared.change.Plan.{Plan}
use Rattle.change_sets.specs.Laid.{without}

-- ---- the file that is named: the one of the least path in byte order

abbrev pub lower : Option (List ℕ) → List ℕ → List ℕ
lower None path = path
lower (Some other) path = if is_lt (slice_cmp nat_cmp path other) then path else other

-- the least of this path, where there is one, and those of the entries
unfoldable pub least_from : Option (List ℕ) → List Entry → Option (List ℕ)
least_from least [] = least
least_from least (entry ∷ entries) = least_from (Some (lower least entry.path)) entries

abbrev pub least_path : List Entry → Option (List ℕ)
least_path entries = least_from None entries

-- ---- the rules

abbrev pub conflict_by : Rule → Option (List ℕ) → Said
conflict_by rule None = said.Good
conflict_by rule (Some name) = said.Conflict rule name

-- The branch stands against the statement.
abbrev pub of_branch : Bool → List ℕ → Said
of_branch against branch = conflict_by V0 (if against then Some branch else None)

-- A file that the statement read is none of the head's.
abbrev pub lost : List Entry → List Entry → Said
lost depended head = conflict_by V2 (least_path (without head depended))

-- The head has a file that the statement did not see, which may hold a row of its filter.
abbrev pub gained : Bool → List Entry → List Entry → Said
gained serializable base head = if serializable then conflict_by V1 (least_path (without base head)) else said.Good

abbrev pub or_else : Said → Said → Said
or_else said.Good next = next
or_else (said.Conflict rule name) next = said.Conflict rule name

abbrev pub of_files : Bool → List Entry → List Entry → List Entry → Said
of_files serializable depended base head = or_else (lost depended head) (gained serializable base head)

abbrev pub is_absent : BranchState → Bool
is_absent state.Absent = true
is_absent state.Empty = false
is_absent (state.Head snapshot manifests live) = false

-- A branch that is made must be absent, and any other present. A statement that depends on no row asks for no more.
abbrev pub verdict : Plan → List Entry → List Entry → BranchState → Said
verdict plan depended base head =
    if plan.creates then of_branch (not (is_absent head)) plan.branch
    else if is_absent head || plan.only_branch then of_branch (is_absent head) plan.branch
    else of_files plan.serializable depended base (data_files_of head)
