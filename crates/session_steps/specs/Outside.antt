-- Faults of a step that are none of the table's (Iceberg specification, "Sequence Numbers" and "Snapshots"): the store failed,
-- memory ran out, or the current version, of this name, has no next one.
use Rattle.std.specs.Prelude.{◌≡◌, false, ℕ, codes, List}
use Rattle.store_core.specs.Files.{Files}
use Rattle.table_names.specs.Versions.{version_name}
use Rattle.table_state.specs.declared.state.State.{State}
use Rattle.branch_commit.specs.Current.{IsCurrent}
use Rattle.branch_commit.specs.Next.{has_numbers}
use Rattle.session_steps.specs.declared.fault.RunFault.{RunFault}
use Rattle.session_steps.specs.declared.fault.RunFault.TheVariants as run

abbrev pub IsOfOutside : List ℕ → Files → ℕ → RunFault → Type 0
IsOfOutside table files current run.Store = Unit {0}
IsOfOutside table files current (run.Unknown session statement) = Unit {0}
IsOfOutside table files current run.Memory = Unit {0}
IsOfOutside table files current (run.Limit name) = (head : State) × IsCurrent table (codes "main") files head × (has_numbers head ≡ false) × (name ≡ version_name table current)
IsOfOutside table files current (run.Table fault) = ⊥
IsOfOutside table files current (run.Schema name) = ⊥
