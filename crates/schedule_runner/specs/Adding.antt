-- The files that a run adds (Iceberg specification, "File System Tables"; ours are the names).
use Rattle.std.specs.Prelude.{◌≡◌, ◌≤◌, ◌⊎◌, ℕ, List}
use Rattle.std.specs.FinMap as map
use Rattle.store_core.specs.Files.{Files}
use Rattle.table_names.specs.FileNames.{data_name, metadata_name}
use Rattle.table_names.specs.Runs.{IsFreshRun}
use Rattle.table_names.specs.Versions.{version_of_name, version_prefix}

-- the name of a data file, a manifest or a list of this session in this run, whose files are numbered from 1 on
abbrev pub IsOfSession : List ℕ → ℕ → List ℕ → List ℕ → Type 0
IsOfSession table run session name = (n : ℕ) × (1 ≤ n) × ((name ≡ data_name table run session n) ⊎ (name ≡ metadata_name table run session n))

-- The run has the least number that no file of the table bore, and each name is as it was but those of its session and of versions.
pub record Adds (table session : List ℕ) (old new : Files) : Type 0 where
  pub run : ℕ
  pub fresh : IsFreshRun table old run
  pub others : (name : List ℕ) → (IsOfSession table run session name → ⊥) → version_of_name (version_prefix table) name ≡ 0 → map.get new name ≡ map.get old name

-- a run that stops before it knows its number adds nothing
abbrev pub AddsAtMost : List ℕ → List ℕ → Files → Files → Type 0
AddsAtMost table session old new = (new ≡ old) ⊎ Adds table session old new
