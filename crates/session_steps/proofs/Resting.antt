-- Where only files of the session come, the table stays as it was.
use Rattle.std.proofs.Common.{◌≡◌, ◌≢◌, ◌<◌, ◌≤◌, ℕ, List, Option, Some, None, Ok, refl, sym, ap, subst, ◌∙◌, inl, arith}
use Rattle.std.specs.FinMap as map
use Rattle.plain_types.specs.Steps.{◌>>=◌, fault_as, or_fault}
use Rattle.row_values.specs.declared.schema.TableSchema.{TableSchema}
use Rattle.sql_statements.specs.declared.statement.Source.{Source}
use Rattle.sql_statements.specs.declared.statement.Statement.{Statement}
use Rattle.store_core.specs.Files.{Files, KeepsFiles, bytes_of}
use Rattle.table_names.specs.declared.names.Names.{Names}
use Rattle.table_names.specs.FileNames.{data_name, metadata_name}
use Rattle.table_metadata.specs.Metadata.{Parts, metadata_of}
use Rattle.table_names.specs.Versions.{version_name, version_of_name, version_prefix}
use Rattle.table_state.specs.declared.load_fault.LoadFault.{LoadFault}
use Rattle.table_state.specs.declared.load_fault.LoadFault.TheVariants as fault
use Rattle.table_state.specs.Files.{version_at}
use Rattle.session_steps.proofs.NoVersions.{of_data, of_metadata}
use Rattle.session_steps.proofs.StaysOpen.{stays_open}
use Rattle.session_machine.specs.declared.place.Place.{Place}
use Rattle.session_steps.specs.Open.{IsOpen}
use Rattle.session_steps.specs.declared.fault.RunFault.{RunFault}
use Rattle.session_steps.specs.Steps.{EndsOf, IsAsBefore, LeavesOthers, LeavesRest}

-- ---- the files that are put

-- each name is as it was but these from a number on
abbrev LeavesBut : (ℕ → List ℕ) → ℕ → Option Files → Option Files → Type 0
LeavesBut put from old new = (q : List ℕ) → ((n : ℕ) → from ≤ n → q ≢ put n) → bytes_of new q ≡ bytes_of old q

pub by_data : (table : List ℕ) (names : Names) (old new : Option Files)
    → LeavesBut (data_name table names.run names.session) names.next old new → LeavesRest table names old new
by_data table names old new others q no_data no_metadata = others q no_data

pub by_metadata : (table : List ℕ) (names : Names) (old new : Option Files)
    → LeavesBut (metadata_name table names.run names.session) names.next old new → LeavesRest table names old new
by_metadata table names old new others q no_data no_metadata = others q no_metadata

-- the same of a step that may add a version
pub rest_of : (table : List ℕ) (names : Names) (old new : Option Files) → LeavesRest table names old new → LeavesOthers table names old new
rest_of table names old new rest q no_data no_metadata none = rest q no_data no_metadata

-- ---- what is told stays told

held_by : (q : List ℕ) (f : LoadFault) (held : Parts) (found : Option (List ℕ))
    → (or_fault f found >>= λ bytes. fault_as fault.Metadata (metadata_of bytes)) ≡ Ok held → (bytes : List ℕ)
    × (found ≡ Some bytes)
held_by q f held (Some bytes) e = (bytes, refl)
held_by q f held None e = absurd cc

-- the file of the current version
current_file : (table : List ℕ) (schema : TableSchema) (files : Files) (current : ℕ) → IsOpen table schema files current
    → (bytes : List ℕ) × (map.get files (version_name table current) ≡ Some bytes)
unfolding version_at
current_file table schema files current was = held_by (version_name table current) (fault.Missing (version_name table current)) was.held (map.get files (version_name table current)) was.read

is_told : (q bytes : List ℕ) (new : Option Files) → bytes_of new q ≡ Some bytes → (later : Files) × (new ≡ Some later)
is_told q bytes (Some later) e = (later, refl)
is_told q bytes None e = absurd cc

-- ---- the table

module _ (table : List ℕ) (schema : TableSchema) (files : Files) (current : ℕ) (names : Names) (was : IsOpen table schema files current) where
  not_of : (q put : List ℕ) → 0 < version_of_name (version_prefix table) q → version_of_name (version_prefix table) put ≡ 0 → q ≡ put → ⊥
  not_of q put is_version none same =
      let none_is : version_of_name (version_prefix table) q ≡ 0 = ap (version_of_name (version_prefix table)) same ∙ none in
      omega arith

  as_before : (later : Files) → KeepsFiles (Some files) (Some later) → LeavesRest table names (Some files) (Some later)
      → IsAsBefore table schema files later current
  as_before later kept rest =
      let same = λ (q : List ℕ) (is_version : 0 < version_of_name (version_prefix table) q). rest q
      (λ n above. not_of q (data_name table names.run names.session n) is_version (of_data table names.session names.run n))
      (λ n above. not_of q (metadata_name table names.run names.session n) is_version (of_metadata table names.session names.run n)) in
      let still = stays_open table schema files later current was kept same in
      record { was = was; below = λ q is_version most. same q is_version; still = still.0; rows = still.1 }

  pub ends_as_before : (sources : List Source) (s : Statement) (place : Place) (before now : ℕ) (f : RunFault) (found : Option Statement) (old new : Option Files)
      → found ≡ Some s → old ≡ Some files → KeepsFiles old new → LeavesRest table names old new
      → (later : Files) × (new ≡ Some later) × EndsOf table schema sources found files later current place before now f
  ends_as_before sources s place before now f found old new found_is told kept rest =
      let here = current_file table schema files current was in
      let there = is_told (version_name table current) here.0 new (kept (version_name table current) here.0 (ap (λ (o : Option Files). bytes_of o (version_name table current)) told ∙ here.1)) in
      let kept_so = subst (λ (o : Option Files). KeepsFiles (Some files) o) there.1 (subst (λ (o : Option Files). KeepsFiles o new) told kept) in
      let rest_so = subst (λ (o : Option Files). LeavesRest table names (Some files) o) there.1 (subst (λ (o : Option Files). LeavesRest table names o new) told rest) in
      (there.0, there.1, subst (λ (o : Option Statement). EndsOf table schema sources o files there.0 current place before now f) (sym found_is) (inl (as_before there.0 kept_so rest_so)))
