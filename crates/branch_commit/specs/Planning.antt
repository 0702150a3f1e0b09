-- What a plan of a statement brings (Iceberg specification, "Optimistic Concurrency"; SQL standard, "Data manipulation"): on
-- the branch at the current version, the change that the statement makes there, whose new files are put, or why it is refused.
use Rattle.std.specs.Prelude.{◌≡◌, ◌≢◌, ◌⊎◌, true, false, ℕ, List, Option, Some, Ok, Err, length, IsTrue}
use Rattle.std.specs.List.{list_all}
use Rattle.row_values.specs.declared.schema.Column.{Column}
use Rattle.row_values.specs.declared.schema.TableSchema.{TableSchema}
use Rattle.sql_predicates.specs.Positions.{pred_is_within}
use Rattle.sql_statements.specs.declared.effect.SqlRefusal.{SqlRefusal}
use Rattle.sql_statements.specs.declared.statement.Source.{Source}
use Rattle.sql_statements.specs.declared.statement.Statement.{Statement}
use Rattle.sql_statements.specs.Effects.{refusal}
use Rattle.sql_statements.specs.Filter.{filter_of}
use Rattle.sql_statements.specs.Fits.{source_is_wide, statement_is_within}
use Rattle.sql_statements.specs.Kinds.{source_has_rows, statement_fits}
use Rattle.sql_statements.specs.Tables.{branch_of}
use Rattle.store_core.specs.Files.{Files}
use Rattle.table_names.specs.declared.names.Names.{Names}
use Rattle.table_metadata.specs.Metadata.{parts}
use Rattle.table_names.specs.Versions.{version_name}
use Rattle.table_state.specs.declared.load_fault.LoadFault.{LoadFault}
use Rattle.table_state.specs.declared.load_fault.LoadFault.TheVariants as load
use Rattle.table_state.specs.Files.{current_schema}
use Rattle.table_state.specs.Live.{data_files_of}
use Rattle.table_state.specs.declared.state.State.{State}
use Rattle.change_sets.specs.declared.scanned.ScannedFile.{ScannedFile}
use Rattle.table_scan.specs.Scanning.{scanned_at}
use Rattle.cow_writer.specs.Copies.{behind, files_after, pieces_in}
use Rattle.change_sets.specs.Deciding.{written_of}
use Rattle.cow_writer.specs.Reading.{AreShort}
use Rattle.table_scan.specs.Decisions.{hit_rows}
use Rattle.branch_commit.specs.Committing.{IsPlanned, IsScanned, change_by, columns_of, decided_by, filter_on}
use Rattle.row_values.specs.Rows.{AreRows}
use Rattle.branch_commit.specs.Current.{IsCurrent, current_branch}
use Rattle.change_sets.specs.Verdict.{is_absent}
use Rattle.branch_commit.specs.declared.outcome.Outcome.{Outcome}
use Rattle.branch_commit.specs.declared.outcome.Outcome.TheVariants as outcome
use Rattle.branch_commit.specs.declared.outcome.Pending.{Pending}
use Rattle.branch_commit.specs.declared.outcome.PlanFault.{PlanFault}
use Rattle.branch_commit.specs.declared.outcome.PlanFault.TheVariants as fault
use Rattle.branch_commit.specs.declared.outcome.Planned.{Planned}
use Rattle.branch_commit.specs.Plans.{plan_of}

-- the positions and the kinds of the statement are those of the columns, as where it was read by them
pub record IsOfColumns (columns : List Column) (sources : List Source) (s : Statement) : Type 0 where
  pub within : IsTrue (statement_is_within (length columns) sources s)
  pub filters : IsTrue (pred_is_within (length columns) (filter_of (length columns) s))
  pub fits : IsTrue (statement_fits columns sources s)
  pub wide : IsTrue (list_all source_is_wide sources)
  pub rows : IsTrue (list_all source_has_rows sources)

-- The version has the schema.
abbrev pub HasSchema : State → TableSchema → Type 0
HasSchema base schema = current_schema (parts base.metadata) ≡ Ok schema

-- ---- of a statement whose new files are put under these names
module _ (sources : List Source) (s : Statement) (names : Names) where
  -- It is not refused, and the new files of its change are put.
  pub record IsReady (base : State) (old : Files) (new : Option Files) (after : Names) (pending : Pending) : Type 0 where
    pub read : pending.base ≡ base
    pub fixed : pending.plan ≡ plan_of base s
    pub scanned : List ScannedFile
    pub planned : IsPlanned base sources s scanned old
    pub change : pending.change ≡ change_by base scanned sources s names
    pub rows : AreRows (columns_of base) (written_of scanned (decided_by base scanned sources s))
    pub short : AreShort (columns_of base) (pieces_in base scanned (decided_by base scanned sources s))
    pub files : new ≡ Some (files_after base scanned (decided_by base scanned sources s) names old)
    pub rest : after ≡ behind (length (pieces_in base scanned (decided_by base scanned sources s))) names

  -- It is refused for the rows that its filter hits.
  pub record IsRefused (base : State) (old : Files) (new : Option Files) (after : Names) (why : SqlRefusal) : Type 0 where
    pub scanned : List ScannedFile
    pub hit : IsScanned base s scanned old
    pub refused : refusal (columns_of base) sources s (hit_rows scanned) ≡ Some why
    pub files : new ≡ Some old
    pub rest : after ≡ names

  -- what comes of it on this branch, and the files and the names that are left
  abbrev pub IsOutcome : State → Files → Option Files → Names → Outcome → Type 0
  IsOutcome base old new after outcome.NoBranch = (is_absent base.head ≡ true) × (new ≡ Some old) × (after ≡ names)
  IsOutcome base old new after (outcome.Refused why) = (is_absent base.head ≡ false) × IsRefused base old new after why
  IsOutcome base old new after (outcome.Ready pending) = (is_absent base.head ≡ false) × IsReady base old new after pending

  -- the branch was loaded at the current version, and this came of it
  pub record IsPlannedAt (table : List ℕ) (schema : TableSchema) (old : Files) (new : Option Files) (after : Names) (planned : Planned) : Type 0 where
    pub base : State
    pub loaded : IsCurrent table (branch_of s) old base
    pub by_schema : HasSchema base schema
    pub at : planned.version ≡ base.version
    pub is : IsOutcome base old new after planned.outcome

-- ---- why a statement can't be planned

-- its branch can't be loaded, or its data files can't be read
abbrev pub CannotRead : List ℕ → Statement → Files → LoadFault → Type 0
CannotRead table s old f =
    (current_branch table (branch_of s) old ≡ Err f)
    ⊎ ((base : State) × IsCurrent table (branch_of s) old base × (scanned_at base.table (parts base.metadata) (filter_on base s) (data_files_of base.head) old ≡ Err f))

-- or the version has another schema
abbrev pub CannotPlan : List ℕ → TableSchema → Statement → Files → PlanFault → Type 0
CannotPlan table schema s old (fault.Load f) = f ≢ load.Store → f ≢ load.Memory → CannotRead table s old f
CannotPlan table schema s old (fault.Schema name) = (base : State) × IsCurrent table (branch_of s) old base × (HasSchema base schema → ⊥) × (name ≡ version_name table base.version)
