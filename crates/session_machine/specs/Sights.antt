-- What a statement meets in the versions of a table (SQL standard, "Data manipulation"; Iceberg specification, "Snapshots",
-- "Scan Planning" and "Commit Conflict Resolution and Retry"): the answer that it has at once on a version, and the verdict on
-- it, planned on one version, against another. Each is a value, or why the files don't say it.
use Rattle.std.specs.Prelude.{ℕ, Bool, true, false, ◌&&◌, if◌then◌else◌, List, [], ◌∷◌, length, map, Option, Some, option_map, slice_get, Result, Ok}
use Rattle.std.specs.List.{list_all}
use Rattle.plain_types.specs.Steps.{◌>>=◌, by_option}
use Rattle.row_values.specs.declared.schema.Column.{Column}
use Rattle.row_values.specs.declared.value.Value.{Value}
use Rattle.sql_statements.specs.declared.effect.Effect.{Effect}
use Rattle.sql_statements.specs.declared.effect.Effect.TheVariants.{Keep, Remove, Replace}
use Rattle.sql_statements.specs.declared.effect.SqlRefusal.{SqlRefusal}
use Rattle.sql_statements.specs.declared.effect.SqlRefusal.TheVariants as refused
use Rattle.sql_statements.specs.declared.statement.Source.{Source}
use Rattle.sql_statements.specs.declared.statement.Statement.{Statement}
use Rattle.sql_statements.specs.Effects.{effect, insertions, refusal}
use Rattle.sql_statements.specs.Filter.{filter_of}
use Rattle.sql_statements.specs.NewRows.{NewRow}
use Rattle.sql_statements.specs.Tables.{branch_of}
use Rattle.store_core.specs.Files.{Files}
use Rattle.manifest_files.specs.declared.entry.Entry.{Entry}
use Rattle.session_machine.specs.declared.answer.Answer.{Answer}
use Rattle.session_machine.specs.declared.answer.Answer.TheVariants as answer
use Rattle.change_sets.specs.declared.said.Said.{Said}
use Rattle.table_metadata.specs.Metadata.{Parts}
use Rattle.table_state.specs.declared.live_set.BranchState.{BranchState}
use Rattle.table_state.specs.declared.load_fault.LoadFault.{LoadFault}
use Rattle.table_state.specs.Files.{current_schema, version_at}
use Rattle.table_state.specs.Live.{branch_at, data_files_of, rows_at}
use Rattle.change_sets.specs.Scanned.{entry_of}
use Rattle.table_scan.specs.Scanning.{scanned_at}
use Rattle.change_sets.specs.Verdict.{is_absent, verdict}
use Rattle.session_machine.specs.Plans.{plan_by}

-- ---- why it is refused

-- the name of the column at this position
abbrev pub name_of_column : List Column → ℕ → List ℕ
name_of_column columns at = by_option (slice_get columns at) (λ column. column.name) []

abbrev pub refused_as : List Column → SqlRefusal → Answer
refused_as columns refused.Cardinality = answer.Cardinality
refused_as columns refused.Overflow = answer.Overflow
refused_as columns (refused.Null at) = answer.Null (name_of_column columns at)

-- on a branch of these rows
abbrev pub answer_on : List Source → Statement → List Column → List (List Value) → Option Answer
answer_on sources s columns rows = option_map (refused_as columns) (refusal columns sources s rows)

-- ---- what it does to rows

abbrev pub is_keep : Effect → Bool
is_keep Keep = true
is_keep Remove = false
is_keep (Replace row) = false

abbrev pub inserts_none : List NewRow → Bool
inserts_none [] = true
inserts_none (row ∷ rows) = false

-- The statement keeps each of these rows, and inserts none.
abbrev pub keeps_all : List Source → Statement → List Column → List (List Value) → Bool
keeps_all sources s columns rows = list_all (λ row. is_keep (effect sources s row)) rows && inserts_none (insertions (length columns) sources s rows)

-- ---- over the files

module _ (table : List ℕ) (sources : List Source) (s : Statement) (files : Files) where
  -- at its plan, where the version has these parts and its branch is so
  abbrev pub answer_of_branch : Parts → BranchState → Result (Option Answer) LoadFault
  answer_of_branch parts head =
      if is_absent head then Ok (Some (answer.NoBranch (branch_of s)))
      else (current_schema parts >>= λ schema. rows_at table parts (branch_of s) files >>= λ rows. Ok (answer_on sources s schema.columns rows))

  -- the answer that the statement has on a version, where it has one at once
  unfoldable pub plan_answer : ℕ → Result (Option Answer) LoadFault
  plan_answer version = version_at table version files >>= λ parts. branch_at table parts (branch_of s) files >>= λ head. answer_of_branch parts head

  -- the data files of the branch that hold a row of which its filter is True
  abbrev pub depended_on : Parts → BranchState → Result (List Entry) LoadFault
  depended_on parts head = do
    schema ← current_schema parts
    scanned ← scanned_at table parts (filter_of (length schema.columns) s) (data_files_of head) files
    Ok (map entry_of scanned)

  -- planned on one version, against another
  unfoldable pub verdict_at : ℕ → ℕ → Result Said LoadFault
  verdict_at planned version = do
    base_parts ← version_at table planned files
    base ← branch_at table base_parts (branch_of s) files
    depended ← depended_on base_parts base
    parts ← version_at table version files
    head ← branch_at table parts (branch_of s) files
    Ok (verdict (plan_by planned base_parts.properties s) depended (data_files_of base) head)

  -- whether it keeps each row of the version that it was planned on, and inserts none
  unfoldable pub keeps_at : ℕ → Result Bool LoadFault
  keeps_at planned = do
    parts ← version_at table planned files
    schema ← current_schema parts
    rows ← rows_at table parts (branch_of s) files
    Ok (keeps_all sources s schema.columns rows)
