-- What a statement decides for the rows that its filter hits (SQL standard, "Data manipulation"; Iceberg specification,
-- "Row-level Deletes"): for each what the statement does with it, and the rows that the statement inserts.
use Rattle.std.specs.Prelude.{ℕ, List, map, filter}
use Rattle.std.specs.List.{flat_map}
use Rattle.row_values.specs.declared.value.Value.{Value}
use Rattle.sql_statements.specs.declared.effect.Effect.{Effect}
use Rattle.sql_statements.specs.declared.effect.Effect.TheVariants as effects
use Rattle.sql_statements.specs.declared.statement.Source.{Source}
use Rattle.sql_statements.specs.declared.statement.Statement.{Statement}
use Rattle.sql_statements.specs.Effects.{effect, insertions}
use Rattle.sql_statements.specs.NewRows.{row_of}
use Rattle.change_sets.specs.declared.scanned.Decision.{Decision}
use Rattle.change_sets.specs.declared.scanned.Decision.TheVariants as decisions
use Rattle.change_sets.specs.declared.scanned.Decisions.{Decisions}
use Rattle.change_sets.specs.declared.scanned.ScannedFile.{ScannedFile}
use Rattle.change_sets.specs.Scanned as scanned_rows
use Rattle.table_scan.specs.Scanning.{is_hit}

-- the decision that has this effect
abbrev pub decision_by : Effect → Decision
decision_by effects.Keep = decisions.Keep
decision_by effects.Remove = decisions.Remove
decision_by (effects.Replace row) = decisions.Replace (row_of row)

-- for one row
unfoldable pub decision_for : List Source → Statement → List Value → Decision
decision_for sources s row = decision_by (effect sources s row)

-- the rows that are hit, file by file, by position
abbrev pub hit_in : ScannedFile → List (List Value)
hit_in file = map scanned_rows.row_of (filter is_hit file.rows)

abbrev pub hit_rows : List ScannedFile → List (List Value)
hit_rows scanned = flat_map hit_in scanned

-- the decisions on a branch of these rows, which have so many columns
abbrev pub decisions_of : List Source → Statement → ℕ → List ScannedFile → List (List Value) → Decisions
decisions_of sources s width scanned rows = record {
  rows = map (decision_for sources s) (hit_rows scanned);
  inserted = map row_of (insertions width sources s rows);
}
