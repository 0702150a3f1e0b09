-- What each statement does with each row, which rows it inserts, when it is refused, and what it leaves: a function of the
-- rows of its branch (SQL standard, "Data manipulation"; Iceberg's Spark pages, "Writes").
use Rattle.std.specs.Prelude.{ℕ, Bool, false, ◌&&◌, if◌then◌else◌, List, [], ◌∷◌, ◌++◌, map, length, Option, Some, None, unwrap_or, slice_get, Result, Ok, Err}
use Rattle.std.specs.List.{list_any, flat_map}
use Rattle.row_values.specs.declared.value.Value.{Value}
use Rattle.row_values.specs.declared.schema.Column.{Column}
use Rattle.sql_statements.specs.declared.statement.Statement.{Statement}
use Rattle.sql_statements.specs.declared.statement.Statement.TheVariants as statement
use Rattle.sql_statements.specs.declared.statement.Merge.{Merge}
use Rattle.sql_statements.specs.declared.statement.Source.{Source}
use Rattle.sql_statements.specs.declared.effect.Effect.{Effect}
use Rattle.sql_statements.specs.declared.effect.Effect.TheVariants.{Keep, Remove, Replace}
use Rattle.sql_statements.specs.declared.effect.SqlRefusal.{SqlRefusal}
use Rattle.sql_statements.specs.declared.effect.SqlRefusal.TheVariants as refused
use Rattle.sql_statements.specs.NewRows.{NewRow, new_row, updated, overflows, first_null, row_of}
use Rattle.sql_statements.specs.Clauses.{holds_on, nulls, matches, effect_by, insertion, refuses_two, has_two}

-- the source at a position, and one without rows beyond the last
abbrev pub source_at : List Source → ℕ → Source
source_at sources at = unwrap_or (slice_get sources at) (record { columns = []; rows = [] })

abbrev pub merge_effect : Merge → Source → List Value → Effect
merge_effect m source row = effect_by m.clauses row (nulls (length source.columns)) (matches m.on source.rows row)

-- what the statement does with a row of its branch
unfoldable pub effect : List Source → Statement → List Value → Effect
effect sources (statement.Insert branch rows) row = Keep
effect sources (statement.Delete branch filter) row = if holds_on filter row then Remove else Keep
effect sources (statement.Update branch sets filter) row = if holds_on filter row then Replace (updated sets row row) else Keep
effect sources (statement.Merge m) row = merge_effect m (source_at sources m.source) row
effect sources (statement.CreateBranch branch) row = Keep
effect sources (statement.DropBranch branch) row = Keep
effect sources (statement.Select branch filter) row = Keep

abbrev pub merge_insertions : ℕ → Merge → Source → List (List Value) → List NewRow
merge_insertions width m source rows = flat_map (insertion m.on m.clauses rows (nulls width)) source.rows

-- the rows that the statement inserts into a branch of these rows, which have so many columns
abbrev pub insertions : ℕ → List Source → Statement → List (List Value) → List NewRow
insertions width sources (statement.Insert branch tuples) rows = map (new_row []) tuples
insertions width sources (statement.Merge m) rows = merge_insertions width m (source_at sources m.source) rows
insertions width sources _ rows = []

-- two source rows stand for one target row where one must be chosen
abbrev pub is_ambiguous : List Source → Statement → List (List Value) → Bool
is_ambiguous sources (statement.Merge m) rows = refuses_two m.clauses && has_two m.on (source_at sources m.source).rows rows
is_ambiguous sources _ rows = false

abbrev pub replacement : Effect → List NewRow
replacement Keep = []
replacement Remove = []
replacement (Replace row) = row ∷ []

unfoldable pub replacements : List Source → Statement → List Value → List NewRow
replacements sources s row = replacement (effect sources s row)

-- all rows that the statement makes
abbrev pub new_rows : ℕ → List Source → Statement → List (List Value) → List NewRow
new_rows width sources s rows = flat_map (replacements sources s) rows ++ insertions width sources s rows

abbrev pub null_refusal : Option ℕ → Option SqlRefusal
null_refusal None = None
null_refusal (Some at) = Some (refused.Null at)

abbrev pub value_refusal : List Column → List NewRow → Option SqlRefusal
value_refusal columns made = if list_any (overflows columns) made then Some refused.Overflow else null_refusal (first_null columns made)

-- why the statement is refused: for two source rows, else for a value that overflows, else for a NULL
abbrev pub refusal : List Column → List Source → Statement → List (List Value) → Option SqlRefusal
refusal columns sources s rows =
    if is_ambiguous sources s rows then Some refused.Cardinality
    else value_refusal columns (new_rows (length columns) sources s rows)

-- what becomes of a row
abbrev pub remaining : Effect → List Value → List (List Value)
remaining Keep row = row ∷ []
remaining Remove row = []
remaining (Replace new) row = row_of new ∷ []

unfoldable pub remains : List Source → Statement → List Value → List (List Value)
remains sources s row = remaining (effect sources s row) row

-- the rows that the statement leaves, where it is not refused
abbrev pub rows_after : ℕ → List Source → Statement → List (List Value) → List (List Value)
rows_after width sources s rows =
    flat_map (remains sources s) rows ++ map row_of (insertions width sources s rows)

abbrev pub unless_refused : {X : Type 0} → Option SqlRefusal → X → Result X SqlRefusal
unless_refused None x = Ok x
unless_refused (Some why) x = Err why

-- the statement on the rows of its branch
abbrev pub result_of : List Column → List Source → Statement → List (List Value) → Result (List (List Value)) SqlRefusal
result_of columns sources s rows =
    unless_refused (refusal columns sources s rows) (rows_after (length columns) sources s rows)
