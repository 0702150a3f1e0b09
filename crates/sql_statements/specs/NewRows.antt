-- The rows that INSERT, UPDATE and MERGE make (SQL standard, "INSERT statement" and "UPDATE statement: searched"), and what
-- is wrong with one. A value of a new row that overflowed is absent.
use Rattle.std.specs.Prelude.{ℕ, ◌+◌, Bool, true, false, not, ◌&&◌, ◌||◌, ◌==◌, if◌then◌else◌, List, [], ◌∷◌, map, Option, Some, None, unwrap_or, slice_get, Ok, Err}
use Rattle.std.specs.List.{list_any}
use Rattle.row_values.specs.declared.kind.Kind.{Kind}
use Rattle.row_values.specs.declared.kind.Kind.TheVariants as kind
use Rattle.row_values.specs.declared.value.Value.{Value}
use Rattle.row_values.specs.declared.value.Value.TheVariants as value
use Rattle.row_values.specs.declared.schema.Column.{Column}
use Rattle.row_values.specs.Rows.{has_digits, is_null}
use Rattle.sql_predicates.specs.declared.expr.Expr.{Expr}
use Rattle.sql_predicates.specs.Exprs.{Evaluated, value_of}
use Rattle.sql_statements.specs.declared.statement.Set.{Set}

abbrev pub NewRow : Type 0
NewRow = List (Option Value)

abbrev pub computed : Evaluated → Option Value
computed (Ok v) = Some v
computed (Err fault) = None

-- the value of an expression on the row in sight
abbrev pub new_value : List Value → Expr → Option Value
new_value sight expr = computed (value_of expr sight)

-- the row of a tuple of expressions
abbrev pub new_row : List Value → List Expr → NewRow
new_row sight exprs = map (new_value sight) exprs

-- the value that the column at this position takes: that of its SET, or the old one. Right sides read the row in sight.
abbrev pub assigned : List Set → List Value → ℕ → Value → Option Value
assigned [] sight at old = Some old
assigned (s ∷ sets) sight at old = if s.column == at then new_value sight s.expr else assigned sets sight at old

abbrev pub updated_from : ℕ → List Set → List Value → List Value → NewRow
updated_from at sets sight [] = []
updated_from at sets sight (old ∷ olds) = assigned sets sight at old ∷ updated_from (at + 1) sets sight olds

-- the old row after all SETs at once
abbrev pub updated : List Set → List Value → List Value → NewRow
updated = updated_from 0

-- a decimal of more digits than its column has
abbrev pub is_too_wide : Kind → Value → Bool
is_too_wide (kind.Decimal precision scale) (value.Decimal n s) = not (has_digits precision n)
is_too_wide _ _ = false

abbrev pub overflows_at : Column → Option Value → Bool
overflows_at column None = true
overflows_at column (Some v) = is_too_wide column.kind v

-- some value of the row overflowed, or does not fit its column
abbrev pub overflows : List Column → NewRow → Bool
overflows [] vs = false
overflows (column ∷ columns) [] = false
overflows (column ∷ columns) (v ∷ vs) = overflows_at column v || overflows columns vs

-- the value at this position is NULL
abbrev pub is_null_at : ℕ → NewRow → Bool
is_null_at at row = is_null (unwrap_or (unwrap_or (slice_get row at) (Some value.Null)) value.Null)

abbrev pub first_null_from : ℕ → List Column → List NewRow → Option ℕ
first_null_from at [] rows = None
first_null_from at (column ∷ columns) rows =
    if column.required && list_any (is_null_at at) rows then Some at else first_null_from (at + 1) columns rows

-- the first required column in which some row has NULL
abbrev pub first_null : List Column → List NewRow → Option ℕ
first_null = first_null_from 0

-- the new row, where nothing overflowed
abbrev pub row_of : NewRow → List Value
row_of = map (λ v. unwrap_or v value.Null)
