-- Which kinds an expression fits on rows of the columns (SQL standard, "Numeric value expression"): both sides of a sum, a
-- difference or a product have the kind of the whole. A sum of decimals has up to 38 digits.
use Rattle.std.specs.Prelude.{Bool, true, false, ◌&&◌, ◌||◌, ◌==◌, nat_le, List, [], ◌∷◌, Option, Some, None, slice_get}
use Rattle.row_values.specs.declared.kind.Kind.{Kind}
use Rattle.row_values.specs.declared.kind.Kind.TheVariants as kind
use Rattle.row_values.specs.declared.value.Value.{Value}
use Rattle.row_values.specs.declared.schema.Column.{Column}
use Rattle.row_values.specs.Rows.{is_null, is_value}
use Rattle.sql_predicates.specs.declared.expr.Expr.{Expr, fold-Expr}
use Rattle.sql_predicates.specs.declared.expr.Expr.TheOpen as open_expr

abbrev pub is_value_or_null : Kind → Value → Bool
is_value_or_null kind v = is_null v || is_value kind v

-- each value of the row is NULL or of the kind of its column
abbrev pub has_kinds : List Column → List Value → Bool
has_kinds [] [] = true
has_kinds (column ∷ columns) (v ∷ vs) = is_value_or_null column.kind v && has_kinds columns vs
has_kinds [] (v ∷ vs) = false
has_kinds (column ∷ columns) [] = false

-- each value of the first kind is one of the second
abbrev pub is_part : Kind → Kind → Bool
is_part kind.Bool kind.Bool = true
is_part kind.Int kind.Int = true
is_part kind.Long kind.Long = true
is_part kind.Date kind.Date = true
is_part (kind.Timestamp true) (kind.Timestamp true) = true
is_part (kind.Timestamp false) (kind.Timestamp false) = true
is_part (kind.Decimal precision scale) (kind.Decimal wider other) = scale == other && nat_le precision wider
is_part kind.Text kind.Text = true
is_part kind.Bytes kind.Bytes = true
is_part _ _ = false

abbrev pub column_fits : Option Column → Kind → Bool
column_fits None kind = false
column_fits (Some column) kind = is_part column.kind kind

-- values of the kind are added and subtracted, and the outcome is of the kind
abbrev pub is_summed : Kind → Bool
is_summed kind.Int = true
is_summed kind.Long = true
is_summed (kind.Decimal precision scale) = precision == 38
is_summed _ = false

abbrev pub is_multiplied : Kind → Bool
is_multiplied kind.Int = true
is_multiplied kind.Long = true
is_multiplied _ = false

abbrev pub is_long : Kind → Bool
is_long kind.Long = true
is_long _ = false

-- one expression, whose parts stand for the kinds that they fit
abbrev pub fits_level : List Column → open_expr.Expr-F (Kind → Bool) → Kind → Bool
fits_level columns (open_expr.Column at) kind = column_fits (slice_get columns at) kind
fits_level columns (open_expr.Literal v) kind = is_value_or_null kind v
fits_level columns (open_expr.Add left right) kind = is_summed kind && (left kind && right kind)
fits_level columns (open_expr.Subtract left right) kind = is_summed kind && (left kind && right kind)
fits_level columns (open_expr.Multiply left right) kind = is_multiplied kind && (left kind && right kind)
fits_level columns (open_expr.Widen inner) k = is_long k && inner kind.Int

-- on rows of the columns the expression has values of the kind, or NULL
abbrev pub fits : List Column → Expr → Kind → Bool
fits columns = fold-Expr (Kind → Bool) (fits_level columns)
