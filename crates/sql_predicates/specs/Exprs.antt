-- The value of an expression on a row (SQL standard, "Numeric value expression"). NULL with anything is NULL. A sum, a
-- difference or a product of two values that its kind cannot hold is an overflow of the whole expression.
use Rattle.std.specs.Prelude.{ℕ, ℤ, ◌+ℤ◌, ◌-ℤ◌, ◌*ℤ◌, ◌==◌, if◌then◌else◌, List, Result, Ok, Err}
use Rattle.plain_types.specs.Steps.{◌>>=◌}
use Rattle.row_values.specs.declared.kind.Kind.{Kind}
use Rattle.row_values.specs.declared.kind.Kind.TheVariants as kind
use Rattle.row_values.specs.declared.value.Value.{Value}
use Rattle.row_values.specs.declared.value.Value.TheVariants as value
use Rattle.row_values.specs.Rows.{is_value}
use Rattle.sql_predicates.specs.declared.arithmetic.Arithmetic.{Arithmetic}
use Rattle.sql_predicates.specs.declared.arithmetic.Arithmetic.TheVariants.{Add, Subtract, Multiply}
use Rattle.sql_predicates.specs.declared.expr.ExprFault.{ExprFault}
use Rattle.sql_predicates.specs.declared.expr.ExprFault.TheVariants.{Overflow}
use Rattle.sql_predicates.specs.declared.expr.Expr.{Expr, fold-Expr}
use Rattle.sql_predicates.specs.declared.expr.Expr.TheOpen as open_expr
use Rattle.sql_predicates.specs.Truth.{value_at}

-- a value, or that there is none
abbrev pub Evaluated : Type 0
Evaluated = Result Value ExprFault

abbrev pub outcome : Arithmetic → ℤ → ℤ → ℤ
outcome Add a b = a +ℤ b
outcome Subtract a b = a -ℤ b
outcome Multiply a b = a *ℤ b

-- the value, where the kind can hold it
abbrev pub held_by : Kind → Value → Evaluated
held_by kind v = if is_value kind v then Ok v else Err Overflow

-- decimals of one scale are added and subtracted, to at most 38 digits
abbrev pub decimals_combined : Arithmetic → ℤ → ℕ → ℤ → ℕ → Evaluated
decimals_combined Multiply a scale b other = Ok value.Null
decimals_combined by a scale b other =
    if scale == other then held_by (kind.Decimal 38 scale) (value.Decimal (outcome by a b) scale) else Ok value.Null

-- two values together: numbers of one kind, else NULL
abbrev pub combined : Arithmetic → Value → Value → Evaluated
combined by (value.Int a) (value.Int b) = held_by kind.Int (value.Int (outcome by a b))
combined by (value.Long a) (value.Long b) = held_by kind.Long (value.Long (outcome by a b))
combined by (value.Decimal a scale) (value.Decimal b other) = decimals_combined by a scale b other
combined by _ _ = Ok value.Null

-- the long of an int
abbrev pub widened : Value → Value
widened (value.Int n) = value.Long n
widened _ = value.Null

-- both sides have a value, and then the two together
abbrev pub joined : Arithmetic → Evaluated → Evaluated → Evaluated
joined by left right = left >>= λ a. right >>= λ b. combined by a b

-- one expression, whose parts stand for their values on the row
abbrev pub value_level : List Value → open_expr.Expr-F Evaluated → Evaluated
value_level row (open_expr.Column at) = Ok (value_at row at)
value_level row (open_expr.Literal v) = Ok v
value_level row (open_expr.Add left right) = joined Add left right
value_level row (open_expr.Subtract left right) = joined Subtract left right
value_level row (open_expr.Multiply left right) = joined Multiply left right
value_level row (open_expr.Widen inner) = inner >>= λ v. Ok (widened v)

-- the value of the expression on the row, or its overflow
abbrev pub value_of : Expr → List Value → Evaluated
value_of expr row = fold-Expr Evaluated (value_level row) expr
