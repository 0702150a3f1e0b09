-- When a predicate is true of a row: SQL's three-valued logic (SQL standard, "Boolean value expression" and
-- "Comparison predicate"). A comparison in which a side is NULL is Unknown.
use Rattle.std.specs.Prelude.{ℕ, Bool, true, false, not, List, Option, Some, None, unwrap_or, slice_get}
use Rattle.std.specs.declared.cmp.Ordering.{Ordering}
use Rattle.std.specs.Ordering.{is_eq, is_ne, is_lt, is_le, is_gt, is_ge}
use Rattle.row_values.specs.declared.value.Value.{Value}
use Rattle.row_values.specs.declared.value.Value.TheVariants as value
use Rattle.row_values.specs.Order.{value_cmp}
use Rattle.row_values.specs.Rows.{is_null}
use Rattle.sql_predicates.specs.declared.truth.Truth.{Truth}
use Rattle.sql_predicates.specs.declared.truth.Truth.TheVariants.{True, False, Unknown}
use Rattle.sql_predicates.specs.declared.pred.Op.{Op}
use Rattle.sql_predicates.specs.declared.pred.Op.TheVariants as op
use Rattle.sql_predicates.specs.declared.pred.Operand.{Operand}
use Rattle.sql_predicates.specs.declared.pred.Operand.TheVariants as operand
use Rattle.sql_predicates.specs.declared.pred.Pred.{Pred, fold-Pred}
use Rattle.sql_predicates.specs.declared.pred.Pred.TheOpen as open_pred

abbrev pub not_truth : Truth → Truth
not_truth True = False
not_truth False = True
not_truth Unknown = Unknown

abbrev pub and_truth : Truth → Truth → Truth
and_truth True b = b
and_truth False b = False
and_truth Unknown False = False
and_truth Unknown _ = Unknown

abbrev pub or_truth : Truth → Truth → Truth
or_truth True b = True
or_truth False b = b
or_truth Unknown True = True
or_truth Unknown _ = Unknown

abbrev pub truth_of_bool : Bool → Truth
truth_of_bool true = True
truth_of_bool false = False

-- values in this order are as the operator says
abbrev pub holds : Op → Ordering → Bool
holds op.Equal o = is_eq o
holds op.NotEqual o = is_ne o
holds op.Less o = is_lt o
holds op.LessOrEqual o = is_le o
holds op.Greater o = is_gt o
holds op.GreaterOrEqual o = is_ge o

-- two values that have no order, as where a side is NULL, compare Unknown
abbrev pub of_order : Op → Option Ordering → Truth
of_order op None = Unknown
of_order op (Some o) = truth_of_bool (holds op o)

abbrev pub compared : Op → Value → Value → Truth
compared op a b = of_order op (value_cmp a b)

-- the value at a position of the row, and NULL beyond its end
abbrev pub value_at : List Value → ℕ → Value
value_at row at = unwrap_or (slice_get row at) value.Null

abbrev pub operand_value : List Value → Operand → Value
operand_value row (operand.Column at) = value_at row at
operand_value row (operand.Literal v) = v

-- one predicate, whose parts stand for their truth on the row
abbrev pub truth_level : List Value → open_pred.Pred-F Truth → Truth
truth_level row (open_pred.Const b) = truth_of_bool b
truth_level row (open_pred.Compare op left right) = compared op (operand_value row left) (operand_value row right)
truth_level row (open_pred.IsNull at) = truth_of_bool (is_null (value_at row at))
truth_level row (open_pred.IsNotNull at) = truth_of_bool (not (is_null (value_at row at)))
truth_level row (open_pred.Not inner) = not_truth inner
truth_level row (open_pred.And left right) = and_truth left right
truth_level row (open_pred.Or left right) = or_truth left right

-- what the row says of the predicate
abbrev pub truth : Pred → List Value → Truth
truth pred row = fold-Pred Truth (truth_level row) pred
