-- The columns that a predicate or an expression reads: each position lies below the width of the rows.
use Rattle.std.specs.Prelude.{ℕ, Bool, true, ◌&&◌, nat_lt}
use Rattle.sql_predicates.specs.declared.expr.Expr.{Expr, fold-Expr}
use Rattle.sql_predicates.specs.declared.expr.Expr.TheOpen as open_expr
use Rattle.sql_predicates.specs.declared.pred.Operand.{Operand}
use Rattle.sql_predicates.specs.declared.pred.Operand.TheVariants as operand
use Rattle.sql_predicates.specs.declared.pred.Pred.{Pred, fold-Pred}
use Rattle.sql_predicates.specs.declared.pred.Pred.TheOpen as open_pred

abbrev pub operand_is_within : ℕ → Operand → Bool
operand_is_within width (operand.Column at) = nat_lt at width
operand_is_within width (operand.Literal v) = true

abbrev pub pred_level_is_within : ℕ → open_pred.Pred-F Bool → Bool
pred_level_is_within width (open_pred.Const b) = true
pred_level_is_within width (open_pred.Compare op left right) = operand_is_within width left && operand_is_within width right
pred_level_is_within width (open_pred.IsNull at) = nat_lt at width
pred_level_is_within width (open_pred.IsNotNull at) = nat_lt at width
pred_level_is_within width (open_pred.Not inner) = inner
pred_level_is_within width (open_pred.And left right) = left && right
pred_level_is_within width (open_pred.Or left right) = left && right

-- every position that the predicate reads is in rows of this width
abbrev pub pred_is_within : ℕ → Pred → Bool
pred_is_within width = fold-Pred Bool (pred_level_is_within width)

abbrev pub expr_level_is_within : ℕ → open_expr.Expr-F Bool → Bool
expr_level_is_within width (open_expr.Column at) = nat_lt at width
expr_level_is_within width (open_expr.Literal v) = true
expr_level_is_within width (open_expr.Add left right) = left && right
expr_level_is_within width (open_expr.Subtract left right) = left && right
expr_level_is_within width (open_expr.Multiply left right) = left && right
expr_level_is_within width (open_expr.Widen inner) = inner

-- every position that the expression reads is in rows of this width
abbrev pub expr_is_within : ℕ → Expr → Bool
expr_is_within width = fold-Expr Bool (expr_level_is_within width)
