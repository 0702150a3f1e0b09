-- The normal form of a predicate: no NOT, and the same truth on every row. A negation moves down to the comparisons, by De
-- Morgan's laws, and turns each into its opposite.
use Rattle.std.specs.Prelude.{Bool, true, false, not, ◌&&◌, if◌then◌else◌}
use Rattle.sql_predicates.specs.declared.pred.Op.{Op}
use Rattle.sql_predicates.specs.declared.pred.Op.TheVariants as op
use Rattle.sql_predicates.specs.declared.pred.Pred.{Pred, fold-Pred, roll-Pred}
use Rattle.sql_predicates.specs.declared.pred.Pred.TheOpen as open_pred

-- the operator that holds of two values exactly where this one does not
abbrev pub opposite : Op → Op
opposite op.Equal = op.NotEqual
opposite op.NotEqual = op.Equal
opposite op.Less = op.GreaterOrEqual
opposite op.LessOrEqual = op.Greater
opposite op.Greater = op.LessOrEqual
opposite op.GreaterOrEqual = op.Less

-- one predicate, negated or not, whose parts stand for their normal forms, negated or not
abbrev pub normal_level : open_pred.Pred-F (Bool → Pred) → Bool → Pred
normal_level (open_pred.Const b) negated = roll-Pred (open_pred.Const (if negated then not b else b))
normal_level (open_pred.Compare op left right) negated = roll-Pred (open_pred.Compare (if negated then opposite op else op) left right)
normal_level (open_pred.IsNull at) negated = roll-Pred (if negated then open_pred.IsNotNull at else open_pred.IsNull at)
normal_level (open_pred.IsNotNull at) negated = roll-Pred (if negated then open_pred.IsNull at else open_pred.IsNotNull at)
normal_level (open_pred.Not inner) negated = inner (not negated)
normal_level (open_pred.And left right) negated =
    roll-Pred (if negated then open_pred.Or (left true) (right true) else open_pred.And (left false) (right false))
normal_level (open_pred.Or left right) negated =
    roll-Pred (if negated then open_pred.And (left true) (right true) else open_pred.Or (left false) (right false))

-- the normal form of the predicate, or of its negation
abbrev pub normal_of : Pred → Bool → Pred
normal_of = fold-Pred (Bool → Pred) normal_level

abbrev pub normal_form : Pred → Pred
normal_form pred = normal_of pred false

abbrev pub level_has_no_not : open_pred.Pred-F Bool → Bool
level_has_no_not (open_pred.Not inner) = false
level_has_no_not (open_pred.And left right) = left && right
level_has_no_not (open_pred.Or left right) = left && right
level_has_no_not _ = true

-- no NOT stands anywhere in the predicate
abbrev pub has_no_not : Pred → Bool
has_no_not = fold-Pred Bool level_has_no_not
