-- The normal form has no NOT, is as true as the predicate on every row, and reads the same positions.
use Rattle.std.proofs.Common.{◌≡◌, ℕ, Bool, true, false, not, ◌&&◌, cond, List, Option, Some, None, refl, sym, ap, ◌∙◌}
use Rattle.std.specs.declared.cmp.Ordering.{Ordering}
use Rattle.std.specs.declared.cmp.Ordering.TheVariants.{Less, Equal, Greater}
use Rattle.row_values.specs.declared.value.Value.{Value}
use Rattle.row_values.specs.Order.{value_cmp}
use Rattle.row_values.specs.Rows.{is_null}
use Rattle.sql_predicates.specs.declared.truth.Truth.{Truth}
use Rattle.sql_predicates.specs.declared.truth.Truth.TheVariants.{True, False, Unknown}
use Rattle.sql_predicates.specs.declared.pred.Op.{Op}
use Rattle.sql_predicates.specs.declared.pred.Op.TheVariants as op
use Rattle.sql_predicates.specs.declared.pred.Pred.{Pred, fold-Pred, roll-Pred}
use Rattle.sql_predicates.specs.declared.pred.Pred.TheFolds.{fold-roll-Pred, map-Pred}
use Rattle.sql_predicates.specs.declared.pred.Pred.TheOpen as open_pred
use Rattle.sql_predicates.specs.Truth.{truth, truth_level, not_truth, and_truth, or_truth, truth_of_bool, holds, of_order, operand_value, value_at}
use Rattle.sql_predicates.specs.Positions.{pred_is_within, pred_level_is_within}
use Rattle.sql_predicates.proofs.FrontLaws.{Proved, by_levels, both, truth_roll, within_roll}
use Rattle.sql_predicates.specs.NormalForm.{opposite, normal_level, normal_of, normal_form, level_has_no_not, has_no_not}

-- ---- what truth and positions say of the opposite

abbrev turned : Bool → Truth → Truth
turned negated t = cond negated (not_truth t) t

opposite_holds : (o : Op) (order : Ordering) → holds (opposite o) order ≡ not (holds o order)
opposite_holds op.Equal Less = refl
opposite_holds op.Equal Equal = refl
opposite_holds op.Equal Greater = refl
opposite_holds op.NotEqual Less = refl
opposite_holds op.NotEqual Equal = refl
opposite_holds op.NotEqual Greater = refl
opposite_holds op.Less Less = refl
opposite_holds op.Less Equal = refl
opposite_holds op.Less Greater = refl
opposite_holds op.LessOrEqual Less = refl
opposite_holds op.LessOrEqual Equal = refl
opposite_holds op.LessOrEqual Greater = refl
opposite_holds op.Greater Less = refl
opposite_holds op.Greater Equal = refl
opposite_holds op.Greater Greater = refl
opposite_holds op.GreaterOrEqual Less = refl
opposite_holds op.GreaterOrEqual Equal = refl
opposite_holds op.GreaterOrEqual Greater = refl

of_not : (b : Bool) → truth_of_bool (not b) ≡ not_truth (truth_of_bool b)
of_not true = refl
of_not false = refl

of_not_not : (b : Bool) → truth_of_bool b ≡ not_truth (truth_of_bool (not b))
of_not_not true = refl
of_not_not false = refl

opposite_of_order : (o : Op) (order : Option Ordering) → of_order (opposite o) order ≡ not_truth (of_order o order)
opposite_of_order o None = refl
opposite_of_order o (Some order) = ap truth_of_bool (opposite_holds o order) ∙ of_not (holds o order)

not_not : (t : Truth) → t ≡ not_truth (not_truth t)
not_not True = refl
not_not False = refl
not_not Unknown = refl

not_and : (a b : Truth) → or_truth (not_truth a) (not_truth b) ≡ not_truth (and_truth a b)
not_and True b = refl
not_and False b = refl
not_and Unknown True = refl
not_and Unknown False = refl
not_and Unknown Unknown = refl

not_or : (a b : Truth) → and_truth (not_truth a) (not_truth b) ≡ not_truth (or_truth a b)
not_or True b = refl
not_or False b = refl
not_or Unknown True = refl
not_or Unknown False = refl
not_or Unknown Unknown = refl

-- ---- the same truth

abbrev IsAsTrue : List Value → Pred → Type 0
IsAsTrue row p = (negated : Bool) → truth (normal_of p negated) row ≡ turned negated (truth p row)

normal_roll : (x : open_pred.Pred-F Pred) (negated : Bool) → normal_of (roll-Pred x) negated ≡ normal_level (map-Pred Pred (Bool → Pred) normal_of x) negated
normal_roll x negated = ap (λ f. f negated) (fold-roll-Pred (Bool → Pred) normal_level x)

-- the truth of a level's normal form
truth_normal : (row : List Value) (x z : open_pred.Pred-F Pred) (negated : Bool)
    → normal_level (map-Pred Pred (Bool → Pred) normal_of x) negated ≡ roll-Pred z
    → truth_level row (map-Pred Pred Truth (λ p. truth p row) z) ≡ turned negated (truth_level row (map-Pred Pred Truth (λ p. truth p row) x))
    → truth (normal_of (roll-Pred x) negated) row ≡ turned negated (truth (roll-Pred x) row)
truth_normal row x z negated is same =
    ap (λ p. truth p row) (normal_roll x negated ∙ is) ∙ truth_roll row z ∙ same ∙ ap (turned negated) (sym (truth_roll row x))

same_level : (row : List Value) (y : open_pred.Pred-F (Proved (IsAsTrue row))) → IsAsTrue row (roll-Pred (map-Pred (Proved (IsAsTrue row)) Pred (λ e. e.0) y))
same_level row (open_pred.Const b) true = truth_normal row (open_pred.Const b) (open_pred.Const (not b)) true refl (of_not b)
same_level row (open_pred.Const b) false = truth_normal row (open_pred.Const b) (open_pred.Const b) false refl refl
same_level row (open_pred.Compare o left right) true =
    truth_normal row (open_pred.Compare o left right) (open_pred.Compare (opposite o) left right) true refl (opposite_of_order o (value_cmp (operand_value row left) (operand_value row right)))
same_level row (open_pred.Compare o left right) false = truth_normal row (open_pred.Compare o left right) (open_pred.Compare o left right) false refl refl
same_level row (open_pred.IsNull at) true = truth_normal row (open_pred.IsNull at) (open_pred.IsNotNull at) true refl (of_not (is_null (value_at row at)))
same_level row (open_pred.IsNull at) false = truth_normal row (open_pred.IsNull at) (open_pred.IsNull at) false refl refl
same_level row (open_pred.IsNotNull at) true = truth_normal row (open_pred.IsNotNull at) (open_pred.IsNull at) true refl (of_not_not (is_null (value_at row at)))
same_level row (open_pred.IsNotNull at) false = truth_normal row (open_pred.IsNotNull at) (open_pred.IsNotNull at) false refl refl
same_level row (open_pred.Not e) true =
    ap (λ p. truth p row) (normal_roll (open_pred.Not e.0) true) ∙ e.1 false ∙ not_not (truth e.0 row) ∙ ap not_truth (sym (truth_roll row (open_pred.Not e.0)))
same_level row (open_pred.Not e) false =
    ap (λ p. truth p row) (normal_roll (open_pred.Not e.0) false) ∙ e.1 true ∙ sym (truth_roll row (open_pred.Not e.0))
same_level row (open_pred.And a b) true =
    truth_normal row (open_pred.And a.0 b.0) (open_pred.Or (normal_of a.0 true) (normal_of b.0 true)) true refl (both or_truth (a.1 true) (b.1 true) ∙ not_and (truth a.0 row) (truth b.0 row))
same_level row (open_pred.And a b) false =
    truth_normal row (open_pred.And a.0 b.0) (open_pred.And (normal_of a.0 false) (normal_of b.0 false)) false refl (both and_truth (a.1 false) (b.1 false))
same_level row (open_pred.Or a b) true =
    truth_normal row (open_pred.Or a.0 b.0) (open_pred.And (normal_of a.0 true) (normal_of b.0 true)) true refl (both and_truth (a.1 true) (b.1 true) ∙ not_or (truth a.0 row) (truth b.0 row))
same_level row (open_pred.Or a b) false =
    truth_normal row (open_pred.Or a.0 b.0) (open_pred.Or (normal_of a.0 false) (normal_of b.0 false)) false refl (both or_truth (a.1 false) (b.1 false))

pub truth-normal_form : (row : List Value) (p : Pred) → truth (normal_form p) row ≡ truth p row
truth-normal_form row p = by_levels (IsAsTrue row) (same_level row) p false

-- ---- no NOT, and the same positions

-- what a fold says of a level's normal form
fold_normal : (step : open_pred.Pred-F Bool → Bool) (x z : open_pred.Pred-F Pred) (negated : Bool)
    → normal_level (map-Pred Pred (Bool → Pred) normal_of x) negated ≡ roll-Pred z
    → fold-Pred Bool step (normal_of (roll-Pred x) negated) ≡ step (map-Pred Pred Bool (fold-Pred Bool step) z)
fold_normal step x z negated is = ap (fold-Pred Bool step) (normal_roll x negated ∙ is) ∙ fold-roll-Pred Bool step z

abbrev IsPositive : Pred → Type 0
IsPositive p = (negated : Bool) → has_no_not (normal_of p negated) ≡ true

positive_level : (y : open_pred.Pred-F (Proved IsPositive)) → IsPositive (roll-Pred (map-Pred (Proved IsPositive) Pred (λ e. e.0) y))
positive_level (open_pred.Const b) true = fold_normal level_has_no_not (open_pred.Const b) (open_pred.Const (not b)) true refl
positive_level (open_pred.Const b) false = fold_normal level_has_no_not (open_pred.Const b) (open_pred.Const b) false refl
positive_level (open_pred.Compare o left right) true =
    fold_normal level_has_no_not (open_pred.Compare o left right) (open_pred.Compare (opposite o) left right) true refl
positive_level (open_pred.Compare o left right) false =
    fold_normal level_has_no_not (open_pred.Compare o left right) (open_pred.Compare o left right) false refl
positive_level (open_pred.IsNull at) true = fold_normal level_has_no_not (open_pred.IsNull at) (open_pred.IsNotNull at) true refl
positive_level (open_pred.IsNull at) false = fold_normal level_has_no_not (open_pred.IsNull at) (open_pred.IsNull at) false refl
positive_level (open_pred.IsNotNull at) true = fold_normal level_has_no_not (open_pred.IsNotNull at) (open_pred.IsNull at) true refl
positive_level (open_pred.IsNotNull at) false = fold_normal level_has_no_not (open_pred.IsNotNull at) (open_pred.IsNotNull at) false refl
positive_level (open_pred.Not e) true = ap has_no_not (normal_roll (open_pred.Not e.0) true) ∙ e.1 false
positive_level (open_pred.Not e) false = ap has_no_not (normal_roll (open_pred.Not e.0) false) ∙ e.1 true
positive_level (open_pred.And a b) true =
    fold_normal level_has_no_not (open_pred.And a.0 b.0) (open_pred.Or (normal_of a.0 true) (normal_of b.0 true)) true refl ∙ both ◌&&◌ (a.1 true) (b.1 true)
positive_level (open_pred.And a b) false =
    fold_normal level_has_no_not (open_pred.And a.0 b.0) (open_pred.And (normal_of a.0 false) (normal_of b.0 false)) false refl ∙ both ◌&&◌ (a.1 false) (b.1 false)
positive_level (open_pred.Or a b) true =
    fold_normal level_has_no_not (open_pred.Or a.0 b.0) (open_pred.And (normal_of a.0 true) (normal_of b.0 true)) true refl ∙ both ◌&&◌ (a.1 true) (b.1 true)
positive_level (open_pred.Or a b) false =
    fold_normal level_has_no_not (open_pred.Or a.0 b.0) (open_pred.Or (normal_of a.0 false) (normal_of b.0 false)) false refl ∙ both ◌&&◌ (a.1 false) (b.1 false)

pub has_no_not-normal_form : (p : Pred) → has_no_not (normal_form p) ≡ true
has_no_not-normal_form p = by_levels IsPositive positive_level p false

abbrev ReadsTheSame : ℕ → Pred → Type 0
ReadsTheSame width p = (negated : Bool) → pred_is_within width (normal_of p negated) ≡ pred_is_within width p

-- a level and its normal form read the same
within_normal : (width : ℕ) (x z : open_pred.Pred-F Pred) (negated : Bool)
    → normal_level (map-Pred Pred (Bool → Pred) normal_of x) negated ≡ roll-Pred z
    → pred_level_is_within width (map-Pred Pred Bool (pred_is_within width) z) ≡ pred_level_is_within width (map-Pred Pred Bool (pred_is_within width) x)
    → pred_is_within width (normal_of (roll-Pred x) negated) ≡ pred_is_within width (roll-Pred x)
within_normal width x z negated is same = fold_normal (pred_level_is_within width) x z negated is ∙ same ∙ sym (within_roll width x)

within_level : (width : ℕ) (y : open_pred.Pred-F (Proved (ReadsTheSame width)))
    → ReadsTheSame width (roll-Pred (map-Pred (Proved (ReadsTheSame width)) Pred (λ e. e.0) y))
within_level width (open_pred.Const b) true = within_normal width (open_pred.Const b) (open_pred.Const (not b)) true refl refl
within_level width (open_pred.Const b) false = within_normal width (open_pred.Const b) (open_pred.Const b) false refl refl
within_level width (open_pred.Compare o left right) true =
    within_normal width (open_pred.Compare o left right) (open_pred.Compare (opposite o) left right) true refl refl
within_level width (open_pred.Compare o left right) false =
    within_normal width (open_pred.Compare o left right) (open_pred.Compare o left right) false refl refl
within_level width (open_pred.IsNull at) true = within_normal width (open_pred.IsNull at) (open_pred.IsNotNull at) true refl refl
within_level width (open_pred.IsNull at) false = within_normal width (open_pred.IsNull at) (open_pred.IsNull at) false refl refl
within_level width (open_pred.IsNotNull at) true = within_normal width (open_pred.IsNotNull at) (open_pred.IsNull at) true refl refl
within_level width (open_pred.IsNotNull at) false = within_normal width (open_pred.IsNotNull at) (open_pred.IsNotNull at) false refl refl
within_level width (open_pred.Not e) true =
    ap (pred_is_within width) (normal_roll (open_pred.Not e.0) true) ∙ e.1 false ∙ sym (within_roll width (open_pred.Not e.0))
within_level width (open_pred.Not e) false =
    ap (pred_is_within width) (normal_roll (open_pred.Not e.0) false) ∙ e.1 true ∙ sym (within_roll width (open_pred.Not e.0))
within_level width (open_pred.And a b) true =
    within_normal width (open_pred.And a.0 b.0) (open_pred.Or (normal_of a.0 true) (normal_of b.0 true)) true refl (both ◌&&◌ (a.1 true) (b.1 true))
within_level width (open_pred.And a b) false =
    within_normal width (open_pred.And a.0 b.0) (open_pred.And (normal_of a.0 false) (normal_of b.0 false)) false refl (both ◌&&◌ (a.1 false) (b.1 false))
within_level width (open_pred.Or a b) true =
    within_normal width (open_pred.Or a.0 b.0) (open_pred.And (normal_of a.0 true) (normal_of b.0 true)) true refl (both ◌&&◌ (a.1 true) (b.1 true))
within_level width (open_pred.Or a b) false =
    within_normal width (open_pred.Or a.0 b.0) (open_pred.Or (normal_of a.0 false) (normal_of b.0 false)) false refl (both ◌&&◌ (a.1 false) (b.1 false))

pub pred_is_within-normal_form : (width : ℕ) (p : Pred) → pred_is_within width (normal_form p) ≡ pred_is_within width p
pred_is_within-normal_form width p = by_levels (ReadsTheSame width) (within_level width) p false
