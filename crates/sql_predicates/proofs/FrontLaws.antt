-- Induction over predicates, and predicates on the front of a row.
use Rattle.std.proofs.Common.{◌≡◌, ℕ, ◌<◌, Bool, true, false, not, ◌&&◌, List, [], ◌∷◌, ◌++◌, length, refl, sym, ap, subst, ◌∙◌, nat_lt, zero, suc, arith}
use Rattle.std.proofs.lemmas.Bool.{false≢true, ltb-true}
use Rattle.row_values.specs.declared.value.Value.{Value}
use Rattle.row_values.specs.Rows.{is_null}
use Rattle.sql_predicates.specs.declared.pred.Operand.{Operand}
use Rattle.sql_predicates.specs.declared.pred.Operand.TheVariants as operand
use Rattle.sql_predicates.specs.declared.pred.Pred.{Pred, roll-Pred}
use Rattle.sql_predicates.specs.declared.pred.Pred.TheFolds.{fold-roll-Pred, ind-Pred, map-Pred}
use Rattle.sql_predicates.specs.declared.pred.Pred.TheOpen as open_pred
use Rattle.sql_predicates.specs.declared.truth.Truth.{Truth}
use Rattle.sql_predicates.specs.Truth.{truth, truth_level, compared, operand_value, value_at, truth_of_bool, not_truth, and_truth, or_truth}
use Rattle.sql_predicates.specs.Positions.{pred_is_within, pred_level_is_within, operand_is_within}

abbrev pub Proved : (Pred → Type 0) → Type 0
Proved P = (p : Pred) × P p

-- an induction over predicates: P holds of each level over parts that it holds of
pub by_levels : (P : Pred → Type 0) → ((y : open_pred.Pred-F (Proved P)) → P (roll-Pred (map-Pred (Proved P) Pred (λ e. e.0) y))) → (p : Pred) → P p
by_levels P level = ind-Pred P (λ x y is. subst (λ z. P (roll-Pred z)) is (level y))

pub both : {A B C : Type 0} (f : A → B → C) {a c : A} {b d : B} → a ≡ c → b ≡ d → f a b ≡ f c d
both f {a = a} {d = d} p q = ap (f a) q ∙ ap (λ x. f x d) p

pub truth_roll : (row : List Value) (x : open_pred.Pred-F Pred) → truth (roll-Pred x) row ≡ truth_level row (map-Pred Pred Truth (λ p. truth p row) x)
truth_roll row = fold-roll-Pred Truth (truth_level row)

pub within_roll : (width : ℕ) (x : open_pred.Pred-F Pred)
    → pred_is_within width (roll-Pred x) ≡ pred_level_is_within width (map-Pred Pred Bool (pred_is_within width) x)
within_roll width = fold-roll-Pred Bool (pred_level_is_within width)

pub and_left : (a b : Bool) → (a && b) ≡ true → a ≡ true
and_left true b h = refl
and_left false b h = h

pub and_right : (a b : Bool) → (a && b) ≡ true → b ≡ true
and_right true b h = h
and_right false b h = absurd (false≢true h)

-- ---- a predicate that reads the first columns alone does not see the others

value_below : (row more : List Value) (at : ℕ) → at < length row → value_at (row ++ more) at ≡ value_at row at
value_below [] more at h = absurd (omega (arith, h))
value_below (v ∷ row) more zero h = refl
value_below (v ∷ row) more (suc at) h = value_below row more at (omega (arith, h))

value_in_front : (row more : List Value) (at : ℕ) → nat_lt at (length row) ≡ true → value_at (row ++ more) at ≡ value_at row at
value_in_front row more at h = value_below row more at (ltb-true at (length row) h)

operand_in_front : (row more : List Value) (o : Operand) → operand_is_within (length row) o ≡ true → operand_value (row ++ more) o ≡ operand_value row o
operand_in_front row more (operand.Column at) h = value_in_front row more at h
operand_in_front row more (operand.Literal v) h = refl

abbrev ReadsTheFront : List Value → List Value → Pred → Type 0
ReadsTheFront row more p = pred_is_within (length row) p ≡ true → truth p (row ++ more) ≡ truth p row

front_level : (row more : List Value) (y : open_pred.Pred-F (Proved (ReadsTheFront row more)))
    → ReadsTheFront row more (roll-Pred (map-Pred (Proved (ReadsTheFront row more)) Pred (λ e. e.0) y))
front_level row more (open_pred.Const b) h = truth_roll (row ++ more) (open_pred.Const b) ∙ sym (truth_roll row (open_pred.Const b))
front_level row more (open_pred.Compare op left right) h =
    let within = sym (within_roll (length row) (open_pred.Compare op left right)) ∙ h in
    truth_roll (row ++ more) (open_pred.Compare op left right)
    ∙ both (compared op) (operand_in_front row more left (and_left _ _ within)) (operand_in_front row more right (and_right (operand_is_within (length row) left) _ within))
    ∙ sym (truth_roll row (open_pred.Compare op left right))
front_level row more (open_pred.IsNull at) h =
    truth_roll (row ++ more) (open_pred.IsNull at)
    ∙ ap (λ v. truth_of_bool (is_null v)) (value_in_front row more at (sym (within_roll (length row) (open_pred.IsNull at)) ∙ h))
    ∙ sym (truth_roll row (open_pred.IsNull at))
front_level row more (open_pred.IsNotNull at) h =
    truth_roll (row ++ more) (open_pred.IsNotNull at)
    ∙ ap (λ v. truth_of_bool (not (is_null v))) (value_in_front row more at (sym (within_roll (length row) (open_pred.IsNotNull at)) ∙ h))
    ∙ sym (truth_roll row (open_pred.IsNotNull at))
front_level row more (open_pred.Not e) h =
    truth_roll (row ++ more) (open_pred.Not e.0) ∙ ap not_truth (e.1 (sym (within_roll (length row) (open_pred.Not e.0)) ∙ h)) ∙ sym (truth_roll row (open_pred.Not e.0))
front_level row more (open_pred.And a b) h =
    let within = sym (within_roll (length row) (open_pred.And a.0 b.0)) ∙ h in
    truth_roll (row ++ more) (open_pred.And a.0 b.0)
    ∙ both and_truth (a.1 (and_left _ _ within)) (b.1 (and_right (pred_is_within (length row) a.0) _ within))
    ∙ sym (truth_roll row (open_pred.And a.0 b.0))
front_level row more (open_pred.Or a b) h =
    let within = sym (within_roll (length row) (open_pred.Or a.0 b.0)) ∙ h in
    truth_roll (row ++ more) (open_pred.Or a.0 b.0)
    ∙ both or_truth (a.1 (and_left _ _ within)) (b.1 (and_right (pred_is_within (length row) a.0) _ within))
    ∙ sym (truth_roll row (open_pred.Or a.0 b.0))

pub truth_in_front : (row more : List Value) (p : Pred) → ReadsTheFront row more p
truth_in_front row more = by_levels (ReadsTheFront row more) (front_level row more)
