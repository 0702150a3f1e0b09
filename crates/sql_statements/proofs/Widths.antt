-- The widths of rows in sight.
use Rattle.std.proofs.Common.{◌≡◌, ℕ, ◌+◌, ◌==◌, Bool, true, false, ◌&&◌, List, [], ◌∷◌, ◌++◌, length, cond, refl, ap, ◌∙◌, IsTrue, eq-eqb, length-append, suc}
use Rattle.std.proofs.lemmas.Bool.{false≢true, eqb-true}
use Rattle.std.proofs.lemmas.List.Folds.{list_all-append}
use Rattle.row_values.specs.declared.value.Value.{Value}
use Rattle.row_values.specs.declared.schema.Column.{Column}
use Rattle.row_values.specs.Rows.{is_held, is_row, AreRows}
use Rattle.sql_predicates.specs.declared.pred.Pred.{Pred}
use Rattle.sql_statements.specs.Clauses.{holds_on, match_of, matches}
use Rattle.sql_statements.specs.Fits.{are_wide}

and_left : (a b : Bool) → IsTrue (a && b) → IsTrue a
and_left true b h = refl
and_left false b h = h

and_right : (a b : Bool) → IsTrue (a && b) → IsTrue b
and_right true b h = h
and_right false b h = absurd (false≢true h)

and_both : (a b : Bool) → IsTrue a → IsTrue b → IsTrue (a && b)
and_both true b p q = q
and_both false b p q = p

wide_sight : (keeps : Bool) (sight : List Value) (width : ℕ) → IsTrue (length sight == width) → IsTrue (are_wide width (cond keeps (sight ∷ []) []))
wide_sight true sight width h = and_both (length sight == width) true h refl
wide_sight false sight width h = refl

wide_joined : (target row : List Value) (width : ℕ) → IsTrue (length row == width) → IsTrue (length (target ++ row) == length target + width)
wide_joined target row width h = eq-eqb _ _ (length-append target row ∙ ap (λ n. length target + n) (eqb-true (length row) width h))

wide_match : (on : Pred) (target row : List Value) (width : ℕ) → IsTrue (length row == width)
    → IsTrue (are_wide (length target + width) (match_of on target row))
unfolding match_of
wide_match on target row width h = wide_sight (holds_on on (target ++ row)) (target ++ row) (length target + width) (wide_joined target row width h)

wide_matches : (on : Pred) (rows : List (List Value)) (target : List Value) (width : ℕ) → IsTrue (are_wide width rows)
    → IsTrue (are_wide (length target + width) (matches on rows target))
wide_matches on [] target width h = refl
wide_matches on (row ∷ rows) target width h =
    list_all-append (λ (r : List Value). length r == length target + width) (match_of on target row) (matches on rows target)
    ∙ and_both (are_wide (length target + width) (match_of on target row)) (are_wide (length target + width) (matches on rows target))
    (wide_match on target row width (and_left (length row == width) (are_wide width rows) h))
    (wide_matches on rows target width (and_right (length row == width) (are_wide width rows) h))

-- target rows beside the source rows that match are as wide as both
pub wide_sights : (on : Pred) (rows sights : List (List Value)) (target : List Value) (width padding : ℕ)
    → IsTrue (are_wide width rows) → padding ≡ width → sights ≡ matches on rows target
    → IsTrue (are_wide (length target + padding) sights)
wide_sights on rows sights target width padding wide same is =
    ap (λ n. are_wide (length target + n) sights) same ∙ ap (are_wide (length target + width)) is ∙ wide_matches on rows target width wide

-- ---- rows of the columns

row_is_wide : (columns : List Column) (row : List Value) → is_row columns row ≡ true → length row ≡ length columns
row_is_wide [] [] h = refl
row_is_wide (column ∷ columns) (v ∷ vs) h = ap (λ n. suc n) (row_is_wide columns vs (and_right (is_held column v) _ h))
row_is_wide [] (v ∷ vs) h = absurd (false≢true h)
row_is_wide (column ∷ columns) [] h = absurd (false≢true h)

pub rows_are_wide : (columns : List Column) (rows : List (List Value)) → AreRows columns rows → IsTrue (are_wide (length columns) rows)
rows_are_wide columns [] h = refl
rows_are_wide columns (row ∷ rows) h =
    and_both (length row == length columns) (are_wide (length columns) rows)
    (eq-eqb _ _ (row_is_wide columns row (and_left (is_row columns row) _ h)))
    (rows_are_wide columns rows (and_right (is_row columns row) _ h))
