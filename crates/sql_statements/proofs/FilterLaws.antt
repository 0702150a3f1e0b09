-- A row for which the filter of a statement is not True is kept.
use Rattle.std.proofs.Common.{◌≡◌, ℕ, Bool, true, false, ◌&&◌, ◌||◌, cond, List, [], ◌∷◌, ◌++◌, length, Option, Some, None, refl, sym, ap, subst, ◌∙◌}
use Rattle.std.proofs.lemmas.Bool.{false≢true}
use Rattle.std.specs.Prelude.{unwrap_or}
use Rattle.std.specs.List.{list_any}
use Rattle.row_values.specs.declared.value.Value.{Value}
use Rattle.sql_predicates.specs.declared.pred.Pred.{Pred, roll-Pred}
use Rattle.sql_predicates.specs.declared.pred.Pred.TheFolds.{fold-roll-Pred, map-Pred}
use Rattle.sql_predicates.specs.declared.pred.Pred.TheOpen as open_pred
use Rattle.sql_predicates.specs.declared.truth.Truth.{Truth}
use Rattle.sql_predicates.specs.declared.truth.Truth.TheVariants.{True, False, Unknown}
use Rattle.sql_predicates.specs.Truth.{truth, and_truth}
use Rattle.sql_predicates.specs.Positions.{pred_is_within}
use Rattle.sql_predicates.proofs.CallerLemmas.{Proved, by_levels, both, truth_roll, truth_in_front}
use Rattle.sql_statements.specs.declared.statement.Statement.{Statement}
use Rattle.sql_statements.specs.declared.statement.Statement.TheVariants as statement
use Rattle.sql_statements.specs.declared.statement.When.TheVariants.{NotMatchedBySource}
use Rattle.sql_statements.specs.declared.statement.Clause.{Clause}
use Rattle.sql_statements.specs.declared.statement.Merge.{Merge}
use Rattle.sql_statements.specs.declared.statement.Source.{Source}
use Rattle.sql_statements.specs.declared.effect.Effect.TheVariants.{Keep, Remove, Replace}
use Rattle.sql_statements.specs.NewRows.{updated}
use Rattle.sql_statements.specs.Clauses.{is_true, holds_on, nulls, match_of, matches, applies, chosen, acted, effect_by}
use Rattle.sql_statements.specs.Effects.{source_at, merge_effect, effect}
use Rattle.sql_statements.specs.Filter.{always, Split, conjoined, leaf, split_level, split_of, target_part, is_by_source, filter_of}
use Rattle.sql_statements.proofs.StatementLaws.{always_holds}

-- ---- where a predicate is True of joined rows, its part on the first columns is True of the first row

abbrev PartHolds : List Value → Option Pred → Type 0
PartHolds row None = Unit {0}
PartHolds row (Some q) = holds_on q row ≡ true

pub record Splits (row more : List Value) (p : Pred) : Type 0 where
  pub whole : (split_of (length row) p).whole ≡ p
  pub part : holds_on p (row ++ more) ≡ true → PartHolds row (split_of (length row) p).part

both_true : (a b : Truth) → is_true (and_truth a b) ≡ true → (is_true a ≡ true) × (is_true b ≡ true)
both_true True True h = (refl, refl)
both_true True False h = absurd (false≢true h)
both_true True Unknown h = absurd (false≢true h)
both_true False b h = absurd (false≢true h)
both_true Unknown False h = absurd (false≢true h)
both_true Unknown True h = absurd (false≢true h)
both_true Unknown Unknown h = absurd (false≢true h)

both_is_true : (a b : Truth) → is_true a ≡ true → is_true b ≡ true → is_true (and_truth a b) ≡ true
both_is_true True b p q = q
both_is_true False b p q = p
both_is_true Unknown b p q = absurd (false≢true p)

conjoined_holds : (row : List Value) (a b : Option Pred) → PartHolds row a → PartHolds row b → PartHolds row (conjoined a b)
conjoined_holds row None b p q = q
conjoined_holds row (Some a) None p q = p
conjoined_holds row (Some a) (Some b) p q = ap is_true (truth_roll row (open_pred.And a b)) ∙ both_is_true (truth a row) (truth b row) p q

leaf_holds : (row more : List Value) (p : Pred) (within : Bool) → pred_is_within (length row) p ≡ within
    → holds_on p (row ++ more) ≡ true → PartHolds row (cond within (Some p) None)
leaf_holds row more p true is h = ap is_true (sym (truth_in_front row more p is)) ∙ h
leaf_holds row more p false is h = tt

-- a conjunct splits
leaf_splits : (row more : List Value) (p : Pred) → split_of (length row) p ≡ leaf (length row) p → Splits row more p
leaf_splits row more p is = record {
  whole = ap (λ (s : Split). s.whole) is;
  part = λ h. subst (λ (s : Split). PartHolds row s.part) (sym is) (leaf_holds row more p (pred_is_within (length row) p) refl h);
}

split_roll : (width : ℕ) (x : open_pred.Pred-F Pred) → split_of width (roll-Pred x) ≡ split_level width (map-Pred Pred Split (split_of width) x)
split_roll width = fold-roll-Pred Split (split_level width)

whole_level : (width : ℕ) (y : open_pred.Pred-F (Proved (λ p. (split_of width p).whole ≡ p)))
    → (split_of width (roll-Pred (map-Pred (Proved (λ p. (split_of width p).whole ≡ p)) Pred (λ e. e.0) y))).whole ≡ roll-Pred (map-Pred (Proved (λ p. (split_of width p).whole ≡ p)) Pred (λ e. e.0) y)
whole_level width (open_pred.Const b) = ap (λ (s : Split). s.whole) (split_roll width (open_pred.Const b))
whole_level width (open_pred.Compare op left right) = ap (λ (s : Split). s.whole) (split_roll width (open_pred.Compare op left right))
whole_level width (open_pred.IsNull at) = ap (λ (s : Split). s.whole) (split_roll width (open_pred.IsNull at))
whole_level width (open_pred.IsNotNull at) = ap (λ (s : Split). s.whole) (split_roll width (open_pred.IsNotNull at))
whole_level width (open_pred.Not e) = ap (λ (s : Split). s.whole) (split_roll width (open_pred.Not e.0)) ∙ ap (λ p. roll-Pred (open_pred.Not p)) e.1
whole_level width (open_pred.And a b) = ap (λ (s : Split). s.whole) (split_roll width (open_pred.And a.0 b.0)) ∙ both (λ p q. roll-Pred (open_pred.And p q)) a.1 b.1
whole_level width (open_pred.Or a b) = ap (λ (s : Split). s.whole) (split_roll width (open_pred.Or a.0 b.0)) ∙ both (λ p q. roll-Pred (open_pred.Or p q)) a.1 b.1

-- the whole of a split is the predicate
pub whole_is : (width : ℕ) (p : Pred) → (split_of width p).whole ≡ p
whole_is width = by_levels (λ p. (split_of width p).whole ≡ p) (whole_level width)

abbrev IsNoAnd : Pred → Type 0
IsNoAnd p = (left right : Pred) → p ≡ roll-Pred (open_pred.And left right) → ⊥

abbrev IsLeaf : ℕ → Pred → Type 0
IsLeaf width p = IsNoAnd p → (split_of width p).part ≡ (leaf width p).part

leaf_level : (width : ℕ) (y : open_pred.Pred-F (Proved (IsLeaf width))) → IsLeaf width (roll-Pred (map-Pred (Proved (IsLeaf width)) Pred (λ e. e.0) y))
leaf_level width (open_pred.Const b) other = ap (λ (s : Split). s.part) (split_roll width (open_pred.Const b))
leaf_level width (open_pred.Compare op left right) other = ap (λ (s : Split). s.part) (split_roll width (open_pred.Compare op left right))
leaf_level width (open_pred.IsNull at) other = ap (λ (s : Split). s.part) (split_roll width (open_pred.IsNull at))
leaf_level width (open_pred.IsNotNull at) other = ap (λ (s : Split). s.part) (split_roll width (open_pred.IsNotNull at))
leaf_level width (open_pred.Not e) other =
    ap (λ (s : Split). s.part) (split_roll width (open_pred.Not e.0)) ∙ ap (λ p. (leaf width (roll-Pred (open_pred.Not p))).part) (whole_is width e.0)
leaf_level width (open_pred.Or a b) other =
    ap (λ (s : Split). s.part) (split_roll width (open_pred.Or a.0 b.0)) ∙ both (λ p q. (leaf width (roll-Pred (open_pred.Or p q))).part) (whole_is width a.0) (whole_is width b.0)
leaf_level width (open_pred.And a b) other = absurd (other a.0 b.0 refl)

-- the part of a predicate that is no AND
pub part_of_leaf : (width : ℕ) (p : Pred) → IsNoAnd p → (split_of width p).part ≡ (leaf width p).part
part_of_leaf width = by_levels (IsLeaf width) (leaf_level width)

splits_level : (row more : List Value) (y : open_pred.Pred-F (Proved (Splits row more)))
    → Splits row more (roll-Pred (map-Pred (Proved (Splits row more)) Pred (λ e. e.0) y))
splits_level row more (open_pred.Const b) = leaf_splits row more _ (split_roll (length row) (open_pred.Const b))
splits_level row more (open_pred.Compare op left right) = leaf_splits row more _ (split_roll (length row) (open_pred.Compare op left right))
splits_level row more (open_pred.IsNull at) = leaf_splits row more _ (split_roll (length row) (open_pred.IsNull at))
splits_level row more (open_pred.IsNotNull at) = leaf_splits row more _ (split_roll (length row) (open_pred.IsNotNull at))
splits_level row more (open_pred.Not e) =
    leaf_splits row more _ (split_roll (length row) (open_pred.Not e.0) ∙ ap (λ p. leaf (length row) (roll-Pred (open_pred.Not p))) e.1.whole)
splits_level row more (open_pred.Or a b) =
    leaf_splits row more _ (split_roll (length row) (open_pred.Or a.0 b.0) ∙ both (λ p q. leaf (length row) (roll-Pred (open_pred.Or p q))) a.1.whole b.1.whole)
splits_level row more (open_pred.And a b) =
    let is = split_roll (length row) (open_pred.And a.0 b.0) in
    record {
      whole = ap (λ (s : Split). s.whole) is ∙ both (λ p q. roll-Pred (open_pred.And p q)) a.1.whole b.1.whole;
      part = λ h.
          let two = both_true (truth a.0 (row ++ more)) (truth b.0 (row ++ more)) (ap is_true (sym (truth_roll (row ++ more) (open_pred.And a.0 b.0))) ∙ h) in
          subst (λ (s : Split). PartHolds row s.part) (sym is) (conjoined_holds row _ _ (a.1.part two.0) (b.1.part two.1));
    }

splits : (row more : List Value) (p : Pred) → Splits row more p
splits row more = by_levels (Splits row more) (splits_level row more)

part_or_always : (row : List Value) (part : Option Pred) → PartHolds row part → holds_on (unwrap_or part always) row ≡ true
part_or_always row None h = always_holds row
part_or_always row (Some q) h = h

pub target_part_holds : (row more : List Value) (p : Pred) → holds_on p (row ++ more) ≡ true → holds_on (target_part (length row) p) row ≡ true
target_part_holds row more p h = part_or_always row _ ((splits row more p).part h)

-- ---- rows that the filter leaves out

no_match : (on : Pred) (row more : List Value) (found : Bool) → holds_on on (row ++ more) ≡ found
    → holds_on (target_part (length row) on) row ≡ false → cond found ((row ++ more) ∷ []) [] ≡ []
no_match on row more true is out = absurd (false≢true (sym out ∙ target_part_holds row more on is))
no_match on row more false is out = refl

no_match_of : (on : Pred) (row more : List Value) → holds_on (target_part (length row) on) row ≡ false → match_of on row more ≡ []
unfolding match_of
no_match_of on row more out = no_match on row more (holds_on on (row ++ more)) refl out

pub no_matches : (on : Pred) (rows : List (List Value)) (row : List Value) → holds_on (target_part (length row) on) row ≡ false → matches on rows row ≡ []
no_matches on [] row out = refl
no_matches on (more ∷ rows) row out = ap (λ ys. ys ++ matches on rows row) (no_match_of on row more out) ∙ no_matches on rows row out

applies_not : (c : Clause) (sight : List Value) → is_by_source c ≡ false → applies NotMatchedBySource c sight ≡ false
unfolding applies
applies_not c sight h = ap (λ b. b && holds_on c.condition sight) h

or_left : (a b : Bool) → (a || b) ≡ false → a ≡ false
or_left true b h = h
or_left false b h = refl

or_right : (a b : Bool) → (a || b) ≡ false → b ≡ false
or_right true b h = absurd (false≢true (sym h))
or_right false b h = h

none_chosen : (clauses : List Clause) (sight : List Value) → list_any is_by_source clauses ≡ false → chosen NotMatchedBySource clauses sight ≡ None
none_chosen [] sight h = refl
none_chosen (c ∷ clauses) sight h =
    ap (λ b. cond b (Some c.action) (chosen NotMatchedBySource clauses sight)) (applies_not c sight (or_left (is_by_source c) _ h))
    ∙ none_chosen clauses sight (or_right (is_by_source c) _ h)

merge_keeps : (m : Merge) (source : Source) (row : List Value) (by_source : Bool) → list_any is_by_source m.clauses ≡ by_source
    → holds_on (cond by_source always (target_part (length row) m.on)) row ≡ false → merge_effect m source row ≡ Keep
merge_keeps m source row true is out = absurd (false≢true (sym out ∙ always_holds row))
merge_keeps m source row false is out =
    let sight = row ++ nulls (length source.columns) in
    ap (effect_by m.clauses row (nulls (length source.columns))) (no_matches m.on source.rows row out) ∙ ap (acted row sight) (none_chosen m.clauses sight is)

pub kept_outside : (sources : List Source) (s : Statement) (row : List Value) → holds_on (filter_of (length row) s) row ≡ false → effect sources s row ≡ Keep
unfolding effect
kept_outside sources (statement.Insert branch rows) row out = refl
kept_outside sources (statement.Delete branch filter) row out = ap (λ found. cond found Remove Keep) out
kept_outside sources (statement.Update branch sets filter) row out = ap (λ found. cond found (Replace (updated sets row row)) Keep) out
kept_outside sources (statement.Merge m) row out = merge_keeps m (source_at sources m.source) row (list_any is_by_source m.clauses) refl out
kept_outside sources (statement.CreateBranch branch) row out = refl
kept_outside sources (statement.DropBranch branch) row out = refl
kept_outside sources (statement.Select branch filter) row out = refl
