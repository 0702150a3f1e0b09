-- Rows as wide as the table: those of each part, and what the statement does with those that its filter leaves out.
use Rattle.std.proofs.Common.{◌≡◌, ℕ, ◌==◌, ◌||◌, Bool, true, false, true≢false, not, List, [], ◌∷◌, ◌++◌, length, refl, sym, ap, ◌∙◌, inl, inr, IsTrue}
use Rattle.std.specs.List.{list_any}
use Rattle.std.proofs.lemmas.Bool.{and_parts, eqb-true, or_parts}
use Rattle.std.proofs.lemmas.List.Folds.{list_any-append}
use Rattle.plain_types.specs.Bags.{In, SameBag}
use Rattle.plain_types.proofs.CallerLemmas.{SameBag-list_any}
use Rattle.row_values.specs.declared.value.Value.{Value}
use Rattle.sql_statements.specs.declared.effect.Effect.TheVariants.{Keep}
use Rattle.sql_statements.specs.declared.statement.Source.{Source}
use Rattle.sql_statements.specs.declared.statement.Statement.{Statement}
use Rattle.sql_statements.specs.Clauses.{holds_on}
use Rattle.sql_statements.specs.Effects.{effect}
use Rattle.sql_statements.specs.Filter.{filter_of}
use Rattle.sql_statements.specs.Fits.{are_wide}
use Rattle.sql_statements.proofs.CallerLemmas.{kept_outside}

not_not_true : (b : Bool) → not b ≡ false → b ≡ true
not_not_true true e = refl
not_not_true false e = absurd (true≢false e)

module _ (width : ℕ) where
  abbrev is_narrow : List Value → Bool
  is_narrow row = not (length row == width)

  none_narrow : (rows : List (List Value)) → IsTrue (are_wide width rows) → list_any is_narrow rows ≡ false
  none_narrow [] wide = refl
  none_narrow (row ∷ rows) wide =
      let both = and_parts (length row == width) (are_wide width rows) wide in
      ap (λ b. not b || list_any is_narrow rows) both.0 ∙ none_narrow rows both.1

  wide_in : (rows : List (List Value)) → list_any is_narrow rows ≡ false → (row : List Value) → In row rows → length row ≡ width
  wide_in [] none row there = absurd there
  wide_in (first ∷ rows) none row (inl here) = ap length here ∙ eqb-true (length first) width (not_not_true (length first == width) (or_parts (is_narrow first) (list_any is_narrow rows) none).0)
  wide_in (first ∷ rows) none row (inr later) = wide_in rows (or_parts (is_narrow first) (list_any is_narrow rows) none).1 row later

  abbrev pub AreWide : List (List Value) → Type 0
  AreWide rows = (row : List Value) → In row rows → length row ≡ width

  -- where all rows are as wide, so are those of each of two parts
  pub wide_parts : (rows front back : List (List Value)) → SameBag rows (front ++ back) → IsTrue (are_wide width rows) → AreWide front × AreWide back
  wide_parts rows front back parted wide =
      let none = or_parts (list_any is_narrow front) (list_any is_narrow back) (sym (list_any-append is_narrow front back) ∙ sym (SameBag-list_any is_narrow rows (front ++ back) parted) ∙ none_narrow rows wide) in
      (wide_in front none.0, wide_in back none.1)

  -- the statement keeps a row that its filter leaves out
  pub kept_by_filter : (sources : List Source) (s : Statement) (row : List Value) → length row ≡ width
      → holds_on (filter_of width s) row ≡ false → effect sources s row ≡ Keep
  kept_by_filter sources s row is out = kept_outside sources s row (ap (λ n. holds_on (filter_of n s) row) is ∙ out)
