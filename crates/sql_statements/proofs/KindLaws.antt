-- A statement that fits the columns leaves rows of the columns.
use Rattle.std.proofs.Common.{◌≡◌, ℕ, ◌+◌, Bool, true, false, not, ◌&&◌, ◌||◌, ◌==◌, cond, List, [], ◌∷◌, ◌++◌, map, length, Option, Some, None, Ok, Err, refl, sym, ap, subst, ◌∙◌, zero, suc, arith}
use Rattle.std.specs.Prelude.{slice_get, unwrap_or}
use Rattle.std.specs.List.{list_all, list_any, flat_map}
use Rattle.std.proofs.lemmas.Bool.{false≢true, eqb-true}
use Rattle.std.proofs.lemmas.List.Folds.{list_all-append}
use Rattle.row_values.specs.declared.kind.Kind.{Kind}
use Rattle.row_values.specs.declared.kind.Kind.TheVariants as kind
use Rattle.row_values.specs.declared.value.Value.{Value}
use Rattle.row_values.specs.declared.value.Value.TheVariants as value
use Rattle.row_values.specs.declared.schema.Column.{Column}
use Rattle.row_values.specs.Rows.{has_digits, is_null, is_value, is_held, is_row, AreRows}
use Rattle.sql_predicates.specs.declared.expr.Expr.{Expr}
use Rattle.sql_predicates.specs.declared.pred.Pred.{Pred}
use Rattle.sql_predicates.specs.Exprs.{Evaluated, value_of}
use Rattle.sql_predicates.specs.Kinds.{is_value_or_null, has_kinds}
use Rattle.sql_predicates.proofs.CallerLemmas.{and_left, and_right, and_both, or_right, OfKind, of_kind, row_has_kinds, kinds_joined, nulls_have_kinds}
use Rattle.sql_statements.specs.declared.statement.Set.{Set}
use Rattle.sql_statements.specs.declared.statement.When.{When}
use Rattle.sql_statements.specs.declared.statement.When.TheVariants.{Matched, NotMatched, NotMatchedBySource}
use Rattle.sql_statements.specs.declared.statement.Action.{Action}
use Rattle.sql_statements.specs.declared.statement.Action.TheVariants as action
use Rattle.sql_statements.specs.declared.statement.Clause.{Clause}
use Rattle.sql_statements.specs.declared.statement.Merge.{Merge}
use Rattle.sql_statements.specs.declared.statement.Source.{Source}
use Rattle.sql_statements.specs.declared.statement.Statement.{Statement}
use Rattle.sql_statements.specs.declared.statement.Statement.TheVariants as statement
use Rattle.sql_statements.specs.declared.effect.Effect.{Effect}
use Rattle.sql_statements.specs.declared.effect.Effect.TheVariants.{Keep, Remove, Replace}
use Rattle.sql_statements.specs.declared.effect.SqlRefusal.{SqlRefusal}
use Rattle.sql_statements.specs.declared.effect.SqlRefusal.TheVariants as refused
use Rattle.sql_statements.specs.NewRows.{NewRow, computed, new_value, new_row, assigned, updated_from, updated, is_too_wide, overflows_at, overflows, is_null_at, first_null_from, first_null, row_of}
use Rattle.sql_statements.specs.Clauses.{holds_on, nulls, match_of, matches, applies, chosen, acted, effect_by, inserted_by, insertion, is_matched}
use Rattle.sql_statements.specs.Effects.{source_at, merge_effect, effect, insertions, is_ambiguous, replacement, replacements, new_rows, null_refusal, value_refusal, refusal, remaining, remains, rows_after, unless_refused, result_of}
use Rattle.sql_statements.specs.Kinds.{widest, value_fits, exprs_fit, target_fits, set_fits, action_fits, clause_fits, merge_fits, statement_fits, source_has_rows}

neither_left : (a b : Bool) → (a || b) ≡ false → a ≡ false
neither_left true b h = h
neither_left false b h = refl

neither_right : (a b : Bool) → (a || b) ≡ false → b ≡ false
neither_right true b h = absurd (false≢true (sym h))
neither_right false b h = h

-- ---- what a column may take: NULL, a value of its kind, or an amount that is then refused

abbrev may_take : Kind → Option Value → Bool
may_take k None = true
may_take k (Some v) = is_too_wide k v || is_value_or_null k v

-- a new row for the columns
abbrev is_made : List Column → NewRow → Bool
is_made [] [] = true
is_made (column ∷ columns) (v ∷ vs) = may_take column.kind v && is_made columns vs
is_made [] (v ∷ vs) = false
is_made (column ∷ columns) [] = false

amount_taken : (same digits most : Bool) → (same && most) ≡ true → (not digits || (same && digits)) ≡ true
amount_taken same false most h = refl
amount_taken true true most h = refl
amount_taken false true most h = h

taken : (k : Kind) (v : Value) → is_value_or_null (widest k) v ≡ true → may_take k (Some v) ≡ true
taken (kind.Decimal precision scale) (value.Decimal n s) h = amount_taken (s == scale) (has_digits precision n) (has_digits 38 n) h
taken (kind.Decimal precision scale) value.Null h = refl
taken (kind.Decimal precision scale) _ h = absurd (false≢true h)
taken k v h = or_right (is_too_wide k v) (is_value_or_null k v) h

answer_taken : (k : Kind) (answer : Evaluated) → OfKind (widest k) answer → may_take k (computed answer) ≡ true
answer_taken k (Ok v) h = taken k v h
answer_taken k (Err fault) h = refl

module _ (sight : List Column) (seen : List Value) (is : has_kinds sight seen ≡ true) where
  value_taken : (column : Column) (e : Expr) → value_fits sight e column ≡ true → may_take column.kind (new_value seen e) ≡ true
  value_taken column e fit = answer_taken column.kind (value_of e seen) (of_kind sight seen is e (widest column.kind) fit)

  tuple_made : (columns : List Column) (exprs : List Expr) → exprs_fit sight columns exprs ≡ true → is_made columns (new_row seen exprs) ≡ true
  tuple_made [] [] fit = refl
  tuple_made (column ∷ columns) (e ∷ exprs) fit =
      and_both (may_take column.kind (new_value seen e)) (is_made columns (new_row seen exprs)) (value_taken column e (and_left _ _ fit)) (tuple_made columns exprs (and_right (value_fits sight e column) _ fit))
  tuple_made [] (e ∷ exprs) fit = absurd (false≢true fit)
  tuple_made (column ∷ columns) [] fit = absurd (false≢true fit)

  assigned_taken : (all : List Column) (column : Column) (at : ℕ) (old : Value) → slice_get all at ≡ Some column
      → is_value_or_null column.kind old ≡ true → (sets : List Set) → list_all (set_fits sight all) sets ≡ true
      → may_take column.kind (assigned sets seen at old) ≡ true
  assigned_taken all column at old there may [] fit = or_right (is_too_wide column.kind old) (is_value_or_null column.kind old) may
  assigned_taken all column at old there may (s ∷ sets) fit = by (s.column == at) refl (assigned_taken all column at old there may sets (and_right (set_fits sight all s) _ fit))
    where
      by : (here : Bool) → (s.column == at) ≡ here → may_take column.kind (assigned sets seen at old) ≡ true
          → may_take column.kind (cond here (new_value seen s.expr) (assigned sets seen at old)) ≡ true
      by true same rest =
          value_taken column s.expr (subst (λ found. target_fits sight s.expr found ≡ true) (ap (slice_get all) (eqb-true s.column at same) ∙ there) (and_left (set_fits sight all s) _ fit))
      by false same rest = rest

  updated_made : (all : List Column) (sets : List Set) → list_all (set_fits sight all) sets ≡ true
      → (at : ℕ) (columns : List Column) (olds : List Value) → ((i : ℕ) → slice_get all (i + at) ≡ slice_get columns i)
      → has_kinds columns olds ≡ true → is_made columns (updated_from at sets seen olds) ≡ true
  updated_made all sets fit at [] [] place have = refl
  updated_made all sets fit at (column ∷ columns) (old ∷ olds) place have =
      and_both (may_take column.kind (assigned sets seen at old)) (is_made columns (updated_from (at + 1) sets seen olds))
      (assigned_taken all column at old (ap (slice_get all) (omega arith) ∙ place 0) (and_left _ _ have) sets fit)
      (updated_made all sets fit (at + 1) columns olds (λ i. ap (slice_get all) (omega arith) ∙ place (suc i)) (and_right (is_value_or_null column.kind old) _ have))
  updated_made all sets fit at [] (old ∷ olds) place have = absurd (false≢true have)
  updated_made all sets fit at (column ∷ columns) [] place have = absurd (false≢true have)

-- ---- a new row that is not refused is a row of the columns

not_too_wide : (column : Column) (v : Option Value) → may_take column.kind v ≡ true → overflows_at column v ≡ false → (w : Value)
    × (v ≡ Some w) × (is_value_or_null column.kind w ≡ true)
not_too_wide column None may fine = absurd (false≢true (sym fine))
not_too_wide column (Some v) may fine = (v, refl, subst (λ wide. (wide || is_value_or_null column.kind v) ≡ true) fine may)

held_by_column : (null required is : Bool) → (null || is) ≡ true → (required && null) ≡ false → cond null (not required) is ≡ true
held_by_column true true is may fine = absurd (false≢true (sym fine))
held_by_column true false is may fine = refl
held_by_column false required is may fine = may

-- no required column from here on has NULL in the row
abbrev lacks_null : ℕ → List Column → NewRow → Bool
lacks_null at [] row = true
lacks_null at (column ∷ columns) row = not (column.required && is_null_at at row) && lacks_null (at + 1) columns row

not_true : (b : Bool) → not b ≡ true → b ≡ false
not_true true h = absurd (false≢true h)
not_true false h = refl

made_is_row : (whole : NewRow) (at : ℕ) (columns : List Column) (made : NewRow)
    → ((i : ℕ) → slice_get whole (i + at) ≡ slice_get made i) → is_made columns made ≡ true → overflows columns made ≡ false
    → lacks_null at columns whole ≡ true → is_row columns (row_of made) ≡ true
made_is_row whole at [] [] place may fine full = refl
made_is_row whole at (column ∷ columns) (v ∷ vs) place may fine full =
    and_both (is_held column (unwrap_or v value.Null)) (is_row columns (row_of vs))
    (held (not_too_wide column v (and_left _ _ may) (neither_left _ _ fine)))
    (made_is_row whole (at + 1) columns vs (λ i. ap (slice_get whole) (omega arith) ∙ place (suc i)) (and_right (may_take column.kind v) _ may) (neither_right (overflows_at column v) _ fine) (and_right (not (column.required && is_null_at at whole)) _ full))
  where
    here : is_null_at at whole ≡ is_null (unwrap_or v value.Null)
    here = ap (λ found. is_null (unwrap_or (unwrap_or found (Some value.Null)) value.Null)) (ap (slice_get whole) (omega arith) ∙ place 0)

    held : (w : Value) × (v ≡ Some w) × (is_value_or_null column.kind w ≡ true) → is_held column (unwrap_or v value.Null) ≡ true
    held e =
        let same : unwrap_or v value.Null ≡ e.0 = ap (λ o. unwrap_or o value.Null) e.1 in
        held_by_column (is_null (unwrap_or v value.Null)) column.required (is_value column.kind (unwrap_or v value.Null))
        (subst (λ x. is_value_or_null column.kind x ≡ true) (sym same) e.2)
        (sym (ap (λ null. column.required && null) here) ∙ not_true _ (and_left _ _ full))
made_is_row whole at [] (v ∷ vs) place may fine full = absurd (false≢true may)
made_is_row whole at (column ∷ columns) [] place may fine full = absurd (false≢true may)

no_null : (at : Option ℕ) → null_refusal at ≡ None → at ≡ None
no_null None h = refl
no_null (Some at) h = absurd cc

not_refused : (columns : List Column) (made : List NewRow) → value_refusal columns made ≡ None
    → (list_any (overflows columns) made ≡ false) × (first_null columns made ≡ None)
not_refused columns made h = by (list_any (overflows columns) made) refl h
  where
    by : (found : Bool) → list_any (overflows columns) made ≡ found
        → cond found (Some refused.Overflow) (null_refusal (first_null columns made)) ≡ None
        → (list_any (overflows columns) made ≡ false) × (first_null columns made ≡ None)
    by true is none = absurd cc
    by false is none = (is, no_null (first_null columns made) none)

split_null : (at : ℕ) (columns : List Column) (row : NewRow) (rows : List NewRow) → first_null_from at columns (row ∷ rows) ≡ None
    → (lacks_null at columns row ≡ true) × (first_null_from at columns rows ≡ None)
split_null at [] row rows h = (refl, refl)
split_null at (column ∷ columns) row rows h = by column.required (is_null_at at row) (list_any (is_null_at at) rows) (split_null (at + 1) columns row rows) h
  where
    by : (required here later : Bool) → (first_null_from (at + 1) columns (row ∷ rows) ≡ None
        → (lacks_null (at + 1) columns row ≡ true) × (first_null_from (at + 1) columns rows ≡ None))
        → cond (required && (here || later)) (Some at) (first_null_from (at + 1) columns (row ∷ rows)) ≡ None
        → ((not (required && here) && lacks_null (at + 1) columns row) ≡ true)
        × (cond (required && later) (Some at) (first_null_from (at + 1) columns rows) ≡ None)
    by true true later rest none = absurd cc
    by true false true rest none = absurd cc
    by true false false rest none = rest none
    by false here later rest none = rest none

-- the new row is a row of the columns
abbrev is_good : List Column → NewRow → Bool
is_good columns made = is_row columns (row_of made)

all_good : (columns : List Column) (made : List NewRow) → list_all (is_made columns) made ≡ true
    → list_any (overflows columns) made ≡ false → first_null columns made ≡ None → list_all (is_good columns) made ≡ true
all_good columns [] may fine full = refl
all_good columns (row ∷ rows) may fine full =
    let s = split_null 0 columns row rows full in
    and_both (is_good columns row) (list_all (is_good columns) rows)
    (made_is_row row 0 columns row (λ i. ap (slice_get row) (omega arith)) (and_left _ _ may) (neither_left _ _ fine) s.0)
    (all_good columns rows (and_right (is_made columns row) _ may) (neither_right (overflows columns row) _ fine) s.1)

-- ---- the rows that a statement makes

abbrev choice_fits : List Column → List Column → Option Action → Bool
choice_fits sight columns None = true
choice_fits sight columns (Some a) = action_fits sight columns a

chosen_fits : (sight columns : List Column) (when : When) (seen : List Value) (clauses : List Clause)
    → list_all (clause_fits sight columns) clauses ≡ true → choice_fits sight columns (chosen when clauses seen) ≡ true
chosen_fits sight columns when seen [] fit = refl
chosen_fits sight columns when seen (c ∷ clauses) fit = by (applies when c seen) (chosen_fits sight columns when seen clauses (and_right (clause_fits sight columns c) _ fit))
  where
    by : (here : Bool) → choice_fits sight columns (chosen when clauses seen) ≡ true
        → choice_fits sight columns (cond here (Some c.action) (chosen when clauses seen)) ≡ true
    by true rest = and_left _ _ fit
    by false rest = rest

module _ (sight : List Column) (seen : List Value) (is : has_kinds sight seen ≡ true) (columns : List Column) where
  updated_is_made : (sets : List Set) (old : List Value) → list_all (set_fits sight columns) sets ≡ true
      → has_kinds columns old ≡ true → is_made columns (updated sets seen old) ≡ true
  updated_is_made sets old fit have = updated_made sight seen is columns sets fit 0 columns old (λ i. ap (slice_get columns) (omega arith)) have

  acted_made : (target : List Value) (choice : Option Action) → has_kinds columns target ≡ true
      → choice_fits sight columns choice ≡ true → list_all (is_made columns) (replacement (acted target seen choice)) ≡ true
  acted_made target None have fit = refl
  acted_made target (Some (action.Update sets)) have fit = and_both _ true (updated_is_made sets target fit have) refl
  acted_made target (Some action.Delete) have fit = refl
  acted_made target (Some (action.Insert exprs)) have fit = refl

  inserted_made : (choice : Option Action) → choice_fits sight columns choice ≡ true → list_all (is_made columns) (inserted_by seen choice) ≡ true
  inserted_made None fit = refl
  inserted_made (Some (action.Update sets)) fit = refl
  inserted_made (Some action.Delete) fit = refl
  inserted_made (Some (action.Insert exprs)) fit = and_both _ true (tuple_made sight seen is columns exprs fit) refl

tuples_made : (columns : List Column) (tuples : List (List Expr)) → list_all (exprs_fit [] columns) tuples ≡ true
    → list_all (is_made columns) (map (new_row []) tuples) ≡ true
tuples_made columns [] fit = refl
tuples_made columns (exprs ∷ tuples) fit =
    and_both _ _ (tuple_made [] [] refl columns exprs (and_left _ _ fit)) (tuples_made columns tuples (and_right (exprs_fit [] columns exprs) _ fit))

-- ---- MERGE

module _ (columns more : List Column) (target : List Value) (have : has_kinds columns target ≡ true) where
  match_has_kinds : (on : Pred) (row : List Value) → is_row more row ≡ true → list_all (has_kinds (columns ++ more)) (match_of on target row) ≡ true
  unfolding match_of
  match_has_kinds on row is = by (holds_on on (target ++ row))
    where
      by : (found : Bool) → list_all (has_kinds (columns ++ more)) (cond found ((target ++ row) ∷ []) []) ≡ true
      by true = and_both (has_kinds (columns ++ more) (target ++ row)) true (kinds_joined columns more target row have (row_has_kinds more row is)) refl
      by false = refl

  matches_have_kinds : (on : Pred) (rows : List (List Value)) → list_all (is_row more) rows ≡ true
      → list_all (has_kinds (columns ++ more)) (matches on rows target) ≡ true
  matches_have_kinds on [] are = refl
  matches_have_kinds on (row ∷ rows) are =
      list_all-append (has_kinds (columns ++ more)) (match_of on target row) (matches on rows target)
      ∙ and_both _ _ (match_has_kinds on row (and_left _ _ are)) (matches_have_kinds on rows (and_right (is_row more row) _ are))

  effect_by_made : (clauses : List Clause) (padding : List Value) (sights : List (List Value))
      → list_all (clause_fits (columns ++ more) columns) clauses ≡ true → has_kinds more padding ≡ true
      → list_all (has_kinds (columns ++ more)) sights ≡ true
      → list_all (is_made columns) (replacement (effect_by clauses target padding sights)) ≡ true
  effect_by_made clauses padding (sight ∷ sights) fit pad are =
      acted_made (columns ++ more) sight (and_left _ _ are) columns target (chosen Matched clauses sight) have (chosen_fits (columns ++ more) columns Matched sight clauses fit)
  effect_by_made clauses padding [] fit pad are =
      acted_made (columns ++ more) (target ++ padding) (kinds_joined columns more target padding have pad) columns target (chosen NotMatchedBySource clauses (target ++ padding)) have (chosen_fits (columns ++ more) columns NotMatchedBySource (target ++ padding) clauses fit)

merge_effect_made : (columns : List Column) (source : Source) (m : Merge) (row : List Value) → source_has_rows source ≡ true
    → merge_fits columns source m ≡ true → is_row columns row ≡ true
    → list_all (is_made columns) (replacement (merge_effect m source row)) ≡ true
merge_effect_made columns source m row are fit is =
    let have = row_has_kinds columns row is in
    effect_by_made columns source.columns row have m.clauses (nulls (length source.columns)) (matches m.on source.rows row) fit (nulls_have_kinds source.columns) (matches_have_kinds columns source.columns row have m.on source.rows are)

insertion_made : (columns : List Column) (source : Source) (m : Merge) (targets : List (List Value)) (row : List Value)
    → merge_fits columns source m ≡ true → is_row source.columns row ≡ true
    → list_all (is_made columns) (insertion m.on m.clauses targets (nulls (length columns)) row) ≡ true
unfolding insertion
insertion_made columns source m targets row fit is = by (is_matched m.on targets row)
  where
    by : (found : Bool) → list_all (is_made columns) (cond found [] (inserted_by (nulls (length columns) ++ row)
        (chosen NotMatched m.clauses (nulls (length columns) ++ row)))) ≡ true
    by true = refl
    by false =
        inserted_made (columns ++ source.columns) (nulls (length columns) ++ row) (kinds_joined columns source.columns (nulls (length columns)) row (nulls_have_kinds columns) (row_has_kinds source.columns row is)) columns
        (chosen NotMatched m.clauses (nulls (length columns) ++ row)) (chosen_fits (columns ++ source.columns) columns NotMatched (nulls (length columns) ++ row) m.clauses fit)

insertions_made_of : (columns : List Column) (source : Source) (m : Merge) (targets rows : List (List Value))
    → merge_fits columns source m ≡ true → list_all (is_row source.columns) rows ≡ true
    → list_all (is_made columns) (flat_map (insertion m.on m.clauses targets (nulls (length columns))) rows) ≡ true
insertions_made_of columns source m targets [] fit are = refl
insertions_made_of columns source m targets (row ∷ rows) fit are =
    list_all-append (is_made columns) (insertion m.on m.clauses targets (nulls (length columns)) row) (flat_map (insertion m.on m.clauses targets (nulls (length columns))) rows)
    ∙ and_both _ _ (insertion_made columns source m targets row fit (and_left _ _ are)) (insertions_made_of columns source m targets rows fit (and_right (is_row source.columns row) _ are))

-- ---- any statement

source_is_good : (sources : List Source) (at : ℕ) → list_all source_has_rows sources ≡ true → source_has_rows (source_at sources at) ≡ true
source_is_good [] zero are = refl
source_is_good [] (suc at) are = refl
source_is_good (source ∷ sources) zero are = and_left _ _ are
source_is_good (source ∷ sources) (suc at) are = source_is_good sources at (and_right (source_has_rows source) _ are)

removed_or_kept : (columns : List Column) (found : Bool) → list_all (is_made columns) (replacement (cond found Remove Keep)) ≡ true
removed_or_kept columns true = refl
removed_or_kept columns false = refl

replaced_or_kept : (columns : List Column) (found : Bool) (new : NewRow) → is_made columns new ≡ true
    → list_all (is_made columns) (replacement (cond found (Replace new) Keep)) ≡ true
replaced_or_kept columns true new made = and_both _ true made refl
replaced_or_kept columns false new made = refl

module _ (columns : List Column) (sources : List Source) (good : list_all source_has_rows sources ≡ true) where
  replacements_made : (s : Statement) (row : List Value) → statement_fits columns sources s ≡ true → is_row columns row ≡ true
      → list_all (is_made columns) (replacements sources s row) ≡ true
  unfolding replacements effect
  replacements_made (statement.Insert branch tuples) row fit is = refl
  replacements_made (statement.Delete branch filter) row fit is = removed_or_kept columns (holds_on filter row)
  replacements_made (statement.Update branch sets filter) row fit is =
      let have = row_has_kinds columns row is in
      replaced_or_kept columns (holds_on filter row) (updated sets row row) (updated_is_made columns row have columns sets row fit have)
  replacements_made (statement.Merge m) row fit is = merge_effect_made columns (source_at sources m.source) m row (source_is_good sources m.source good) fit is
  replacements_made (statement.CreateBranch branch) row fit is = refl
  replacements_made (statement.DropBranch branch) row fit is = refl
  replacements_made (statement.Select branch filter) row fit is = refl

  all_replacements_made : (s : Statement) (rows : List (List Value)) → statement_fits columns sources s ≡ true
      → list_all (is_row columns) rows ≡ true → list_all (is_made columns) (flat_map (replacements sources s) rows) ≡ true
  all_replacements_made s [] fit are = refl
  all_replacements_made s (row ∷ rows) fit are =
      list_all-append (is_made columns) (replacements sources s row) (flat_map (replacements sources s) rows)
      ∙ and_both _ _ (replacements_made s row fit (and_left _ _ are)) (all_replacements_made s rows fit (and_right (is_row columns row) _ are))

  insertions_made : (s : Statement) (rows : List (List Value)) → statement_fits columns sources s ≡ true
      → list_all (is_made columns) (insertions (length columns) sources s rows) ≡ true
  insertions_made (statement.Insert branch tuples) rows fit = tuples_made columns tuples fit
  insertions_made (statement.Delete branch filter) rows fit = refl
  insertions_made (statement.Update branch sets filter) rows fit = refl
  insertions_made (statement.Merge m) rows fit =
      insertions_made_of columns (source_at sources m.source) m rows (source_at sources m.source).rows fit (source_is_good sources m.source good)
  insertions_made (statement.CreateBranch branch) rows fit = refl
  insertions_made (statement.DropBranch branch) rows fit = refl
  insertions_made (statement.Select branch filter) rows fit = refl

  remaining_good : (e : Effect) (row : List Value) → is_row columns row ≡ true → list_all (is_good columns) (replacement e) ≡ true
      → list_all (is_row columns) (remaining e row) ≡ true
  remaining_good Keep row is good_too = and_both (is_row columns row) true is refl
  remaining_good Remove row is good_too = refl
  remaining_good (Replace new) row is good_too = good_too

  remains_good : (s : Statement) (row : List Value) → is_row columns row ≡ true
      → list_all (is_good columns) (replacements sources s row) ≡ true → list_all (is_row columns) (remains sources s row) ≡ true
  unfolding replacements remains
  remains_good s row is good_too = remaining_good (effect sources s row) row is good_too

  all_remain_good : (s : Statement) (rows : List (List Value)) → list_all (is_row columns) rows ≡ true
      → list_all (is_good columns) (flat_map (replacements sources s) rows) ≡ true
      → list_all (is_row columns) (flat_map (remains sources s) rows) ≡ true
  all_remain_good s [] are good_too = refl
  all_remain_good s (row ∷ rows) are good_too =
      let both = sym (list_all-append (is_good columns) (replacements sources s row) (flat_map (replacements sources s) rows)) ∙ good_too in
      list_all-append (is_row columns) (remains sources s row) (flat_map (remains sources s) rows)
      ∙ and_both _ _ (remains_good s row (and_left _ _ are) (and_left _ _ both)) (all_remain_good s rows (and_right (is_row columns row) _ are) (and_right (list_all (is_good columns) (replacements sources s row)) _ both))

  rows_of_good : (made : List NewRow) → list_all (is_good columns) made ≡ true → list_all (is_row columns) (map row_of made) ≡ true
  rows_of_good [] good_too = refl
  rows_of_good (row ∷ rows) good_too = and_both (is_row columns (row_of row)) _ (and_left _ _ good_too) (rows_of_good rows (and_right (is_good columns row) _ good_too))

  value_refused : (s : Statement) (rows : List (List Value)) → refusal columns sources s rows ≡ None
      → value_refusal columns (new_rows (length columns) sources s rows) ≡ None
  value_refused s rows h = by (is_ambiguous sources s rows) h
    where
      by : (two : Bool) → cond two (Some refused.Cardinality)
          (value_refusal columns (new_rows (length columns) sources s rows)) ≡ None
          → value_refusal columns (new_rows (length columns) sources s rows) ≡ None
      by true none = absurd cc
      by false none = none

  after_good : (s : Statement) (rows : List (List Value)) → statement_fits columns sources s ≡ true
      → list_all (is_row columns) rows ≡ true → refusal columns sources s rows ≡ None
      → list_all (is_row columns) (rows_after (length columns) sources s rows) ≡ true
  after_good s rows fit are none =
      let replaced = flat_map (replacements sources s) rows in
      let inserted = insertions (length columns) sources s rows in
      let may = list_all-append (is_made columns) replaced inserted ∙ and_both _ _ (all_replacements_made s rows fit are) (insertions_made s rows fit) in
      let fine = not_refused columns (replaced ++ inserted) (value_refused s rows none) in
      let both = sym (list_all-append (is_good columns) replaced inserted) ∙ all_good columns (replaced ++ inserted) may fine.0 fine.1 in
      list_all-append (is_row columns) (flat_map (remains sources s) rows) (map row_of inserted)
      ∙ and_both _ _ (all_remain_good s rows are (and_left _ _ both)) (rows_of_good inserted (and_right (list_all (is_good columns) replaced) _ both))

-- a statement that fits leaves rows of the columns
pub rows_stay : (columns : List Column) (sources : List Source) (s : Statement) (rows left : List (List Value))
    → list_all source_has_rows sources ≡ true → statement_fits columns sources s ≡ true → AreRows columns rows
    → result_of columns sources s rows ≡ Ok left → AreRows columns left
rows_stay columns sources s rows left good fit are h = by (refusal columns sources s rows) refl h
  where
    by : (why : Option SqlRefusal) → refusal columns sources s rows ≡ why
        → unless_refused why (rows_after (length columns) sources s rows) ≡ Ok left → AreRows columns left
    by None is gives =
        let same : rows_after (length columns) sources s rows ≡ left = cc in
        subst (λ all. AreRows columns all) same (after_good columns sources good s rows fit are is)
    by (Some why) is gives = absurd cc
