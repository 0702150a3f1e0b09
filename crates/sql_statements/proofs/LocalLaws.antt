-- What a statement inserts and why it is refused depend on the rows where its filter is True alone.
use Rattle.std.proofs.Common.{◌≡◌, ℕ, ◌==◌, Bool, true, false, not, arith, ◌&&◌, ◌||◌, cond, List, [], ◌∷◌, ◌++◌, length, Option, Some, None, refl, sym, ap, subst, ◌∙◌, IsTrue, map}
use Rattle.std.proofs.lemmas.Bool.{false≢true, eqb-true}
use Rattle.std.specs.Prelude.{filter, nat_le}
use Rattle.std.specs.List.{list_any, flat_map}
use Rattle.plain_types.specs.Bags.{SameBag, total}
use Rattle.plain_types.proofs.CallerLemmas.{total-append}
use Rattle.row_values.specs.declared.value.Value.{Value}
use Rattle.row_values.specs.declared.schema.Column.{Column}
use Rattle.sql_predicates.specs.declared.pred.Pred.{Pred}
use Rattle.sql_statements.specs.declared.statement.Statement.{Statement}
use Rattle.sql_statements.specs.declared.statement.Statement.TheVariants as statement
use Rattle.sql_statements.specs.declared.statement.Merge.{Merge}
use Rattle.sql_statements.specs.declared.statement.Source.{Source}
use Rattle.sql_statements.specs.declared.statement.When.TheVariants.{NotMatched}
use Rattle.sql_statements.specs.declared.effect.SqlRefusal.{SqlRefusal}
use Rattle.sql_statements.specs.declared.effect.SqlRefusal.TheVariants as refused
use Rattle.sql_statements.specs.NewRows.{row_of}
use Rattle.sql_statements.specs.Clauses.{holds_on, is_match, matches_two, insertion, inserted_by, chosen, nulls, refuses_two}
use Rattle.sql_statements.specs.Effects.{source_at, insertions, is_ambiguous, replacements, replacement, new_rows, value_refusal, refusal, remains, remaining, rows_after, unless_refused, result_of}
use Rattle.sql_statements.specs.Filter.{always, target_part, is_by_source, merge_filter, filter_of, hits, misses}
use Rattle.sql_statements.specs.Fits.{are_wide}
use Rattle.sql_statements.specs.Results.{SameResult, beside}
use Rattle.sql_statements.proofs.StatementLaws.{always_holds, flat_map_same, insertions_of_bag, refusal_of_bag}
use Rattle.sql_statements.proofs.FilterLaws.{kept_outside, target_part_holds, no_matches}

and_left : (a b : Bool) → IsTrue (a && b) → IsTrue a
and_left true b h = refl
and_left false b h = h

and_right : (a b : Bool) → IsTrue (a && b) → IsTrue b
and_right true b h = h
and_right false b h = absurd (false≢true h)

-- ---- lists without the members that a test leaves out

skip : {X Y : Type 0} (f : X → List Y) (x : X) (found : Bool) (rest kept : List X) → (found ≡ false → f x ≡ [])
    → flat_map f rest ≡ flat_map f kept → f x ++ flat_map f rest ≡ flat_map f (cond found (x ∷ kept) kept)
skip f x true rest kept none same = ap (λ ys. f x ++ ys) same
skip f x false rest kept none same = ap (λ ys. ys ++ flat_map f rest) (none refl) ∙ same

skip_any : {X : Type 0} (test : X → Bool) (x : X) (found : Bool) (rest kept : List X) → (found ≡ false → test x ≡ false)
    → list_any test rest ≡ list_any test kept → (test x || list_any test rest) ≡ list_any test (cond found (x ∷ kept) kept)
skip_any test x true rest kept none same = ap (λ b. test x || b) same
skip_any test x false rest kept none same = ap (λ b. b || list_any test rest) (none refl) ∙ same

flat_map_of_hit : {Y : Type 0} (width : ℕ) (hit : List Value → Bool) (f : List Value → List Y)
    → ((row : List Value) → length row ≡ width → hit row ≡ false → f row ≡ []) → (rows : List (List Value))
    → IsTrue (are_wide width rows) → flat_map f rows ≡ flat_map f (filter hit rows)
flat_map_of_hit width hit f none [] wide = refl
flat_map_of_hit width hit f none (row ∷ rows) wide =
    skip f row (hit row) rows (filter hit rows) (none row (eqb-true (length row) width (and_left (length row == width) (are_wide width rows) wide)))
    (flat_map_of_hit width hit f none rows (and_right (length row == width) (are_wide width rows) wide))

list_any_of_hit : (width : ℕ) (hit : List Value → Bool) (test : List Value → Bool)
    → ((row : List Value) → length row ≡ width → hit row ≡ false → test row ≡ false) → (rows : List (List Value))
    → IsTrue (are_wide width rows) → list_any test rows ≡ list_any test (filter hit rows)
list_any_of_hit width hit test none [] wide = refl
list_any_of_hit width hit test none (row ∷ rows) wide =
    skip_any test row (hit row) rows (filter hit rows) (none row (eqb-true (length row) width (and_left (length row == width) (are_wide width rows) wide)))
    (list_any_of_hit width hit test none rows (and_right (length row == width) (are_wide width rows) wide))

-- ---- the parts of a statement

no_replacement : (sources : List Source) (s : Statement) (width : ℕ) (row : List Value) → length row ≡ width
    → holds_on (filter_of width s) row ≡ false → replacements sources s row ≡ []
unfolding replacements
no_replacement sources s width row is out = ap replacement (kept_outside sources s row (ap (λ n. holds_on (filter_of n s) row) is ∙ out))

-- no source row matches a row that the filter of a MERGE leaves out
unmatched : (on : Pred) (row more : List Value) (found : Bool) → is_match on more row ≡ found
    → holds_on (target_part (length row) on) row ≡ false → found ≡ false
unfolding is_match
unmatched on row more true is out = absurd (false≢true (sym out ∙ target_part_holds row more on is))
unmatched on row more false is out = refl

not_by_always : (row : List Value) (by_source : Bool) (other : Pred) → holds_on (cond by_source always other) row ≡ false → holds_on other row ≡ false
not_by_always row true other out = absurd (false≢true (sym out ∙ always_holds row))
not_by_always row false other out = out

merge_out : (m : Merge) (width : ℕ) (row : List Value) → length row ≡ width → holds_on (merge_filter width m) row ≡ false
    → holds_on (target_part (length row) m.on) row ≡ false
merge_out m width row is out = ap (λ n. holds_on (target_part n m.on) row) is ∙ not_by_always row (list_any is_by_source m.clauses) (target_part width m.on) out

two_of_none : (on : Pred) (rows : List (List Value)) (row : List Value) → holds_on (target_part (length row) on) row ≡ false → matches_two on rows row ≡ false
unfolding matches_two
two_of_none on rows row out = ap (λ sights. nat_le 2 (length sights)) (no_matches on rows row out)

insertion_of_hits : (m : Merge) (width : ℕ) (rows : List (List Value)) (more : List Value) → IsTrue (are_wide width rows)
    → insertion m.on m.clauses rows (nulls width) more ≡ insertion m.on m.clauses (filter (holds_on (merge_filter width m)) rows)
    (nulls width) more
unfolding insertion
insertion_of_hits m width rows more wide =
    ap (λ found. cond found [] (inserted_by (nulls width ++ more) (chosen NotMatched m.clauses (nulls width ++ more))))
    (list_any_of_hit width (holds_on (merge_filter width m)) (is_match m.on more) (λ row is out. unmatched m.on row more (is_match m.on more row) refl (merge_out m width row is out)) rows wide)

insertions_of_hits : (width : ℕ) (sources : List Source) (s : Statement) (rows : List (List Value)) → IsTrue (are_wide width rows)
    → insertions width sources s rows ≡ insertions width sources s (hits width s rows)
insertions_of_hits width sources (statement.Merge m) rows wide = flat_map_same _ _ (λ more. insertion_of_hits m width rows more wide) (source_at sources m.source).rows
insertions_of_hits width sources (statement.Insert branch tuples) rows wide = refl
insertions_of_hits width sources (statement.Delete branch filter) rows wide = refl
insertions_of_hits width sources (statement.Update branch sets filter) rows wide = refl
insertions_of_hits width sources (statement.CreateBranch branch) rows wide = refl
insertions_of_hits width sources (statement.DropBranch branch) rows wide = refl
insertions_of_hits width sources (statement.Select branch filter) rows wide = refl

is_ambiguous_of_hits : (width : ℕ) (sources : List Source) (s : Statement) (rows : List (List Value))
    → IsTrue (are_wide width rows) → is_ambiguous sources s rows ≡ is_ambiguous sources s (hits width s rows)
is_ambiguous_of_hits width sources (statement.Merge m) rows wide =
    ap (λ two. refuses_two m.clauses && two)
    (list_any_of_hit width (holds_on (merge_filter width m)) (matches_two m.on (source_at sources m.source).rows) (λ row is out. two_of_none m.on (source_at sources m.source).rows row (merge_out m width row is out)) rows wide)
is_ambiguous_of_hits width sources (statement.Insert branch tuples) rows wide = refl
is_ambiguous_of_hits width sources (statement.Delete branch filter) rows wide = refl
is_ambiguous_of_hits width sources (statement.Update branch sets filter) rows wide = refl
is_ambiguous_of_hits width sources (statement.CreateBranch branch) rows wide = refl
is_ambiguous_of_hits width sources (statement.DropBranch branch) rows wide = refl
is_ambiguous_of_hits width sources (statement.Select branch filter) rows wide = refl

new_rows_of_hits : (width : ℕ) (sources : List Source) (s : Statement) (rows : List (List Value)) → IsTrue (are_wide width rows)
    → new_rows width sources s rows ≡ new_rows width sources s (hits width s rows)
new_rows_of_hits width sources s rows wide =
    ap (λ made. made ++ insertions width sources s rows) (flat_map_of_hit width (holds_on (filter_of width s)) (replacements sources s) (no_replacement sources s width) rows wide)
    ∙ ap (λ made. flat_map (replacements sources s) (hits width s rows) ++ made) (insertions_of_hits width sources s rows wide)

refusal_of_hits : (columns : List Column) (sources : List Source) (s : Statement) (rows : List (List Value))
    → IsTrue (are_wide (length columns) rows)
    → refusal columns sources s rows ≡ refusal columns sources s (hits (length columns) s rows)
refusal_of_hits columns sources s rows wide =
    ap (λ found. cond found (Some refused.Cardinality) (value_refusal columns (new_rows (length columns) sources s rows))) (is_ambiguous_of_hits (length columns) sources s rows wide)
    ∙ ap (λ made. cond (is_ambiguous sources s (hits (length columns) s rows)) (Some refused.Cardinality) (value_refusal columns made)) (new_rows_of_hits (length columns) sources s rows wide)

pub local_insertions : (width : ℕ) (sources : List Source) (s : Statement) (xs ys : List (List Value))
    → IsTrue (are_wide width xs) → IsTrue (are_wide width ys) → SameBag (hits width s xs) (hits width s ys)
    → insertions width sources s xs ≡ insertions width sources s ys
local_insertions width sources s xs ys wide also same =
    insertions_of_hits width sources s xs wide ∙ insertions_of_bag width sources s _ _ same ∙ sym (insertions_of_hits width sources s ys also)

pub local_refusal : (columns : List Column) (sources : List Source) (s : Statement) (xs ys : List (List Value))
    → IsTrue (are_wide (length columns) xs) → IsTrue (are_wide (length columns) ys)
    → SameBag (hits (length columns) s xs) (hits (length columns) s ys)
    → refusal columns sources s xs ≡ refusal columns sources s ys
local_refusal columns sources s xs ys wide also same =
    refusal_of_hits columns sources s xs wide ∙ refusal_of_bag columns sources s _ _ same ∙ sym (refusal_of_hits columns sources s ys also)

-- ---- the rows that the filter leaves out stay, and the others are all that the statement acts on

split_by_hit : (width : ℕ) (hit : List Value → Bool) (f : List Value → List (List Value))
    → ((row : List Value) → length row ≡ width → hit row ≡ false → f row ≡ row ∷ []) → (rows : List (List Value))
    → IsTrue (are_wide width rows) → SameBag (flat_map f rows)
    (filter (λ row. not (hit row)) rows ++ flat_map f (filter hit rows))
split_by_hit width hit f stays [] wide weight = refl
split_by_hit width hit f stays (row ∷ rows) wide weight =
    by (hit row) (stays row (eqb-true (length row) width (and_left (length row == width) (are_wide width rows) wide)))
    (split_by_hit width hit f stays rows (and_right (length row == width) (are_wide width rows) wide) weight)
  where
    missed : List (List Value)
    missed = filter (λ r. not (hit r)) rows

    met : List (List Value)
    met = filter hit rows

    by : (found : Bool) → (found ≡ false → f row ≡ row ∷ [])
        → total weight (flat_map f rows) ≡ total weight (missed ++ flat_map f met)
        → total weight (f row ++ flat_map f rows) ≡ total weight (cond (not found)
        (row ∷ missed) missed ++ flat_map f (cond found (row ∷ met) met))
    by true stay rest =
        omega (arith, rest, total-append weight (f row) (flat_map f rows), total-append weight missed (f row ++ flat_map f met), total-append weight (f row) (flat_map f met), total-append weight missed (flat_map f met))
    by false stay rest = omega (arith, rest, ap (total weight) (stay refl), total-append weight (f row) (flat_map f rows))

row_stays : (sources : List Source) (s : Statement) (width : ℕ) (row : List Value) → length row ≡ width
    → holds_on (filter_of width s) row ≡ false → remains sources s row ≡ row ∷ []
unfolding remains
row_stays sources s width row is out = ap (λ e. remaining e row) (kept_outside sources s row (ap (λ n. holds_on (filter_of n s) row) is ∙ out))

rows_after_split : (width : ℕ) (sources : List Source) (s : Statement) (rows : List (List Value)) → IsTrue (are_wide width rows)
    → SameBag (rows_after width sources s rows) (misses width s rows ++ rows_after width sources s (hits width s rows))
rows_after_split width sources s rows wide weight =
    let left = flat_map (remains sources s) rows in
    let missed = misses width s rows in
    let met = flat_map (remains sources s) (hits width s rows) in
    let made = map row_of (insertions width sources s rows) in
    let same = map row_of (insertions width sources s (hits width s rows)) in
    omega (
      arith,
      split_by_hit width (holds_on (filter_of width s)) (remains sources s) (row_stays sources s width) rows wide weight,
      ap
          (λ more. total weight (map row_of more))
          (insertions_of_hits width sources s rows wide),
      total-append weight left made,
      total-append weight missed
          (met ++ same),
      total-append weight met same,
      total-append weight missed met,
    )

beside_same : (why : Option SqlRefusal) (kept xs ys : List (List Value)) → SameBag xs (kept ++ ys)
    → SameResult (unless_refused why xs) (beside kept (unless_refused why ys))
beside_same None kept xs ys same = same
beside_same (Some why) kept xs ys same = refl

pub acts_on_hits : (columns : List Column) (sources : List Source) (s : Statement) (rows : List (List Value))
    → IsTrue (are_wide (length columns) rows) → SameResult (result_of columns sources s rows)
    (beside (misses (length columns) s rows) (result_of columns sources s (hits (length columns) s rows)))
acts_on_hits columns sources s rows wide =
    subst (λ why. SameResult (result_of columns sources s rows) (beside (misses (length columns) s rows) (unless_refused why (rows_after (length columns) sources s (hits (length columns) s rows))))) (refusal_of_hits columns sources s rows wide)
    (beside_same (refusal columns sources s rows) (misses (length columns) s rows) _ _ (rows_after_split (length columns) sources s rows wide))
