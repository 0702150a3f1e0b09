-- What a statement does is a function of the bag of rows, and the laws of INSERT and DELETE.
use Rattle.std.proofs.Common.{◌≡◌, ℕ, ◌+◌, Bool, true, false, ◌&&◌, cond, List, [], ◌∷◌, ◌++◌, map, length, Option, Some, None, Ok, refl, ap, subst, ◌∙◌}
use Rattle.std.specs.List.{list_any, flat_map}
use Rattle.plain_types.specs.Bags.{SameBag, total}
use Rattle.plain_types.proofs.CallerLemmas.{SameBag-append, SameBag-flat_map, SameBag-list_any}
use Rattle.row_values.specs.declared.value.Value.{Value}
use Rattle.row_values.specs.declared.schema.Column.{Column}
use Rattle.sql_predicates.specs.declared.expr.Expr.{Expr}
use Rattle.sql_predicates.specs.declared.pred.Pred.{Pred}
use Rattle.sql_predicates.specs.declared.pred.Pred.TheFolds.{fold-roll-Pred}
use Rattle.sql_predicates.specs.declared.pred.Pred.TheOpen as open_pred
use Rattle.sql_predicates.specs.declared.truth.Truth.{Truth}
use Rattle.sql_predicates.specs.Truth.{truth_level}
use Rattle.sql_statements.specs.declared.statement.Statement.{Statement}
use Rattle.sql_statements.specs.declared.statement.Statement.TheVariants as statement
use Rattle.sql_statements.specs.declared.statement.Clause.{Clause}
use Rattle.sql_statements.specs.declared.statement.Source.{Source}
use Rattle.sql_statements.specs.declared.effect.Effect.TheVariants.{Keep, Remove}
use Rattle.sql_statements.specs.declared.effect.SqlRefusal.{SqlRefusal}
use Rattle.sql_statements.specs.declared.effect.SqlRefusal.TheVariants as refused
use Rattle.sql_statements.specs.NewRows.{NewRow, new_row, overflows, is_null_at, first_null_from, first_null, row_of}
use Rattle.sql_statements.specs.Clauses.{is_true, holds_on, is_match, insertion, inserted_by, chosen, nulls, refuses_two, matches_two}
use Rattle.sql_statements.specs.declared.statement.When.TheVariants.{NotMatched}
use Rattle.sql_statements.specs.Effects.{effect, source_at, insertions, is_ambiguous, replacements, replacement, new_rows, null_refusal, value_refusal, refusal, remains, remaining, rows_after, unless_refused, result_of}
use Rattle.sql_statements.specs.Filter.{always}
use Rattle.sql_statements.specs.Results.{SameResult}

-- ---- one bag, one result

pub flat_map_same : {X Y : Type 0} (f g : X → List Y) → ((x : X) → f x ≡ g x) → (xs : List X) → flat_map f xs ≡ flat_map g xs
flat_map_same f g same [] = refl
flat_map_same f g same (x ∷ xs) = ap (λ ys. ys ++ flat_map f xs) (same x) ∙ ap (λ ys. g x ++ ys) (flat_map_same f g same xs)

same_list : {X : Type 0} (xs ys : List X) → xs ≡ ys → SameBag xs ys
same_list xs ys e = λ weight. ap (total weight) e

insertion_of_bag : (on : Pred) (clauses : List Clause) (xs ys : List (List Value)) (padding row : List Value) → SameBag xs ys
    → insertion on clauses xs padding row ≡ insertion on clauses ys padding row
unfolding insertion
insertion_of_bag on clauses xs ys padding row same =
    ap (λ found. cond found [] (inserted_by (padding ++ row) (chosen NotMatched clauses (padding ++ row)))) (SameBag-list_any (is_match on row) xs ys same)

pub insertions_of_bag : (width : ℕ) (sources : List Source) (s : Statement) (xs ys : List (List Value)) → SameBag xs ys
    → insertions width sources s xs ≡ insertions width sources s ys
insertions_of_bag width sources (statement.Merge m) xs ys same =
    flat_map_same _ _ (λ row. insertion_of_bag m.on m.clauses xs ys (nulls width) row same) (source_at sources m.source).rows
insertions_of_bag width sources (statement.Insert branch rows) xs ys same = refl
insertions_of_bag width sources (statement.Delete branch filter) xs ys same = refl
insertions_of_bag width sources (statement.Update branch sets filter) xs ys same = refl
insertions_of_bag width sources (statement.CreateBranch branch) xs ys same = refl
insertions_of_bag width sources (statement.DropBranch branch) xs ys same = refl
insertions_of_bag width sources (statement.Select branch filter) xs ys same = refl

is_ambiguous_of_bag : (sources : List Source) (s : Statement) (xs ys : List (List Value)) → SameBag xs ys
    → is_ambiguous sources s xs ≡ is_ambiguous sources s ys
is_ambiguous_of_bag sources (statement.Merge m) xs ys same =
    ap (λ two. refuses_two m.clauses && two) (SameBag-list_any (matches_two m.on (source_at sources m.source).rows) xs ys same)
is_ambiguous_of_bag sources (statement.Insert branch rows) xs ys same = refl
is_ambiguous_of_bag sources (statement.Delete branch filter) xs ys same = refl
is_ambiguous_of_bag sources (statement.Update branch sets filter) xs ys same = refl
is_ambiguous_of_bag sources (statement.CreateBranch branch) xs ys same = refl
is_ambiguous_of_bag sources (statement.DropBranch branch) xs ys same = refl
is_ambiguous_of_bag sources (statement.Select branch filter) xs ys same = refl

first_null_of_bag : (at : ℕ) (columns : List Column) (xs ys : List NewRow) → SameBag xs ys → first_null_from at columns xs ≡ first_null_from at columns ys
first_null_of_bag at [] xs ys same = refl
first_null_of_bag at (column ∷ columns) xs ys same =
    ap (λ found. cond (column.required && found) (Some at) (first_null_from (at + 1) columns xs)) (SameBag-list_any (is_null_at at) xs ys same)
    ∙ ap (λ rest. cond (column.required && list_any (is_null_at at) ys) (Some at) rest) (first_null_of_bag (at + 1) columns xs ys same)

value_refusal_of_bag : (columns : List Column) (xs ys : List NewRow) → SameBag xs ys → value_refusal columns xs ≡ value_refusal columns ys
value_refusal_of_bag columns xs ys same =
    ap (λ found. cond found (Some refused.Overflow) (null_refusal (first_null columns xs))) (SameBag-list_any (overflows columns) xs ys same)
    ∙ ap (λ at. cond (list_any (overflows columns) ys) (Some refused.Overflow) (null_refusal at)) (first_null_of_bag 0 columns xs ys same)

new_rows_of_bag : (width : ℕ) (sources : List Source) (s : Statement) (xs ys : List (List Value)) → SameBag xs ys
    → SameBag (new_rows width sources s xs) (new_rows width sources s ys)
new_rows_of_bag width sources s xs ys same =
    SameBag-append _ _ _ _ (SameBag-flat_map (replacements sources s) xs ys same) (same_list _ _ (insertions_of_bag width sources s xs ys same))

pub refusal_of_bag : (columns : List Column) (sources : List Source) (s : Statement) (xs ys : List (List Value)) → SameBag xs ys
    → refusal columns sources s xs ≡ refusal columns sources s ys
refusal_of_bag columns sources s xs ys same =
    ap (λ found. cond found (Some refused.Cardinality) (value_refusal columns (new_rows (length columns) sources s xs))) (is_ambiguous_of_bag sources s xs ys same)
    ∙ ap (λ why. cond (is_ambiguous sources s ys) (Some refused.Cardinality) why) (value_refusal_of_bag columns _ _ (new_rows_of_bag (length columns) sources s xs ys same))

rows_after_of_bag : (width : ℕ) (sources : List Source) (s : Statement) (xs ys : List (List Value)) → SameBag xs ys
    → SameBag (rows_after width sources s xs) (rows_after width sources s ys)
rows_after_of_bag width sources s xs ys same =
    SameBag-append _ _ _ _ (SameBag-flat_map (remains sources s) xs ys same) (same_list _ _ (ap (map row_of) (insertions_of_bag width sources s xs ys same)))

same_unless_refused : (why : Option SqlRefusal) (xs ys : List (List Value)) → SameBag xs ys → SameResult (unless_refused why xs) (unless_refused why ys)
same_unless_refused None xs ys same = same
same_unless_refused (Some why) xs ys same = refl

pub result_of_bag : (columns : List Column) (sources : List Source) (s : Statement) (xs ys : List (List Value)) → SameBag xs ys
    → SameResult (result_of columns sources s xs) (result_of columns sources s ys)
result_of_bag columns sources s xs ys same =
    subst (λ why. SameResult (result_of columns sources s xs) (unless_refused why (rows_after (length columns) sources s ys))) (refusal_of_bag columns sources s xs ys same)
    (same_unless_refused (refusal columns sources s xs) _ _ (rows_after_of_bag (length columns) sources s xs ys same))

-- ---- INSERT and DELETE

append_nothing : {X : Type 0} (xs : List X) → xs ++ [] ≡ xs
append_nothing [] = refl
append_nothing (x ∷ xs) = ap (λ ys. x ∷ ys) (append_nothing xs)

pub always_holds : (row : List Value) → holds_on always row ≡ true
always_holds row = ap is_true (fold-roll-Pred Truth (truth_level row) (open_pred.Const true))

removed : (sources : List Source) (branch : List ℕ) (row : List Value) → remains sources (statement.Delete branch always) row ≡ []
unfolding remains effect
removed sources branch row = ap (λ found. remaining (cond found Remove Keep) row) (always_holds row)

all_removed : (sources : List Source) (branch : List ℕ) (rows : List (List Value)) → flat_map (remains sources (statement.Delete branch always)) rows ≡ []
all_removed sources branch [] = refl
all_removed sources branch (row ∷ rows) = ap (λ ys. ys ++ flat_map (remains sources (statement.Delete branch always)) rows) (removed sources branch row) ∙ all_removed sources branch rows

pub delete_all : (width : ℕ) (sources : List Source) (branch : List ℕ) (rows : List (List Value))
    → rows_after width sources (statement.Delete branch always) rows ≡ []
delete_all width sources branch rows = append_nothing _ ∙ all_removed sources branch rows

nothing_replaced : (found : Bool) → replacement (cond found Remove Keep) ≡ []
nothing_replaced true = refl
nothing_replaced false = refl

no_new_rows : (sources : List Source) (branch : List ℕ) (filter : Pred) (row : List Value) → replacements sources (statement.Delete branch filter) row ≡ []
unfolding replacements effect
no_new_rows sources branch filter row = nothing_replaced (holds_on filter row)

none_made : (sources : List Source) (branch : List ℕ) (filter : Pred) (rows : List (List Value))
    → flat_map (replacements sources (statement.Delete branch filter)) rows ≡ []
none_made sources branch filter [] = refl
none_made sources branch filter (row ∷ rows) =
    ap (λ ys. ys ++ flat_map (replacements sources (statement.Delete branch filter)) rows) (no_new_rows sources branch filter row) ∙ none_made sources branch filter rows

no_null_here : (required : Bool) (at : ℕ) (columns : List Column) → first_null_from (at + 1) columns [] ≡ None
    → cond (required && false) (Some at) (first_null_from (at + 1) columns []) ≡ None
no_null_here true at columns e = e
no_null_here false at columns e = e

no_null : (at : ℕ) (columns : List Column) → first_null_from at columns [] ≡ None
no_null at [] = refl
no_null at (column ∷ columns) = no_null_here column.required at columns (no_null (at + 1) columns)

pub delete_is_not_refused : (columns : List Column) (sources : List Source) (branch : List ℕ) (filter : Pred)
    (rows : List (List Value)) → refusal columns sources (statement.Delete branch filter) rows ≡ None
delete_is_not_refused columns sources branch filter rows =
    ap (value_refusal columns) (append_nothing _ ∙ none_made sources branch filter rows) ∙ ap null_refusal (no_null 0 columns)

stays : (sources : List Source) (branch : List ℕ) (tuples : List (List Expr)) (row : List Value)
    → remains sources (statement.Insert branch tuples) row ≡ row ∷ []
unfolding remains effect
stays sources branch tuples row = refl

all_stay : (sources : List Source) (branch : List ℕ) (tuples : List (List Expr)) (rows : List (List Value))
    → flat_map (remains sources (statement.Insert branch tuples)) rows ≡ rows
all_stay sources branch tuples [] = refl
all_stay sources branch tuples (row ∷ rows) =
    ap (λ ys. ys ++ flat_map (remains sources (statement.Insert branch tuples)) rows) (stays sources branch tuples row) ∙ ap (λ ys. row ∷ ys) (all_stay sources branch tuples rows)

pub insert_adds : (width : ℕ) (sources : List Source) (branch : List ℕ) (tuples : List (List Expr)) (rows : List (List Value))
    → rows_after width sources (statement.Insert branch tuples) rows ≡ rows ++ map row_of (map (new_row []) tuples)
insert_adds width sources branch tuples rows = ap (λ ys. ys ++ map row_of (map (new_row []) tuples)) (all_stay sources branch tuples rows)

-- ---- SELECT

selected : (sources : List Source) (branch : List ℕ) (filter : Pred) (row : List Value) → remains sources (statement.Select branch filter) row ≡ row ∷ []
unfolding remains effect
selected sources branch filter row = refl

all_selected : (sources : List Source) (branch : List ℕ) (filter : Pred) (rows : List (List Value))
    → flat_map (remains sources (statement.Select branch filter)) rows ≡ rows
all_selected sources branch filter [] = refl
all_selected sources branch filter (row ∷ rows) =
    ap (λ ys. ys ++ flat_map (remains sources (statement.Select branch filter)) rows) (selected sources branch filter row) ∙ ap (λ ys. row ∷ ys) (all_selected sources branch filter rows)

nothing_new : (sources : List Source) (branch : List ℕ) (filter : Pred) (row : List Value) → replacements sources (statement.Select branch filter) row ≡ []
unfolding replacements effect
nothing_new sources branch filter row = refl

none_new : (sources : List Source) (branch : List ℕ) (filter : Pred) (rows : List (List Value))
    → flat_map (replacements sources (statement.Select branch filter)) rows ≡ []
none_new sources branch filter [] = refl
none_new sources branch filter (row ∷ rows) =
    ap (λ ys. ys ++ flat_map (replacements sources (statement.Select branch filter)) rows) (nothing_new sources branch filter row) ∙ none_new sources branch filter rows

select_is_not_refused : (columns : List Column) (sources : List Source) (branch : List ℕ) (filter : Pred)
    (rows : List (List Value)) → refusal columns sources (statement.Select branch filter) rows ≡ None
select_is_not_refused columns sources branch filter rows =
    ap (value_refusal columns) (append_nothing _ ∙ none_new sources branch filter rows) ∙ ap null_refusal (no_null 0 columns)

-- a SELECT leaves the rows of its branch
pub select_leaves : (columns : List Column) (sources : List Source) (branch : List ℕ) (filter : Pred) (rows : List (List Value))
    → result_of columns sources (statement.Select branch filter) rows ≡ Ok rows
select_leaves columns sources branch filter rows =
    ap (λ why. unless_refused why (rows_after (length columns) sources (statement.Select branch filter) rows)) (select_is_not_refused columns sources branch filter rows)
    ∙ ap (λ left. Ok left) (append_nothing _ ∙ all_selected sources branch filter rows)
