-- The rows of a data file by their positions.
use Rattle.std.proofs.Common.{◌≡◌, ℕ, suc, ◌+◌, ◌&&◌, Bool, true, false, List, [], ◌∷◌, ◌++◌, length, map, refl, sym, ap, ◌∙◌, subst, inl, inr, arith}
use Rattle.std.specs.List.{list_all, list_any}
use Rattle.std.specs.Prelude.{IsTrue}
use Rattle.std.proofs.lemmas.Bool.{and_parts, or_parts}
use Rattle.plain_types.specs.Bags.{In}
use Rattle.row_values.specs.declared.schema.Column.{Column}
use Rattle.row_values.specs.declared.value.Value.{Value}
use Rattle.row_values.specs.Rows.{is_row}
use Rattle.sql_predicates.specs.declared.pred.Pred.{Pred}
use Rattle.sql_predicates.specs.Positions.{pred_is_within}
use Rattle.sql_statements.specs.Clauses.{holds_on}
use Rattle.table_metadata.specs.Metadata.{Parts}
use Rattle.table_state.specs.Files.{AreCurrentRows}
use Rattle.change_sets.specs.declared.scanned.LiveRow.{LiveRow}
use Rattle.change_sets.specs.Scanned.{row_of}
use Rattle.table_scan.specs.Scanning.{ReadsCurrent, is_hit, live_rows, reads_within, rows_from}

-- ---- one row more

counted : (pred : Pred) (at : ℕ) (rows : List (List Value)) → length (rows_from pred at rows) ≡ length rows
counted pred at [] = refl
counted pred at (row ∷ rows) = ap suc (counted pred (at + 1) rows)

pub live_count : (pred : Pred) (rows : List (List Value)) → length (live_rows pred rows) ≡ length rows
live_count pred rows = counted pred 0 rows

abbrev live_at : Pred → ℕ → List Value → LiveRow
live_at pred at row = record { position = at; row = row; hit = holds_on pred row }

one_more : (pred : Pred) (at : ℕ) (rows : List (List Value)) (row : List Value)
    → rows_from pred at (rows ++ row ∷ []) ≡ rows_from pred at rows ++ live_at pred (at + length rows) row ∷ []
one_more pred at [] row =
    let same : at ≡ at + 0 = omega arith in
    ap (λ n. live_at pred n row ∷ []) same
one_more pred at (first ∷ rows) row =
    let same : (at + 1) + length rows ≡ at + suc (length rows) = omega arith in
    ap (λ more. live_at pred at first ∷ more) (one_more pred (at + 1) rows row ∙ ap (λ n. rows_from pred (at + 1) rows ++ live_at pred n row ∷ []) same)

-- one row more, at its position
live_more : (pred : Pred) (rows : List (List Value)) (row : List Value) (position : ℕ) (hit : Bool) → position ≡ length rows
    → hit ≡ holds_on pred row
    → live_rows pred (rows ++ row ∷ []) ≡ live_rows pred rows ++ record { position = position; row = row; hit = hit } ∷ []
live_more pred rows row position hit at same =
    let place : 0 + length rows ≡ position = omega arith in
    one_more pred 0 rows row
    ∙ ap (λ n. live_rows pred rows ++ live_at pred n row ∷ []) place
    ∙ ap (λ (b : Bool). live_rows pred rows ++ record { position = position; row = row; hit = b } ∷ []) (sym same)

pub pushed : (pred : Pred) (rows : List (List Value)) (row : List Value) (old new : List LiveRow) (position : ℕ) (hit : Bool)
    → new ≡ old ++ record { position = position; row = row; hit = hit } ∷ [] → old ≡ live_rows pred rows → position ≡ length rows
    → hit ≡ holds_on pred row → new ≡ live_rows pred (rows ++ row ∷ [])
pushed pred rows row old new position hit more live at same =
    more ∙ ap (λ (before : List LiveRow). before ++ record { position = position; row = row; hit = hit } ∷ []) live ∙ sym (live_more pred rows row position hit at same)

-- ---- the filter reads them

wide_row : (columns : List Column) (row : List Value) → is_row columns row ≡ true → length row ≡ length columns
wide_row [] [] h = refl
wide_row [] (v ∷ row) h = absurd cc
wide_row (column ∷ columns) [] h = absurd cc
wide_row (column ∷ columns) (v ∷ row) h = ap suc (wide_row columns row (and_parts _ _ h).1)

each_within : (columns : List Column) (pred : Pred) (rows : List (List Value)) → pred_is_within (length columns) pred ≡ true
    → list_all (is_row columns) rows ≡ true → reads_within pred rows ≡ true
each_within columns pred [] within are = refl
each_within columns pred (row ∷ rows) within are =
    let both = and_parts (is_row columns row) (list_all (is_row columns) rows) are in
    let one : pred_is_within (length row) pred ≡ true = ap (λ n. pred_is_within n pred) (wide_row columns row both.0) ∙ within in
    ap (λ b. b && reads_within pred rows) one ∙ each_within columns pred rows within both.1

pub are_within : (parts : Parts) (pred : Pred) (rows : List (List Value)) → ReadsCurrent parts pred → AreCurrentRows parts rows
    → IsTrue (reads_within pred rows)
are_within parts pred rows reads (schema, is, are) = each_within schema.columns pred rows (reads schema is) are

-- ---- what is hit

hit_is : (pred : Pred) (at : ℕ) (rows : List (List Value)) (live : LiveRow) → In live (rows_from pred at rows) → live.hit ≡ holds_on pred live.row
hit_is pred at [] live there = absurd there
hit_is pred at (row ∷ rows) live (inl here) = subst (λ (one : LiveRow). one.hit ≡ holds_on pred one.row) (sym here) refl
hit_is pred at (row ∷ rows) live (inr later) = hit_is pred (at + 1) rows live later

none_hit : (rows : List LiveRow) (live : LiveRow) → list_any is_hit rows ≡ false → In live rows → live.hit ≡ false
none_hit [] live none there = absurd there
none_hit (row ∷ rows) live none (inl here) = ap is_hit here ∙ (or_parts row.hit (list_any is_hit rows) none).0
none_hit (row ∷ rows) live none (inr later) = none_hit rows live (or_parts row.hit (list_any is_hit rows) none).1 later

pub missed : (pred : Pred) (rows : List (List Value)) (live : LiveRow) → list_any is_hit (live_rows pred rows) ≡ false
    → In live (live_rows pred rows) → holds_on pred live.row ≡ false
missed pred rows live none there = sym (hit_is pred 0 rows live there) ∙ none_hit (live_rows pred rows) live none there

same_rows : (pred : Pred) (at : ℕ) (rows : List (List Value)) → map row_of (rows_from pred at rows) ≡ rows
same_rows pred at [] = refl
same_rows pred at (row ∷ rows) = ap (λ more. row ∷ more) (same_rows pred (at + 1) rows)

pub rows_stay : (pred : Pred) (rows : List (List Value)) → map row_of (live_rows pred rows) ≡ rows
rows_stay pred rows = same_rows pred 0 rows
