-- Rows cut into files row by row are those that the definition cuts, and are all rows in their order.
use Rattle.std.proofs.Common.{◌≡◌, ◌<◌, ◌+◌, ◌-◌, ◌^◌, ◌||◌, ◌&&◌, ℕ, nat_le, Bool, true, false, List, [], ◌∷◌, ◌++◌, length, flat_map, sum_by, Result, Ok, Err, append_assoc, refl, sym, ap, ◌∙◌, arith}
use Rattle.std.specs.List.{list_all}
use Rattle.std.specs.Prelude.{if◌then◌else◌}
use Rattle.std.specs.Result.{IfOk}
use Rattle.std.proofs.lemmas.Bool.{and_parts, or_parts}
use Rattle.std.proofs.lemmas.Bool.Decides.{nat_tests}
use Rattle.std.proofs.lemmas.List.Folds.{list_all-append}
use Rattle.std.proofs.lemmas.List.Sums.{fold-append, sum_by-append, sum_by-cons}
use Rattle.row_values.specs.declared.schema.Column.{Column}
use Rattle.row_values.specs.declared.value.Value.{Value}
use Rattle.row_values.specs.Rows.{AreRows, is_row}
use Rattle.row_writer.specs.RowDatum.{row_size}
use Rattle.cow_writer.specs.Pieces.{Pieces, and_row, and_rows, file_bytes, file_rows, finished, is_full, nothing, pieces_from, pieces_of, whole, with_piece}

-- the rows of all files
abbrev pub flat : List (List (List Value)) → List (List Value)
flat pieces = flat_map (λ rows. rows) pieces

module _ (columns : List Column) where
  -- the datums of the rows of the next file, and those that it may still take, are those of a whole one
  abbrev Measures : Pieces → Type 0
  Measures p = sum_by (row_size columns) p.piece + p.left ≡ file_bytes

  size_more : (piece : List (List Value)) (row : List Value) → sum_by (row_size columns)
      (piece ++ row ∷ []) ≡ sum_by (row_size columns) piece + row_size columns row
  size_more piece row = sum_by-append (row_size columns) piece (row ∷ []) ∙ ap (λ n. sum_by (row_size columns) piece + n) (sum_by-cons (row_size columns) row [] ∙ (omega arith))

  same_test : (used left size : ℕ) → used + left ≡ 2 ^ 24 → nat_le left size ≡ nat_le (2 ^ 24) (used + size)
  same_test used left size e = grind (arith, nat_tests)

  below_of : (left size : ℕ) → nat_le left size ≡ false → size < left
  below_of left size e = grind (arith, nat_tests)

  same_full : (p : Pieces) (row : List Value) → Measures p
      → (nat_le p.left (row_size columns row) || nat_le file_rows (length (p.piece ++ row ∷ []))) ≡ is_full columns (p.piece ++ row ∷ [])
  same_full p row m =
      ap (λ b. b || nat_le file_rows (length (p.piece ++ row ∷ [])))
      (same_test (sum_by (row_size columns) p.piece) p.left (row_size columns row) m ∙ ap (nat_le file_bytes) (sym (size_more p.piece row)))

  -- the files that are closed after all, with these behind them
  cut_by : (p : Pieces) (row : List Value) (rows : List (List Value)) (full : Bool)
      → (nat_le p.left (row_size columns row) || nat_le file_rows (length (p.piece ++ row ∷ []))) ≡ full
      → is_full columns (p.piece ++ row ∷ []) ≡ full → Measures p
      → ((next : Pieces) → Measures next → finished (and_rows columns next rows) ≡ next.closed ++ pieces_from columns next.piece rows)
      → finished (and_rows columns (if full then with_piece (record p { piece = p.piece ++ row ∷ [] }) else record p { piece = p.piece ++ row ∷ []; left = p.left - row_size columns row }) rows)
      ≡ p.closed ++ (if full then (p.piece ++ row ∷ []) ∷ pieces_from columns [] rows else pieces_from columns (p.piece ++ row ∷ []) rows)
  cut_by p row rows true is same m h =
      h (with_piece (record p { piece = p.piece ++ row ∷ [] })) (omega arith) ∙ append_assoc p.closed ((p.piece ++ row ∷ []) ∷ []) (pieces_from columns [] rows)
  cut_by p row rows false is same m h =
      let below : row_size columns row < p.left = below_of p.left (row_size columns row) (or_parts _ _ is).0 in
      let measured : sum_by (row_size columns) p.piece + p.left ≡ 2 ^ 24 = m in
      h (record p { piece = p.piece ++ row ∷ []; left = p.left - row_size columns row }) (omega (arith, size_more p.piece row, below, measured))

  pub cut : (p : Pieces) (rows : List (List Value)) → Measures p → finished (and_rows columns p rows) ≡ p.closed ++ pieces_from columns p.piece rows
  unfolding pieces_from and_row
  cut p [] m = refl
  cut p (row ∷ rows) m =
      cut_by p row rows (nat_le p.left (row_size columns row) || nat_le file_rows (length (p.piece ++ row ∷ []))) refl (sym (same_full p row m)) m (λ next measured. cut next rows measured)
      ∙ ap (λ (full : Bool). p.closed ++ (if full then (p.piece ++ row ∷ []) ∷ pieces_from columns [] rows else pieces_from columns (p.piece ++ row ∷ []) rows)) (same_full p row m)

  pub cut_all : (rows : List (List Value)) → finished (and_rows columns nothing rows) ≡ pieces_of columns rows
  cut_all rows = cut nothing rows (omega arith)

  pub cut_in_two : (p q : Pieces) (xs ys : List (List Value)) → p ≡ and_rows columns nothing xs → q ≡ and_rows columns p ys
      → finished q ≡ pieces_of columns (xs ++ ys)
  cut_in_two p q xs ys h k = ap finished (k ∙ ap (λ (first : Pieces). and_rows columns first ys) h ∙ sym (fold-append (and_row columns) nothing xs ys)) ∙ cut_all (xs ++ ys)

  -- ---- all rows

  flat_whole : (piece : List (List Value)) → flat (whole piece) ≡ piece ++ []
  flat_whole [] = refl
  flat_whole (row ∷ piece) = refl

  flat_by : (piece : List (List Value)) (row : List Value) (rows : List (List Value)) (full : Bool)
      → flat (pieces_from columns [] rows) ≡ rows
      → flat (pieces_from columns (piece ++ row ∷ []) rows) ≡ (piece ++ row ∷ []) ++ rows
      → flat (if full then (piece ++ row ∷ []) ∷ pieces_from columns [] rows else pieces_from columns (piece ++ row ∷ []) rows) ≡ piece ++ row ∷ rows
  flat_by piece row rows true h k = ap (λ more. (piece ++ row ∷ []) ++ more) h ∙ append_assoc piece (row ∷ []) rows
  flat_by piece row rows false h k = k ∙ append_assoc piece (row ∷ []) rows

  flat_from : (piece rows : List (List Value)) → flat (pieces_from columns piece rows) ≡ piece ++ rows
  unfolding pieces_from
  flat_from piece [] = flat_whole piece
  flat_from piece (row ∷ rows) = flat_by piece row rows (is_full columns (piece ++ row ∷ [])) (flat_from [] rows) (flat_from (piece ++ row ∷ []) rows)

  pub all_rows : (rows : List (List Value)) → flat (pieces_of columns rows) ≡ rows
  all_rows rows = flat_from [] rows

  -- rows of the columns, in pieces
  each_in : (pieces : List (List (List Value))) → list_all (is_row columns) (flat pieces) ≡ true → list_all (list_all (is_row columns)) pieces ≡ true
  each_in [] h = refl
  each_in (piece ∷ pieces) h =
      let parted = and_parts (list_all (is_row columns) piece) (list_all (is_row columns) (flat pieces)) (sym (list_all-append (is_row columns) piece (flat pieces)) ∙ h) in
      ap (λ b. b && list_all (list_all (is_row columns)) pieces) parted.0 ∙ each_in pieces parted.1

  pub are_rows : (rows : List (List Value)) → AreRows columns rows → list_all (list_all (is_row columns)) (pieces_of columns rows) ≡ true
  are_rows rows are = each_in (pieces_of columns rows) (ap (list_all (is_row columns)) (all_rows rows) ∙ are)

-- an answer that says more
pub ok_with : {A E : Type 0} (P Q : A → Type 0) (r : Result A E) → ((x : A) → P x → Q x) → IfOk r P → IfOk r Q
ok_with P Q (Ok x) f h = f x h
ok_with P Q (Err e) f h = tt
