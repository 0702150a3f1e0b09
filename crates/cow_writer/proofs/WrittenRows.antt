-- The rows that are written are rows of the columns.
use Rattle.std.proofs.Common.{◌≡◌, ◌&&◌, ℕ, Bool, true, false, List, [], ◌∷◌, ◌++◌, map, flat_map, take, drop, None, refl, sym, ap, ◌∙◌}
use Rattle.std.specs.List.{list_all}
use Rattle.std.specs.Prelude.{if◌then◌else◌, slice_get}
use Rattle.std.proofs.lemmas.Bool.{and_parts}
use Rattle.std.proofs.lemmas.Grind.{flat_map-append}
use Rattle.std.proofs.lemmas.List.{take-append-drop}
use Rattle.std.proofs.lemmas.List.Folds.{list_all-append}
use Rattle.row_values.specs.declared.schema.Column.{Column}
use Rattle.row_values.specs.declared.value.Value.{Value}
use Rattle.row_values.specs.Rows.{AreRows, is_row}
use Rattle.change_sets.specs.declared.scanned.Decision.{Decision}
use Rattle.change_sets.specs.declared.scanned.Decision.TheVariants.{Keep, Remove, Replace}
use Rattle.change_sets.specs.declared.scanned.Decisions.{Decisions}
use Rattle.change_sets.specs.declared.scanned.LiveRow.{LiveRow}
use Rattle.change_sets.specs.declared.scanned.ScannedFile.{ScannedFile}
use Rattle.change_sets.specs.Scanned.{row_of, rows_in, rows_in_all}
use Rattle.change_sets.specs.Deciding.{copied_of, decision_of, decisions_after, hits, is_touched, later_of, left_by, made_by, made_of, own_of, rows_left, written_of}

both : (a b : Bool) → a ≡ true → b ≡ true → (a && b) ≡ true
both a b h k = rw (h, k) refl

module _ (columns : List Column) where
  abbrev are : List (List Value) → Bool
  are rows = list_all (is_row columns) rows

  joined : (rows more : List (List Value)) → are rows ≡ true → are more ≡ true → are (rows ++ more) ≡ true
  joined rows more h k = list_all-append (is_row columns) rows more ∙ both (are rows) (are more) h k

  -- the rows that these decisions make
  abbrev make : List Decision → Bool
  make decisions = are (flat_map made_by decisions)

  parted : (n : ℕ) (decisions : List Decision) → make decisions ≡ true → (make (take n decisions) ≡ true) × (make (drop n decisions) ≡ true)
  parted n decisions h =
      and_parts (make (take n decisions)) (make (drop n decisions))
      (sym (list_all-append (is_row columns) (flat_map made_by (take n decisions)) (flat_map made_by (drop n decisions)))
      ∙ ap are (sym (flat_map-append made_by (take n decisions) (drop n decisions)) ∙ ap (flat_map made_by) (take-append-drop n decisions)) ∙ h)

  -- ---- one row

  next_left : (row : List Value) (decisions : List Decision) → is_row columns row ≡ true → make decisions ≡ true
      → are (left_by (slice_get decisions 0) row) ≡ true
  next_left row [] h k = both (is_row columns row) true h refl
  next_left row (Keep ∷ decisions) h k = both (is_row columns row) true h refl
  next_left row (Remove ∷ decisions) h k = refl
  next_left row (Replace new ∷ decisions) h k = both (is_row columns new) true (and_parts (is_row columns new) (make decisions) k).0 refl

  one_left : (row : List Value) (decisions : List Decision) (hit : Bool) → is_row columns row ≡ true → make decisions ≡ true
      → are (left_by (if hit then slice_get decisions 0 else None) row) ≡ true
  one_left row decisions true h k = next_left row decisions h k
  one_left row decisions false h k = both (is_row columns row) true h refl

  later_make : (decisions : List Decision) (hit : Bool) → make decisions ≡ true → make (if hit then drop 1 decisions else decisions) ≡ true
  later_make decisions true k = (parted 1 decisions k).1
  later_make decisions false k = k

  -- ---- the rows of files

  left_are : (rows : List LiveRow) (decisions : List Decision) → are (map row_of rows) ≡ true → make decisions ≡ true → are (rows_left rows decisions) ≡ true
  unfolding rows_left
  left_are [] decisions h k = refl
  left_are (live ∷ rows) decisions h k =
      let own = and_parts (is_row columns live.row) (are (map row_of rows)) h in
      joined (left_by (decision_of live decisions) live.row) (rows_left rows (decisions_after live decisions))
      (one_left live.row decisions live.hit own.0 k)
      (left_are rows (decisions_after live decisions) own.1 (later_make decisions live.hit k))

  touched_are : (left more : List (List Value)) (touched : Bool) → are left ≡ true → are more ≡ true → are (if touched then left ++ more else more) ≡ true
  touched_are left more true h k = joined left more h k
  touched_are left more false h k = k

  copied_are : (scanned : List ScannedFile) (decisions : List Decision) → are (rows_in_all scanned) ≡ true → make decisions ≡ true
      → are (copied_of scanned decisions) ≡ true
  unfolding copied_of
  copied_are [] decisions h k = refl
  copied_are (file ∷ files) decisions h k =
      let own = and_parts (are (rows_in file)) (are (rows_in_all files)) (sym (list_all-append (is_row columns) (rows_in file) (rows_in_all files)) ∙ h) in
      let made = parted (hits file.rows) decisions k in
      touched_are (rows_left file.rows (own_of file decisions)) (copied_of files (later_of file decisions)) (is_touched (own_of file decisions))
      (left_are file.rows (own_of file decisions) own.0 made.0)
      (copied_are files (later_of file decisions) own.1 made.1)

  pub written_are : (scanned : List ScannedFile) (decisions : Decisions) → AreRows columns (rows_in_all scanned)
      → AreRows columns (made_of decisions) → AreRows columns (written_of scanned decisions)
  written_are scanned decisions h k =
      let made = and_parts (make decisions.rows) (are decisions.inserted) (sym (list_all-append (is_row columns) (flat_map made_by decisions.rows) decisions.inserted) ∙ k) in
      joined (copied_of scanned decisions.rows) decisions.inserted (copied_are scanned decisions.rows h made.0) made.1
