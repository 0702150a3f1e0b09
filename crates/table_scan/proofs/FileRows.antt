-- The rows of the files that are scanned are rows of the current columns.
use Rattle.std.proofs.Common.{◌≡◌, ◌&&◌, Bool, true, false, List, [], ◌∷◌, ◌++◌, append-nil, map, take, drop, refl, sym, ap, ◌∙◌, subst}
use Rattle.std.specs.List.{list_all}
use Rattle.std.specs.Prelude.{if◌then◌else◌}
use Rattle.std.proofs.lemmas.Bool.{and_parts}
use Rattle.std.proofs.lemmas.Grind.{flat_map-append}
use Rattle.std.proofs.lemmas.List.{take-append-drop}
use Rattle.std.proofs.lemmas.List.Folds.{list_all-append}
use Rattle.row_values.specs.declared.schema.Column.{Column}
use Rattle.row_values.specs.declared.schema.TableSchema.{TableSchema}
use Rattle.row_values.specs.declared.value.Value.{Value}
use Rattle.row_values.specs.Rows.{is_row}
use Rattle.sql_predicates.specs.declared.pred.Pred.{Pred}
use Rattle.manifest_files.specs.declared.entry.Entry.{Entry}
use Rattle.table_metadata.specs.Metadata.{Parts}
use Rattle.table_state.specs.Files.{AreCurrentRows}
use Rattle.change_sets.specs.declared.scanned.LiveRow.{LiveRow}
use Rattle.change_sets.specs.declared.scanned.ScannedFile.{ScannedFile}
use Rattle.change_sets.specs.Scanned.{row_of, rows_in, rows_in_all}
use Rattle.table_scan.specs.Scanning.{AreCurrentFiles, has_hit, live_rows, place_of, with_file, with_hit}
use Rattle.table_scan.proofs.RowLaws.{rows_stay}

both : (a b : Bool) → a ≡ true → b ≡ true → (a && b) ≡ true
both a b h k = rw (h, k) refl

module _ (columns : List Column) where
  abbrev are : List ScannedFile → Bool
  are files = list_all (is_row columns) (rows_in_all files)

  split : (files more : List ScannedFile) → are (files ++ more) ≡ (are files && are more)
  split files more = ap (list_all (is_row columns)) (flat_map-append rows_in files more) ∙ list_all-append (is_row columns) (rows_in_all files) (rows_in_all more)

  with_one : (file : ScannedFile) (files : List ScannedFile) → are (file ∷ []) ≡ true → are files ≡ true → are (with_file file files) ≡ true
  with_one file files one h =
      let at = place_of file.entry.path files in
      let parted = and_parts (are (take at files)) (are (drop at files)) (sym (split (take at files) (drop at files)) ∙ ap are (take-append-drop at files) ∙ h) in
      split (take at files) (file ∷ drop at files) ∙ both (are (take at files)) (are (file ∷ drop at files)) parted.0
      (split (file ∷ []) (drop at files) ∙ both (are (file ∷ [])) (are (drop at files)) one parted.1)

  with_any : (file : ScannedFile) (files : List ScannedFile) (hit : Bool) → are (file ∷ []) ≡ true → are files ≡ true
      → are (if hit then with_file file files else files) ≡ true
  with_any file files true one h = with_one file files one h
  with_any file files false one h = h

pub and_current : (parts : Parts) (file : ScannedFile) (files : List ScannedFile) → AreCurrentFiles parts (file ∷ [])
    → AreCurrentFiles parts files → AreCurrentFiles parts (with_hit file files)
unfolding with_hit
and_current parts file files one h schema is = with_any schema.columns file files (has_hit file) (one schema is) (h schema is)

pub file_is_current : (parts : Parts) (pred : Pred) (entry : Entry) (rows : List (List Value)) (live : List LiveRow)
    → AreCurrentRows parts rows → live ≡ live_rows pred rows → AreCurrentFiles parts (record { entry = entry; rows = live } ∷ [])
file_is_current parts pred entry rows live (found, current, are_rows) same schema is =
    let one : found ≡ schema = cc in
    ap (list_all (is_row schema.columns)) (append-nil (map row_of live) ∙ ap (map row_of) same ∙ rows_stay pred rows)
    ∙ subst (λ (s : TableSchema). list_all (is_row s.columns) rows ≡ true) one are_rows
