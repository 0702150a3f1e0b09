-- The rows that are hit are rows of the columns.
use Rattle.std.proofs.Common.{◌≡◌, ◌&&◌, Bool, true, false, cond, List, [], ◌∷◌, map, filter, refl, sym, ap, ◌∙◌}
use Rattle.std.specs.List.{list_all}
use Rattle.std.proofs.lemmas.Bool.{and_parts}
use Rattle.std.proofs.lemmas.List.Folds.{list_all-append}
use Rattle.row_values.specs.declared.schema.Column.{Column}
use Rattle.row_values.specs.declared.value.Value.{Value}
use Rattle.row_values.specs.Rows.{AreRows, is_row}
use Rattle.change_sets.specs.declared.scanned.LiveRow.{LiveRow}
use Rattle.change_sets.specs.declared.scanned.ScannedFile.{ScannedFile}
use Rattle.change_sets.specs.Scanned.{row_of, rows_in, rows_in_all}
use Rattle.table_scan.specs.Scanning.{is_hit}
use Rattle.table_scan.specs.Decisions.{hit_in, hit_rows}

hits_in_are : (test : List Value → Bool) (rows : List LiveRow) → list_all test (map row_of rows) ≡ true → list_all test (map row_of (filter is_hit rows)) ≡ true
hits_in_are test [] all = refl
hits_in_are test (live ∷ rows) all =
    let both = and_parts (test live.row) (list_all test (map row_of rows)) all in
    by live.hit both.0 (hits_in_are test rows both.1)
  where
    by : (b : Bool) → test live.row ≡ true → list_all test (map row_of (filter is_hit rows)) ≡ true
        → list_all test (map row_of (cond b (live ∷ filter is_hit rows) (filter is_hit rows))) ≡ true
    by true one more = ap (λ c. c && list_all test (map row_of (filter is_hit rows))) one ∙ more
    by false one more = more

pub hits_are_rows : (columns : List Column) (scanned : List ScannedFile) → AreRows columns (rows_in_all scanned) → AreRows columns (hit_rows scanned)
hits_are_rows columns [] are = refl
hits_are_rows columns (file ∷ scanned) are =
    let both = and_parts (list_all (is_row columns) (rows_in file)) (list_all (is_row columns) (rows_in_all scanned)) (sym (list_all-append (is_row columns) (rows_in file) (rows_in_all scanned)) ∙ are) in
    list_all-append (is_row columns) (hit_in file) (hit_rows scanned)
    ∙ ap (λ b. b && list_all (is_row columns) (hit_rows scanned)) (hits_in_are (is_row columns) file.rows both.0)
    ∙ hits_are_rows columns scanned both.1
