-- The steps of the loops over files and their rows.
use Rattle.std.proofs.Common.{◌≡◌, ℕ, ◌+◌, ◌<◌, ◌&&◌, ◌==◌, Bool, true, false, cond, List, [], ◌∷◌, ◌++◌, length, map, filter, flat_map, get_or, take, IsTrue, zero, suc, refl, sym, ap, ◌∙◌, arith}
use Rattle.std.specs.List.{list_all}
use Rattle.std.proofs.lemmas.Bool.{and_parts}
use Rattle.std.proofs.lemmas.Grind.{flat_map-append}
use Rattle.std.proofs.lemmas.List.{map-append, take_more}
use Rattle.std.proofs.lemmas.List.Elements.{filter-append}
use Rattle.std.proofs.lemmas.List.Folds.{list_all-append}
use Rattle.row_values.specs.declared.value.Value.{Value}
use Rattle.sql_statements.specs.Fits.{are_wide}
use Rattle.sql_statements.proofs.CallerLemmas.{flat_map_step}
use Rattle.change_sets.specs.declared.scanned.LiveRow.{LiveRow}
use Rattle.change_sets.specs.declared.scanned.ScannedFile.{ScannedFile}
use Rattle.change_sets.specs.Scanned.{row_of}
use Rattle.table_scan.specs.Scanning.{is_hit}
use Rattle.table_scan.specs.Decisions.{hit_in, hit_rows}

-- ---- one more row

pub one_more_hit : (rows : List LiveRow) (i : ℕ) (d : LiveRow) → i < length rows
    → map row_of (filter is_hit (take (i + 1) rows)) ≡ map row_of (filter is_hit (take i rows)) ++ map row_of (filter is_hit (get_or rows i d ∷ []))
one_more_hit rows i d within =
    ap (λ (seen : List LiveRow). map row_of (filter is_hit seen)) (take_more rows i d within)
    ∙ ap (map row_of) (filter-append is_hit (take i rows) (get_or rows i d ∷ []))
    ∙ map-append row_of (filter is_hit (take i rows)) (filter is_hit (get_or rows i d ∷ []))

pub one_more_decided : {Y : Type 0} (f : List Value → Y) (rows : List LiveRow) (i : ℕ) (d : LiveRow) → i < length rows
    → map f (map row_of (filter is_hit (take (i + 1) rows))) ≡ map f (map row_of (filter is_hit (take i rows))) ++ map f (map row_of (filter is_hit (get_or rows i d ∷ [])))
one_more_decided f rows i d within =
    ap (map f) (one_more_hit rows i d within) ∙ map-append f (map row_of (filter is_hit (take i rows))) (map row_of (filter is_hit (get_or rows i d ∷ [])))

pub one_more_replaced : {Y : Type 0} (f : List Value → List Y) (rows : List LiveRow) (i : ℕ) (d : LiveRow) → i < length rows
    → flat_map f (map row_of (filter is_hit (take (i + 1) rows))) ≡ flat_map f (map row_of (filter is_hit (take i rows))) ++ flat_map f (map row_of (filter is_hit (get_or rows i d ∷ [])))
one_more_replaced f rows i d within =
    ap (flat_map f) (one_more_hit rows i d within) ∙ flat_map-append f (map row_of (filter is_hit (take i rows))) (map row_of (filter is_hit (get_or rows i d ∷ [])))

-- ---- one more file

pub file_decided : {Y : Type 0} (f : List Value → Y) (files : List ScannedFile) (i : ℕ) (d : ScannedFile) → i < length files
    → map f (hit_rows (take (i + 1) files)) ≡ map f (hit_rows (take i files)) ++ map f (hit_in (get_or files i d))
file_decided f files i d within =
    ap (map f) (flat_map_step hit_in files i d within) ∙ map-append f (hit_rows (take i files)) (hit_in (get_or files i d))

pub file_replaced : {Y : Type 0} (f : List Value → List Y) (files : List ScannedFile) (i : ℕ) (d : ScannedFile) → i < length files
    → flat_map f (hit_rows (take (i + 1) files)) ≡ flat_map f (hit_rows (take i files)) ++ flat_map f (hit_in (get_or files i d))
file_replaced f files i d within =
    ap (flat_map f) (flat_map_step hit_in files i d within) ∙ flat_map-append f (hit_rows (take i files)) (hit_in (get_or files i d))

-- ---- each is wide

abbrev wide_row : ℕ → List Value → Bool
wide_row width row = length row == width

one_of : (test : List Value → Bool) (rows : List LiveRow) (i : ℕ) (d : LiveRow) → i < length rows
    → list_all test (map row_of (filter is_hit rows)) ≡ true
    → list_all test (map row_of (filter is_hit (get_or rows i d ∷ []))) ≡ true
one_of test [] i d within all = absurd (omega arith)
one_of test (live ∷ rows) zero d within all = by live.hit all
  where
    by : (b : Bool) → list_all test (map row_of (cond b (live ∷ filter is_hit rows) (filter is_hit rows))) ≡ true
        → list_all test (map row_of (cond b (live ∷ []) [])) ≡ true
    by true h =
        let both = and_parts (test live.row) (list_all test (map row_of (filter is_hit rows))) h in
        ap (λ b. b && true) both.0
    by false h = refl
one_of test (live ∷ rows) (suc i) d within all = one_of test rows i d (omega arith) (by live.hit all)
  where
    by : (b : Bool) → list_all test (map row_of (cond b (live ∷ filter is_hit rows) (filter is_hit rows))) ≡ true
        → list_all test (map row_of (filter is_hit rows)) ≡ true
    by true h = (and_parts (test live.row) (list_all test (map row_of (filter is_hit rows))) h).1
    by false h = h

pub one_is_wide : (width : ℕ) (rows : List LiveRow) (i : ℕ) (d : LiveRow) → i < length rows
    → IsTrue (are_wide width (map row_of (filter is_hit rows)))
    → IsTrue (are_wide width (map row_of (filter is_hit (get_or rows i d ∷ []))))
one_is_wide width rows i d within all = one_of (wide_row width) rows i d within all

file_of : (test : List Value → Bool) (files : List ScannedFile) (i : ℕ) (d : ScannedFile) → i < length files
    → list_all test (hit_rows files) ≡ true → list_all test (hit_in (get_or files i d)) ≡ true
file_of test [] i d within all = absurd (omega arith)
file_of test (file ∷ files) zero d within all = (and_parts (list_all test (hit_in file)) (list_all test (hit_rows files)) (sym (list_all-append test (hit_in file) (hit_rows files)) ∙ all)).0
file_of test (file ∷ files) (suc i) d within all =
    file_of test files i d (omega arith) (and_parts (list_all test (hit_in file)) (list_all test (hit_rows files)) (sym (list_all-append test (hit_in file) (hit_rows files)) ∙ all)).1

pub file_is_wide : (width : ℕ) (files : List ScannedFile) (i : ℕ) (d : ScannedFile) → i < length files
    → IsTrue (are_wide width (hit_rows files)) → IsTrue (are_wide width (hit_in (get_or files i d)))
file_is_wide width files i d within all = file_of (wide_row width) files i d within all
