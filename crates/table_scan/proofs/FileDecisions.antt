-- The decisions of a statement, file by file: each file takes those of its own rows that are hit.
use Rattle.std.proofs.Common.{◌≡◌, suc, ◌||◌, Bool, true, false, true≢false, cond, List, [], ◌∷◌, ◌++◌, length, map, filter, flat_map, take, drop, slice_get, Some, None, refl, sym, ap, ◌∙◌, inl, inr}
use Rattle.std.specs.Prelude.{if◌then◌else◌}
use Rattle.std.specs.List.{list_any}
use Rattle.std.proofs.lemmas.Bool.{or_parts}
use Rattle.std.proofs.lemmas.List.{map-append}
use Rattle.plain_types.specs.Bags.{In}
use Rattle.row_values.specs.declared.value.Value.{Value}
use Rattle.sql_statements.specs.declared.effect.Effect.{Effect}
use Rattle.sql_statements.specs.declared.effect.Effect.TheVariants as effects
use Rattle.sql_statements.specs.declared.statement.Source.{Source}
use Rattle.sql_statements.specs.declared.statement.Statement.{Statement}
use Rattle.sql_statements.specs.Effects.{effect, remaining, remains}
use Rattle.manifest_files.specs.declared.entry.Entry.{Entry}
use Rattle.change_sets.specs.declared.scanned.Decision.{Decision}
use Rattle.change_sets.specs.declared.scanned.LiveRow.{LiveRow}
use Rattle.change_sets.specs.declared.scanned.ScannedFile.{ScannedFile}
use Rattle.change_sets.specs.Scanned.{entry_of, row_of, rows_in}
use Rattle.table_scan.specs.Scanning.{is_hit}
use Rattle.change_sets.specs.Deciding.{copied_of, hits, is_touched, later_of, left_by, own_of, removed_of, rows_left, touches}
use Rattle.table_scan.specs.Decisions.{decision_by, decision_for, hit_in, hit_rows}

-- a list's front and what is behind it
front : {X : Type 0} (xs ys : List X) → take (length xs) (xs ++ ys) ≡ xs
front [] ys = refl
front (x ∷ xs) ys = ap (λ more. x ∷ more) (front xs ys)

behind : {X : Type 0} (xs ys : List X) → drop (length xs) (xs ++ ys) ≡ ys
behind [] ys = refl
behind (x ∷ xs) ys = behind xs ys

module _ (sources : List Source) (s : Statement) where
  -- ---- one row

  abbrev pub changes : List Value → Bool
  changes row = touches (decision_for sources s row)

  pub unchanged : (row : List Value) → effect sources s row ≡ effects.Keep → changes row ≡ false
  unfolding decision_for
  unchanged row e = ap (λ x. touches (decision_by x)) e

  stays : (row : List Value) → effect sources s row ≡ effects.Keep → remains sources s row ≡ row ∷ []
  unfolding remains
  stays row e = ap (λ x. remaining x row) e

  is_left : (row : List Value) → left_by (Some (decision_for sources s row)) row ≡ remains sources s row
  unfolding decision_for remains
  is_left row = by (effect sources s row)
    where
      by : (x : Effect) → left_by (Some (decision_by x)) row ≡ remaining x row
      by effects.Keep = refl
      by effects.Remove = refl
      by (effects.Replace new) = refl

  stays_unchanged : (row : List Value) → changes row ≡ false → remains sources s row ≡ row ∷ []
  unfolding decision_for remains
  stays_unchanged row e = by (effect sources s row) e
    where
      by : (x : Effect) → touches (decision_by x) ≡ false → remaining x row ≡ row ∷ []
      by effects.Keep h = refl
      by effects.Remove h = absurd (true≢false h)
      by (effects.Replace new) h = absurd (true≢false h)

  -- ---- the rows of a file

  -- some row of the file is removed or replaced
  abbrev pub changes_file : ScannedFile → Bool
  changes_file file = list_any changes (rows_in file)

  -- what is left of its rows
  abbrev pub left_in : ScannedFile → List (List Value)
  left_in file = flat_map (remains sources s) (rows_in file)

  all_stay : (rows : List (List Value)) → list_any changes rows ≡ false → flat_map (remains sources s) rows ≡ rows
  all_stay [] none = refl
  all_stay (row ∷ rows) none =
      let both = or_parts (changes row) (list_any changes rows) none in
      ap (λ (found : List (List Value)). found ++ flat_map (remains sources s) rows) (stays_unchanged row both.0) ∙ ap (λ (more : List (List Value)). row ∷ more) (all_stay rows both.1)

  -- a file with no such row is left as it is
  pub file_stays : (file : ScannedFile) → changes_file file ≡ false → left_in file ≡ rows_in file
  file_stays file none = all_stay (rows_in file) none

  abbrev decisions_on : List LiveRow → List Decision
  decisions_on rows = map (decision_for sources s) (map row_of (filter is_hit rows))

  -- these, and that of one row more where it is hit
  abbrev taken : LiveRow → List LiveRow → Bool → List Decision
  taken live rows b = map (decision_for sources s) (map row_of (cond b (live ∷ filter is_hit rows) (filter is_hit rows)))

  counted : (rows : List LiveRow) → hits rows ≡ length (decisions_on rows)
  unfolding hits
  counted [] = refl
  counted (live ∷ rows) = by live.hit (counted rows)
    where
      by : (b : Bool) → hits rows ≡ length (decisions_on rows) → (if b then suc (hits rows) else hits rows) ≡ length (taken live rows b)
      by true e = ap suc e
      by false e = e

  -- the statement keeps each row that is not hit
  abbrev pub KeepsMissed : List LiveRow → Type 0
  KeepsMissed [] = Unit {0}
  KeepsMissed (live ∷ rows) = (live.hit ≡ false → effect sources s live.row ≡ effects.Keep) × KeepsMissed rows

  touched_is : (rows : List LiveRow) → KeepsMissed rows → is_touched (decisions_on rows) ≡ list_any changes (map row_of rows)
  touched_is [] keeps = refl
  touched_is (live ∷ rows) (keeps, are) = by live.hit refl (touched_is rows are)
    where
      by : (b : Bool) → live.hit ≡ b → is_touched (decisions_on rows) ≡ list_any changes (map row_of rows)
          → is_touched (taken live rows b) ≡ (changes live.row || list_any changes (map row_of rows))
      by true is e = ap (λ b. changes live.row || b) e
      by false is e = e ∙ sym (ap (λ b. b || list_any changes (map row_of rows)) (unchanged live.row (keeps is)))

  left_is : (rows : List LiveRow) → KeepsMissed rows → rows_left rows (decisions_on rows) ≡ flat_map (remains sources s) (map row_of rows)
  unfolding rows_left
  left_is [] keeps = refl
  left_is (live ∷ rows) (keeps, are) = by live.hit refl (left_is rows are)
    where
      by : (b : Bool) → live.hit ≡ b → rows_left rows (decisions_on rows) ≡ flat_map (remains sources s) (map row_of rows)
          → left_by (if b then slice_get (taken live rows b) 0 else None) live.row ++ rows_left rows (if b then drop 1 (taken live rows b) else taken live rows b) ≡ remains sources s live.row ++ flat_map (remains sources s)
          (map row_of rows)
      by true is e = ap (λ (found : List (List Value)). found ++ rows_left rows (decisions_on rows)) (is_left live.row) ∙ ap (λ (more : List (List Value)). remains sources s live.row ++ more) e
      by false is e = ap (λ (more : List (List Value)). live.row ∷ more) e ∙ sym (ap (λ (found : List (List Value)). found ++ flat_map (remains sources s) (map row_of rows)) (stays live.row (keeps is)))

  -- ---- the files

  abbrev KeepsMissedFiles : List ScannedFile → Type 0
  KeepsMissedFiles files = (file : ScannedFile) → In file files → KeepsMissed file.rows

  abbrev decisions_in : List ScannedFile → List Decision
  decisions_in files = map (decision_for sources s) (hit_rows files)

  own_is : (file : ScannedFile) (files : List ScannedFile) → own_of file (decisions_in (file ∷ files)) ≡ decisions_on file.rows
  own_is file files =
      ap (take (hits file.rows)) (map-append (decision_for sources s) (hit_in file) (hit_rows files))
      ∙ ap (λ n. take n (decisions_on file.rows ++ decisions_in files)) (counted file.rows)
      ∙ front (decisions_on file.rows) (decisions_in files)

  later_is : (file : ScannedFile) (files : List ScannedFile) → later_of file (decisions_in (file ∷ files)) ≡ decisions_in files
  later_is file files =
      ap (drop (hits file.rows)) (map-append (decision_for sources s) (hit_in file) (hit_rows files))
      ∙ ap (λ n. drop n (decisions_on file.rows ++ decisions_in files)) (counted file.rows)
      ∙ behind (decisions_on file.rows) (decisions_in files)

  -- the files that are removed are those that the statement changes
  pub removed_is : (files : List ScannedFile) → KeepsMissedFiles files → removed_of files (decisions_in files) ≡ map entry_of (filter changes_file files)
  unfolding removed_of
  removed_is [] keeps = refl
  removed_is (file ∷ files) keeps =
      ap (λ own. if is_touched own then file.entry ∷ removed_of files (later_of file (decisions_in (file ∷ files))) else removed_of files (later_of file (decisions_in (file ∷ files)))) (own_is file files)
      ∙ ap (λ b. if b then file.entry ∷ removed_of files (later_of file (decisions_in (file ∷ files))) else removed_of files (later_of file (decisions_in (file ∷ files)))) (touched_is file.rows (keeps file (inl refl)))
      ∙ ap (λ later. if changes_file file then file.entry ∷ removed_of files later else removed_of files later) (later_is file files)
      ∙ ap (λ (more : List Entry). if changes_file file then file.entry ∷ more else more) (removed_is files (λ one there. keeps one (inr there)))
      ∙ by (changes_file file) (filter changes_file files)
    where
      by : (b : Bool) (more : List ScannedFile) → (if b then file.entry ∷ map entry_of more else map entry_of more) ≡ map entry_of (cond b (file ∷ more) more)
      by true more = refl
      by false more = refl

  -- and what is copied is what is left of them
  pub copied_is : (files : List ScannedFile) → KeepsMissedFiles files → copied_of files (decisions_in files) ≡ flat_map left_in (filter changes_file files)
  unfolding copied_of
  copied_is [] keeps = refl
  copied_is (file ∷ files) keeps =
      ap (λ own. if is_touched own then rows_left file.rows own ++ copied_of files (later_of file (decisions_in (file ∷ files))) else copied_of files (later_of file (decisions_in (file ∷ files)))) (own_is file files)
      ∙ ap (λ b. if b then rows_left file.rows (decisions_on file.rows) ++ copied_of files (later_of file (decisions_in (file ∷ files))) else copied_of files (later_of file (decisions_in (file ∷ files)))) (touched_is file.rows (keeps file (inl refl)))
      ∙ ap (λ (found : List (List Value)). if changes_file file then found ++ copied_of files (later_of file (decisions_in (file ∷ files))) else copied_of files (later_of file (decisions_in (file ∷ files)))) (left_is file.rows (keeps file (inl refl)))
      ∙ ap (λ later. if changes_file file then left_in file ++ copied_of files later else copied_of files later) (later_is file files)
      ∙ ap (λ (more : List (List Value)). if changes_file file then left_in file ++ more else more) (copied_is files (λ one there. keeps one (inr there)))
      ∙ by (changes_file file) (filter changes_file files)
    where
      by : (b : Bool) (more : List ScannedFile)
          → (if b then left_in file ++ flat_map left_in more else flat_map left_in more) ≡ flat_map left_in (cond b (file ∷ more) more)
      by true more = refl
      by false more = refl
