-- The change of a statement removes no file and adds none exactly where the statement keeps each row and inserts none.
use Rattle.std.proofs.Common.{◌≡◌, ℕ, ◌+◌, ◌&&◌, ◌||◌, not, Bool, true, false, cond, List, [], ◌∷◌, ◌++◌, map, filter, flat_map, Ok, refl, sym, ap, subst, ◌∙◌, inl, inr, IsTrue}
use Rattle.std.specs.List.{list_all, list_any}
use Rattle.std.proofs.lemmas.Bool.{or_parts}
use Rattle.std.proofs.lemmas.List.Folds.{list_any-append}
use Rattle.plain_types.specs.Bags.{In, SameBag}
use Rattle.plain_types.proofs.CallerLemmas.{In-flat_map_from, SameBag-list_any, one_value}
use Rattle.row_values.specs.declared.schema.Column.{Column}
use Rattle.row_values.specs.declared.value.Value.{Value}
use Rattle.sql_predicates.specs.declared.pred.Pred.{Pred}
use Rattle.sql_statements.specs.declared.effect.Effect.{Effect}
use Rattle.sql_statements.specs.declared.effect.Effect.TheVariants as effects
use Rattle.sql_statements.specs.declared.statement.Source.{Source}
use Rattle.sql_statements.specs.declared.statement.Statement.{Statement}
use Rattle.sql_statements.specs.Clauses.{holds_on}
use Rattle.sql_statements.specs.Effects.{effect, insertions}
use Rattle.sql_statements.specs.Filter.{filter_of}
use Rattle.sql_statements.specs.Fits.{are_wide}
use Rattle.sql_statements.specs.NewRows.{NewRow, row_of as row_made}
use Rattle.store_core.specs.Files.{Files}
use Rattle.table_names.specs.declared.names.Names.{Names}
use Rattle.manifest_files.specs.declared.entry.Entry.{Entry}
use Rattle.table_metadata.specs.declared.metadata.Metadata.{Metadata}
use Rattle.table_metadata.specs.Metadata.{Parts, parts}
use Rattle.table_state.specs.Live.{data_files_of, data_rows}
use Rattle.table_state.specs.declared.state.State.{State}
use Rattle.change_sets.specs.declared.scanned.Decision.{Decision}
use Rattle.change_sets.specs.declared.scanned.ScannedFile.{ScannedFile}
use Rattle.change_sets.specs.Scanned.{entry_of, rows_in, rows_in_all}
use Rattle.table_scan.proofs.CallerLemmas.{is_parted, rows_stay, IsRead, scan_is_read, KeepsMissed, changes, changes_file, copied_is, left_in, removed_is, unchanged, hits_insert, kept_by_filter, wide_parts}
use Rattle.table_scan.specs.Scanning.{rows_from, scanned_at}
use Rattle.cow_writer.proofs.CallerLemmas.{all_rows, flat}
use Rattle.cow_writer.specs.Copies.{entries_from}
use Rattle.change_sets.specs.Deciding.{copied_of, removed_of, touches}
use Rattle.cow_writer.specs.Pieces.{pieces_from, pieces_of}
use Rattle.commit_manifests.specs.Sorting.{is_empty}
use Rattle.table_scan.specs.Decisions.{decision_by, decision_for, hit_rows}
use Rattle.branch_commit.specs.Committing.{change_by, columns_of, filter_on, width_of}
use Rattle.branch_commit.specs.Validation.{is_no_change}
use Rattle.session_machine.specs.Sights.{inserts_none, is_keep, keeps_all}

-- ---- lists

abbrev has_none : {X : Type 0} → List X → Bool
has_none [] = true
has_none (x ∷ xs) = false

neither : (a b : Bool) → (not a && not b) ≡ not (a || b)
neither true b = refl
neither false b = refl

or_false : (b : Bool) → (b || false) ≡ b
or_false true = refl
or_false false = refl

none_any : {X : Type 0} (test : X → Bool) (xs : List X) → ((x : X) → In x xs → test x ≡ false) → list_any test xs ≡ false
none_any test [] none = refl
none_any test (x ∷ xs) none = ap (λ b. b || list_any test xs) (none x (inl refl)) ∙ none_any test xs (λ y there. none y (inr there))

none_pass : (test : ScannedFile → Bool) (files : List ScannedFile) → list_any test files ≡ false → filter test files ≡ []
none_pass test [] none = refl
none_pass test (file ∷ files) none =
    let both = or_parts (test file) (list_any test files) none in
    ap (λ b. cond b (file ∷ filter test files) (filter test files)) both.0 ∙ none_pass test files both.1

some_pass : (test : ScannedFile → Bool) (files : List ScannedFile) → is_empty (map entry_of (filter test files)) ≡ not (list_any test files)
some_pass test [] = refl
some_pass test (file ∷ files) = by (test file) (some_pass test files)
  where
    by : (b : Bool) → is_empty (map entry_of (filter test files)) ≡ not (list_any test files)
        → is_empty (map entry_of (cond b (file ∷ filter test files) (filter test files))) ≡ not (b || list_any test files)
    by true e = refl
    by false e = e

-- ---- rows are written where files are added

no_pieces : (columns : List Column) (rows : List (List Value)) → has_none (pieces_of columns rows) ≡ has_none rows
unfolding pieces_from
no_pieces columns [] = refl
no_pieces columns (row ∷ rows) = by (pieces_of columns (row ∷ rows)) (all_rows columns (row ∷ rows))
  where
    by : (pieces : List (List (List Value))) → flat pieces ≡ row ∷ rows → has_none pieces ≡ false
    by [] e = absurd cc
    by (piece ∷ pieces) e = refl

no_entries : (metadata : Metadata) (names : Names) (pieces : List (List (List Value))) → is_empty (entries_from metadata names pieces) ≡ has_none pieces
unfolding entries_from
no_entries metadata names [] = refl
no_entries metadata names (piece ∷ pieces) = refl

none_made : (made : List NewRow) → has_none (map row_made made) ≡ inserts_none made
none_made [] = refl
none_made (row ∷ made) = refl

-- ---- rows are kept where no decision touches one

module _ (sources : List Source) (s : Statement) where
  abbrev keeps : List Value → Bool
  keeps row = is_keep (effect sources s row)

  row_kept : (row : List Value) → keeps row ≡ not (changes sources s row)
  unfolding decision_for
  row_kept row = by (effect sources s row)
    where
      by : (x : Effect) → is_keep x ≡ not (touches (decision_by x))
      by effects.Keep = refl
      by effects.Remove = refl
      by (effects.Replace new) = refl

  rows_kept : (rows : List (List Value)) → list_all keeps rows ≡ not (list_any (changes sources s) rows)
  rows_kept [] = refl
  rows_kept (row ∷ rows) =
      ap (λ b. b && list_all keeps rows) (row_kept row) ∙ ap (λ b. not (changes sources s row) && b) (rows_kept rows) ∙ neither (changes sources s row) (list_any (changes sources s) rows)

  any_in_files : (files : List ScannedFile) → list_any (changes_file sources s) files ≡ list_any (changes sources s) (rows_in_all files)
  any_in_files [] = refl
  any_in_files (file ∷ files) = ap (λ b. changes_file sources s file || b) (any_in_files files) ∙ sym (list_any-append (changes sources s) (rows_in file) (rows_in_all files))

  missed_from : (pred : Pred) (at : ℕ) (rows : List (List Value))
      → ((row : List Value) → In row rows → holds_on pred row ≡ false → effect sources s row ≡ effects.Keep)
      → KeepsMissed sources s (rows_from pred at rows)
  missed_from pred at [] keep = tt
  missed_from pred at (row ∷ rows) keep = (keep row (inl refl), missed_from pred (at + 1) rows (λ one there. keep one (inr there)))

-- ---- of a branch whose files were scanned by the statement's filter

module _ (table : List ℕ) (p : Parts) (files : Files) (sources : List Source) (s : Statement) (width : ℕ) (entries : List Entry)
    (scanned : List ScannedFile) (rows : List (List Value)) (is : scanned_at table p (filter_of width s) entries files ≡ Ok scanned)
    (found : data_rows table p [] entries files ≡ Ok rows) (wide : IsTrue (are_wide width rows)) where
  abbrev pred : Pred
  pred = filter_of width s

  abbrev decided : List Decision
  decided = map (decision_for sources s) (hit_rows scanned)

  abbrev changed : Bool
  changed = list_any (changes_file sources s) scanned

  parted : (others : List (List Value)) × SameBag rows (rows_in_all scanned ++ others) × ((row : List Value) → In row others → holds_on pred row ≡ false)
  parted =
      let split = is_parted table p pred files entries scanned is in
      let same : rows_in_all split.all ≡ rows = one_value (rows_in_all split.all) rows (data_rows table p [] entries files) split.of_rows found in
      (rows_in_all split.others, subst (λ (all : List (List Value)). SameBag all (rows_in_all scanned ++ rows_in_all split.others)) same split.rows_parted, split.missed)

  -- the other files have no row that the statement changes
  any_scanned : list_any (changes sources s) rows ≡ changed
  any_scanned =
      let widths = wide_parts width rows (rows_in_all scanned) parted.0 parted.1 wide in
      let none = none_any (changes sources s) parted.0 (λ row there. unchanged sources s row (kept_by_filter width sources s row (widths.1 row there) (parted.2 row there))) in
      SameBag-list_any (changes sources s) rows (rows_in_all scanned ++ parted.0) parted.1
      ∙ list_any-append (changes sources s) (rows_in_all scanned) parted.0
      ∙ ap (λ b. list_any (changes sources s) (rows_in_all scanned) || b) none
      ∙ or_false (list_any (changes sources s) (rows_in_all scanned))
      ∙ sym (any_in_files sources s scanned)

  -- and none of the scanned ones has a row outside the filter that it changes
  missed_in : (file : ScannedFile) → In file scanned → IsRead table p pred files file → KeepsMissed sources s file.rows
  missed_in file there (own, at, is_own) =
      let widths = wide_parts width rows (rows_in_all scanned) parted.0 parted.1 wide in
      let same : rows_in file ≡ own = ap rows_in is_own ∙ rows_stay pred own in
      subst (λ (one : ScannedFile). KeepsMissed sources s one.rows) (sym is_own)
      (missed_from sources s pred 0 own (λ row within out. kept_by_filter width sources s row (widths.0 row (In-flat_map_from row file rows_in scanned there (subst (In row) (sym same) within))) out))

  missed : (file : ScannedFile) → In file scanned → KeepsMissed sources s file.rows
  missed file there = missed_in file there (scan_is_read table p pred files entries scanned is file there)

  none_removed : is_empty (removed_of scanned decided) ≡ not changed
  none_removed = ap is_empty (removed_is sources s scanned missed) ∙ some_pass (changes_file sources s) scanned

  none_copied : changed ≡ false → copied_of scanned decided ≡ []
  none_copied none = copied_is sources s scanned missed ∙ ap (flat_map (left_in sources s)) (none_pass (changes_file sources s) scanned none)

  all_keep : list_all (keeps sources s) rows ≡ not changed
  all_keep = rows_kept sources s rows ∙ ap not any_scanned

  abbrev made : List NewRow
  made = insertions width sources s (hit_rows scanned)

  -- no file is added where nothing is copied and nothing is inserted
  none_added : (metadata : Metadata) (names : Names) (columns : List Column) → changed ≡ false
      → is_empty (entries_from metadata names (pieces_of columns (copied_of scanned decided ++ map row_made made))) ≡ inserts_none made
  none_added metadata names columns none =
      no_entries metadata names (pieces_of columns (copied_of scanned decided ++ map row_made made))
      ∙ no_pieces columns (copied_of scanned decided ++ map row_made made)
      ∙ ap (λ (copies : List (List Value)). has_none (copies ++ map row_made made)) (none_copied none)
      ∙ none_made made

  pub is_kept : (metadata : Metadata) (names : Names) (columns : List Column)
      → (list_all (keeps sources s) rows && inserts_none (insertions width sources s rows)) ≡ (is_empty (removed_of scanned decided) && (is_empty (entries_from metadata names (pieces_of columns (copied_of scanned decided ++ map row_made made))) && true))
  is_kept metadata names columns =
      ap (λ b. b && inserts_none (insertions width sources s rows)) all_keep
      ∙ ap (λ (more : List NewRow). not changed && inserts_none more) (hits_insert table p files s width entries scanned rows is found wide sources)
      ∙ by changed refl
      ∙ sym (ap (λ b. b && (is_empty (entries_from metadata names (pieces_of columns (copied_of scanned decided ++ map row_made made))) && true)) none_removed)
    where
      and_true : (b : Bool) → b ≡ (b && true)
      and_true true = refl
      and_true false = refl

      by : (b : Bool) → changed ≡ b
          → (not b && inserts_none made) ≡ (not b && (is_empty (entries_from metadata names (pieces_of columns (copied_of scanned decided ++ map row_made made))) && true))
      by true e = refl
      by false e = and_true (inserts_none made) ∙ ap (λ b. b && true) (sym (none_added metadata names columns e))

-- the change of the statement on a branch
pub keeps_is : (base : State) (files : Files) (sources : List Source) (s : Statement) (scanned : List ScannedFile) (names : Names)
    (rows : List (List Value)) (table : List ℕ) → scanned_at table (parts base.metadata) (filter_on base s)
    (data_files_of base.head) files ≡ Ok scanned → data_rows table (parts base.metadata)
    [] (data_files_of base.head) files ≡ Ok rows → IsTrue (are_wide (width_of base) rows)
    → keeps_all sources s (columns_of base) rows ≡ is_no_change (change_by base scanned sources s names)
keeps_is base files sources s scanned names rows table is found wide =
    is_kept table (parts base.metadata) files sources s (width_of base) (data_files_of base.head) scanned rows is found wide base.metadata names (columns_of base)
