-- The rows that are hit are those of the branch of which the filter is True. They alone decide what a statement inserts and
-- whether it is refused.
use Rattle.std.proofs.Common.{◌≡◌, ℕ, ◌+◌, ◌&&◌, Bool, true, false, cond, List, [], ◌∷◌, ◌++◌, append-nil, length, map, filter, Ok, refl, sym, ap, subst, ◌∙◌, inl, inr, IsTrue}
use Rattle.std.proofs.lemmas.Bool.{eq-eqb}
use Rattle.std.proofs.lemmas.List.Elements.{filter-append}
use Rattle.plain_types.specs.Bags.{In, SameBag}
use Rattle.plain_types.proofs.CallerLemmas.{In-filter, SameBag-filter, one_value}
use Rattle.row_values.specs.declared.schema.Column.{Column}
use Rattle.row_values.specs.declared.value.Value.{Value}
use Rattle.sql_predicates.specs.declared.pred.Pred.{Pred}
use Rattle.sql_statements.specs.declared.statement.Source.{Source}
use Rattle.sql_statements.specs.declared.statement.Statement.{Statement}
use Rattle.sql_statements.specs.Clauses.{holds_on}
use Rattle.sql_statements.specs.Effects.{insertions, refusal}
use Rattle.sql_statements.specs.Filter.{filter_of, hits}
use Rattle.sql_statements.specs.Fits.{are_wide}
use Rattle.sql_statements.specs.NewRows.{row_of as row_made}
use Rattle.sql_statements.proofs.CallerLemmas.{local_insertions, local_refusal}
use Rattle.store_core.specs.Files.{Files}
use Rattle.manifest_files.specs.declared.entry.Entry.{Entry}
use Rattle.table_metadata.specs.Metadata.{Parts}
use Rattle.table_state.specs.Live.{data_rows}
use Rattle.change_sets.specs.declared.scanned.ScannedFile.{ScannedFile}
use Rattle.change_sets.specs.Scanned.{row_of, rows_in, rows_in_all}
use Rattle.table_scan.proofs.PartingLaws.{is_parted}
use Rattle.table_scan.proofs.RowLaws.{rows_stay}
use Rattle.table_scan.specs.Scanning.{is_hit, rows_from, scanned_at}
use Rattle.table_scan.proofs.CopyLaws.{AreRead, IsRead, scan_is_read}
use Rattle.table_scan.proofs.WidthLaws.{AreWide, wide_parts}
use Rattle.table_scan.specs.Decisions.{decision_for, decisions_of, hit_in, hit_rows}

-- ---- lists

none_pass : (test : List Value → Bool) (rows : List (List Value)) → ((row : List Value) → In row rows → test row ≡ false) → filter test rows ≡ []
none_pass test [] none = refl
none_pass test (row ∷ rows) none = ap (λ b. cond b (row ∷ filter test rows) (filter test rows)) (none row (inl refl)) ∙ none_pass test rows (λ one there. none one (inr there))

pass_twice : (test : List Value → Bool) (rows : List (List Value)) → filter test (filter test rows) ≡ filter test rows
pass_twice test [] = refl
pass_twice test (row ∷ rows) = by (test row) refl (pass_twice test rows)
  where
    by : (b : Bool) → test row ≡ b → filter test (filter test rows) ≡ filter test rows
        → filter test (cond b (row ∷ filter test rows) (filter test rows)) ≡ cond b (row ∷ filter test rows) (filter test rows)
    by true is e = ap (λ b. cond b (row ∷ filter test (filter test rows)) (filter test (filter test rows))) is ∙ ap (λ more. row ∷ more) e
    by false is e = e

all_wide : (width : ℕ) (rows : List (List Value)) → AreWide width rows → IsTrue (are_wide width rows)
all_wide width [] wide = refl
all_wide width (row ∷ rows) wide = ap (λ b. b && are_wide width rows) (eq-eqb (length row) width (wide row (inl refl))) ∙ all_wide width rows (λ one there. wide one (inr there))

-- ---- the rows that are hit

module _ (table : List ℕ) (p : Parts) (pred : Pred) (files : Files) where
  hit_from : (at : ℕ) (rows : List (List Value)) → map row_of (filter is_hit (rows_from pred at rows)) ≡ filter (holds_on pred) rows
  hit_from at [] = refl
  hit_from at (row ∷ rows) = by (holds_on pred row) refl (hit_from (at + 1) rows)
    where
      by : (b : Bool) → holds_on pred row ≡ b
          → map row_of (filter is_hit (rows_from pred (at + 1) rows)) ≡ filter (holds_on pred) rows
          → map row_of (cond b (record { position = at; row = row; hit = holds_on pred row } ∷ filter is_hit (rows_from pred (at + 1) rows))
          (filter is_hit (rows_from pred (at + 1) rows))) ≡ cond b (row ∷ filter (holds_on pred) rows)
          (filter (holds_on pred) rows)
      by true is e = ap (λ more. row ∷ more) e
      by false is e = e

  hit_of_file : (file : ScannedFile) → IsRead table p pred files file → hit_in file ≡ filter (holds_on pred) (rows_in file)
  hit_of_file file (rows, at, is) = ap hit_in is ∙ hit_from 0 rows ∙ ap (filter (holds_on pred)) (sym (ap rows_in is ∙ rows_stay pred rows))

  hit_of_files : (scanned : List ScannedFile) → AreRead table p pred files scanned → hit_rows scanned ≡ filter (holds_on pred) (rows_in_all scanned)
  hit_of_files [] are = refl
  hit_of_files (file ∷ scanned) are =
      ap (λ (own : List (List Value)). own ++ hit_rows scanned) (hit_of_file file (are file (inl refl)))
      ∙ ap (λ (more : List (List Value)). filter (holds_on pred) (rows_in file) ++ more) (hit_of_files scanned (λ one there. are one (inr there)))
      ∙ sym (filter-append (holds_on pred) (rows_in file) (rows_in_all scanned))

-- ---- what they decide

module _ (table : List ℕ) (p : Parts) (files : Files) (s : Statement) (width : ℕ) (entries : List Entry) (scanned : List ScannedFile)
    (rows : List (List Value)) (is : scanned_at table p (filter_of width s) entries files ≡ Ok scanned)
    (found : data_rows table p [] entries files ≡ Ok rows) (wide : IsTrue (are_wide width rows)) where
  abbrev test : List Value → Bool
  test = holds_on (filter_of width s)

  are_hit : hit_rows scanned ≡ filter test (rows_in_all scanned)
  are_hit = hit_of_files table p (filter_of width s) files scanned (scan_is_read table p (filter_of width s) files entries scanned is)

  parted : (others : List (List Value)) × SameBag rows (rows_in_all scanned ++ others) × ((row : List Value) → In row others → test row ≡ false)
  parted =
      let split = is_parted table p (filter_of width s) files entries scanned is in
      let same : rows_in_all split.all ≡ rows = one_value (rows_in_all split.all) rows (data_rows table p [] entries files) split.of_rows found in
      (rows_in_all split.others, subst (λ (all : List (List Value)). SameBag all (rows_in_all scanned ++ rows_in_all split.others)) same split.rows_parted, split.missed)

  -- those of the files that are scanned are all
  same_hits : SameBag (hits width s rows) (hits width s (hit_rows scanned))
  same_hits =
      let left = filter-append test (rows_in_all scanned) parted.0 ∙ ap (λ more. filter test (rows_in_all scanned) ++ more) (none_pass test parted.0 parted.2) ∙ append-nil (filter test (rows_in_all scanned)) in
      let again = ap (filter test) are_hit ∙ pass_twice test (rows_in_all scanned) in
      subst (SameBag (hits width s rows)) (left ∙ sym again) (SameBag-filter test rows (rows_in_all scanned ++ parted.0) parted.1)

  hits_wide : IsTrue (are_wide width (hit_rows scanned))
  hits_wide =
      let all = (wide_parts width rows (rows_in_all scanned) parted.0 parted.1 wide).0 in
      subst (λ (some : List (List Value)). IsTrue (are_wide width some)) (sym are_hit)
      (all_wide width (filter test (rows_in_all scanned)) (λ row there. all row (In-filter row test (rows_in_all scanned) there).0))

  pub hits_insert : (sources : List Source) → insertions width sources s rows ≡ insertions width sources s (hit_rows scanned)
  hits_insert sources = local_insertions width sources s rows (hit_rows scanned) wide hits_wide same_hits

  pub hits_decide : (sources : List Source) → decisions_of sources s width scanned rows ≡ decisions_of sources s width scanned (hit_rows scanned)
  hits_decide sources = ap (λ made. record { rows = map (decision_for sources s) (hit_rows scanned); inserted = map row_made made }) (hits_insert sources)

module _ (table : List ℕ) (p : Parts) (files : Files) (s : Statement) (columns : List Column) (entries : List Entry) (scanned : List ScannedFile)
    (rows : List (List Value)) (is : scanned_at table p (filter_of (length columns) s) entries files ≡ Ok scanned)
    (found : data_rows table p [] entries files ≡ Ok rows) (wide : IsTrue (are_wide (length columns) rows)) where
  pub hits_refuse : (sources : List Source) → refusal columns sources s rows ≡ refusal columns sources s (hit_rows scanned)
  hits_refuse sources =
      local_refusal columns sources s rows (hit_rows scanned) wide (hits_wide table p files s (length columns) entries scanned rows is found wide) (same_hits table p files s (length columns) entries scanned rows is found wide)
