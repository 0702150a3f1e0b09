-- The rows of data files part into those of the files that are scanned and those of the others.
use Rattle.std.proofs.Common.{◌≡◌, ℕ, ◌+◌, not, Bool, true, false, cond, List, [], ◌∷◌, ◌++◌, append_assoc, append-nil, map, filter, take, drop, Ok, refl, sym, ap, ◌∙◌, subst, inl, inr, arith}
use Rattle.std.specs.List.{list_any}
use Rattle.std.proofs.lemmas.Grind.{flat_map-append}
use Rattle.std.proofs.lemmas.List.{take-append-drop}
use Rattle.plain_types.specs.Bags.{In, SameBag, total}
use Rattle.plain_types.specs.Steps.{◌>>=◌}
use Rattle.plain_types.proofs.CallerLemmas.{In-filter, In-flat_map, In-map, SameBag-flat_map, total-append, two_steps}
use Rattle.row_values.specs.declared.value.Value.{Value}
use Rattle.sql_predicates.specs.declared.pred.Pred.{Pred}
use Rattle.sql_statements.specs.Clauses.{holds_on}
use Rattle.store_core.specs.Files.{Files}
use Rattle.manifest_files.specs.declared.entry.Entry.{Entry}
use Rattle.table_metadata.specs.Metadata.{Parts}
use Rattle.table_state.specs.Files.{data_file_at}
use Rattle.table_state.specs.Live.{data_rows}
use Rattle.change_sets.specs.declared.scanned.ScannedFile.{ScannedFile}
use Rattle.change_sets.specs.Scanned.{entry_of, row_of, rows_in, rows_in_all}
use Rattle.table_scan.specs.Parting.{IsParted}
use Rattle.table_scan.specs.Scanning.{file_at, files_at, has_hit, is_hit, in_path_order, live_rows, place_of, scanned_at, with_file, with_rows}
use Rattle.table_scan.proofs.RowLaws.{missed, rows_stay}

-- ---- bags of files

module _ (weight : ScannedFile → ℕ) where
  with_one : (file : ScannedFile) (files : List ScannedFile) → total weight (with_file file files) ≡ weight file + total weight files
  with_one file files =
      let at = place_of file.entry.path files in
      let whole : total weight (take at files ++ drop at files) ≡ total weight files = ap (total weight) (take-append-drop at files) in
      omega (arith, total-append weight (take at files) (file ∷ drop at files), total-append weight (take at files) (drop at files))

  in_order : (ordered files : List ScannedFile) → total weight (in_path_order ordered files) ≡ total weight ordered + total weight files
  unfolding in_path_order
  in_order ordered [] = omega arith
  in_order ordered (file ∷ files) = omega (arith, in_order (with_file file ordered) files, with_one file ordered)

  halves : (all : List ScannedFile) → total weight all ≡ total weight (filter has_hit all) + total weight (filter (λ file. not (has_hit file)) all)
  halves [] = refl
  halves (file ∷ all) = by (has_hit file) (filter has_hit all) (filter (λ file. not (has_hit file)) all) (halves all)
    where
      by : (b : Bool) (hits others : List ScannedFile) → total weight all ≡ total weight hits + total weight others
          → weight file + total weight all ≡ total weight (cond b (file ∷ hits) hits) + total weight (cond (not b)
          (file ∷ others) others)
      by true hits others h = omega arith
      by false hits others h = omega arith

abbrev others_of : List ScannedFile → List ScannedFile
others_of all = filter (λ file. not (has_hit file)) all

parts_of : (all : List ScannedFile) → SameBag all (in_path_order [] (filter has_hit all) ++ others_of all)
parts_of all weight = omega (arith, halves weight all, in_order weight [] (filter has_hit all), total-append weight (in_path_order [] (filter has_hit all)) (others_of all))

-- ---- the files of entries

module _ (table : List ℕ) (parts : Parts) (pred : Pred) (files : Files) where
  -- each entry's file with its rows
  abbrev AreFilesOf : List Entry → List ScannedFile → Type 0
  AreFilesOf [] [] = Unit {0}
  AreFilesOf (entry ∷ entries) (file ∷ read) = ((rows : List (List Value)) × (data_file_at table parts entry.path files ≡ Ok rows) × (file ≡ with_rows pred entry rows)) × AreFilesOf entries read
  AreFilesOf [] (file ∷ read) = ⊥
  AreFilesOf (entry ∷ entries) [] = ⊥

  file_is : (entry : Entry) (file : ScannedFile) → file_at table parts pred entry files ≡ Ok file → (rows : List (List Value))
      × (data_file_at table parts entry.path files ≡ Ok rows) × (file ≡ with_rows pred entry rows)
  unfolding file_at
  file_is entry file e =
      let s = two_steps (data_file_at table parts entry.path files) (λ rows. Ok (with_rows pred entry rows)) file e in
      let same : with_rows pred entry s.0 ≡ file = cc in
      (s.0, s.1, sym same)

  read_in : (earlier : List ScannedFile) (entries : List Entry) (all : List ScannedFile)
      → files_at table parts pred earlier entries files ≡ Ok all → (read : List ScannedFile) × (all ≡ earlier ++ read)
      × AreFilesOf entries read
  unfolding files_at
  read_in earlier [] all e =
      let same : earlier ≡ all = cc in
      ([], sym same ∙ sym (append-nil earlier), tt)
  read_in earlier (entry ∷ entries) all e =
      let s = two_steps (file_at table parts pred entry files) (λ file. files_at table parts pred (earlier ++ file ∷ []) entries files) all e in
      let rest = read_in (earlier ++ s.0 ∷ []) entries all s.2 in
      (s.0 ∷ rest.0, rest.1 ∙ append_assoc earlier (s.0 ∷ []) rest.0, (file_is entry s.0 s.1, rest.2))

  of_entries : (entries : List Entry) (read : List ScannedFile) → AreFilesOf entries read → map entry_of read ≡ entries
  of_entries [] [] are = refl
  of_entries [] (file ∷ read) are = absurd are
  of_entries (entry ∷ entries) [] are = absurd are
  of_entries (entry ∷ entries) (file ∷ read) ((rows, at, is), are) =
      ap (λ (f : ScannedFile). f.entry ∷ map entry_of read) is ∙ ap (λ more. entry ∷ more) (of_entries entries read are)

  of_rows : (earlier : List (List Value)) (entries : List Entry) (read : List ScannedFile) → AreFilesOf entries read
      → data_rows table parts earlier entries files ≡ Ok (earlier ++ rows_in_all read)
  unfolding data_rows
  of_rows earlier [] [] are = ap Ok (sym (append-nil earlier))
  of_rows earlier [] (file ∷ read) are = absurd are
  of_rows earlier (entry ∷ entries) [] are = absurd are
  of_rows earlier (entry ∷ entries) (file ∷ read) ((rows, at, is), are) =
      let own : rows_in file ≡ rows = ap rows_in is ∙ rows_stay pred rows in
      ap (λ r. r >>= λ found. data_rows table parts (earlier ++ found) entries files) at
      ∙ of_rows (earlier ++ rows) entries read are
      ∙ ap Ok (append_assoc earlier rows (rows_in_all read) ∙ ap (λ (found : List (List Value)). earlier ++ (found ++ rows_in_all read)) (sym own))

  file_missed : (entry : Entry) (rows : List (List Value)) (row : List Value) → list_any is_hit (live_rows pred rows) ≡ false
      → In row (map row_of (live_rows pred rows)) → holds_on pred row ≡ false
  file_missed entry rows row none there =
      let found = In-map row row_of (live_rows pred rows) there in
      ap (holds_on pred) found.2 ∙ missed pred rows found.0 none found.1

  missed_in : (entries : List Entry) (read : List ScannedFile) → AreFilesOf entries read → (file : ScannedFile) → In file read
      → has_hit file ≡ false → (row : List Value) → In row (rows_in file) → holds_on pred row ≡ false
  missed_in [] [] are file there none row within = absurd there
  missed_in [] (first ∷ read) are file there none row within = absurd are
  missed_in (entry ∷ entries) [] are file there none row within = absurd are
  missed_in (entry ∷ entries) (first ∷ read) ((rows, at, is), are) file (inl here) none row within =
      let same : file ≡ with_rows pred entry rows = here ∙ is in
      file_missed entry rows row (sym (ap has_hit same) ∙ none) (subst (λ (f : ScannedFile). In row (rows_in f)) same within)
  missed_in (entry ∷ entries) (first ∷ read) ((rows, at, is), are) file (inr later) none row within = missed_in entries read are file later none row within

  not_true : (b : Bool) → not b ≡ true → b ≡ false
  not_true true e = absurd cc
  not_true false e = refl

  pub is_parted : (entries : List Entry) (scanned : List ScannedFile) → scanned_at table parts pred entries files ≡ Ok scanned
      → IsParted table parts pred entries files scanned
  is_parted entries scanned e =
      let s = two_steps (files_at table parts pred [] entries files) (λ all. Ok (in_path_order [] (filter has_hit all))) scanned e in
      let all = s.0 in
      let read = read_in [] entries all s.1 in
      let are : AreFilesOf entries all = subst (AreFilesOf entries) (sym read.1) read.2 in
      let ordered : in_path_order [] (filter has_hit all) ≡ scanned = cc in
      let parted : SameBag all (scanned ++ others_of all) = subst (λ (found : List ScannedFile). SameBag all (found ++ others_of all)) ordered (parts_of all) in
      record {
        all = all;
        read = s.1;
        others = others_of all;
        of_entries = of_entries entries all are;
        parted = parted;
        of_rows = of_rows [] entries all are;
        rows_parted = subst (SameBag (rows_in_all all)) (flat_map-append rows_in scanned (others_of all)) (SameBag-flat_map rows_in all (scanned ++ others_of all) parted);
        missed = λ row there.
            let found = In-flat_map row rows_in (others_of all) there in
            let within = In-filter found.0 (λ file. not (has_hit file)) all found.1 in
            missed_in entries all are found.0 within.0 (not_true (has_hit found.0) within.1) row found.2;
      }
