-- Where the filter is FALSE no file is scanned.
use Rattle.std.proofs.Common.{◌≡◌, ℕ, ◌+◌, ◌||◌, false, cond, List, [], ◌∷◌, ◌++◌, filter, Result, Ok, refl, ap, ◌∙◌}
use Rattle.std.specs.List.{list_any}
use Rattle.std.proofs.lemmas.List.Elements.{filter-append}
use Rattle.plain_types.specs.Steps.{◌>>=◌}
use Rattle.row_values.specs.declared.value.Value.{Value}
use Rattle.sql_predicates.proofs.CallerLemmas.{truth_roll}
use Rattle.sql_predicates.specs.declared.pred.Pred.TheOpen as open_pred
use Rattle.sql_statements.specs.Clauses.{holds_on, is_true}
use Rattle.sql_statements.specs.Filter.{never}
use Rattle.store_core.specs.Files.{Files}
use Rattle.manifest_files.specs.declared.entry.Entry.{Entry}
use Rattle.plain_types.proofs.CallerLemmas.{two_steps}
use Rattle.table_metadata.specs.Metadata.{Parts}
use Rattle.table_state.specs.declared.load_fault.LoadFault.{LoadFault}
use Rattle.table_state.specs.Files.{data_file_at}
use Rattle.table_state.specs.Live.{data_rows}
use Rattle.change_sets.specs.declared.scanned.ScannedFile.{ScannedFile}
use Rattle.table_scan.specs.Scanning.{file_at, files_at, has_hit, in_path_order, is_hit, rows_from, scanned_at, with_rows}

never_holds : (row : List Value) → holds_on never row ≡ false
never_holds row = ap is_true (truth_roll row (open_pred.Const false))

never_hit : (at : ℕ) (rows : List (List Value)) → list_any is_hit (rows_from never at rows) ≡ false
never_hit at [] = refl
never_hit at (row ∷ rows) = ap (λ b. b || list_any is_hit (rows_from never (at + 1) rows)) (never_holds row) ∙ never_hit (at + 1) rows

module _ (table : List ℕ) (p : Parts) (files : Files) where
  all_missed : (earlier : List ScannedFile) (before : List (List Value)) (entries : List Entry) (rows : List (List Value))
      → filter has_hit earlier ≡ [] → data_rows table p before entries files ≡ Ok rows → (all : List ScannedFile)
      × (files_at table p never earlier entries files ≡ Ok all) × (filter has_hit all ≡ [])
  unfolding data_rows file_at files_at
  all_missed earlier before [] rows none e = (earlier, refl, none)
  all_missed earlier before (entry ∷ entries) rows none e =
      let read = two_steps (data_file_at table p entry.path files) (λ found. data_rows table p (before ++ found) entries files) rows e in
      let file = with_rows never entry read.0 in
      let missed = filter-append has_hit earlier (file ∷ []) ∙ ap (λ front. front ++ filter has_hit (file ∷ [])) none ∙ ap (λ b. cond b (file ∷ []) []) (never_hit 0 read.0) in
      let rest = all_missed (earlier ++ file ∷ []) (before ++ read.0) entries rows missed read.2 in (
        rest.0,
        ap (λ (r : Result (List (List Value)) LoadFault). (r >>= λ found. Ok (with_rows never entry found)) >>= λ file. files_at table p never (earlier ++ file ∷ []) entries files) read.1 ∙ rest.1,
        rest.2,
      )

  pub nothing_scanned : (entries : List Entry) (rows : List (List Value)) → data_rows table p [] entries files ≡ Ok rows
      → scanned_at table p never entries files ≡ Ok []
  unfolding in_path_order
  nothing_scanned entries rows e =
      let all = all_missed [] [] entries rows refl e in
      ap (λ (r : Result (List ScannedFile) LoadFault). r >>= λ found. Ok (in_path_order [] (filter has_hit found))) all.1 ∙ ap (λ hit. Ok (in_path_order [] hit)) all.2
