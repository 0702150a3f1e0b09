-- A scan file by file gives what it gives of all files.
use Rattle.std.proofs.Common.{◌≡◌, ◌≤◌, ◌-◌, ℕ, get_or, take, drop, length, arith, Bool, true, false, List, [], ◌∷◌, ◌++◌, filter, cond, Result, Ok, Err, refl, sym, ap, ◌∙◌, append-nil}
use Rattle.std.proofs.lemmas.List.{take_all}
use Rattle.std.proofs.lemmas.List.Elements.{filter-append}
use Rattle.plain_types.specs.Steps.{◌>>=◌}
use Rattle.sql_predicates.specs.declared.pred.Pred.{Pred}
use Rattle.store_core.specs.Files.{Files}
use Rattle.manifest_files.specs.declared.entry.Entry.{Entry}
use Rattle.table_metadata.specs.Metadata.{Parts}
use Rattle.table_state.specs.declared.load_fault.LoadFault.{LoadFault}
use Rattle.change_sets.specs.declared.scanned.ScannedFile.{ScannedFile}
use Rattle.table_scan.specs.Scanning.{file_at, files_at, has_hit, in_path_order, scanned_at, scanned_from, with_file, with_hit}

ordered_more : (ordered files : List ScannedFile) (file : ScannedFile)
    → in_path_order ordered (files ++ file ∷ []) ≡ with_file file (in_path_order ordered files)
unfolding in_path_order
ordered_more ordered [] file = refl
ordered_more ordered (first ∷ files) file = ordered_more (with_file first ordered) files file

hit_more : (all : List ScannedFile) (file : ScannedFile) (hit : Bool) → has_hit file ≡ hit
    → in_path_order [] (filter has_hit all ++ cond hit (file ∷ [])
    []) ≡ cond hit (with_file file (in_path_order [] (filter has_hit all))) (in_path_order [] (filter has_hit all))
hit_more all file true is = ordered_more [] (filter has_hit all) file
hit_more all file false is = ap (in_path_order []) (append-nil (filter has_hit all))

and_file : (all : List ScannedFile) (file : ScannedFile)
    → with_hit file (in_path_order [] (filter has_hit all)) ≡ in_path_order [] (filter has_hit (all ++ file ∷ []))
unfolding with_hit
and_file all file = sym (ap (in_path_order []) (filter-append has_hit all (file ∷ [])) ∙ hit_more all file (has_hit file) refl)

module _ (table : List ℕ) (parts : Parts) (pred : Pred) (files : Files) where
  step : (all : List ScannedFile) (read : Result ScannedFile LoadFault)
      (one more : ScannedFile → Result (List ScannedFile) LoadFault)
      → ((file : ScannedFile) → one file ≡ (more file >>= λ found. Ok (in_path_order [] (filter has_hit found))))
      → (read >>= one) ≡ ((read >>= more) >>= λ found. Ok (in_path_order [] (filter has_hit found)))
  step all (Ok file) one more h = h file
  step all (Err f) one more h = refl

  same_from : (all : List ScannedFile) (entries : List Entry)
      → scanned_from table parts pred (in_path_order [] (filter has_hit all)) entries files ≡ (files_at table parts pred all entries files >>= λ found. Ok (in_path_order [] (filter has_hit found)))
  unfolding scanned_from files_at
  same_from all [] = refl
  same_from all (entry ∷ entries) =
      step all (file_at table parts pred entry files) (λ file. scanned_from table parts pred (with_hit file (in_path_order [] (filter has_hit all))) entries files) (λ file. files_at table parts pred (all ++ file ∷ []) entries files)
      (λ file. ap (λ scanned. scanned_from table parts pred scanned entries files) (and_file all file) ∙ same_from (all ++ file ∷ []) entries)

  pub same : (entries : List Entry) → scanned_from table parts pred [] entries files ≡ scanned_at table parts pred entries files
  unfolding in_path_order
  same entries = same_from [] entries

  -- one file more
  pub steps_on : (scanned next : List ScannedFile) (rest : List Entry) (entry : Entry) (file : ScannedFile) → 1 ≤ length rest
      → entry ≡ get_or rest 0 entry → file_at table parts pred entry files ≡ Ok file → next ≡ with_hit file scanned
      → scanned_from table parts pred next (take (length rest - 1) (drop 1 rest)) files ≡ scanned_from table parts pred scanned rest files
  unfolding scanned_from
  steps_on scanned next [] entry file some first read is = absurd (omega arith)
  steps_on scanned next (e ∷ rest) entry file some first read is =
      let count : length (e ∷ rest) - 1 ≡ length rest = omega arith in
      let all : take (length (e ∷ rest) - 1) rest ≡ rest = ap (λ n. take n rest) count ∙ take_all (length rest) rest (omega arith) in
      let same_entry : entry ≡ e = first in
      let found : file_at table parts pred e files ≡ Ok file = ap (λ (one : Entry). file_at table parts pred one files) (sym same_entry) ∙ read in
      ap (λ left. scanned_from table parts pred next left files) all
      ∙ ap (λ found. scanned_from table parts pred found rest files) is
      ∙ sym (ap (λ r. r >>= λ found. scanned_from table parts pred (with_hit found scanned) rest files) found)

-- ---- the same answer under another name
