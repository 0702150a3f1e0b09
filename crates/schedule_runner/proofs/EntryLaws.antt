-- The files that are scanned are of the entries that were given.
use Rattle.std.proofs.Common.{◌≡◌, ℕ, List, [], ◌∷◌, map, filter, take, drop, Ok, ◌⊎◌, ⊎_elim, inl, inr, sym, ap, subst}
use Rattle.std.proofs.lemmas.List.{take-append-drop}
use Rattle.plain_types.specs.Bags.{In}
use Rattle.plain_types.proofs.CallerLemmas.{In-append, In-append_left, In-append_right, In-filter, In-map, one_value, two_steps}
use Rattle.sql_predicates.specs.declared.pred.Pred.{Pred}
use Rattle.store_core.specs.Files.{Files}
use Rattle.manifest_files.specs.declared.entry.Entry.{Entry}
use Rattle.table_metadata.specs.Metadata.{Parts}
use Rattle.change_sets.specs.declared.scanned.ScannedFile.{ScannedFile}
use Rattle.change_sets.specs.Scanned.{entry_of}
use Rattle.table_scan.specs.Scanning.{files_at, has_hit, in_path_order, place_of, scanned_at, with_file}
use Rattle.table_scan.proofs.CallerLemmas.{is_parted}

module _ (x : ScannedFile) where
  in_front : (n : ℕ) (files : List ScannedFile) → In x (take n files) → In x files
  in_front n files there = subst (In x) (take-append-drop n files) (In-append_left x (take n files) (drop n files) there)

  in_back : (n : ℕ) (files : List ScannedFile) → In x (drop n files) → In x files
  in_back n files there = subst (In x) (take-append-drop n files) (In-append_right x (take n files) (drop n files) there)

  in_with : (file : ScannedFile) (files : List ScannedFile) → In x (with_file file files) → (x ≡ file) ⊎ In x files
  in_with file files there =
      let n = place_of file.entry.path files in
      ⊎_elim (λ front. inr (in_front n files front)) (⊎_elim (λ here. inl here) (λ back. inr (in_back n files back))) (In-append x (take n files) (file ∷ drop n files) there)

  in_ordered : (ordered files : List ScannedFile) → In x (in_path_order ordered files) → In x ordered ⊎ In x files
  unfolding in_path_order
  in_ordered ordered [] there = inl there
  in_ordered ordered (file ∷ files) there =
      ⊎_elim (λ first. ⊎_elim (λ here. inr (inl here)) (λ before. inl before) (in_with file ordered first)) (λ later. inr (inr later)) (in_ordered (with_file file ordered) files there)

  in_hits : (all : List ScannedFile) → In x (in_path_order [] (filter has_hit all)) → In x all
  in_hits all there = ⊎_elim (λ none. absurd none) (λ hit. (In-filter x has_hit all hit).0) (in_ordered [] (filter has_hit all) there)

entry_in : (file : ScannedFile) (files : List ScannedFile) → In file files → In file.entry (map entry_of files)
entry_in file [] there = absurd there
entry_in file (first ∷ files) (inl here) = inl (ap entry_of here)
entry_in file (first ∷ files) (inr later) = inr (entry_in file files later)

-- the entry of a file that is scanned is one of those that were given
pub of_those_given : (table : List ℕ) (parts : Parts) (pred : Pred) (files : Files) (entries : List Entry) (scanned : List ScannedFile)
    → scanned_at table parts pred entries files ≡ Ok scanned → (entry : Entry) → In entry (map entry_of scanned) → In entry entries
of_those_given table parts pred files entries scanned is entry there =
    let s = two_steps (files_at table parts pred [] entries files) (λ all. Ok (in_path_order [] (filter has_hit all))) scanned is in
    let parted = is_parted table parts pred files entries scanned is in
    let same : parted.all ≡ s.0 = one_value parted.all s.0 (files_at table parts pred [] entries files) parted.read s.1 in
    let ordered : in_path_order [] (filter has_hit s.0) ≡ scanned = cc in
    let found = In-map entry entry_of scanned there in
    let within : In found.0 s.0 = in_hits found.0 s.0 (subst (In found.0) (sym ordered) found.1) in
    subst (In entry) parted.of_entries (subst (λ (e : Entry). In e (map entry_of parted.all)) (sym found.2) (entry_in found.0 parted.all (subst (In found.0) (sym same) within)))
