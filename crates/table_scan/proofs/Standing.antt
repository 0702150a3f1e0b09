-- What is scanned stands when files are added.
use Rattle.std.proofs.Common.{ℕ, List, [], ◌∷◌, ◌++◌, Some, Ok, filter}
use Rattle.sql_predicates.specs.declared.pred.Pred.{Pred}
use Rattle.store_core.specs.Files.{Files, KeepsFiles}
use Rattle.manifest_files.specs.declared.entry.Entry.{Entry}
use Rattle.table_metadata.specs.Metadata.{Parts}
use Rattle.table_state.specs.Files.{data_file_at}
use Rattle.table_state.proofs.CallerLemmas.{Stands, data_file_stands, stands_then}
use Rattle.change_sets.specs.declared.scanned.ScannedFile.{ScannedFile}
use Rattle.table_scan.specs.Scanning.{file_at, files_at, has_hit, in_path_order, scanned_at, with_rows}

module _ (now later : Files) (kept : KeepsFiles (Some now) (Some later)) where
  scanned_file_stands : (table : List ℕ) (parts : Parts) (pred : Pred) (entry : Entry) → Stands now later kept (λ files. file_at table parts pred entry files)
  unfolding file_at
  scanned_file_stands table parts pred entry x e = stands_then now later kept (λ files. data_file_at table parts entry.path files) (λ rows files. Ok (with_rows pred entry rows)) (data_file_stands now later kept table parts entry.path) (λ rows y h. h) x e

  scanned_files_stand : (table : List ℕ) (parts : Parts) (pred : Pred) (earlier : List ScannedFile) (entries : List Entry)
      → Stands now later kept (λ files. files_at table parts pred earlier entries files)
  unfolding files_at
  scanned_files_stand table parts pred earlier [] x e = e
  scanned_files_stand table parts pred earlier (entry ∷ entries) x e = stands_then now later kept (λ files. file_at table parts pred entry files)
      (λ file files. files_at table parts pred (earlier ++ file ∷ []) entries files) (scanned_file_stands table parts pred entry)
      (λ file. scanned_files_stand table parts pred (earlier ++ file ∷ []) entries) x e

  pub scan_stands : (table : List ℕ) (parts : Parts) (pred : Pred) (entries : List Entry)
      → Stands now later kept (λ files. scanned_at table parts pred entries files)
  scan_stands table parts pred entries x e = stands_then now later kept (λ files. files_at table parts pred [] entries files) (λ all files. Ok (in_path_order [] (filter has_hit all))) (scanned_files_stand table parts pred [] entries) (λ all y h. h) x e
