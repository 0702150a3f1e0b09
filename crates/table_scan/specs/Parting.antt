-- How the rows of a branch part into those of the files that a scan gives and those of the others.
use Rattle.std.specs.Prelude.{◌≡◌, ℕ, false, List, [], ◌++◌, map, Ok}
use Rattle.plain_types.specs.Bags.{In, SameBag}
use Rattle.row_values.specs.declared.value.Value.{Value}
use Rattle.sql_predicates.specs.declared.pred.Pred.{Pred}
use Rattle.sql_statements.specs.Clauses.{holds_on}
use Rattle.store_core.specs.Files.{Files}
use Rattle.manifest_files.specs.declared.entry.Entry.{Entry}
use Rattle.table_metadata.specs.Metadata.{Parts}
use Rattle.table_state.specs.Live.{data_rows}
use Rattle.change_sets.specs.declared.scanned.ScannedFile.{ScannedFile}
use Rattle.change_sets.specs.Scanned.{entry_of, rows_in_all}
use Rattle.table_scan.specs.Scanning.{files_at}

-- the data files are those that are scanned and others, of which no row is hit
pub record IsParted (table : List ℕ) (parts : Parts) (pred : Pred) (entries : List Entry) (files : Files) (scanned : List ScannedFile) : Type 0 where
  pub all : List ScannedFile
  pub read : files_at table parts pred [] entries files ≡ Ok all
  pub others : List ScannedFile
  -- the files
  pub of_entries : map entry_of all ≡ entries
  pub parted : SameBag all (scanned ++ others)
  -- and their rows
  pub of_rows : data_rows table parts [] entries files ≡ Ok (rows_in_all all)
  pub rows_parted : SameBag (rows_in_all all) (rows_in_all scanned ++ rows_in_all others)
  pub missed : (row : List Value) → In row (rows_in_all others) → holds_on pred row ≡ false
