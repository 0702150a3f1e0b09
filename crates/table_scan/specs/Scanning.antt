-- The data files of a branch that a statement depends on (Iceberg specification, "Scan Planning" and "Reading Data Files"):
-- those with a row of which its filter is True, each with all its rows by position.
use Rattle.std.specs.Prelude.{◌≡◌, ℕ, suc, ◌+◌, Bool, if◌then◌else◌, List, [], ◌∷◌, ◌++◌, filter, length, take, drop, Result, Ok, IsTrue}
use Rattle.std.specs.List.{list_all, list_any}
use Rattle.std.specs.Cmp.Lexicographic.{slice_cmp}
use Rattle.std.specs.Ordering.{nat_cmp, is_lt}
use Rattle.plain_types.specs.Steps.{◌>>=◌}
use Rattle.row_values.specs.declared.schema.TableSchema.{TableSchema}
use Rattle.row_values.specs.declared.value.Value.{Value}
use Rattle.row_values.specs.Rows.{AreRows}
use Rattle.sql_predicates.specs.declared.pred.Pred.{Pred}
use Rattle.sql_predicates.specs.Positions.{pred_is_within}
use Rattle.sql_statements.specs.Clauses.{holds_on}
use Rattle.store_core.specs.Files.{Files}
use Rattle.manifest_files.specs.declared.entry.Entry.{Entry}
use Rattle.table_metadata.specs.Metadata.{Parts}
use Rattle.table_state.specs.declared.load_fault.LoadFault.{LoadFault}
use Rattle.table_state.specs.Files.{current_schema, data_file_at}
use Rattle.change_sets.specs.declared.scanned.LiveRow.{LiveRow}
use Rattle.change_sets.specs.declared.scanned.ScannedFile.{ScannedFile}
use Rattle.change_sets.specs.Scanned.{rows_in_all}

-- ---- rows

-- every position that the filter reads is in the rows
abbrev pub reads_within : Pred → List (List Value) → Bool
reads_within pred rows = list_all (λ row. pred_is_within (length row) pred) rows

-- and is one of the columns of the current schema
abbrev pub ReadsCurrent : Parts → Pred → Type 0
ReadsCurrent parts pred = (schema : TableSchema) → current_schema parts ≡ Ok schema → IsTrue (pred_is_within (length schema.columns) pred)

-- the rows by their positions, counted from this one on, each with whether the filter is True of it
abbrev pub rows_from : Pred → ℕ → List (List Value) → List LiveRow
rows_from pred at [] = []
rows_from pred at (row ∷ rows) = record { position = at; row = row; hit = holds_on pred row } ∷ rows_from pred (at + 1) rows

abbrev pub live_rows : Pred → List (List Value) → List LiveRow
live_rows pred rows = rows_from pred 0 rows

abbrev pub is_hit : LiveRow → Bool
is_hit row = row.hit

abbrev pub has_hit : ScannedFile → Bool
has_hit file = list_any is_hit file.rows

-- ---- files

abbrev pub with_rows : Pred → Entry → List (List Value) → ScannedFile
with_rows pred entry rows = record { entry = entry; rows = live_rows pred rows }

-- a data file with its rows
unfoldable pub file_at : List ℕ → Parts → Pred → Entry → Files → Result ScannedFile LoadFault
file_at table parts pred entry files = data_file_at table parts entry.path files >>= λ rows. Ok (with_rows pred entry rows)

-- each data file with its rows, behind those that are read
unfoldable pub files_at : List ℕ → Parts → Pred → List ScannedFile → List Entry → Files → Result (List ScannedFile) LoadFault
files_at table parts pred earlier [] files = Ok earlier
files_at table parts pred earlier (entry ∷ entries) files = file_at table parts pred entry files >>= λ file. files_at table parts pred (earlier ++ file ∷ []) entries files

-- the rows of the files are rows of the columns of the current schema
abbrev pub AreCurrentFiles : Parts → List ScannedFile → Type 0
AreCurrentFiles parts files = (schema : TableSchema) → current_schema parts ≡ Ok schema → AreRows schema.columns (rows_in_all files)

-- ---- their order

-- how many files at the front have a path that is not above this one
unfoldable pub place_of : List ℕ → List ScannedFile → ℕ
place_of path [] = 0
place_of path (file ∷ files) = if is_lt (slice_cmp nat_cmp path file.entry.path) then 0 else suc (place_of path files)

-- files in the byte order of their paths, and this one at its place, behind those of the same path
abbrev pub with_file : ScannedFile → List ScannedFile → List ScannedFile
with_file file files = take (place_of file.entry.path files) files ++ file ∷ drop (place_of file.entry.path files) files

-- files in the byte order of their paths, and these at their places
unfoldable pub in_path_order : List ScannedFile → List ScannedFile → List ScannedFile
in_path_order ordered [] = ordered
in_path_order ordered (file ∷ files) = in_path_order (with_file file ordered) files

-- ---- the scan

-- the data files with a row that is hit, in the byte order of their paths
abbrev pub scanned_at : List ℕ → Parts → Pred → List Entry → Files → Result (List ScannedFile) LoadFault
scanned_at table parts pred entries files = files_at table parts pred [] entries files >>= λ all. Ok (in_path_order [] (filter has_hit all))

-- ---- the same, file by file

unfoldable pub with_hit : ScannedFile → List ScannedFile → List ScannedFile
with_hit file files = if has_hit file then with_file file files else files

-- and the data files with a row that is hit, at their places among those that are scanned
unfoldable pub scanned_from : List ℕ → Parts → Pred → List ScannedFile → List Entry → Files → Result (List ScannedFile) LoadFault
scanned_from table parts pred scanned [] files = Ok scanned
scanned_from table parts pred scanned (entry ∷ entries) files = file_at table parts pred entry files >>= λ file. scanned_from table parts pred (with_hit file scanned) entries files
