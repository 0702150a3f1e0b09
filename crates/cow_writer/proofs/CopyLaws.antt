-- The new data files hold the rows that were written to them.
use Rattle.std.proofs.Common.{◌≡◌, ◌<◌, ◌≤◌, ◌+◌, ◌^◌, codes, ℕ, true, List, [], ◌∷◌, ◌++◌, length, append_assoc, append-nil, Option, Some, None, Ok, refl, sym, ap, ◌∙◌, subst, arith}
use Rattle.std.specs.FinMap as map
use Rattle.std.specs.List.{list_all}
use Rattle.std.specs.Str.{IsUtf8}
use Rattle.std.proofs.lemmas.Bool.{and_parts}
use Rattle.plain_types.specs.Steps.{◌>>=◌, by_option, fault_as, or_fault}
use Rattle.row_values.specs.declared.schema.TableSchema.{TableSchema}
use Rattle.row_values.specs.declared.value.Value.{Value}
use Rattle.row_values.specs.Rows.{AreRows, is_row}
use Rattle.store_core.specs.Files.{Files, with_file}
use Rattle.table_names.specs.declared.names.Names.{Names}
use Rattle.table_names.specs.FileNames.{data_name}
use Rattle.table_names.proofs.CallerLemmas.{data_names_apart, stands, stays}
use Rattle.avro_rows.specs.Rows.{rows_of}
use Rattle.row_writer.specs.Readable.{AreColumns}
use Rattle.row_writer.specs.RowsText.{rows_container, rows_text}
use Rattle.row_writer.proofs.CallerLemmas.{container_again, rows_again}
use Rattle.sql_predicates.specs.declared.pred.Pred.{Pred}
use Rattle.table_metadata.specs.Metadata.{Parts, parts}
use Rattle.table_metadata.specs.declared.metadata_fault.MetadataFault.TheVariants as metadata
use Rattle.table_state.specs.declared.load_fault.LoadFault.{LoadFault}
use Rattle.table_state.specs.declared.load_fault.LoadFault.TheVariants as fault
use Rattle.table_state.specs.Files.{bytes_under, current_schema, data_file_at, file_at, rows_in}
use Rattle.table_metadata.specs.ById.{schema_with}
use Rattle.table_state.specs.Live.{data_rows}
use Rattle.table_names.specs.Paths.{folder_of, name_of}
use Rattle.table_state.specs.declared.state.State.{State}
use Rattle.change_sets.specs.declared.scanned.Decisions.{Decisions}
use Rattle.change_sets.specs.declared.scanned.ScannedFile.{ScannedFile}
use Rattle.cow_writer.specs.Copies.{change_of, entries_from, files_after, files_from, pieces_in, schema_of}
use Rattle.change_sets.specs.Deciding.{written_of}
use Rattle.cow_writer.specs.Reading.{AreShort, CanBeRead, has_no_slash}
use Rattle.cow_writer.proofs.NameLaws.{name_is}
use Rattle.cow_writer.proofs.PieceLaws.{all_rows, are_rows, flat}

-- ---- the current schema

found_is : (f : LoadFault) (found : Option TableSchema) (schema other : TableSchema) → or_fault f found ≡ Ok schema → by_option found (λ s. s) other ≡ schema
found_is f (Some s) schema other e = cc
found_is f None schema other e = absurd cc

-- ---- one file

module _ (p : Parts) (schema : TableSchema) (current : current_schema p ≡ Ok schema) (columns : AreColumns schema.columns) where
  rows_are_read : (path : List ℕ) (rows : List (List Value)) → AreRows schema.columns rows
      → length (rows_text schema.columns rows) < 2 ^ 63 → rows_in p path (rows_text schema.columns rows) ≡ Ok rows
  unfolding rows_in
  rows_are_read path rows are short =
      ap (λ r. fault_as (fault.Container path) r >>= λ container. current_schema p >>= λ s. fault_as (fault.Rows path) (rows_of container s.columns)) (container_again schema.columns rows columns are short)
      ∙ ap (λ r. r >>= λ s. fault_as (fault.Rows path) (rows_of (rows_container schema.columns rows) s.columns)) current
      ∙ ap (fault_as (fault.Rows path)) (rows_again schema.columns rows columns are)

  file_is_read : (table path name : List ℕ) (files : Files) (bytes : List ℕ) → name_of table p.location path ≡ Some name
      → map.get files name ≡ Some bytes → file_at table p.location path files ≡ Ok bytes
  unfolding file_at
  file_is_read table path name files bytes named there =
      ap (λ o. or_fault (fault.Outside path) o >>= λ found. bytes_under path found files) named
      ∙ ap (or_fault (fault.Missing path)) there

  data_is_read : (table path name : List ℕ) (files : Files) (rows : List (List Value)) → AreRows schema.columns rows
      → length (rows_text schema.columns rows) < 2 ^ 63 → name_of table p.location path ≡ Some name
      → map.get files name ≡ Some (rows_text schema.columns rows) → data_file_at table p path files ≡ Ok rows
  unfolding data_file_at
  data_is_read table path name files rows are short named there =
      ap (λ r. r >>= rows_in p path) (file_is_read table path name files (rows_text schema.columns rows) named there)
      ∙ rows_are_read path rows are short

-- ---- the files

module _ (state : State) (schema : TableSchema) (current : current_schema (parts state.metadata) ≡ Ok schema) (columns : AreColumns schema.columns) (run : ℕ) (session : List ℕ) (plain : has_no_slash session ≡ true) (text : IsUtf8 session) (run_fits : run < 2 ^ 64) where
  abbrev names_at : ℕ → Names
  names_at n = record { run = run; session = session; next = n }

  -- a file of an earlier number stays
  stays_from : (n m : ℕ) (files : Files) (pieces : List (List (List Value))) → m < n → n + length pieces ≤ 2 ^ 128
      → map.get (files_from schema.columns state.table (names_at n) files pieces)
      (data_name state.table run session m) ≡ map.get files (data_name state.table run session m)
  unfolding files_from
  stays_from n m files [] before room = refl
  stays_from n m files (rows ∷ pieces) before room =
      stays_from (n + 1) m (with_file (data_name state.table run session n) (rows_text schema.columns rows) files) pieces (omega arith) (omega arith)
      ∙ stays files (data_name state.table run session n) (rows_text schema.columns rows) (data_name state.table run session m) (data_names_apart state.table session run m n (omega arith) (omega arith) (λ e. absurd (omega arith)))

  held : (earlier : List (List Value)) (n : ℕ) (files : Files) (pieces : List (List (List Value))) → n + length pieces ≤ 2 ^ 128
      → list_all (list_all (is_row schema.columns)) pieces ≡ true → AreShort schema.columns pieces
      → data_rows state.table (parts state.metadata) earlier (entries_from state.metadata (names_at n) pieces) (files_from schema.columns state.table (names_at n) files pieces) ≡ Ok (earlier ++ flat pieces)
  unfolding files_from entries_from data_rows
  held earlier n files [] room are short = ap Ok (sym (append-nil earlier))
  held earlier n files (rows ∷ pieces) room are short =
      let text_of = rows_text schema.columns rows in
      let name = data_name state.table run session n in
      let next = with_file name text_of files in
      let all = files_from schema.columns state.table (names_at (n + 1)) next pieces in
      let parted = and_parts (list_all (is_row schema.columns) rows) (list_all (list_all (is_row schema.columns)) pieces) are in
      let there : map.get all name ≡ Some text_of = stays_from (n + 1) n next pieces (omega arith) (omega arith) ∙ stands files name text_of in
      let read = data_is_read (parts state.metadata) schema current columns state.table (data_name (folder_of state.metadata.location) run session n) name all rows parted.0 short.0 (name_is run n session plain text run_fits (omega arith) state.table state.metadata.location) there in
      ap (λ r. r >>= λ found. data_rows state.table (parts state.metadata) (earlier ++ found) (entries_from state.metadata (names_at (n + 1)) pieces) all) read
      ∙ held (earlier ++ rows) (n + 1) next pieces (omega arith) parted.1 short.1
      ∙ ap Ok (append_assoc earlier rows (flat pieces))

pub copies_hold : (state : State) (scanned : List ScannedFile) (decisions : Decisions) (pred : Pred) (names : Names)
    (files : Files) → CanBeRead state names (pieces_in state scanned decisions)
    → AreRows (schema_of state.metadata).columns (written_of scanned decisions)
    → data_rows state.table (parts state.metadata) [] (change_of state scanned decisions pred names).added_data (files_after state scanned decisions names files) ≡ Ok (written_of scanned decisions)
copies_hold state scanned decisions pred names files can are =
    let columns = (schema_of state.metadata).columns in
    let pieces = pieces_in state scanned decisions in
    let same : schema_of state.metadata ≡ can.schema = found_is (fault.Metadata (metadata.Shape (codes "current-schema-id"))) (schema_with state.metadata.current_schema state.metadata.schemas) can.schema (record { id = state.metadata.current_schema; columns = [] }) can.current in
    let rows : list_all (list_all (is_row can.schema.columns)) pieces ≡ true = subst (λ (s : TableSchema). list_all (list_all (is_row s.columns)) pieces ≡ true) same (are_rows columns (written_of scanned decisions) are) in
    let read = held state can.schema can.current can.columns names.run names.session can.plain can.text can.run [] names.next files pieces can.room rows can.sizes in
    subst (λ (s : TableSchema). data_rows state.table (parts state.metadata) [] (entries_from state.metadata names pieces) (files_from s.columns state.table names files pieces) ≡ Ok (flat pieces)) (sym same) read
    ∙ ap Ok (all_rows columns (written_of scanned decisions))
