-- Rows that are read of data files are rows of the columns of the current schema.
use Rattle.std.proofs.Common.{◌≡◌, ℕ, ◌&&◌, Bool, true, List, [], ◌∷◌, ◌++◌, Result, Ok, Err, refl, subst, ◌∙◌}
use Rattle.std.specs.List.{list_all}
use Rattle.std.proofs.lemmas.List.Folds.{list_all-append}
use Rattle.plain_types.specs.Steps.{◌>>=◌, fault_as}
use Rattle.row_values.specs.declared.schema.TableSchema.{TableSchema}
use Rattle.row_values.specs.declared.value.Value.{Value}
use Rattle.row_values.specs.Rows.{AreRows, is_row}
use Rattle.store_core.specs.Files.{Files}
use Rattle.avro_container.specs.Container.{container_of}
use Rattle.avro_rows.proofs.CallerLemmas.{rows_of_columns}
use Rattle.avro_rows.specs.Rows.{rows_of}
use Rattle.manifest_files.specs.declared.entry.Entry.{Entry}
use Rattle.plain_types.proofs.CallerLemmas.{one_value, two_steps}
use Rattle.table_metadata.specs.Metadata.{Parts}
use Rattle.table_state.specs.declared.load_fault.LoadFault.TheVariants as fault
use Rattle.table_state.specs.Files.{current_schema, data_file_at, file_at, rows_in}
use Rattle.table_state.specs.Live.{data_rows}

same_answer : {A E F : Type 0} (f : E → F) (r : Result A E) (a : A) → fault_as f r ≡ Ok a → r ≡ Ok a
same_answer f (Ok x) a e = cc
same_answer f (Err x) a e = absurd cc

both : (a b : Bool) → a ≡ true → b ≡ true → (a && b) ≡ true
both a b h k = rw (h, k) refl

module _ (table : List ℕ) (p : Parts) (files : Files) (schema : TableSchema) (current : current_schema p ≡ Ok schema) where
  read_are : (path bytes : List ℕ) (rows : List (List Value)) → rows_in p path bytes ≡ Ok rows → AreRows schema.columns rows
  unfolding rows_in
  read_are path bytes rows e =
      let container = two_steps (fault_as (fault.Container path) (container_of bytes)) (λ c. current_schema p >>= λ s. fault_as (fault.Rows path) (rows_of c s.columns)) rows e in
      let found = two_steps (current_schema p) (λ s. fault_as (fault.Rows path) (rows_of container.0 s.columns)) rows container.2 in
      let same : found.0 ≡ schema = one_value found.0 schema (current_schema p) found.1 current in
      rows_of_columns container.0 schema.columns rows (same_answer (fault.Rows path) (rows_of container.0 schema.columns) rows (subst (λ (s : TableSchema). fault_as (fault.Rows path) (rows_of container.0 s.columns) ≡ Ok rows) same found.2))

  file_are : (path : List ℕ) (rows : List (List Value)) → data_file_at table p path files ≡ Ok rows → AreRows schema.columns rows
  unfolding data_file_at
  file_are path rows e =
      let read = two_steps (file_at table p.location path files) (rows_in p path) rows e in
      read_are path read.0 rows read.2

  more_are : (earlier : List (List Value)) (entries : List Entry) (rows : List (List Value)) → AreRows schema.columns earlier
      → data_rows table p earlier entries files ≡ Ok rows → AreRows schema.columns rows
  unfolding data_rows
  more_are earlier [] rows are e =
      let same : earlier ≡ rows = cc in
      subst (AreRows schema.columns) same are
  more_are earlier (entry ∷ entries) rows are e =
      let read = two_steps (data_file_at table p entry.path files) (λ found. data_rows table p (earlier ++ found) entries files) rows e in
      more_are (earlier ++ read.0) entries rows
      (list_all-append (is_row schema.columns) earlier read.0 ∙ both (list_all (is_row schema.columns) earlier) (list_all (is_row schema.columns) read.0) are (file_are entry.path read.0 read.1))
      read.2

  pub rows_are : (entries : List Entry) (rows : List (List Value)) → data_rows table p [] entries files ≡ Ok rows → AreRows schema.columns rows
  rows_are entries rows e = more_are [] entries rows refl e
