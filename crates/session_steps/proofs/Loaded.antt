-- What was loaded of a branch is what the machine reads of it: the version's metadata, its rows, and the files of its scan.
use Rattle.std.proofs.Common.{◌≡◌, ℕ, ⊎_elim, codes, List, [], length, Option, Some, None, Result, Ok, sym, ap, subst, ◌∙◌, IsTrue}
use Rattle.plain_types.specs.Steps.{◌>>=◌, by_option, fault_as, or_fault}
use Rattle.row_values.specs.declared.schema.Column.{Column}
use Rattle.row_values.specs.declared.schema.TableSchema.{TableSchema}
use Rattle.row_values.specs.declared.value.Value.{Value}
use Rattle.sql_predicates.specs.declared.pred.Pred.{Pred}
use Rattle.sql_statements.proofs.CallerLemmas.{rows_are_wide}
use Rattle.sql_statements.specs.declared.statement.Statement.{Statement}
use Rattle.sql_statements.specs.Fits.{are_wide}
use Rattle.store_core.specs.Files.{Files}
use Rattle.manifest_files.specs.declared.entry.Entry.{Entry}
use Rattle.table_metadata.specs.declared.metadata_fault.MetadataFault.TheVariants as metadata_fault
use Rattle.table_metadata.specs.Metadata.{Parts, metadata_of, parts}
use Rattle.table_names.specs.Versions.{version_name}
use Rattle.table_state.specs.declared.load_fault.LoadFault.{LoadFault}
use Rattle.table_state.specs.declared.load_fault.LoadFault.TheVariants as fault
use Rattle.table_state.specs.Files.{current_schema, version_at}
use Rattle.table_metadata.specs.ById.{schema_with}
use Rattle.table_state.specs.Live.{data_files_of, data_rows, rows_at, rows_of_branch}
use Rattle.table_state.specs.declared.state.State.{State}
use Rattle.table_state.specs.States.{IsStateOf}
use Rattle.change_sets.specs.declared.scanned.ScannedFile.{ScannedFile}
use Rattle.table_scan.specs.Scanning.{scanned_at}
use Rattle.branch_commit.proofs.CallerLemmas.{nothing_scanned, loaded_rows, rows_are}
use Rattle.branch_commit.specs.Committing.{IsScanned, columns_of, filter_on, width_of}
use Rattle.branch_commit.specs.Planning.{HasSchema}

pub one_current : (a b : ℕ) (o : Option ℕ) → o ≡ Some a → o ≡ Some b → a ≡ b
one_current a b o h k = cc

schema_is : (f : LoadFault) (found : Option TableSchema) (schema other : TableSchema) → or_fault f found ≡ Ok schema → by_option found (λ s. s) other ≡ schema
schema_is f (Some s) schema other e = cc
schema_is f None schema other e = absurd cc

pub columns_are : (base : State) (schema : TableSchema) → HasSchema base schema → columns_of base ≡ schema.columns
columns_are base schema by_schema =
    ap (λ (found : TableSchema). found.columns) (schema_is (fault.Metadata (metadata_fault.Shape (codes "current-schema-id"))) (schema_with base.metadata.current_schema base.metadata.schemas) schema (record { id = base.metadata.current_schema; columns = [] }) by_schema)

module _ (table branch : List ℕ) (version : ℕ) (files : Files) (base : State) (is : IsStateOf table version branch files base) where
  abbrev p : Parts
  p = parts base.metadata

  abbrev entries : List Entry
  entries = data_files_of base.head

  pub version_is : version_at table version files ≡ Ok p
  unfolding version_at
  version_is =
      ap (λ (o : Option (List ℕ)). or_fault (fault.Missing (version_name table version)) o >>= λ bytes. fault_as fault.Metadata (metadata_of bytes)) is.metadata.stands
      ∙ ap (fault_as fault.Metadata) is.metadata.read.read

  -- where the files tell its rows
  module _ (rows : List (List Value)) (told : rows_of_branch table version branch files ≡ Ok rows) where
    pub rows_are_at : rows_at table p branch files ≡ Ok rows
    unfolding rows_of_branch
    rows_are_at = sym (ap (λ (r : Result Parts LoadFault). r >>= λ q. rows_at table q branch files) version_is) ∙ told

    pub base_rows : data_rows table p [] entries files ≡ Ok rows
    base_rows = loaded_rows table branch version files base rows is told

    pub are_as_wide : (schema : TableSchema) → HasSchema base schema → IsTrue (are_wide (width_of base) rows)
    are_as_wide schema by_schema =
        subst (λ (columns : List Column). IsTrue (are_wide (length columns) rows)) (sym (columns_are base schema by_schema))
        (rows_are_wide schema.columns rows (rows_are table p files schema by_schema entries rows base_rows))

    -- and a scan by FALSE gives no file
    pub scan_is : (s : Statement) (scanned : List ScannedFile) → IsScanned base s scanned files
        → scanned_at table p (filter_on base s) entries files ≡ Ok scanned
    scan_is s scanned reads =
        ⊎_elim (λ none. ap (λ (pred : Pred). scanned_at table p pred entries files) none.0 ∙ nothing_scanned table p files entries rows base_rows ∙ ap Ok (sym none.1))
        (λ found. subst (λ (t : List ℕ). scanned_at t p (filter_on base s) entries files ≡ Ok scanned) is.table_name found) reads
