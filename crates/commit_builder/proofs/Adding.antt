-- What a change adds to a table of the form can be written, and is read again.
use Rattle.std.proofs.Common.{◌≡◌, ◌<◌, ◌≤◌, ◌+◌, ◌^◌, ◌==◌, ℕ, ℤ, Bool, true, false, not, List, [], ◌∷◌, ◌++◌, length, length-append, codes, sum_by, Option, Some, None, refl, sym, ap, subst, ◌∙◌, arith}
use Rattle.std.specs.Prelude.{int_lt, nat_le, nat_lt, if◌then◌else◌, IsTrue, IsSome}
use Rattle.std.specs.List.{AllByRecursion}
use Rattle.std.specs.Ordering.{int_eq}
use Rattle.std.proofs.lemmas.Bool.{or_parts}
use Rattle.std.proofs.lemmas.Bool.Decides.{nat_tests}
use Rattle.std.proofs.lemmas.Cmp.{int_eq_equiv}
use Rattle.plain_types.specs.Steps.{by_option, or_fault}
use Rattle.row_values.specs.declared.schema.Column.{Column}
use Rattle.row_values.specs.declared.schema.TableSchema.{TableSchema}
use Rattle.row_values.specs.declared.value.Value.{Value}
use Rattle.row_values.specs.declared.partition.PartField.{PartField}
use Rattle.row_values.specs.declared.partition.Spec.{Spec}
use Rattle.sql_predicates.specs.declared.pred.Pred.{Pred}
use Rattle.store_core.specs.Files.{Files}
use Rattle.table_names.specs.declared.names.Names.{Names}
use Rattle.manifest_files.specs.declared.entry.Entry.{Entry}
use Rattle.manifest_files.specs.declared.known_column.KnownColumn.{KnownColumn}
use Rattle.manifest_files.specs.Sound.{are_parts, is_entry}
use Rattle.manifest_files.specs.Statistics.{known_columns}
use Rattle.commit_manifests.proofs.CallerLemmas.{both}
use Rattle.manifest_writer.specs.Readable.{are_told, is_written}
use Rattle.iceberg_schema.specs.Widths.{IsLong}
use Rattle.row_writer.specs.RowDatum.{row_size}
use Rattle.row_writer.specs.RowsText.{rows_text}
use Rattle.table_state.specs.Form.{table_in_form}
use Rattle.table_metadata.specs.declared.metadata.Metadata.{Metadata}
use Rattle.table_metadata.specs.declared.metadata_fault.MetadataFault.TheVariants as metadata
use Rattle.table_metadata.specs.Metadata.{parts}
use Rattle.table_state.specs.declared.load_fault.LoadFault.TheVariants as fault
use Rattle.table_state.specs.Files.{current_schema}
use Rattle.table_metadata.specs.ById.{schema_with, spec_with}
use Rattle.table_state.specs.declared.state.State.{State}
use Rattle.table_state.specs.States.{IsStateOf}
use Rattle.table_names.specs.Sessions.{HasNoSlash}
use Rattle.change_sets.specs.declared.scanned.Decisions.{Decisions}
use Rattle.change_sets.specs.declared.scanned.ScannedFile.{ScannedFile}
use Rattle.commit_builder.proofs.Laying.{can_be_laid}
use Rattle.commit_builder.specs.Commits.{live_in, schema_of}
use Rattle.commit_manifests.specs.Drafts.{spec_in}
use Rattle.commit_builder.specs.NextVersion.{AreNames, CanBeAdded, CanBeLaid}
use Rattle.commit_builder.specs.SnapshotIds.{ids_of, last}
use Rattle.cow_writer.specs.Copies.{behind, change_of, entries_from, entry_at, pieces_in}
use Rattle.change_sets.specs.Deciding.{written_of}
use Rattle.cow_writer.specs.Pieces.{file_bytes, file_rows, is_full, pieces_from, whole}
use Rattle.cow_writer.specs.Reading.{AreShort, CanBeRead, has_no_slash}
use Rattle.commit_builder.specs.OneTable.{HasSchemasOf}
use Rattle.commit_builder.proofs.Numbers.{has_numbers}
use Rattle.commit_builder.proofs.FormLaws.{plain_specs, spec_is}
use Rattle.commit_builder.proofs.Rewriting.{can_be_rewritten, current_columns, read_soundly, schema_stands}

-- ---- a file has at most 65,536 rows

abbrev IsSmall : List (List Value) → Type 0
IsSmall rows = length rows ≤ 2 ^ 16

module _ (columns : List Column) where
  whole_is : (piece : List (List Value)) → IsSmall piece → AllByRecursion IsSmall (whole piece)
  whole_is [] h = tt
  whole_is (row ∷ piece) h = (h, tt)

  open_is : (piece : List (List Value)) → is_full columns piece ≡ false → length piece < 2 ^ 16
  open_is piece h =
      let below : nat_le (2 ^ 16) (length piece) ≡ false = (or_parts (nat_le file_bytes (sum_by (row_size columns) piece)) (nat_le file_rows (length piece)) h).1 in
      grind (arith, nat_tests, below)

  pieces_are : (piece rows : List (List Value)) → length piece < 2 ^ 16 → AllByRecursion IsSmall (pieces_from columns piece rows)
  unfolding pieces_from
  pieces_are piece [] h = whole_is piece (omega (arith, h))
  pieces_are piece (row ∷ rows) h = cut_by (is_full columns (piece ++ row ∷ [])) refl (pieces_are [] rows (omega arith)) (pieces_are (piece ++ row ∷ []) rows)
    where
      longer : length (piece ++ row ∷ []) ≤ 2 ^ 16
      longer = omega (arith, h, length-append piece (row ∷ []))

      cut_by : (b : Bool) → is_full columns (piece ++ row ∷ []) ≡ b → AllByRecursion IsSmall (pieces_from columns [] rows)
          → (length (piece ++ row ∷ []) < 2 ^ 16 → AllByRecursion IsSmall (pieces_from columns (piece ++ row ∷ []) rows))
          → AllByRecursion IsSmall (if b then (piece ++ row ∷ []) ∷ pieces_from columns [] rows else pieces_from columns (piece ++ row ∷ []) rows)
      cut_by true is shut more = (longer, shut)
      cut_by false is shut more = more (open_is (piece ++ row ∷ []) is)

-- ---- its entry

below : (n : ℕ) → n < 2 ^ 63 → nat_lt n (2 ^ 63) ≡ true
below n h = grind (arith, nat_tests, h)

none_told : (known : List KnownColumn) → are_told known [] ≡ true
none_told [] = refl
none_told (column ∷ known) = none_told known

no_parts : (columns : List Column) (fields : List PartField) → fields ≡ [] → are_parts columns fields [] ≡ true
no_parts columns fields none = subst (λ (parts : List PartField). are_parts columns parts [] ≡ true) (sym none) refl

is_there : {A : Type 0} (o : Option A) (other : A) → IsSome o → o ≡ Some (by_option o (λ (a : A). a) other)
is_there (Some a) other h = refl
is_there None other h = absurd cc

module _ (base : State) (version : ℕ) (files : Files) (is : IsStateOf base.table version base.branch files base) (form : table_in_form (parts base.metadata) ≡ true) where
  abbrev spec : Spec
  spec = spec_in base.metadata.specs base.metadata.default_spec

  spec_stands : spec_with base.metadata.default_spec base.metadata.specs ≡ Some spec
  spec_stands = is_there (spec_with base.metadata.default_spec base.metadata.specs) (record { id = base.metadata.default_spec; fields = [] }) (read_soundly base version files is).spec

  own_spec : (int_eq spec.id base.metadata.default_spec ≡ true) × (spec.fields ≡ [])
  own_spec = spec_is base.metadata.default_spec base.metadata.specs spec (plain_specs (parts base.metadata) form) spec_stands

  entry_is : (names : Names) (rows : List (List Value)) → is_entry spec (schema_of base) (entry_at base.metadata names rows) ≡ true
  entry_is names rows =
      both (int_eq base.metadata.default_spec spec.id) _ (int_eq_equiv.symm base.metadata.default_spec spec.id ∙ own_spec.0)
      (both (are_parts (schema_of base).columns spec.fields []) true (no_parts (schema_of base).columns spec.fields own_spec.1) refl)

  added : (names : Names) (rows : List (List Value)) → IsSmall rows → length (rows_text (schema_of base).columns rows) < 2 ^ 63
      → CanBeAdded base (entry_at base.metadata names rows)
  added names rows few short =
      let count : nat_lt (length rows) (2 ^ 63) ≡ true = below (length rows) (omega (arith, few)) in
      let size : nat_lt (length (rows_text (schema_of base).columns rows)) (2 ^ 63) ≡ true = below (length (rows_text (schema_of base).columns rows)) short in
      record {
        spec = spec_stands;
        held = both (is_entry spec (schema_of base) (entry_at base.metadata names rows)) _ (entry_is names rows)
            (both (nat_lt (length rows) (2 ^ 63)) _ count (both (nat_lt (length (rows_text (schema_of base).columns rows)) (2 ^ 63)) _ size (none_told (known_columns (schema_of base).columns))));
      }

  all_added : (names : Names) (pieces : List (List (List Value))) → AllByRecursion IsSmall pieces
      → AreShort (schema_of base).columns pieces → AllByRecursion (CanBeAdded base) (entries_from base.metadata names pieces)
  unfolding entries_from
  all_added names [] few short = tt
  all_added names (rows ∷ pieces) few short = (added names rows few.0 short.0, all_added (behind 1 names) pieces few.1 short.1)

  pub can_be_added : (scanned : List ScannedFile) (decisions : Decisions) (names : Names)
      → AreShort (schema_of base).columns (pieces_in base scanned decisions)
      → AllByRecursion (CanBeAdded base) (entries_from base.metadata names (pieces_in base scanned decisions))
  can_be_added scanned decisions names short = all_added names (pieces_in base scanned decisions) (pieces_are (schema_of base).columns [] (written_of scanned decisions) (omega arith)) short

  -- ---- its rows

  no_slash : (bytes : List ℕ) → HasNoSlash bytes → has_no_slash bytes ≡ true
  no_slash [] h = refl
  no_slash (byte ∷ bytes) h = both (not (byte == 47)) (has_no_slash bytes) (other (byte == 47) refl) (no_slash bytes h.1)
    where
      other : (b : Bool) → (byte == 47) ≡ b → not b ≡ true
      other true e = let slash : byte ≡ 47 = grind (arith, nat_tests, e) in absurd (h.0 slash)
      other false e = refl

  pub can_be_read : (scanned : List ScannedFile) (decisions : Decisions) (names : Names) → AreNames names
      → names.next + length (pieces_in base scanned decisions) ≤ 2 ^ 128
      → AreShort (schema_of base).columns (pieces_in base scanned decisions)
      → CanBeRead base names (pieces_in base scanned decisions)
  can_be_read scanned decisions names are room short = record {
    schema = schema_of base;
    current = ap (or_fault (fault.Metadata (metadata.Shape (codes "current-schema-id")))) (schema_stands base version files is);
    columns = current_columns base version files is form;
    plain = no_slash names.session are.slash;
    text = are.text;
    run = are.run;
    room = room;
    sizes = short;
  }

-- ---- the change, on another version

module _ (base head : State) (one : HasSchemasOf base head) where
  same_schema : schema_of base ≡ schema_of head
  same_schema =
      let with : ℤ → List TableSchema → TableSchema = λ id schemas. by_option (schema_with id schemas) (λ schema. schema) (record { id = id; columns = [] }) in
      ap (λ (id : ℤ). with id base.metadata.schemas) (sym one.current) ∙ ap (λ (schemas : List TableSchema). with head.metadata.current_schema schemas) (sym one.schemas)

  moved : (entry : Entry) → CanBeAdded base entry → CanBeAdded head entry
  moved entry h = record {
    spec = subst (λ (specs : List Spec). spec_with entry.spec specs ≡ Some (spec_in specs entry.spec)) (sym one.specs) h.spec;
    held = subst (λ (specs : List Spec). IsTrue (is_written (spec_in specs entry.spec) (schema_of head) entry)) (sym one.specs)
        (subst (λ (schema : TableSchema). IsTrue (is_written (spec_in base.metadata.specs entry.spec) schema entry)) same_schema h.held);
  }

  all_moved : (entries : List Entry) → AllByRecursion (CanBeAdded base) entries → AllByRecursion (CanBeAdded head) entries
  all_moved [] h = tt
  all_moved (entry ∷ entries) h = (moved entry h.0, all_moved entries h.1)

pub change_can_be_laid : (base head : State) (scanned : List ScannedFile) (decisions : Decisions) (pred : Pred)
    (names drawn : Names) (now : ℤ) (planned version : ℕ) (old files : Files) → IsStateOf base.table planned base.branch old base
    → table_in_form (parts base.metadata) ≡ true
    → IsStateOf head.table version head.branch files head → table_in_form (parts head.metadata) ≡ true → HasSchemasOf base head → int_lt head.metadata.last_sequence last ≡ true → IsLong now → length (ids_of head.metadata.snapshots (live_in head.head)) < 2 ^ 62
    → AreShort (schema_of base).columns (pieces_in base scanned decisions) → CanBeLaid head (change_of base scanned decisions pred names) drawn now
change_can_be_laid base head scanned decisions pred names drawn now planned version old files based base_form is form one small hour few short =
    can_be_laid head (change_of base scanned decisions pred names) drawn now version files is (has_numbers head now version files is small hour few) (can_be_rewritten head version files is form)
    (all_moved base head one (entries_from base.metadata names (pieces_in base scanned decisions)) (can_be_added base planned old based base_form scanned decisions names short)) tt
