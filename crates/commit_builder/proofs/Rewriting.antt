-- The manifests of a table of the form can be written anew.
use Rattle.std.proofs.Common.{◌≡◌, ℕ, ℤ, Bool, true, false, not, ◌&&◌, ◌||◌, List, [], ◌∷◌, Option, Some, refl, sym, ap, subst, ◌∙◌, arith}
use Rattle.std.specs.Prelude.{IsTrue, if◌then◌else◌}
use Rattle.std.specs.List.{AllByRecursion, list_all, list_any}
use Rattle.std.specs.Ordering.{int_eq}
use Rattle.std.proofs.lemmas.Cmp.{int_eq_equiv}
use Rattle.plain_types.specs.Bags.{Apart}
use Rattle.row_values.specs.declared.schema.Column.{Column}
use Rattle.row_values.specs.declared.schema.TableSchema.{TableSchema}
use Rattle.row_values.specs.declared.partition.PartField.{PartField}
use Rattle.row_values.specs.declared.partition.Spec.{Spec}
use Rattle.kind_values.specs.Bounds.{is_kind}
use Rattle.avro_binary.specs.SchemaOnce.{is_id}
use Rattle.store_core.specs.Files.{Files}
use Rattle.iceberg_schema.specs.SoundSpec.{same_field}
use Rattle.iceberg_schema.specs.Widths.{IsInt}
use Rattle.manifest_writer.specs.Readable.{IsWritableSpec, are_apart, has_field}
use Rattle.plain_types.specs.Steps.{by_option}
use Rattle.row_writer.specs.Readable.{AreColumns}
use Rattle.table_metadata.proofs.CallerLemmas.{sound}
use Rattle.table_metadata.specs.Sound.{IsReadSpec, IsSoundMetadata}
use Rattle.table_state.specs.Form.{table_in_form}
use Rattle.table_metadata.specs.Metadata.{parts}
use Rattle.table_metadata.specs.ById.{schema_with, spec_with}
use Rattle.table_state.specs.declared.state.State.{State}
use Rattle.table_state.specs.States.{IsStateOf}
use Rattle.commit_builder.specs.Commits.{schema_of}
use Rattle.commit_builder.specs.NextVersion.{CanBeRewritten}
use Rattle.commit_manifests.proofs.CallerLemmas.{both}
use Rattle.commit_builder.proofs.FormLaws.{columns_are, int_is_id, schema_kinds}

-- ---- a spec that was read can be written

ids_are : (fields : List PartField) → AllByRecursion (λ (field : PartField). IsInt field.field) fields → IsTrue (list_all (λ field. is_id (Some field.field)) fields)
ids_are [] h = refl
ids_are (field ∷ fields) h = both (is_id (Some field.field)) (list_all (λ (other : PartField). is_id (Some other.field)) fields) (int_is_id field.field h.0) (ids_are fields h.1)

same_search : (field : PartField) (fields : List PartField) → has_field field.field fields ≡ list_any (same_field field) fields
same_search field [] = refl
same_search field (other ∷ fields) = ap (λ (b : Bool). b || has_field field.field fields) (int_eq_equiv.symm other.field field.field)
    ∙ ap (λ (b : Bool). int_eq field.field other.field || b) (same_search field fields)

apart_by : (b rest : Bool) → b ≡ false → rest ≡ true → (not b && rest) ≡ true
apart_by b rest h k = cc

fields_apart : (fields : List PartField) → Apart same_field fields → IsTrue (are_apart fields)
unfolding are_apart
fields_apart [] h = refl
fields_apart (field ∷ fields) h = apart_by (has_field field.field fields) (are_apart fields) (same_search field fields ∙ h.0) (fields_apart fields h.1)

writable : (columns : List Column) (spec : Spec) → IsReadSpec columns spec → IsWritableSpec spec
writable columns spec read = record {
  few = omega (arith, read.0.most);
  ids = ids_are spec.fields read.1;
  apart = fields_apart spec.fields read.0.ids;
}

spec_read : (columns : List Column) (id : ℤ) (specs : List Spec) (s : Spec) → AllByRecursion (IsReadSpec columns) specs → spec_with id specs ≡ Some s → IsReadSpec columns s
unfolding spec_with
spec_read columns id [] s all e = absurd cc
spec_read columns id (spec ∷ specs) s all e = found_by (int_eq spec.id id) e (spec_read columns id specs s all.1)
  where
    found_by : (b : Bool) → (if b then Some spec else spec_with id specs) ≡ Some s → (spec_with id specs ≡ Some s → IsReadSpec columns s) → IsReadSpec columns s
    found_by true k others = let same : spec ≡ s = cc in subst (IsReadSpec columns) same all.0
    found_by false k others = others k

module _ (state : State) (version : ℕ) (files : Files) (is : IsStateOf state.table version state.branch files state) where
  pub read_soundly : IsSoundMetadata (parts state.metadata)
  read_soundly = sound is.metadata.bytes (parts state.metadata) is.metadata.read.read

  -- the schema that is found is the current one
  schema_is : schema_of state ≡ read_soundly.schema
  schema_is = ap (λ (o : Option TableSchema). by_option o (λ (schema : TableSchema). schema) (record { id = state.metadata.current_schema; columns = [] })) read_soundly.current.stands

  pub schema_stands : schema_with state.metadata.current_schema state.metadata.schemas ≡ Some (schema_of state)
  schema_stands = read_soundly.current.stands ∙ ap Some (sym schema_is)

  module _ (form : table_in_form (parts state.metadata) ≡ true) where
    pub kinds : IsTrue (list_all (λ column. is_kind column.kind) (schema_of state).columns)
    kinds = schema_kinds (parts state.metadata) (schema_of state) form schema_stands

    pub can_be_rewritten : CanBeRewritten state
    can_be_rewritten = record {
      schema = schema_stands;
      kinds = kinds;
      specs = λ id s found. writable read_soundly.schema.columns s (spec_read read_soundly.schema.columns id state.metadata.specs s read_soundly.specs found);
    }

    pub current_columns : AreColumns (schema_of state).columns
    current_columns =
        let found = read_soundly.schema in
        subst (λ (schema : TableSchema). AreColumns schema.columns) (sym schema_is)
        (columns_are found read_soundly.current.sound read_soundly.current.ids (schema_kinds (parts state.metadata) found form read_soundly.current.stands))
