-- What is read of the first version of a table.
use Rattle.std.proofs.Common.{◌≡◌, ◌&&◌, ◌^◌, ◌-◌, ℕ, ℤ, pos, negsuc, neg_ℤ, List, [], ◌∷◌, ◌||◌, Bool, true, false, codes, Option, Some, None, Ok, cond, int_le, nat_lt, nat_le, nat_eq, option_and_then, refl, sym, ap, subst, ◌∙◌, arith}
use Rattle.std.proofs.lemmas.Bool.Decides.{nat_tests}
use Rattle.std.proofs.lemmas.Cmp.{int_eq_equiv}
use Rattle.serde_json.specs.Data.{Data, string, object, Items, no_items, item, no_members, member}
use Rattle.serde_json.specs.Find.{get}
use Rattle.serde_json.specs.View.{view}
use Rattle.row_values.specs.declared.partition.Spec.{Spec}
use Rattle.row_values.specs.declared.schema.Column.{Column}
use Rattle.row_values.specs.declared.schema.TableSchema.{TableSchema}
use Rattle.table_metadata.specs.declared.properties.Properties.{Properties}
use Rattle.iceberg_schema.specs.declared.schema_fault.SchemaJsonFault.TheVariants as schema_fault
use Rattle.iceberg_schema.specs.declared.spec_fault.SpecFault.TheVariants as spec_fault
use Rattle.iceberg_schema.specs.Keys.{has_id, has_twice, in_int, int_at, item_count, items_at, long_at}
use Rattle.table_metadata.specs.Metadata.{json_of, metadata_of, parts_of}
use Rattle.table_metadata.specs.MissingKeys.{keys_stand, listed_refs_stand, listed_snapshots_stand, table_keys_stand, version_fits}
use Rattle.table_metadata.specs.References.{all_hold, all_refs, listed_refs_of, refs_of, with_main}
use Rattle.iceberg_schema.specs.SchemaJson.{columns_of, table_schema_of}
use Rattle.table_metadata.specs.SchemaList.{columns_with, schemas_from, schemas_of, specs_from, specs_of}
use Rattle.table_metadata.specs.Snapshots.{snapshots_of}
use Rattle.iceberg_schema.specs.SpecJson.{fields_of, spec_of}
use Rattle.table_metadata.specs.TableKeys.{current_ids_of, current_snapshot_of, log_shape, optional_keys_of, plain_keys_of, properties_shape, refs_shape, snapshots_shape}
use Rattle.table_metadata.proofs.CallerLemmas.{parts_read, then_ok}
use Rattle.plain_types.proofs.CallerLemmas.{one_value, two_steps}
use Rattle.plain_types.specs.Steps.{fault_if, or_fault}
use Rattle.metadata_writer.specs.Commit.{long_data, with_key}
use Rattle.iceberg_schema.specs.Widths.{IsInt, IsLong}
use Rattle.iceberg_schema.proofs.CallerLemmas.{long_of_int}
use Rattle.metadata_writer.specs.NewTable.{Made, IsMadeOf, first_parts, first_version, name_keys, one_item, only_properties, order_data, order_keys, schema_keys, schema_list, spec_data, spec_keys, spec_list, time_keys, version_keys}
use Rattle.metadata_writer.proofs.ReadAfter.{as_i64-of_integer, same_properties}
use Rattle.metadata_writer.proofs.Texts.{read_parts}

-- ---- the keys in their order

abbrev laid : Made → Data
laid t =
    object (member (codes "current-schema-id") (long_data t.schema_id)
    (member (codes "default-sort-order-id") (long_data (pos 0))
    (member (codes "default-spec-id") (long_data (pos 0))
    (member (codes "format-version") (long_data (pos 2))
    (member (codes "last-column-id") (long_data t.last_column)
    (member (codes "last-partition-id") (long_data t.last_partition)
    (member (codes "last-sequence-number") (long_data (pos 0))
    (member (codes "last-updated-ms") (long_data t.created_ms)
    (member (codes "location") (string t.location)
    (member (codes "partition-specs") (one_item (spec_data (t.fields)))
    (member (codes "properties") (t.properties)
    (member (codes "schemas") (one_item (t.schema))
    (member (codes "sort-orders") (one_item order_data)
    (member (codes "table-uuid") (string t.uuid) no_members))))))))))))))

first_laid : (t : Made) → first_version t ≡ laid t
unfolding first_version order_keys spec_keys spec_list schema_keys schema_list time_keys name_keys version_keys with_key
first_laid t = refl

-- ---- numbers

int_if : (b : Bool) (n m : ℤ) → cond b (Some m) None ≡ Some n → m ≡ n
int_if true n m h = cc
int_if false n m h = cc

-- what is read under a key of 32 bits
pub int_found : (o : Option ℤ) (n : ℤ) → option_and_then in_int o ≡ Some n → (o ≡ Some n) × IsInt n
int_found None n h = cc
int_found (Some m) n h = let e = int_if _ n m h in (ap Some e, subst (λ (k : ℤ). in_int k ≡ Some n) e h)

pub found : {A E : Type 0} → (e : E) (o : Option A) (a : A) → or_fault e o ≡ Ok a → o ≡ Some a
found e None a h = cc
found e (Some b) a h = cc

-- ---- the schema and the spec

schema_id_read : (d : Data) (schema : TableSchema) → table_schema_of d ≡ Ok schema → (long_at (codes "schema-id") d ≡ Some schema.id) × IsInt schema.id
unfolding table_schema_of
schema_id_read d schema h =
    let s1 = two_steps (or_fault (schema_fault.Missing (codes "schema-id")) (int_at (codes "schema-id") d)) _ schema h in
    let s2 = two_steps (or_fault (schema_fault.Missing (codes "fields")) (items_at (codes "fields") d)) _ schema s1.2 in
    let s3 = two_steps (fault_if (schema_fault.Columns (item_count s2.0)) (nat_eq (item_count s2.0) 0 || nat_lt 256 (item_count s2.0))) _ schema s2.2 in
    let s4 = two_steps (columns_of [] s2.0) _ schema s3.2 in
    subst (λ (x : TableSchema). (long_at (codes "schema-id") d ≡ Some x.id) × IsInt x.id) (one_value _ schema _ refl s4.2) (int_found _ s1.0 (found (schema_fault.Missing (codes "schema-id")) (int_at (codes "schema-id") d) s1.0 s1.1))

spec_id : (fields : Data) → long_at (codes "spec-id") (spec_data fields) ≡ Some (pos 0)
unfolding spec_data with_key
spec_id fields = refl

-- ---- the readings

keys_of_new : (t : Made) → keys_stand (laid t) ≡ Ok tt
unfolding keys_stand version_fits table_keys_stand listed_snapshots_stand listed_refs_stand
keys_of_new t = refl

plain_of_new : (schema : TableSchema) (spec : Spec) (properties : Properties) (t : Made) → IsMadeOf schema spec properties t
    → plain_keys_of (laid t) ≡ Ok (record { location = t.location; last_sequence = pos 0; last_updated_ms = t.created_ms; last_column = t.last_column })
unfolding plain_keys_of
plain_of_new schema spec properties t m =
    rw (m.uuid, as_i64-of_integer t.created_ms m.created, as_i64-of_integer t.last_column (long_of_int t.last_column m.last_column), m.last_column) refl

one_id : (key : List ℕ) (n : ℤ) (d : Data) → long_at key d ≡ Some n → (has_twice key (item d no_items) ≡ false) × (has_id key n (item d no_items) ≡ true)
unfolding has_twice has_id
one_id key n d h = (rw h refl, rw h (rw (int_eq_equiv.refl n) refl))

ids_at : (t : Made) → (has_twice (codes "schema-id") (item (t.schema) no_items) ≡ false)
    × (has_id (codes "schema-id") t.schema_id (item (t.schema) no_items) ≡ true)
    → (has_twice (codes "spec-id") (item (spec_data (t.fields)) no_items) ≡ false)
    × (has_id (codes "spec-id") (pos 0) (item (spec_data (t.fields)) no_items) ≡ true) → IsInt t.schema_id
    → IsInt t.last_partition
    → current_ids_of (laid t) ≡ Ok (record { schema = t.schema_id; spec = pos 0; last_partition = t.last_partition })
unfolding current_ids_of
ids_at t a b i l =
    rw (a.0, as_i64-of_integer t.schema_id (long_of_int t.schema_id i), i, a.1, b.0, b.1, as_i64-of_integer t.last_partition (long_of_int t.last_partition l), l) refl

ids_of_new : (schema : TableSchema) (spec : Spec) (properties : Properties) (t : Made) → IsMadeOf schema spec properties t
    → current_ids_of (laid t) ≡ Ok (record { schema = t.schema_id; spec = pos 0; last_partition = t.last_partition })
ids_of_new schema spec properties t m =
    let s = schema_id_read (t.schema) schema m.reads_schema in
    ids_at t (one_id (codes "schema-id") t.schema_id (t.schema) (s.0 ∙ ap Some (sym m.id))) (one_id (codes "spec-id") (pos 0) (spec_data (t.fields)) (spec_id (t.fields))) (subst IsInt (sym m.id) s.1) m.last_partition

pub same_texts : (d e : Data) → get (codes "properties") e ≡ get (codes "properties") d → properties_shape e ≡ properties_shape d
unfolding properties_shape
same_texts d e h = rw h refl

optional_of_new : (t : Made) → properties_shape (only_properties (t.properties)) ≡ Ok tt → optional_keys_of (laid t) ≡ Ok None
unfolding optional_keys_of current_snapshot_of snapshots_shape log_shape refs_shape
optional_of_new t h = rw (same_texts (only_properties (t.properties)) (laid t) refl ∙ h) refl

snapshots_of_new : (t : Made) → snapshots_of (laid t) ≡ Ok []
unfolding snapshots_of
snapshots_of_new t = refl

listed_of_new : (t : Made) → listed_refs_of (laid t) ≡ Ok []
unfolding listed_refs_of
listed_of_new t = refl

schemas_of_new : (t : Made) (schema : TableSchema) → table_schema_of (t.schema) ≡ Ok schema → schemas_of (laid t) ≡ Ok (schema ∷ [])
unfolding schemas_of schemas_from
schemas_of_new t schema h = rw h refl

specs_of_new : (t : Made) (schema : TableSchema) (spec : Spec) → t.schema_id ≡ schema.id
    → spec_of schema.columns (spec_data (t.fields)) ≡ Ok spec → specs_of t.schema_id (schema ∷ []) (laid t) ≡ Ok (spec ∷ [])
unfolding specs_of specs_from columns_with
specs_of_new t schema spec e h = rw e (rw (int_eq_equiv.refl schema.id) (rw h refl))

refs_of_new : refs_of None [] [] ≡ Ok []
unfolding refs_of all_refs with_main all_hold
refs_of_new = refl

pub first_version-read : (schema : TableSchema) (spec : Spec) (properties : Properties) (t : Made)
    → IsMadeOf schema spec properties t → parts_of (first_version t) ≡ Ok (first_parts schema spec properties t)
first_version-read schema spec properties t m =
    ap parts_of (first_laid t)
    ∙ parts_read (laid t) (first_parts schema spec properties t) (record {
      version = refl;
      stand = keys_of_new t;
      plain = plain_of_new schema spec properties t m;
      ids = ids_of_new schema spec properties t m;
      current = optional_of_new t m.are_texts;
      snapshots = snapshots_of_new t;
      listed = [];
      lists = listed_of_new t;
      schemas = schemas_of_new t schema m.reads_schema;
      specs = specs_of_new t schema spec m.id m.reads_spec;
      fit = m.ids;
      properties = same_properties (only_properties (t.properties)) (laid t) refl ∙ m.reads_properties;
      refs = refs_of_new;
    })

-- ---- a spec that was read elsewhere

spec_at : (fields : Data) (items : Items) (f : Data) → items_at (codes "fields") f ≡ Some items
    → get (codes "fields") f ≡ Some fields → items_at (codes "fields") (spec_data fields) ≡ Some items
unfolding spec_data with_key
spec_at fields items f h k = rw k at h

pub spec_of_fields : (columns : List Column) (d fields : Data) (spec : Spec) → spec_of columns d ≡ Ok spec
    → get (codes "fields") d ≡ Some fields → spec_of columns (spec_data fields) ≡ Ok (record { id = pos 0; fields = spec.fields })
unfolding spec_of
spec_of_fields columns d fields spec h k =
    let s1 = two_steps (or_fault (spec_fault.Missing (codes "spec-id")) (int_at (codes "spec-id") d)) _ spec h in
    let s2 = two_steps (or_fault (spec_fault.Missing (codes "fields")) (items_at (codes "fields") d)) _ spec s1.2 in
    let s3 = two_steps (fault_if (spec_fault.Fields (item_count s2.0)) (nat_lt 16 (item_count s2.0))) _ spec s2.2 in
    let s4 = two_steps (fields_of columns [] s2.0) _ spec s3.2 in
    then_ok (or_fault (spec_fault.Missing (codes "spec-id")) (int_at (codes "spec-id") (spec_data fields))) _ (pos 0) _ (rw (spec_id fields) refl)
    (then_ok (or_fault (spec_fault.Missing (codes "fields")) (items_at (codes "fields") (spec_data fields))) _ s2.0 _ (rw (spec_at fields s2.0 d (found (spec_fault.Missing (codes "fields")) _ s2.0 s2.1) k) refl)
    (then_ok _ _ _ _ s3.1
    (then_ok _ _ _ _ s4.1 (ap (λ (x : Spec). Ok (record { id = pos 0; fields = x.fields })) (one_value _ spec _ refl s4.2)))))

pub text-first_version : (text : List ℕ) (schema : TableSchema) (spec : Spec) (properties : Properties) (t : Made)
    → IsMadeOf schema spec properties t → json_of text ≡ Ok (first_version t)
    → metadata_of text ≡ Ok (first_parts schema spec properties t)
text-first_version text schema spec properties t m h = read_parts text (first_version t) h ∙ first_version-read schema spec properties t m
