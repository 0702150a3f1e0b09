-- The JSON of a new table's metadata (Iceberg specification, "Table Metadata Fields"): one schema, one partition spec and
-- an empty sort order, and no snapshot. What is read of it again, where it is made of JSON that reads.
use Rattle.std.specs.Prelude.{◌≡◌, ◌∷◌, [], ℕ, ℤ, List, None, Ok, pos, codes, true}
use Rattle.serde_json.specs.Data.{Data, string, array, object, no_items, item, no_members, member}
use Rattle.serde_json.specs.View.{view}
use Rattle.row_values.specs.declared.partition.Spec.{Spec}
use Rattle.row_values.specs.declared.schema.TableSchema.{TableSchema}
use Rattle.table_metadata.specs.declared.properties.Properties.{Properties}
use Rattle.table_metadata.specs.FieldIds.{field_ids_fit}
use Rattle.table_metadata.specs.Metadata.{Parts}
use Rattle.table_metadata.specs.Properties.{properties_of}
use Rattle.iceberg_schema.specs.SchemaJson.{table_schema_of}
use Rattle.iceberg_schema.specs.SpecJson.{spec_of}
use Rattle.table_metadata.specs.TableKeys.{is_uuid, properties_shape}
use Rattle.metadata_writer.specs.Commit.{with_key, long_data}
use Rattle.iceberg_schema.specs.Widths.{IsInt, IsLong}
use Rattle.metadata_writer.specs.declared.new_table.NewTable.{NewTable}

-- what a table is made of: the JSON of its schema, of the fields of its partition spec and of its properties, and the ids
-- that they come to
pub record Made : Type 0 where
  pub location : List ℕ
  pub uuid : List ℕ
  pub schema : Data
  pub schema_id : ℤ
  pub last_column : ℤ
  pub fields : Data
  pub last_partition : ℤ
  pub properties : Data
  pub created_ms : ℤ

abbrev pub made : NewTable → Made
made t = record { location = t.location; uuid = t.uuid; schema = view t.schema; schema_id = t.schema_id; last_column = t.last_column; fields = view t.fields; last_partition = t.last_partition; properties = view t.properties; created_ms = t.created_ms }

abbrev pub one_item : Data → Data
one_item d = array (item d no_items)

unfoldable pub version_keys : Made → Data
version_keys t = with_key (codes "table-uuid") (string t.uuid) (with_key (codes "format-version") (long_data (pos 2)) (object no_members))

unfoldable pub name_keys : Made → Data
name_keys t = with_key (codes "location") (string t.location) (version_keys t)

unfoldable pub time_keys : Made → Data
time_keys t = with_key (codes "last-updated-ms") (long_data t.created_ms) (with_key (codes "last-sequence-number") (long_data (pos 0)) (name_keys t))

unfoldable pub schema_list : Made → Data
schema_list t = with_key (codes "schemas") (one_item t.schema) (time_keys t)

unfoldable pub schema_keys : Made → Data
schema_keys t = with_key (codes "last-column-id") (long_data t.last_column) (with_key (codes "current-schema-id") (long_data t.schema_id) (schema_list t))

-- the only partition spec
unfoldable pub spec_data : Data → Data
spec_data fields = with_key (codes "fields") fields (with_key (codes "spec-id") (long_data (pos 0)) (object no_members))

unfoldable pub spec_list : Made → Data
spec_list t = with_key (codes "partition-specs") (one_item (spec_data t.fields)) (schema_keys t)

unfoldable pub spec_keys : Made → Data
spec_keys t = with_key (codes "last-partition-id") (long_data t.last_partition) (with_key (codes "default-spec-id") (long_data (pos 0)) (spec_list t))

-- the empty sort order
unfoldable pub order_data : Data
order_data = with_key (codes "fields") (array no_items) (with_key (codes "order-id") (long_data (pos 0)) (object no_members))

unfoldable pub order_keys : Made → Data
order_keys t = with_key (codes "default-sort-order-id") (long_data (pos 0)) (with_key (codes "sort-orders") (one_item order_data) (spec_keys t))

unfoldable pub first_version : Made → Data
first_version t = with_key (codes "properties") t.properties (order_keys t)

-- ---- what is read of it

-- metadata of these properties alone
abbrev pub only_properties : Data → Data
only_properties properties = object (member (codes "properties") properties no_members)

-- The JSON of the table reads as this schema, spec and properties, and the ids and the numbers fit.
pub record IsMadeOf (schema : TableSchema) (spec : Spec) (properties : Properties) (t : Made) : Type 0 where
  pub uuid : is_uuid t.uuid ≡ true
  pub reads_schema : table_schema_of t.schema ≡ Ok schema
  pub id : t.schema_id ≡ schema.id
  pub reads_spec : spec_of schema.columns (spec_data t.fields) ≡ Ok spec
  pub are_texts : properties_shape (only_properties t.properties) ≡ Ok tt
  pub reads_properties : properties_of (only_properties t.properties) ≡ Ok properties
  pub ids : field_ids_fit t.last_column t.last_partition (schema ∷ []) (spec ∷ []) ≡ Ok tt
  pub last_column : IsInt t.last_column
  pub last_partition : IsInt t.last_partition
  pub created : IsLong t.created_ms

abbrev pub first_parts : TableSchema → Spec → Properties → Made → Parts
first_parts schema spec properties t = record {
  format_version = 2;
  location = t.location;
  last_sequence = pos 0;
  last_updated_ms = t.created_ms;
  last_column = t.last_column;
  schemas = schema ∷ [];
  current_schema = t.schema_id;
  specs = spec ∷ [];
  default_spec = pos 0;
  last_partition = t.last_partition;
  properties = properties;
  current_snapshot = None;
  snapshots = [];
  refs = [];
}
