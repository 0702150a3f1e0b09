-- The Avro types of the fields of a manifest (Iceberg specification, "Manifests", "Manifest Lists" and Appendix A,
-- "Avro"). A field has exactly its type, or a union of null and that type, of which either may stand first; no type is
-- promoted, and logical types say nothing here.
use Rattle.std.specs.Prelude.{Bool, true, false, List, [], ◌∷◌, Option, Some, None, if◌then◌else◌}
use Rattle.plain_types.specs.Steps.{by_option}
use Rattle.avro_binary.specs.declared.schema.Schema.{Schema, out-Schema}
use Rattle.avro_binary.specs.declared.schema.Field.{Field}
use Rattle.avro_binary.specs.declared.schema.Schema.TheOpen as open_schema
use Rattle.avro_rows.specs.Carrier.{is_null_type}
use Rattle.avro_rows.specs.Sources.{fields_of}
use Rattle.manifest_files.specs.declared.field_type.FieldType.{FieldType}
use Rattle.manifest_files.specs.declared.field_type.FieldType.TheVariants as type

-- of two branches the one beside null
abbrev pub beside_null : Schema → List Schema → Schema
beside_null whole [] = whole
beside_null whole (first ∷ []) = whole
beside_null whole (first ∷ second ∷ []) = if is_null_type (out-Schema first) then second else if is_null_type (out-Schema second) then first else whole
beside_null whole (first ∷ second ∷ third ∷ others) = whole

abbrev pub stated_level : Schema → open_schema.Schema-F Schema Field → Schema
stated_level whole (open_schema.Union branches) = beside_null whole branches
stated_level whole _ = whole

-- the type that a schema states, beside null or alone
abbrev pub stated : Schema → Schema
stated schema = stated_level schema (out-Schema schema)

abbrev pub is_type : FieldType → open_schema.Schema-F Schema Field → Bool
is_type type.Boolean open_schema.Boolean = true
is_type type.Int (open_schema.Int logical) = true
is_type type.Long (open_schema.Long logical) = true
is_type type.Text open_schema.Text = true
is_type type.Bytes (open_schema.Bytes logical) = true
is_type type.Record (open_schema.Record name fields) = true
is_type type.Array (open_schema.Array items element map) = true
is_type _ _ = false

abbrev pub has_type : FieldType → Schema → Bool
has_type t schema = is_type t (out-Schema (stated schema))

abbrev pub items_level : open_schema.Schema-F Schema Field → Option Schema
items_level (open_schema.Array items element map) = Some items
items_level _ = None

-- the type of an array's items
abbrev pub items_of : Schema → Option Schema
items_of schema = items_level (out-Schema (stated schema))

-- whether the schema is an array of this type
abbrev pub has_items : FieldType → Schema → Bool
has_items t schema = by_option (items_of schema) (has_type t) false

-- the fields of a record, and of the records of an array
abbrev pub record_fields : Schema → List Field
record_fields schema = fields_of (stated schema)

abbrev pub element_fields : Schema → List Field
element_fields schema = by_option (items_of schema) record_fields []
