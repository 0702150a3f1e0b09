-- The JSON that a schema is written as (Avro 1.11.1, 'Schema Declaration', 'Names' and 'Logical Types'). A named type is
-- written out where it stands first, with its full name and its namespace, and by its full name from then on.
use Rattle.std.specs.Prelude.{ℕ, ℤ, Bool, true, false, List, [], ◌∷◌, ◌++◌, map, Option, Some, None, codes, if◌then◌else◌}
use Rattle.std.specs.Str.Lossy.{utf8_lossy}
use Rattle.serde_json.specs.Data.{Data, unsigned, boolean, number, string, array, object, Members, no_members, put}
use Rattle.serde_json.specs.Find.{of_integer}
use Rattle.serde_json.specs.View.{items_of}
use Rattle.serde_json.specs.Written.{compact_text}
use Rattle.avro_binary.specs.declared.schema.Schema.{Schema, fold-Schema}
use Rattle.avro_binary.specs.declared.schema.Schema.TheOpen as open_schema
use Rattle.avro_binary.specs.declared.schema.Field.{Field, fold-Field}
use Rattle.avro_binary.specs.declared.schema.Logical.{Logical}
use Rattle.avro_binary.specs.declared.schema.Logical.TheVariants.{Plain, Date, TimestampMicros, Decimal, Other}
use Rattle.avro_binary.specs.Naming.{space_of, has_begun}

-- takes the full names of the types that were written out before, and gives them with those of this part
abbrev pub Writing : Type 0 → Type 0
Writing A = List (List ℕ) → A × List (List ℕ)

-- a name, which is UTF-8
abbrev pub name_data : List ℕ → Data
name_data name = string (utf8_lossy name)

-- ---- the keys of a node

abbrev pub type_key : List ℕ → Members
type_key word = put (codes "type") (string word) no_members

abbrev pub with_id : List ℕ → Option ℤ → Members → Members
with_id key None ms = ms
with_id key (Some id) ms = put key (number (of_integer id)) ms

abbrev pub with_logical : Logical → Members → Members
with_logical Plain ms = ms
with_logical Date ms = put (codes "logicalType") (string (codes "date")) ms
with_logical (TimestampMicros utc) ms = put (codes "adjust-to-utc") (boolean utc) (put (codes "logicalType") (string (codes "timestamp-micros")) ms)
with_logical (Decimal precision scale) ms = put (codes "scale") (number (unsigned scale)) (put (codes "precision") (number (unsigned precision)) (put (codes "logicalType") (string (codes "decimal")) ms))
with_logical (Other name) ms = put (codes "logicalType") (name_data name) ms

-- an array that stands for a map with keys of any type
abbrev pub with_map : Bool → Members → Members
with_map false ms = ms
with_map true ms = put (codes "logicalType") (string (codes "map")) ms

-- the keys that every named type has
abbrev pub named_keys : List ℕ → List ℕ → Members
named_keys word name = put (codes "namespace") (name_data (space_of name)) (put (codes "name") (name_data name) (type_key word))

-- ---- nodes

abbrev pub primitive : List ℕ → Logical → Data
primitive word logical = object (with_logical logical (type_key word))

abbrev pub symbols : List (List ℕ) → Data
symbols names = array (items_of (map name_data names))

-- one after the other
abbrev pub write_each : {A : Type 0} → List (Writing A) → Writing (List A)
write_each [] begun = ([], begun)
write_each (w ∷ ws) begun = ((w begun).0 ∷ (write_each ws (w begun).1).0, (write_each ws (w begun).1).1)

-- a named type, which is written out if it wasn't before
unfoldable pub named : List ℕ → Writing Data → Writing Data
named name written begun = if has_begun name begun then (name_data name, begun) else written (begun ++ name ∷ [])

abbrev pub record_written : List ℕ → List (Writing Data) → Writing Data
record_written name fields begun = (object (put (codes "fields") (array (items_of (write_each fields begun).0)) (named_keys (codes "record") name)), (write_each fields begun).1)

abbrev pub enum_written : List ℕ → List (List ℕ) → Writing Data
enum_written name names begun = (object (put (codes "symbols") (symbols names) (named_keys (codes "enum") name)), begun)

abbrev pub fixed_written : List ℕ → ℕ → Logical → Writing Data
fixed_written name size logical begun = (object (with_logical logical (put (codes "size") (number (unsigned size)) (named_keys (codes "fixed") name))), begun)

abbrev pub array_written : Writing Data → Option ℤ → Bool → Writing Data
array_written items element map begun = (object (with_map map (with_id (codes "element-id") element (put (codes "items") (items begun).0 (type_key (codes "array"))))), (items begun).1)

abbrev pub map_written : Writing Data → Option ℤ → Option ℤ → Writing Data
map_written values key value begun = (object (with_id (codes "value-id") value (with_id (codes "key-id") key (put (codes "values") (values begun).0 (type_key (codes "map"))))), (values begun).1)

abbrev pub union_written : List (Writing Data) → Writing Data
union_written branches begun = (array (items_of (write_each branches begun).0), (write_each branches begun).1)

-- one level, with each schema and field inside already written
abbrev pub written_level : open_schema.Schema-F (Writing Data) (Writing Data) → Writing Data
written_level open_schema.Null begun = (string (codes "null"), begun)
written_level open_schema.Boolean begun = (string (codes "boolean"), begun)
written_level (open_schema.Int logical) begun = (primitive (codes "int") logical, begun)
written_level (open_schema.Long logical) begun = (primitive (codes "long") logical, begun)
written_level (open_schema.Bytes logical) begun = (primitive (codes "bytes") logical, begun)
written_level open_schema.Text begun = (string (codes "string"), begun)
written_level (open_schema.Record name fields) begun = named name (record_written name fields) begun
written_level (open_schema.Enum name names) begun = named name (enum_written name names) begun
written_level (open_schema.Array items element map) begun = array_written items element map begun
written_level (open_schema.Map values key_id value_id) begun = map_written values key_id value_id begun
written_level (open_schema.Union branches) begun = union_written branches begun
written_level (open_schema.Fixed name size logical) begun = named name (fixed_written name size logical) begun

abbrev pub field_level : open_schema.Field-F (Writing Data) (Writing Data) → Writing Data
field_level field begun = (object (with_id (codes "field-id") field.id (put (codes "type") (field.schema begun).0 (put (codes "name") (name_data field.name) no_members))), (field.schema begun).1)

abbrev pub written : Schema → Writing Data
written = fold-Schema (Writing Data) (Writing Data) written_level field_level

abbrev pub written_field : Field → Writing Data
written_field = fold-Field (Writing Data) (Writing Data) written_level field_level

-- the schema as a whole
abbrev pub data_of : Schema → Data
data_of schema = (written schema []).0

abbrev pub schema_text : Schema → List ℕ
schema_text schema = compact_text (data_of schema)
