-- Types of the fields of a record, each of which names its id (Iceberg specification, Appendix A, "Avro"). An optional
-- field is a union of null and its type, in that order.
use Rattle.std.specs.Prelude.{ℕ, ℤ, true, false, List, [], ◌∷◌, Some, None}
use Rattle.avro_binary.specs.declared.schema.Field.{Field}
use Rattle.avro_binary.specs.declared.schema.Schema.{Schema}
use Rattle.avro_binary.specs.declared.schema.Schema.TheVariants as schema

abbrev pub field : ℤ → List ℕ → Schema → Field
field id name type = record { name = name; id = Some id; schema = type }

abbrev pub optional_type : Schema → Schema
optional_type type = schema.Union (schema.Null ∷ type ∷ [])

-- an array whose items have the id
abbrev pub items_type : ℤ → Schema → Schema
items_type element type = schema.Array type (Some element) false

-- an array that stands for a map with keys of any type
abbrev pub map_type : Schema → Schema
map_type type = schema.Array type None true

abbrev pub record_type : List ℕ → List Field → Schema
record_type name fields = schema.Record name fields
