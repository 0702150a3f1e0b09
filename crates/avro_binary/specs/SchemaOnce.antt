-- Schemas whose JSON is the schema again: each named type stands once, and each text, id and logical type is one that the
-- JSON can hold.
use Rattle.std.specs.Prelude.{ℕ, ◌^◌, ℤ, Bool, true, false, not, List, [], ◌∷◌, ◌++◌, Option, Some, None, is_some, option_and_then, codes, nat_le, nat_lt, ◌&&◌, if◌then◌else◌}
use Rattle.std.specs.List.{list_all}
use Rattle.std.specs.Str.{bytes_eq, is_utf8}
use Rattle.avro_binary.specs.declared.schema.Schema.{Schema, fold-Schema}
use Rattle.avro_binary.specs.declared.schema.Schema.TheOpen as open_schema
use Rattle.avro_binary.specs.declared.schema.Field.{Field, fold-Field}
use Rattle.avro_binary.specs.declared.schema.Logical.{Logical}
use Rattle.avro_binary.specs.declared.schema.Logical.TheVariants.{Plain, Date, TimestampMicros, Decimal, Other}
use Rattle.avro_binary.specs.Naming.{has_begun}
use Rattle.avro_binary.specs.SchemaText.{narrow}
use Rattle.avro_binary.specs.Placed.{placed}

-- a decimal has 1 to 38 digits, and 0 to that many after the point; another name isn't that of a logical type that is read
abbrev pub is_logical : Logical → Bool
is_logical Plain = true
is_logical Date = true
is_logical (TimestampMicros utc) = true
is_logical (Decimal precision scale) = nat_le 1 precision && (nat_le precision 38 && nat_le scale precision)
is_logical (Other name) = is_utf8 name && (not (bytes_eq name (codes "date")) && not (bytes_eq name (codes "timestamp-micros")))

-- none, or one of 32 bits
abbrev pub is_id : Option ℤ → Bool
is_id None = true
is_id (Some id) = is_some (narrow id)

-- takes the full names before, and gives them with those of this part, where none stands twice
abbrev pub Begins : Type 0
Begins = List (List ℕ) → Option (List (List ℕ))

abbrev pub when : Bool → Begins → Begins
when true begins begun = begins begun
when false begins begun = None

abbrev pub no_name : Begins
no_name begun = Some begun

abbrev pub one_name : List ℕ → Begins
one_name name begun = if has_begun name begun then None else Some (begun ++ name ∷ [])

abbrev pub each_once : List Begins → Begins
each_once [] begun = Some begun
each_once (o ∷ os) begun = option_and_then (each_once os) (o begun)

abbrev pub once_level : open_schema.Schema-F Begins Begins → Begins
once_level open_schema.Null begun = Some begun
once_level open_schema.Boolean begun = Some begun
once_level (open_schema.Int logical) begun = when (is_logical logical) no_name begun
once_level (open_schema.Long logical) begun = when (is_logical logical) no_name begun
once_level (open_schema.Bytes logical) begun = when (is_logical logical) no_name begun
once_level open_schema.Text begun = Some begun
once_level (open_schema.Record name fields) begun = when (is_utf8 name) (λ b. option_and_then (each_once fields) (one_name name b)) begun
once_level (open_schema.Enum name symbols) begun = when (is_utf8 name && list_all is_utf8 symbols) (one_name name) begun
once_level (open_schema.Array items element map) begun = when (is_id element) items begun
once_level (open_schema.Map values key_id value_id) begun = when (is_id key_id && is_id value_id) values begun
once_level (open_schema.Union branches) begun = each_once branches begun
once_level (open_schema.Fixed name size logical) begun = when (is_utf8 name && (is_logical logical && nat_lt size (2 ^ 64))) (one_name name) begun

abbrev pub once_field_level : open_schema.Field-F Begins Begins → Begins
once_field_level field begun = when (is_utf8 field.name && is_id field.id) field.schema begun

abbrev pub once : Schema → Begins
once = fold-Schema Begins Begins once_level once_field_level

abbrev pub once_field : Field → Begins
once_field = fold-Field Begins Begins once_level once_field_level

-- the schema has a text that is read as it: it also nests at most 32 deep, and has at most 100,000 nodes
abbrev pub has_text : Schema → Bool
has_text schema = is_some (once schema []) && is_some (placed schema 32 100000)
