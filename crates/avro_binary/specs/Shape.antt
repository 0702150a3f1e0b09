-- What of a schema counts for the bytes of its datums: the types, and no names, ids or logical types
-- (Avro 1.11.1, 'Schema Declaration').
use Rattle.std.specs.Prelude.{ℕ, suc, List, [], ◌∷◌, length}
use Rattle.avro_binary.specs.declared.schema.Schema.{Schema, fold-Schema}
use Rattle.avro_binary.specs.declared.schema.Field.{Field, fold-Field}
use Rattle.avro_binary.specs.declared.schema.Schema.TheOpen as open_schema

mutual
  pub data Shape : Type 0 where
    null_shape : Shape
    boolean_shape : Shape
    int_shape : Shape
    long_shape : Shape
    bytes_shape : Shape
    text_shape : Shape
    record_shape : Shapes → Shape
    enum_shape : ℕ → Shape
    array_shape : Shape → Shape
    map_shape : Shape → Shape
    union_shape : Shapes → Shape
    fixed_shape : ℕ → Shape

  pub data Shapes : Type 0 where
    no_shapes : Shapes
    more_shapes : Shape → Shapes → Shapes

abbrev pub shapes : List Shape → Shapes
shapes [] = no_shapes
shapes (s ∷ ss) = more_shapes s (shapes ss)

-- one level, with each schema and field inside already seen as its shape
abbrev pub level : open_schema.Schema-F Shape Shape → Shape
level open_schema.Null = null_shape
level open_schema.Boolean = boolean_shape
level (open_schema.Int logical) = int_shape
level (open_schema.Long logical) = long_shape
level (open_schema.Bytes logical) = bytes_shape
level open_schema.Text = text_shape
level (open_schema.Record name fields) = record_shape (shapes fields)
level (open_schema.Enum name symbols) = enum_shape (length symbols)
level (open_schema.Array items element map) = array_shape items
level (open_schema.Map values key_id value_id) = map_shape values
level (open_schema.Union branches) = union_shape (shapes branches)
level (open_schema.Fixed name size logical) = fixed_shape size

abbrev pub field_level : open_schema.Field-F Shape Shape → Shape
field_level field = field.schema

abbrev pub shape : Schema → Shape
shape = fold-Schema Shape Shape level field_level

abbrev pub field_shape : Field → Shape
field_shape = fold-Field Shape Shape level field_level

abbrev pub shape_count : Shapes → ℕ
shape_count no_shapes = 0
shape_count (more_shapes s ss) = suc (shape_count ss)
