-- How many nodes a schema has, references written out, and how deep they nest: whether they fit what is left.
use Rattle.std.specs.Prelude.{ℕ, zero, suc, List, [], ◌∷◌, Option, Some, None, option_and_then}
use Rattle.avro_binary.specs.declared.schema.Schema.{Schema, fold-Schema}
use Rattle.avro_binary.specs.declared.schema.Field.{Field, fold-Field}
use Rattle.avro_binary.specs.declared.schema.Schema.TheOpen as open_schema

-- takes how deep nodes may still nest and how many may still follow, and gives how many may follow then
abbrev pub Placing : Type 0
Placing = ℕ → ℕ → Option ℕ

unfoldable pub place_each : List Placing → Placing
place_each [] depth left = Some left
place_each (p ∷ ps) depth left = option_and_then (place_each ps depth) (p depth left)

-- what is inside a node
abbrev pub place_inner : open_schema.Schema-F Placing Placing → Placing
place_inner open_schema.Null depth left = Some left
place_inner open_schema.Boolean depth left = Some left
place_inner (open_schema.Int logical) depth left = Some left
place_inner (open_schema.Long logical) depth left = Some left
place_inner (open_schema.Bytes logical) depth left = Some left
place_inner open_schema.Text depth left = Some left
place_inner (open_schema.Record name fields) depth left = place_each fields depth left
place_inner (open_schema.Enum name symbols) depth left = Some left
place_inner (open_schema.Array items element map) depth left = items depth left
place_inner (open_schema.Map values key_id value_id) depth left = values depth left
place_inner (open_schema.Union branches) depth left = place_each branches depth left
place_inner (open_schema.Fixed name size logical) depth left = Some left

abbrev pub place_level : open_schema.Schema-F Placing Placing → Placing
place_level node zero left = None
place_level node (suc depth) zero = None
place_level node (suc depth) (suc left) = place_inner node depth left

abbrev pub place_field : open_schema.Field-F Placing Placing → Placing
place_field field = field.schema

abbrev pub placed : Schema → Placing
placed = fold-Schema Placing Placing place_level place_field

abbrev pub placed_field : Field → Placing
placed_field = fold-Field Placing Placing place_level place_field
