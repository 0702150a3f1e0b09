-- Which Avro types carry a column's kind (Iceberg specification, Appendix A, "Avro", and "Schema Evolution" for an int
-- under a long; Avro 1.11.1, "Logical Types" and "Unions").
use Rattle.std.specs.Prelude.{ℕ, nat_eq, Bool, true, false, ◌&&◌, if◌then◌else◌, List, [], ◌∷◌}
use Rattle.row_values.specs.declared.kind.Kind.{Kind}
use Rattle.row_values.specs.declared.kind.Kind.TheVariants as kind
use Rattle.kind_values.specs.KindValues.{is_decimal_size}
use Rattle.avro_binary.specs.declared.schema.Schema.{Schema, out-Schema}
use Rattle.avro_binary.specs.declared.schema.Field.{Field}
use Rattle.avro_binary.specs.declared.schema.Schema.TheOpen as open_schema
use Rattle.avro_binary.specs.declared.schema.Logical.{Logical}
use Rattle.avro_binary.specs.declared.schema.Logical.TheVariants as logical

abbrev pub is_null_type : open_schema.Schema-F Schema Field → Bool
is_null_type open_schema.Null = true
is_null_type _ = false

-- a long of microseconds, or one of which nothing is said
abbrev pub is_instant_type : Logical → Bool
is_instant_type logical.Plain = true
is_instant_type (logical.TimestampMicros utc) = true
is_instant_type _ = false

-- a decimal of this scale, of whatever precision
abbrev pub is_decimal_type : ℕ → Logical → Bool
is_decimal_type wanted (logical.Decimal precision scale) = nat_eq scale wanted
is_decimal_type wanted _ = false

-- a type that is no union
abbrev pub carries_bare : Kind → open_schema.Schema-F Schema Field → Bool
carries_bare kind.Bool open_schema.Boolean = true
carries_bare kind.Int (open_schema.Int logical) = true
carries_bare kind.Long (open_schema.Int logical) = true
carries_bare kind.Long (open_schema.Long logical) = true
carries_bare kind.Date (open_schema.Int logical) = true
carries_bare (kind.Timestamp utc) (open_schema.Long logical) = is_instant_type logical
carries_bare (kind.Decimal precision scale) (open_schema.Bytes logical) = is_decimal_type scale logical
carries_bare (kind.Decimal precision scale) (open_schema.Fixed name size logical) = is_decimal_size size && is_decimal_type scale logical
carries_bare kind.Text open_schema.Text = true
carries_bare kind.Bytes (open_schema.Bytes logical) = true
carries_bare kind.Bytes (open_schema.Fixed name size logical) = true
carries_bare _ _ = false

-- two branches, of which one is null and the other carries the kind
abbrev pub carries_branch : Kind → List Schema → Bool
carries_branch k [] = false
carries_branch k (first ∷ []) = false
carries_branch k (first ∷ second ∷ []) = if is_null_type (out-Schema first) then carries_bare k (out-Schema second) else if is_null_type (out-Schema second) then carries_bare k (out-Schema first) else false
carries_branch k (first ∷ second ∷ third ∷ others) = false

-- Null may be either branch, and a type carries a required column as it carries an optional one.
abbrev pub carries_level : Kind → open_schema.Schema-F Schema Field → Bool
carries_level k (open_schema.Union branches) = carries_branch k branches
carries_level k other = carries_bare k other

abbrev pub carries : Kind → Schema → Bool
carries k schema = carries_level k (out-Schema schema)
