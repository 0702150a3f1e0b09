-- The Avro types of kinds (Iceberg specification, Appendix A, "Avro"; Avro 1.11.1, "Logical Types").
use Rattle.std.specs.Prelude.{ℕ, ◌-◌, ◌^◌, pos, min, List}
use Rattle.row_values.specs.declared.kind.Kind.{Kind}
use Rattle.row_values.specs.declared.kind.Kind.TheVariants as kind
use Rattle.kind_values.specs.BigEndian.{byte_count}
use Rattle.avro_binary.specs.declared.schema.Schema.{Schema}
use Rattle.avro_binary.specs.declared.schema.Schema.TheVariants as schema
use Rattle.avro_binary.specs.declared.schema.Logical.TheVariants.{Plain, Date, TimestampMicros, Decimal}

-- the fewest bytes that hold so many digits, of which none has more than 38
abbrev pub decimal_size : ℕ → ℕ
decimal_size precision = byte_count (pos (10 ^ min precision 38 - 1))

-- the type of a kind's values; that of decimals has this name
abbrev pub kind_type : List ℕ → Kind → Schema
kind_type name kind.Bool = schema.Boolean
kind_type name kind.Int = schema.Int Plain
kind_type name kind.Long = schema.Long Plain
kind_type name kind.Date = schema.Int Date
kind_type name (kind.Timestamp utc) = schema.Long (TimestampMicros utc)
kind_type name (kind.Decimal precision scale) = schema.Fixed name (decimal_size precision) (Decimal precision scale)
kind_type name kind.Text = schema.Text
kind_type name kind.Bytes = schema.Bytes Plain
