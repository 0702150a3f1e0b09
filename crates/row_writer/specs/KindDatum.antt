-- How a value of a kind is written (Iceberg specification, Appendix A, "Avro"; Avro 1.11.1, "Logical Types" and "Unions").
use Rattle.std.specs.Prelude.{ℕ, Option, Some, None}
use Rattle.row_values.specs.declared.kind.Kind.{Kind}
use Rattle.row_values.specs.declared.kind.Kind.TheVariants as kind
use Rattle.row_values.specs.declared.value.Value.{Value}
use Rattle.row_values.specs.declared.value.Value.TheVariants as value
use Rattle.kind_values.specs.BigEndian.{bytes_in}
use Rattle.avro_binary.specs.declared.datum.Datum.{Datum}
use Rattle.avro_binary.specs.declared.datum.Datum.TheVariants as datum
use Rattle.row_writer.specs.KindTypes.{decimal_size}

-- the bytes of a kind's amounts
abbrev pub amount_size : Kind → ℕ
amount_size (kind.Decimal precision scale) = decimal_size precision
amount_size _ = 0

-- a value of the kind
abbrev pub value_datum : Kind → Value → Datum
value_datum k value.Null = datum.Null
value_datum k (value.Bool b) = datum.Boolean b
value_datum k (value.Int n) = datum.Int n
value_datum k (value.Long n) = datum.Long n
value_datum k (value.Date n) = datum.Int n
value_datum k (value.Timestamp n) = datum.Long n
value_datum k (value.Decimal n scale) = datum.Fixed (bytes_in (amount_size k) n)
value_datum k (value.Text bytes) = datum.Text bytes
value_datum k (value.Bytes bytes) = datum.Bytes bytes

-- a value of a union of null and a type
abbrev pub optional : Option Datum → Datum
optional None = datum.Union 0 datum.Null
optional (Some d) = datum.Union 1 d
