-- The value that a datum has for a column's kind (Iceberg specification, Appendix A, "Avro"; Avro 1.11.1, "Logical
-- Types").
use Rattle.std.specs.Prelude.{Bool, true, false, Option, Some, None, option_and_then}
use Rattle.row_values.specs.declared.kind.Kind.{Kind}
use Rattle.row_values.specs.declared.kind.Kind.TheVariants as kind
use Rattle.row_values.specs.declared.value.Value.{Value}
use Rattle.row_values.specs.declared.value.Value.TheVariants as value
use Rattle.avro_binary.specs.declared.datum.Datum.{Datum, out-Datum}
use Rattle.avro_binary.specs.declared.datum.MapPair.{MapPair}
use Rattle.avro_binary.specs.declared.datum.Datum.TheOpen as open_datum
use Rattle.kind_values.specs.KindValues.{of_kind, decimal_of}

-- what the datum says, of whatever range
abbrev pub content_of : Kind → open_datum.Datum-F Datum MapPair → Option Value
content_of kind.Bool (open_datum.Boolean b) = Some (value.Bool b)
content_of kind.Int (open_datum.Int n) = Some (value.Int n)
content_of kind.Long (open_datum.Int n) = Some (value.Long n)
content_of kind.Long (open_datum.Long n) = Some (value.Long n)
content_of kind.Date (open_datum.Int n) = Some (value.Date n)
content_of (kind.Timestamp utc) (open_datum.Long n) = Some (value.Timestamp n)
content_of (kind.Decimal precision scale) (open_datum.Bytes bytes) = decimal_of scale bytes
content_of (kind.Decimal precision scale) (open_datum.Fixed bytes) = decimal_of scale bytes
content_of kind.Text (open_datum.Text bytes) = Some (value.Text bytes)
content_of kind.Bytes (open_datum.Bytes bytes) = Some (value.Bytes bytes)
content_of kind.Bytes (open_datum.Fixed bytes) = Some (value.Bytes bytes)
content_of _ _ = None

abbrev pub value_of : Kind → Datum → Option Value
value_of k datum = option_and_then (of_kind k) (content_of k (out-Datum datum))

-- what stands in a union, or the datum itself where it is none
abbrev pub inside_level : Datum → open_datum.Datum-F Datum MapPair → Datum
inside_level datum (open_datum.Union branch inner) = inner
inside_level datum _ = datum

abbrev pub inside : Datum → Datum
inside datum = inside_level datum (out-Datum datum)

abbrev pub is_null_datum : open_datum.Datum-F Datum MapPair → Bool
is_null_datum open_datum.Null = true
is_null_datum _ = false
