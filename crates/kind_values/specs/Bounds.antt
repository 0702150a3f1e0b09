-- The value that a bound's bytes are in a column's kind (Iceberg specification, Appendix D, "Binary single-value
-- serialization"). A long is also read from an int's bytes, since a column's type may have been promoted ("Schema
-- Evolution").
use Rattle.std.specs.Prelude.{ℕ, nat_eq, nat_le, not, Bool, true, ◌&&◌, if◌then◌else◌, List, [], ◌∷◌, Option, Some, None, option_map, option_and_then}
use Rattle.plain_types.specs.Steps.{by_option}
use Rattle.row_values.specs.declared.kind.Kind.{Kind}
use Rattle.row_values.specs.declared.kind.Kind.TheVariants as kind
use Rattle.row_values.specs.declared.value.Value.{Value}
use Rattle.row_values.specs.declared.value.Value.TheVariants as value
use Rattle.kind_values.specs.BigEndian.{signed_bytes}
use Rattle.kind_values.specs.LittleEndian.{int_of, long_of, int_bytes, long_bytes}
use Rattle.kind_values.specs.KindValues.{of_kind, decimal_of}

-- any byte but 0 is true
abbrev pub bool_of : List ℕ → Option Value
bool_of (byte ∷ []) = Some (value.Bool (not (nat_eq byte 0)))
bool_of _ = None

-- what the bytes say, of whatever range
abbrev pub content_of : Kind → List ℕ → Option Value
content_of kind.Bool bytes = bool_of bytes
content_of kind.Int bytes = option_map value.Int (int_of bytes)
content_of kind.Long bytes = by_option (long_of bytes) (λ n. Some (value.Long n)) (option_map value.Long (int_of bytes))
content_of kind.Date bytes = option_map value.Date (int_of bytes)
content_of (kind.Timestamp utc) bytes = option_map value.Timestamp (long_of bytes)
content_of (kind.Decimal precision scale) bytes = decimal_of scale bytes
content_of kind.Text bytes = Some (value.Text bytes)
content_of kind.Bytes bytes = Some (value.Bytes bytes)

-- None where the bytes are no value of the kind
abbrev pub bound_of : Kind → List ℕ → Option Value
bound_of k bytes = option_and_then (of_kind k) (content_of k bytes)

-- ---- writing

-- the bytes of a value, of which NULL has none
abbrev pub bytes_of : Value → List ℕ
bytes_of value.Null = []
bytes_of (value.Bool b) = (if b then 1 else 0) ∷ []
bytes_of (value.Int n) = int_bytes n
bytes_of (value.Long n) = long_bytes n
bytes_of (value.Date n) = int_bytes n
bytes_of (value.Timestamp n) = long_bytes n
bytes_of (value.Decimal n scale) = signed_bytes n
bytes_of (value.Text bytes) = bytes
bytes_of (value.Bytes bytes) = bytes

-- a decimal of 1 to 38 digits, with a scale of at most its precision ("Primitive Types")
abbrev pub is_kind : Kind → Bool
is_kind (kind.Decimal precision scale) = nat_le 1 precision && (nat_le precision 38 && nat_le scale precision)
is_kind _ = true
