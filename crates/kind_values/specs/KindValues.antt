-- The values of a kind: within its range, and a text of UTF-8 (Iceberg specification, "Primitive Types"). Whatever reads
-- values from a file keeps no others.
use Rattle.std.specs.Prelude.{ℕ, nat_lt, List, length, Bool, ◌&&◌, Option, Some, None, if◌then◌else◌}
use Rattle.row_values.specs.declared.kind.Kind.{Kind}
use Rattle.row_values.specs.declared.value.Value.{Value}
use Rattle.row_values.specs.declared.value.Value.TheVariants as value
use Rattle.row_values.specs.Rows.{is_value}
use Rattle.kind_values.specs.BigEndian.{signed_of}

-- the value, where it is one of the kind
abbrev pub of_kind : Kind → Value → Option Value
of_kind k v = if is_value k v then Some v else None

-- the sizes whose amounts have 128 bits
abbrev pub is_decimal_size : ℕ → Bool
is_decimal_size size = nat_lt 0 size && nat_lt size 17

-- the amount that the bytes are, of this scale
abbrev pub decimal_of : ℕ → List ℕ → Option Value
decimal_of scale bytes = if is_decimal_size (length bytes) then Some (value.Decimal (signed_of bytes) scale) else None
