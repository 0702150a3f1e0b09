-- The texts of the primitive types (Iceberg specification, "Primitive Types" and Appendix C, "Schemas").
use Rattle.std.specs.Prelude.{ℕ, ◌&&◌, nat_le, nat_eq, if◌then◌else◌, codes, List, length, true, false, Option, Some, None}
use Rattle.std.specs.Cmp.Lexicographic.{pointwise}
use Rattle.row_values.specs.declared.kind.Kind.{Kind}
use Rattle.row_values.specs.declared.kind.Kind.TheVariants as kind
use Rattle.plain_types.specs.Digits.{number_at, after_text, after_blanks}
use Rattle.plain_types.specs.OptionSteps.{◌>>=◌}

-- a decimal of 1 to 38 digits, with a scale of at most its precision
abbrev pub decimal_kind : ℕ → ℕ → Option Kind
decimal_kind precision scale = if nat_le 1 precision && nat_le precision 38 && nat_le scale precision then Some (kind.Decimal precision scale) else None

-- `decimal(P,S)`, with blanks round the two numbers where they please
unfoldable pub decimal_of : List ℕ → Option Kind
decimal_of bytes = do
  numbers ← after_text (codes "decimal(") bytes
  precision ← number_at (after_blanks numbers)
  second ← after_text (codes ",") (after_blanks precision.1)
  scale ← number_at (after_blanks second)
  rest ← after_text (codes ")") (after_blanks scale.1)
  if nat_eq (length rest) 0 then decimal_kind precision.0 scale.0 else None

-- the kind that a type's text names
unfoldable pub kind_of : List ℕ → Option Kind
kind_of text = if pointwise nat_eq text (codes "boolean") then Some kind.Bool
    else (if pointwise nat_eq text (codes "int") then Some kind.Int
    else (if pointwise nat_eq text (codes "long") then Some kind.Long
    else (if pointwise nat_eq text (codes "date") then Some kind.Date
    else (if pointwise nat_eq text (codes "timestamp") then Some (kind.Timestamp false)
    else (if pointwise nat_eq text (codes "timestamptz") then Some (kind.Timestamp true)
    else (if pointwise nat_eq text (codes "string") then Some kind.Text
    else (if pointwise nat_eq text (codes "binary") then Some kind.Bytes else decimal_of text)))))))
