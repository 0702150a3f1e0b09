-- What a value of a kind is, and a row of a schema (Iceberg specification, "Primitive Types" and "Schemas and Data
-- Types"). The ranges of days and of decimal digits are the project's limits.
use Rattle.std.specs.Prelude.{ℕ, ℤ, pos, neg_ℤ, ◌-◌, ◌*◌, ◌^◌, Bool, true, false, not, ◌&&◌, ◌==◌, nat_lt, int_le, if◌then◌else◌, List, [], ◌∷◌, IsTrue}
use Rattle.std.specs.List.{list_all}
use Rattle.std.specs.Str.{is_utf8}
use Rattle.row_values.specs.declared.kind.Kind.{Kind}
use Rattle.row_values.specs.declared.kind.Kind.TheVariants as kind
use Rattle.row_values.specs.declared.value.Value.{Value}
use Rattle.row_values.specs.declared.value.Value.TheVariants as value
use Rattle.row_values.specs.declared.schema.Column.{Column}

abbrev pub is_between : ℤ → ℤ → ℤ → Bool
is_between low high n = int_le low n && int_le n high

-- 0001-01-01 and 9999-12-31 as days from 1970-01-01
abbrev pub is_day : ℤ → Bool
is_day n = is_between (neg_ℤ (pos 719162)) (pos 2932896) n

-- the microseconds of these days
abbrev pub is_instant : ℤ → Bool
is_instant n = is_between (neg_ℤ (pos (719162 * 86400000000))) (pos (2932897 * 86400000000 - 1)) n

-- an unscaled amount of at most so many digits
abbrev pub has_digits : ℕ → ℤ → Bool
has_digits precision n = is_between (neg_ℤ (pos (10 ^ precision - 1))) (pos (10 ^ precision - 1)) n

-- a value of the kind, which NULL is not
abbrev pub is_value : Kind → Value → Bool
is_value kind.Bool (value.Bool b) = true
is_value kind.Int (value.Int n) = is_between (neg_ℤ (pos (2 ^ 31))) (pos (2 ^ 31 - 1)) n
is_value kind.Long (value.Long n) = is_between (neg_ℤ (pos (2 ^ 63))) (pos (2 ^ 63 - 1)) n
is_value kind.Date (value.Date n) = is_day n
is_value (kind.Timestamp utc) (value.Timestamp n) = is_instant n
is_value (kind.Decimal precision scale) (value.Decimal n s) = s == scale && has_digits precision n
is_value kind.Text (value.Text bytes) = is_utf8 bytes
is_value kind.Bytes (value.Bytes bytes) = list_all (λ b. nat_lt b 256) bytes
is_value _ _ = false

abbrev pub is_null : Value → Bool
is_null value.Null = true
is_null _ = false

-- what the column may hold
abbrev pub is_held : Column → Value → Bool
is_held column v = if is_null v then not column.required else is_value column.kind v

-- a row of these columns
abbrev pub is_row : List Column → List Value → Bool
is_row [] [] = true
is_row (column ∷ columns) (v ∷ vs) = is_held column v && is_row columns vs
is_row [] (v ∷ vs) = false
is_row (column ∷ columns) [] = false

-- each of the rows is a row of these columns
abbrev pub AreRows : List Column → List (List Value) → Type 0
AreRows columns rows = IsTrue (list_all (is_row columns) rows)
