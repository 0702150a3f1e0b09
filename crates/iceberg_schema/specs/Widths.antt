-- Numbers of the widths that the keys of a table's metadata have (Iceberg specification, "Table Metadata Fields").
use Rattle.std.specs.Prelude.{◌≡◌, ℤ, Some}
use Rattle.iceberg_schema.specs.Keys.{in_int, in_long}

-- a number of 64 bits
abbrev pub IsLong : ℤ → Type 0
IsLong n = in_long n ≡ Some n

-- a number of 32 bits
abbrev pub IsInt : ℤ → Type 0
IsInt n = in_int n ≡ Some n
