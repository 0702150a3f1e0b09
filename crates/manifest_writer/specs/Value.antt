-- A value of a field, and the range that its type has.
use Rattle.std.specs.Prelude.{ℕ, ◌-◌, ◌^◌, nat_lt, if◌then◌else◌, ℤ, pos, int_le, Bool, true, List, Option, Some, None, option_map, option_and_then, is_some, ⊤}
use Rattle.std.specs.Str.{IsUtf8}
use Rattle.row_values.specs.declared.value.Value.{Value}
use Rattle.row_values.specs.declared.value.Value.TheVariants as value
use Rattle.avro_binary.specs.declared.datum.Datum.{Datum}
use Rattle.avro_binary.specs.declared.datum.Datum.TheVariants as datum
use Rattle.avro_binary.specs.Spelling.{IsSignedOf}
use Rattle.row_writer.specs.KindDatum.{optional}

abbrev pub optional_int : Option ℤ → Datum
optional_int number = optional (option_map datum.Int number)

abbrev pub optional_long : Option ℤ → Datum
optional_long number = optional (option_map datum.Long number)

abbrev pub bytes_inside : Value → Option (List ℕ)
bytes_inside (value.Bytes bytes) = Some bytes
bytes_inside _ = None

-- a bound that is bytes
abbrev pub optional_bound : Option Value → Datum
optional_bound bound = optional (option_map datum.Bytes (option_and_then bytes_inside bound))

abbrev pub AreSignedOf : ℕ → Option ℤ → Type 0
AreSignedOf bits None = ⊤
AreSignedOf bits (Some number) = IsSignedOf bits number

-- a count, unless there is none
abbrev pub is_count : Option ℤ → Bool
is_count None = true
is_count (Some number) = int_le (pos 0) number

-- a bound that is bytes, unless there is none
abbrev pub is_bound : Option Value → Bool
is_bound None = true
is_bound (Some bound) = is_some (bytes_inside bound)

abbrev pub optional_text : Option (List ℕ) → Datum
optional_text text = optional (option_map datum.Text text)

abbrev pub AreUtf8 : Option (List ℕ) → Type 0
AreUtf8 None = ⊤
AreUtf8 (Some text) = IsUtf8 text

-- a count as a long; one above the greatest stands at it
abbrev pub count_number : ℕ → ℤ
count_number count = if nat_lt count (2 ^ 63) then pos count else pos (2 ^ 63 - 1)
