-- Texts of values, as reports print them.
use Rattle.std.specs.Prelude.{ℕ, ◌/◌, ◌%◌, Bool, true, false, nat_eq, if◌then◌else◌, codes, List, [], ◌∷◌}
use Rattle.std.specs.Fmt.{signed_decimal, digit_glyph}
use Rattle.std.specs.List.{flat_map}
use Rattle.row_values.specs.declared.value.Value.{Value}
use Rattle.row_values.specs.declared.value.Value.TheVariants as value

abbrev pub bool_text : Bool → List ℕ
bool_text true = codes "true"
bool_text false = codes "false"

-- a byte as two hexadecimal digits
abbrev pub hex_byte : ℕ → List ℕ
hex_byte b = digit_glyph false (b / 16) ∷ digit_glyph false (b % 16) ∷ []

-- a text that begins with a backslash has one more, so that none is taken for NULL
abbrev pub escaped_text : List ℕ → List ℕ
escaped_text [] = []
escaped_text (b ∷ bs) = if nat_eq b 92 then 92 ∷ b ∷ bs else b ∷ bs

-- The field of a value in a record. Days, instants and amounts stand as the whole numbers that they are kept as.
abbrev pub field_of : Value → List ℕ
field_of value.Null = codes "\\N"
field_of (value.Bool b) = bool_text b
field_of (value.Int n) = signed_decimal n
field_of (value.Long n) = signed_decimal n
field_of (value.Date n) = signed_decimal n
field_of (value.Timestamp n) = signed_decimal n
field_of (value.Decimal n scale) = signed_decimal n
field_of (value.Text bytes) = escaped_text bytes
field_of (value.Bytes bytes) = flat_map hex_byte bytes
