-- Whole numbers as big-endian two's complement, the highest byte first (Iceberg specification, Appendix D, "Binary
-- single-value serialization"; Avro 1.11.1, "Decimal").
use Rattle.std.specs.Prelude.{ℕ, zero, suc, nat_lt, ◌+◌, ◌-◌, ◌*◌, ◌/◌, ◌%◌, ◌^◌, ℤ, pos, negsuc, neg_ℤ, ◌+ℤ◌, ◌-ℤ◌, ◌*ℤ◌, ◌≤ℤ◌, ◌<ℤ◌, Bool, true, false, if◌then◌else◌, List, [], ◌∷◌, ◌++◌}

-- the first byte, which carries the sign
abbrev pub first_digit : ℕ → ℤ
first_digit byte = if nat_lt byte 128 then pos byte else pos byte -ℤ pos 256

-- the number whose digits to the base 256 go on with these bytes
unfoldable pub digits_from : ℤ → List ℕ → ℤ
digits_from number [] = number
digits_from number (byte ∷ bytes) = digits_from ((number *ℤ pos 256) +ℤ pos byte) bytes

abbrev pub signed_of : List ℕ → ℤ
signed_of [] = pos 0
signed_of (byte ∷ bytes) = digits_from (first_digit byte) bytes

-- as far from 0 as a first byte with so many behind it can be
pub record Within (digits : ℕ) (number : ℤ) : Type 0 where
  pub low : neg_ℤ (pos (128 * 256 ^ digits)) ≤ℤ number
  pub high : number <ℤ pos (128 * 256 ^ digits)

-- ---- writing

-- a digit to the base 256, of which a negative number has the complement
abbrev pub digit : Bool → ℕ → ℕ
digit negative byte = if negative then 255 - byte else byte

-- so many digits of a size
unfoldable pub digits_of : Bool → ℕ → ℕ → List ℕ
digits_of negative zero size = []
digits_of negative (suc more) size = digits_of negative more (size / 256) ++ digit negative (size % 256) ∷ []

-- how many bytes a size takes whose first carries the sign; at most `more` behind the first
unfoldable pub count_up_to : ℕ → ℕ → ℕ
count_up_to zero size = 1
count_up_to (suc more) size = if nat_lt size 128 then 1 else count_up_to more (size / 256) + 1

abbrev pub is_negative : ℤ → Bool
is_negative (pos n) = false
is_negative (negsuc n) = true

-- the size of which a number has the digits: n of -(n + 1)
abbrev pub size_of : ℤ → ℕ
size_of (pos n) = n
size_of (negsuc n) = n

-- the number in so many bytes
abbrev pub bytes_in : ℕ → ℤ → List ℕ
bytes_in count number = digits_of (is_negative number) count (size_of number)

-- the fewest bytes of a number of 128 bits
abbrev pub byte_count : ℤ → ℕ
byte_count number = count_up_to 15 (size_of number)

-- the number in the fewest bytes
abbrev pub signed_bytes : ℤ → List ℕ
signed_bytes number = bytes_in (byte_count number) number
