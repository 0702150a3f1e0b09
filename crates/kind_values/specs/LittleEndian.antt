-- Whole numbers as little-endian two's complement, the lowest byte first (Iceberg specification, Appendix D, "Binary
-- single-value serialization").
use Rattle.std.specs.Prelude.{ℕ, zero, suc, ◌+◌, ◌-◌, ◌*◌, ◌/◌, ◌%◌, ◌^◌, nat_lt, ℤ, pos, negsuc, ◌-ℤ◌, if◌then◌else◌, List, [], ◌∷◌, Option, Some, None}

-- the number that the bytes are without a sign
abbrev pub unsigned_from : List ℕ → ℕ
unsigned_from [] = 0
unsigned_from (byte ∷ bytes) = byte + 256 * unsigned_from bytes

-- the upper half of the numbers stands for the negative ones
abbrev pub with_sign : ℕ → ℕ → ℤ
with_sign half number = if nat_lt number half then pos number else pos number -ℤ pos (2 * half)

-- the number that four bytes are
abbrev pub int_of : List ℕ → Option ℤ
int_of (a ∷ b ∷ c ∷ d ∷ []) = Some (with_sign (2 ^ 31) (unsigned_from (a ∷ b ∷ c ∷ d ∷ [])))
int_of _ = None

-- the number that eight bytes are
abbrev pub long_of : List ℕ → Option ℤ
long_of (a ∷ b ∷ c ∷ d ∷ e ∷ f ∷ g ∷ h ∷ []) = Some (with_sign (2 ^ 63) (unsigned_from (a ∷ b ∷ c ∷ d ∷ e ∷ f ∷ g ∷ h ∷ [])))
long_of _ = None

-- ---- writing

-- so many bytes of a number without a sign
unfoldable pub lowest_first : ℕ → ℕ → List ℕ
lowest_first zero number = []
lowest_first (suc more) number = number % 256 ∷ lowest_first more (number / 256)

-- the number that stands for this one, a negative one in the upper half
abbrev pub without_sign : ℕ → ℤ → ℕ
without_sign half (pos n) = n
without_sign half (negsuc n) = 2 * half - 1 - n

-- the four bytes of a number
abbrev pub int_bytes : ℤ → List ℕ
int_bytes number = lowest_first 4 (without_sign (2 ^ 31) number)

-- the eight bytes of a number
abbrev pub long_bytes : ℤ → List ℕ
long_bytes number = lowest_first 8 (without_sign (2 ^ 63) number)
