-- Numbers of the binary encoding (Avro 1.11.1, 'Binary Encoding', 'Primitive Types'): groups of seven bits, the lowest
-- first, each byte but the last with its high bit set; a signed number n stands as 2n, or as -2n - 1 below 0.
use Rattle.std.specs.Prelude.{ℕ, zero, suc, min, ◌+◌, ◌*◌, ◌/◌, ◌%◌, ◌^◌, ℤ, pos, negsuc, List, [], ◌∷◌, length, take, drop, Ok, Err, nat_lt, nat_le, ◌==◌, ◌&&◌, if◌then◌else◌}
use Rattle.std.specs.Str.{is_utf8}
use Rattle.plain_types.specs.Steps.{◌>>=◌}
use Rattle.avro_binary.specs.declared.fault.FaultKind.TheVariants.{Long, Branch, Text, Size}
use Rattle.avro_binary.specs.Answer.{Part, ended, spot}

-- the groups of a number of at most `more` bytes that is part of the number that begins at `whole`, which is below 2 ^ 64
unfoldable pub groups_at : ℕ → List ℕ → List ℕ → Part ℕ
groups_at zero whole bytes = Err (spot Long whole)
groups_at (suc more) whole [] = Err ended
groups_at (suc more) whole (byte ∷ bytes) = if nat_lt byte 128 then Ok (byte, bytes) else (groups_at more whole bytes >>= λ high. if nat_lt high.0 (2 ^ 57) then Ok (byte % 128 + 128 * high.0, high.1) else Err (spot Long whole))

-- a number of at most ten bytes
abbrev pub number_at : List ℕ → Part ℕ
number_at bytes = groups_at 10 bytes bytes

-- the signed number that a number stands for
abbrev pub signed : ℕ → ℤ
signed n = if n % 2 == 0 then pos (n / 2) else negsuc (n / 2)

unfoldable pub int_at : List ℕ → Part ℤ
int_at bytes = do
  number ← number_at bytes
  if nat_lt number.0 (2 ^ 32) then Ok (signed number.0, number.1) else Err (spot Long bytes)

unfoldable pub long_at : List ℕ → Part ℤ
long_at bytes = do
  number ← number_at bytes
  Ok (signed number.0, number.1)

-- a long that isn't negative
unfoldable pub length_at : List ℕ → Part ℕ
length_at bytes = do
  number ← number_at bytes
  if number.0 % 2 == 0 then Ok (number.0 / 2, number.1) else Err (spot Size bytes)

-- a long that counts from 0 and is below the limit, and below 2 ^ 32
unfoldable pub index_at : ℕ → List ℕ → Part ℕ
index_at limit bytes = do
  number ← number_at bytes
  if (number.0 % 2 == 0) && nat_lt (number.0 / 2) (min limit (2 ^ 32)) then Ok (number.0 / 2, number.1) else Err (spot Branch bytes)

-- so many bytes
unfoldable pub front_at : ℕ → List ℕ → Part (List ℕ)
front_at n bytes = if nat_lt (length bytes) n then Err ended else Ok (take n bytes, drop n bytes)

-- a length, and that many bytes
unfoldable pub bytes_at : List ℕ → Part (List ℕ)
bytes_at bytes = do
  n ← length_at bytes
  front_at n.0 n.1

-- the same where the bytes are UTF-8
unfoldable pub text_at : List ℕ → Part (List ℕ)
text_at bytes = do
  text ← bytes_at bytes
  if is_utf8 text.0 then Ok text else Err (spot Text bytes)

-- how many items a block has by its number: the absolute value
abbrev pub count_of : ℕ → ℕ
count_of number = number / 2 + number % 2

-- the number of a block's count, which counts at most as many items as bytes are left after it
unfoldable pub counted_at : List ℕ → Part ℕ
counted_at bytes = do
  number ← number_at bytes
  if nat_le (count_of number.0) (length number.1) then Ok number else Err (spot Size bytes)

-- A block's count. A negative one is followed by the block's size in bytes.
unfoldable pub count_at : List ℕ → Part ℕ
count_at bytes = do
  number ← counted_at bytes
  if number.0 % 2 == 0 then Ok (number.0 / 2, number.1) else (length_at number.1 >>= λ size. Ok (number.0 / 2 + 1, size.1))
