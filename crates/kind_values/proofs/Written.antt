-- Numbers that are written are read again.
use Rattle.std.proofs.Common.{◌≡◌, ℕ, zero, suc, ◌+◌, ◌-◌, ◌*◌, ◌/◌, ◌%◌, ◌<◌, ◌≤◌, ◌^◌, ℤ, pos, negsuc, ◌+ℤ◌, ◌-ℤ◌, ◌*ℤ◌, arith, FitsSigned, Bool, true, false, nat_lt, cond, refl, ap, ◌∙◌, List, [], ◌∷◌, ◌++◌, length, Option, Some}
use Rattle.std.specs.Int.{w32, w64, w128}
use Rattle.std.proofs.lemmas.Bool.Decides.{nat_tests}
use Rattle.std.proofs.lemmas.Int.{ints}
use Rattle.std.proofs.lemmas.List.{length-append}
use Rattle.std.proofs.Math.Nat.{pow-suc}
use Rattle.kind_values.specs.LittleEndian.{unsigned_from, with_sign, int_of, long_of, lowest_first, without_sign, int_bytes, long_bytes}
use Rattle.kind_values.specs.BigEndian.{first_digit, digits_from, signed_of, digit, digits_of, count_up_to, is_negative, size_of, bytes_in, byte_count, signed_bytes}

-- ---- the lowest first

unsigned_again : (count number : ℕ) → number < 256 ^ count → unsigned_from (lowest_first count number) ≡ number
unfolding lowest_first
unsigned_again zero number lt = omega arith
unsigned_again (suc more) number lt =
    let power : 256 ^ suc more ≡ 256 ^ more * 256 = pow-suc 256 more in
    let high : number / 256 < 256 ^ more = omega arith in
    ap (λ (n : ℕ). number % 256 + 256 * n) (unsigned_again more (number / 256) high) ∙ omega arith

sign_again : (half : ℕ) (number : ℤ) (size : ℕ) → size ≡ size_of number → size < half → with_sign half (without_sign half number) ≡ number
sign_again half (pos n) size is lt =
    let test : nat_lt n half ≡ true = grind (arith, nat_tests) in
    ap (λ (b : Bool). cond b (pos n) (pos n -ℤ pos (2 * half))) test
sign_again half (negsuc n) size is lt =
    let test : nat_lt (2 * half - 1 - n) half ≡ false = grind (arith, nat_tests) in
    ap (λ (b : Bool). cond b (pos (2 * half - 1 - n)) (pos (2 * half - 1 - n) -ℤ pos (2 * half))) test ∙ omega (arith, ints)

int_size : (number : ℤ) → FitsSigned w32 number → size_of number < 2 ^ 31
int_size (pos n) fits = omega (arith, ints)
int_size (negsuc n) fits = omega (arith, ints)

long_size : (number : ℤ) → FitsSigned w64 number → size_of number < 2 ^ 63
long_size (pos n) fits = omega (arith, ints)
long_size (negsuc n) fits = omega (arith, ints)

unsigned_below : (half : ℕ) (number : ℤ) → size_of number < half → without_sign half number < 2 * half
unsigned_below half (pos n) lt = omega arith
unsigned_below half (negsuc n) lt = omega arith

pub int_again : (number : ℤ) → FitsSigned w32 number → int_of (int_bytes number) ≡ Some number
unfolding lowest_first
int_again number fits =
    let small : size_of number < 2 ^ 31 = int_size number fits in
    let below : without_sign (2 ^ 31) number < 2 * 2 ^ 31 = unsigned_below (2 ^ 31) number small in
    ap (λ (n : ℕ). (let o : Option ℤ = Some (with_sign (2 ^ 31) n) in o)) (unsigned_again 4 (without_sign (2 ^ 31) number) below) ∙ ap (λ (n : ℤ). (let o : Option ℤ = Some n in o)) (sign_again (2 ^ 31) number (size_of number) refl small)

pub long_again : (number : ℤ) → FitsSigned w64 number → long_of (long_bytes number) ≡ Some number
unfolding lowest_first
long_again number fits =
    let small : size_of number < 2 ^ 63 = long_size number fits in
    let below : without_sign (2 ^ 63) number < 2 * 2 ^ 63 = unsigned_below (2 ^ 63) number small in
    ap (λ (n : ℕ). (let o : Option ℤ = Some (with_sign (2 ^ 63) n) in o)) (unsigned_again 8 (without_sign (2 ^ 63) number) below) ∙ ap (λ (n : ℤ). (let o : Option ℤ = Some n in o)) (sign_again (2 ^ 63) number (size_of number) refl small)

-- ---- the highest first

abbrev number_of : Bool → ℕ → ℤ
number_of false n = pos n
number_of true n = negsuc n

digits_end : (number : ℤ) (bytes : List ℕ) (byte : ℕ) → digits_from number (bytes ++ byte ∷ []) ≡ (digits_from number bytes *ℤ pos 256) +ℤ pos byte
unfolding digits_from
digits_end number [] byte = refl
digits_end number (b ∷ bs) byte = digits_end ((number *ℤ pos 256) +ℤ pos b) bs byte

signed_end : (bytes : List ℕ) (byte : ℕ) → 0 < length bytes → signed_of (bytes ++ byte ∷ []) ≡ (signed_of bytes *ℤ pos 256) +ℤ pos byte
signed_end [] byte some = absurd (omega arith)
signed_end (b ∷ bs) byte some = digits_end (first_digit b) bs byte

pub digits_length : (negative : Bool) (count size : ℕ) → length (digits_of negative count size) ≡ count
unfolding digits_of
digits_length negative zero size = refl
digits_length negative (suc more) size =
    let before : length (digits_of negative more (size / 256)) ≡ more = digits_length negative more (size / 256) in
    length-append (digits_of negative more (size / 256)) (digit negative (size % 256) ∷ []) ∙ omega arith

one_digit : (negative : Bool) (size : ℕ) → size < 128 → first_digit (digit negative (size % 256)) ≡ number_of negative size
one_digit false size lt =
    let same : size % 256 ≡ size = omega arith in
    let test : nat_lt size 128 ≡ true = grind (arith, nat_tests) in
    ap first_digit same ∙ ap (λ (b : Bool). cond b (pos size) (pos size -ℤ pos 256)) test
one_digit true size lt =
    let same : 255 - size % 256 ≡ 255 - size = omega arith in
    let test : nat_lt (255 - size) 128 ≡ false = grind (arith, nat_tests) in
    ap first_digit same ∙ ap (λ (b : Bool). cond b (pos (255 - size)) (pos (255 - size) -ℤ pos 256)) test ∙ omega (arith, ints)

next_digit : (negative : Bool) (size : ℕ) → (number_of negative (size / 256) *ℤ pos 256) +ℤ pos (digit negative (size % 256)) ≡ number_of negative size
next_digit false size = omega (arith, ints)
next_digit true size = omega (arith, ints)

digits_again : (negative : Bool) (more size : ℕ) → size < 128 * 256 ^ more → signed_of (digits_of negative (suc more) size) ≡ number_of negative size
unfolding digits_of digits_from
digits_again negative zero size lt = one_digit negative size (omega arith)
digits_again negative (suc more) size lt =
    let power : 256 ^ suc more ≡ 256 ^ more * 256 = pow-suc 256 more in
    let high : size / 256 < 128 * 256 ^ more = omega arith in
    let some : length (digits_of negative (suc more) (size / 256)) ≡ suc more = digits_length negative (suc more) (size / 256) in
    signed_end (digits_of negative (suc more) (size / 256)) (digit negative (size % 256)) (omega arith)
    ∙ ap (λ (n : ℤ). (n *ℤ pos 256) +ℤ pos (digit negative (size % 256))) (digits_again negative more (size / 256) high) ∙ next_digit negative size

number_is : (number : ℤ) → number_of (is_negative number) (size_of number) ≡ number
number_is (pos n) = refl
number_is (negsuc n) = refl

-- a number within so many bytes
pub in_again : (more : ℕ) (number : ℤ) → size_of number < 128 * 256 ^ more → signed_of (bytes_in (suc more) number) ≡ number
in_again more number lt = digits_again (is_negative number) more (size_of number) lt ∙ number_is number

enough_by : (more size : ℕ) (b : Bool) → nat_lt size 128 ≡ b → size < 128 * 256 ^ suc more
    → ((size / 256) < 128 * 256 ^ more → (k : ℕ) × (count_up_to more (size / 256) ≡ suc k) × (k ≤ more)
    × (size / 256 < 128 * 256 ^ k)) → (k : ℕ) × (cond b 1 (count_up_to more (size / 256) + 1) ≡ suc k) × (k ≤ suc more)
    × (size < 128 * 256 ^ k)
enough_by more size true test lt later = (0, refl, omega arith, grind (arith, nat_tests))
enough_by more size false test lt later =
    let power : 256 ^ suc more ≡ 256 ^ more * 256 = pow-suc 256 more in
    let l = later (omega arith) in
    let k : ℕ = l.0 in
    let counted : count_up_to more (size / 256) ≡ suc k = l.1 in
    let few : k ≤ more = l.2 in
    let below : size / 256 < 128 * 256 ^ k = l.3 in
    let next : 256 ^ suc k ≡ 256 ^ k * 256 = pow-suc 256 k in
    (suc k, omega arith, omega arith, omega arith)

-- the count is enough
pub enough : (more size : ℕ) → size < 128 * 256 ^ more → (k : ℕ) × (count_up_to more size ≡ suc k) × (k ≤ more) × (size < 128 * 256 ^ k)
unfolding count_up_to
enough zero size lt = (0, refl, omega arith, lt)
enough (suc more) size lt = enough_by more size (nat_lt size 128) refl lt (enough more (size / 256))

wide_size : (number : ℤ) → FitsSigned w128 number → size_of number < 128 * 256 ^ 15
wide_size (pos n) fits = omega (arith, ints)
wide_size (negsuc n) fits = omega (arith, ints)

by_count : (count k : ℕ) (number : ℤ) → count ≡ suc k → size_of number < 128 * 256 ^ k → signed_of (bytes_in count number) ≡ number
by_count count k number is lt = ap (λ (n : ℕ). signed_of (bytes_in n number)) is ∙ in_again k number lt

pub signed_again : (number : ℤ) → FitsSigned w128 number → signed_of (signed_bytes number) ≡ number
signed_again number fits =
    let e = enough 15 (size_of number) (wide_size number fits) in
    by_count (byte_count number) e.0 number e.1 e.3

-- between 1 and 16 bytes
pub some_bytes : (number : ℤ) → FitsSigned w128 number → (1 ≤ length (signed_bytes number)) × (length (signed_bytes number) ≤ 16)
some_bytes number fits =
    let e = enough 15 (size_of number) (wide_size number fits) in
    let same : length (signed_bytes number) ≡ byte_count number = digits_length (is_negative number) (byte_count number) (size_of number) in
    let k : ℕ = e.0 in
    let counted : byte_count number ≡ suc k = e.1 in
    let few : k ≤ 15 = e.2 in
    (omega arith, omega arith)
