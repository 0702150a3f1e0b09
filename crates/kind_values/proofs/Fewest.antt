-- No fewer bytes hold a number.
use Rattle.std.proofs.Common.{◌≡◌, ℕ, zero, suc, ◌+◌, ◌*◌, ◌/◌, ◌<◌, ◌≤◌, ◌^◌, ℤ, pos, negsuc, ◌+ℤ◌, ◌*ℤ◌, arith, Bool, true, false, nat_lt, cond, refl, subst, List, [], ◌∷◌, length}
use Rattle.std.specs.List.{AllByRecursion}
use Rattle.std.proofs.lemmas.Bool.Decides.{nat_tests}
use Rattle.std.proofs.lemmas.Int.{ints}
use Rattle.std.proofs.Math.Nat.{pow-suc}
use Rattle.kind_values.specs.BigEndian.{Within, first_digit, digits_from, signed_of, is_negative, size_of, count_up_to, byte_count, signed_bytes}
use Rattle.kind_values.proofs.Amounts.{one_more, first_within}
use Rattle.kind_values.proofs.Written.{digits_length}

abbrev IsByte : ℕ → Type 0
IsByte b = b < 256

within_all : (digits : ℕ) (number : ℤ) (bytes : List ℕ) → AllByRecursion IsByte bytes → Within digits number
    → Within (digits + length bytes) (digits_from number bytes)
unfolding digits_from
within_all digits number [] all w = subst (λ (n : ℕ). Within n number) (omega arith) w
within_all digits number (b ∷ bs) (below, others) w =
    subst (λ (n : ℕ). Within n (digits_from ((number *ℤ pos 256) +ℤ pos b) bs)) (omega arith) (within_all (suc digits) ((number *ℤ pos 256) +ℤ pos b) bs others (one_more digits number b below w))

size_within : (digits : ℕ) (number : ℤ) → Within digits number → size_of number < 128 * 256 ^ digits
size_within digits (pos n) w =
    let high = w.high in
    omega (arith, ints)
size_within digits (negsuc n) w =
    let low = w.low in
    omega (arith, ints)

least_by : (more k size : ℕ) (b : Bool) → nat_lt size 128 ≡ b → size < 128 * 256 ^ suc k
    → (size / 256 < 128 * 256 ^ k → count_up_to more (size / 256) ≤ k + 1)
    → cond b 1 (count_up_to more (size / 256) + 1) ≤ suc k + 1
least_by more k size true test lt later = omega arith
least_by more k size false test lt later =
    let power : 256 ^ suc k ≡ 256 ^ k * 256 = pow-suc 256 k in
    let less = later (omega arith) in
    omega arith

least_at : (more size : ℕ) (b : Bool) → nat_lt size 128 ≡ b → size < 128 → cond b 1 (count_up_to more (size / 256) + 1) ≤ 1
least_at more size true test lt = omega arith
least_at more size false test lt = absurd (let t : nat_lt size 128 ≡ true = grind (arith, nat_tests) in cc)

least : (more k size : ℕ) → size < 128 * 256 ^ k → count_up_to more size ≤ k + 1
unfolding count_up_to
least zero k size lt = omega arith
least (suc more) zero size lt = least_at more size (nat_lt size 128) refl (omega arith)
least (suc more) (suc k) size lt = least_by more k size (nat_lt size 128) refl lt (least more k (size / 256))

counted : (number : ℤ) → length (signed_bytes number) ≡ byte_count number
counted number = digits_length (is_negative number) (byte_count number) (size_of number)

-- bytes that are the number are at least as many
pub fewest : (bytes : List ℕ) → AllByRecursion IsByte bytes → 0 < length bytes → length (signed_bytes (signed_of bytes)) ≤ length bytes
fewest [] all some = absurd (omega arith)
fewest (b ∷ bs) (below, others) some =
    let w : Within (0 + length bs) (signed_of (b ∷ bs)) = within_all 0 (first_digit b) bs others (first_within b below) in
    let size : size_of (signed_of (b ∷ bs)) < 128 * 256 ^ (0 + length bs) = size_within (0 + length bs) (signed_of (b ∷ bs)) w in
    let same : length (signed_bytes (signed_of (b ∷ bs))) ≡ byte_count (signed_of (b ∷ bs)) = counted (signed_of (b ∷ bs)) in
    let few : byte_count (signed_of (b ∷ bs)) ≤ (0 + length bs) + 1 = least 15 (0 + length bs) (size_of (signed_of (b ∷ bs))) size in
    omega arith
