-- The widths of numbers.
use Rattle.std.proofs.Common.{◌≡◌, ◌^◌, ◌-◌, ℤ, pos, neg_ℤ, Bool, true, false, ◌&&◌, Some, None, refl, ap, arith, negsuc, w64}
use Rattle.std.specs.Int.RustNames.{FitsSigned}
use Rattle.std.proofs.lemmas.Bool.Decides.{nat_tests}
use Rattle.std.specs.Prelude.{int_lt, int_le, if◌then◌else◌}
use Rattle.std.proofs.lemmas.Int.{ints}
use Rattle.iceberg_schema.specs.Widths.{IsInt, IsLong}

kept : (b : Bool) (n : ℤ) → (if b then Some n else None) ≡ Some n → b ≡ true
kept true n h = refl
kept false n h = absurd cc

both : (a b : Bool) → a ≡ true → b ≡ true → (a && b) ≡ true
both a b h k = cc

first : (a b : Bool) → (a && b) ≡ true → a ≡ true
first true b h = refl
first false b h = absurd cc

second : (a b : Bool) → (a && b) ≡ true → b ≡ true
second true b h = h
second false b h = absurd cc

-- a number of 64 bits is not below the least of them
pub long_least : (n : ℤ) → IsLong n → int_le (neg_ℤ (pos (2 ^ 63))) n ≡ true
long_least n h = first (int_le (neg_ℤ (pos (2 ^ 63))) n) (int_le n (pos (2 ^ 63 - 1))) (kept _ n h)

-- a number of 64 bits is below 2^63
pub long_below : (n : ℤ) → IsLong n → int_lt n (pos (2 ^ 63)) ≡ true
long_below n h = let most : int_le n (pos (2 ^ 63 - 1)) ≡ true = second (int_le (neg_ℤ (pos (2 ^ 63))) n) (int_le n (pos (2 ^ 63 - 1))) (kept _ n h) in
    grind (arith, ints, most)

-- a number between the ends has 64 bits
pub between : (n : ℤ) → int_le (neg_ℤ (pos (2 ^ 63))) n ≡ true → int_lt n (pos (2 ^ 63)) ≡ true → IsLong n
between n h k = let most : int_le n (pos (2 ^ 63 - 1)) ≡ true = grind (arith, ints, k) in
    ap (λ (b : Bool). if b then Some n else None) (both (int_le (neg_ℤ (pos (2 ^ 63))) n) (int_le n (pos (2 ^ 63 - 1))) h most)

-- a number of 32 bits has 64
pub long_of_int : (n : ℤ) → IsInt n → IsLong n
long_of_int n h =
    let all = kept (int_le (neg_ℤ (pos (2 ^ 31))) n && int_le n (pos (2 ^ 31 - 1))) n h in
    let least : int_le (neg_ℤ (pos (2 ^ 31))) n ≡ true = first (int_le (neg_ℤ (pos (2 ^ 31))) n) (int_le n (pos (2 ^ 31 - 1))) all in
    let most : int_le n (pos (2 ^ 31 - 1)) ≡ true = second (int_le (neg_ℤ (pos (2 ^ 31))) n) (int_le n (pos (2 ^ 31 - 1))) all in
    between n (grind (arith, ints, least)) (grind (arith, ints, most))

-- a number of the type has 64 bits
pub long_fits : (n : ℤ) → FitsSigned w64 n → IsLong n
long_fits (pos m) f = between (pos m) refl (grind (arith, nat_tests, f.sfits))
long_fits (negsuc m) f = between (negsuc m) (grind (arith, nat_tests, f.sfits)) refl
