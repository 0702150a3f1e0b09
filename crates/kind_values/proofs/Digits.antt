-- Counting the digits of an amount by its size.
use Rattle.std.proofs.Common.{◌≡◌, ℕ, zero, suc, ◌-◌, ◌<◌, ◌≤◌, ◌^◌, ℤ, pos, negsuc, neg_ℤ, arith, FitsSigned, true, nat_lt, sym, ◌∙◌}
use Rattle.std.specs.Int.{w128}
use Rattle.std.specs.Int.RustNames.{unsigned_abs}
use Rattle.std.proofs.lemmas.Int.{ints}
use Rattle.std.proofs.lemmas.Bool.Decides.{nat_tests}
use Rattle.std.proofs.Math.Nat.{pow-le-pow_right, one-le-pow}
use Rattle.row_values.specs.Rows.{is_between, has_digits}

below_cases : (bound : ℕ) (amount : ℤ) → nat_lt (unsigned_abs amount) (suc bound) ≡ is_between (neg_ℤ (pos bound)) (pos bound) amount
below_cases zero (pos n) = grind (arith, nat_tests)
below_cases (suc bound) (pos n) = grind (arith, nat_tests)
below_cases zero (negsuc n) = grind (arith, nat_tests)
below_cases (suc bound) (negsuc n) = grind (arith, nat_tests)

below_by : (size bound : ℕ) (amount : ℤ) → size ≡ suc bound → nat_lt (unsigned_abs amount) size ≡ is_between (neg_ℤ (pos (size - 1))) (pos (size - 1)) amount
below_by size bound amount e =
    let less : size - 1 ≡ bound = omega arith in
    rw (less, e) (below_cases bound amount)

pub below : (precision : ℕ) (amount : ℤ) → nat_lt (unsigned_abs amount) (10 ^ precision) ≡ has_digits precision amount
below precision amount =
    let some : 1 ≤ 10 ^ precision = one-le-pow precision 10 (omega arith) in
    below_by (10 ^ precision) (10 ^ precision - 1) amount (omega arith)

small : (amount : ℤ) → FitsSigned w128 amount → unsigned_abs amount ≤ 2 ^ 127
small (pos n) fit = omega (arith, ints)
small (negsuc n) fit = omega (arith, ints)

-- an amount of 128 bits has few digits
pub few : (precision : ℕ) (amount : ℤ) → 38 < precision → FitsSigned w128 amount → true ≡ has_digits precision amount
few precision amount more fit =
    let power : 10 ^ 39 ≤ 10 ^ precision = pow-le-pow_right (omega arith) more in
    let size : unsigned_abs amount ≤ 2 ^ 127 = small amount fit in
    let lt : unsigned_abs amount < 10 ^ precision = omega arith in
    sym (grind (arith, nat_tests)) ∙ below precision amount

pub power_fits : (precision : ℕ) → precision ≤ 38 → 10 ^ precision < 2 ^ 128
power_fits precision le =
    let power : 10 ^ precision ≤ 10 ^ 38 = pow-le-pow_right (omega arith) le in
    omega arith
