-- The greater of two depths.
use Rattle.std.proofs.Common.{◌≡◌, ℕ, nat_le, true, false, max, arith}
use Rattle.std.proofs.lemmas.Bool.Decides.{nat_tests}

pub max_above : (a b n : ℕ) → nat_le a n ≡ false → nat_le (max a b) n ≡ false
max_above a b n h = grind (arith, nat_tests)

pub max_within : (a b n : ℕ) → nat_le a n ≡ true → nat_le (max a b) n ≡ nat_le b n
max_within a b n h = grind (arith, nat_tests)
