-- Columns with ids of their own.
use Rattle.std.proofs.Common.{◌≡◌, ℤ, Bool, true, false, not, ◌||◌, refl, arith}
use Rattle.std.specs.Ordering.{int_eq}
use Rattle.std.proofs.lemmas.Bool.Decides.{nat_tests}
use Rattle.std.proofs.lemmas.Int.{ints}

pub no_column_here : (b others : Bool) → not (b || others) ≡ true → (b ≡ false) × (not others ≡ true)
no_column_here true others h = absurd cc
no_column_here false others h = (refl, h)

pub turned : (a b : ℤ) → int_eq a b ≡ false → int_eq b a ≡ false
turned a b h = grind (arith, ints, nat_tests)
