-- Readings in steps.
use Rattle.std.proofs.Common.{◌≡◌, Result, Ok, Err, refl}
use Rattle.plain_types.specs.Steps.{◌>>=◌}

-- a reading in two steps that succeeds has two steps that do
pub two_steps : {A B E : Type 0} → (r : Result A E) (f : A → Result B E) (b : B) → (r >>= f) ≡ Ok b → (a : A) × (r ≡ Ok a) × (f a ≡ Ok b)
two_steps (Ok a) f b h = (a, refl, h)
two_steps (Err e) f b h = cc

-- a reading has one value
pub one_value : {A E : Type 0} → (a b : A) (r : Result A E) → r ≡ Ok a → r ≡ Ok b → a ≡ b
one_value a b r h k = cc
