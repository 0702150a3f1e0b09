-- Readings by tests, and what holds of each of a list.
use Rattle.std.proofs.Common.{◌≡◌, Bool, true, false, List, [], ◌∷◌, ◌++◌, Result, Ok, Err, refl, subst}
use Rattle.std.specs.Prelude.{if◌then◌else◌}
use Rattle.std.specs.List.{AllByRecursion}
use Rattle.plain_types.proofs.CallerLemmas.{one_value}

abbrev ok : {A : Type 0} → (E : Type 0) → A → Result A E
ok E a = Ok a

-- what holds of the value that a reading gives
pub carried : {A E : Type 0} → (P : A → Type 0) (a b : A) → ok E a ≡ ok E b → P a → P b
carried {E} P a b h is = subst P (one_value a b (ok E a) refl h) is

-- a reading by a test that succeeds is one of the two
pub either : {A E P : Type 0} → (test : Bool) (x y : Result A E) (a : A) → (test ≡ true → x ≡ Ok a → P)
    → (test ≡ false → y ≡ Ok a → P) → (if test then x else y) ≡ Ok a → P
either true x y a is_true is_false h = is_true refl h
either false x y a is_true is_false h = is_false refl h

-- what holds of each, and of one more
pub all_pushed : {X : Type 0} (P : X → Type 0) (xs : List X) (x : X) → AllByRecursion P xs → P x → AllByRecursion P (xs ++ x ∷ [])
all_pushed P [] x are is = (is, tt)
all_pushed P (y ∷ xs) x are is = (are.0, all_pushed P xs x are.1 is)
