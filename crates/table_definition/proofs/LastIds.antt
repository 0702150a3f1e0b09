-- No id is above the last one.
use Rattle.std.proofs.Common.{◌≡◌, ◌||◌, ℤ, List, [], ◌∷◌, Bool, false, int_lt, fold, map, refl, arith}
use Rattle.std.specs.Int.{int_max}
use Rattle.std.specs.List.{list_any}
use Rattle.std.proofs.lemmas.Int.{ints, clamps}

-- a number that is not above one of two is not above the greater
first_stays : (n a b : ℤ) → int_lt a n ≡ false → int_lt (int_max a b) n ≡ false
first_stays n a b h = grind (arith, ints, clamps)

second_stays : (a b : ℤ) → int_lt (int_max a b) b ≡ false
second_stays a b = grind (arith, ints, clamps)

neither : (a b : Bool) → a ≡ false → b ≡ false → (a || b) ≡ false
neither a b e f = rw (e, f) refl

stays : (n least : ℤ) (ids : List ℤ) → int_lt least n ≡ false → int_lt (fold int_max least ids) n ≡ false
stays n least [] h = h
stays n least (id ∷ ids) h = stays n (int_max least id) ids (first_stays n least id h)

pub none_above : {A : Type 0} (id : A → ℤ) (least : ℤ) (xs : List A) → list_any (λ x. int_lt (fold int_max least (map id xs)) (id x)) xs ≡ false
none_above id least [] = refl
none_above id least (x ∷ xs) =
    neither _ _ (stays (id x) (int_max least (id x)) (map id xs) (second_stays least (id x))) (none_above id (int_max least (id x)) xs)
