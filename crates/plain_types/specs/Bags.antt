-- A list read as a bag: what it holds and how often, in no order. SQL's tables are bags of rows.
use Rattle.std.specs.Prelude.{◌≡◌, ℕ, ◌+◌, ◌⊎◌, Bool, true, false, List, [], ◌∷◌}
use Rattle.std.specs.List.{list_any}

-- the weights of all members together
abbrev pub total : {X : Type 0} → (X → ℕ) → List X → ℕ
total weight [] = 0
total weight (x ∷ xs) = weight x + total weight xs

-- One bag: however the members are weighed, the totals are equal.
abbrev pub SameBag : {X : Type 0} → List X → List X → Type 0
SameBag {X} xs ys = (weight : X → ℕ) → total weight xs ≡ total weight ys

-- x is a member
abbrev pub In : {X : Type 0} → X → List X → Type 0
In x [] = ⊥
In x (y ∷ ys) = (x ≡ y) ⊎ In x ys

-- some member is the same as x by this test
abbrev pub has : {X : Type 0} → (X → X → Bool) → X → List X → Bool
has same x ys = list_any (same x) ys

-- no two members are the same by this test
abbrev pub Apart : {X : Type 0} → (X → X → Bool) → List X → Type 0
Apart same [] = Unit {0}
Apart same (x ∷ xs) = (has same x xs ≡ false) × Apart same xs

-- the test answers true exactly on equal values
pub record Tells {X : Type 0} (same : X → X → Bool) : Type 0 where
  pub means : (x y : X) → same x y ≡ true → x ≡ y
  pub itself : (x : X) → same x x ≡ true
