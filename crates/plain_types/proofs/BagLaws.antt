-- Laws of bags: totals of weights, members, tests for a member, and lists with no two alike.
use Rattle.std.proofs.Common.{◌≡◌, refl, sym, ap, subst, true≢false, ◌∙◌, ℕ, zero, suc, ◌+◌, ◌-◌, ◌≤◌, ◌⊎◌, inl, inr, ⊎_elim, Bool, true, false, cond, ◌||◌, nat_lt, List, [], ◌∷◌, ◌++◌, map, filter, flat_map, sum_by, count_by, IsPermutation, arith}
use Rattle.std.specs.List.{list_any}
use Rattle.std.proofs.lemmas.Bool.{or_cases, or_parts, or_from, or_left, or_right}
use Rattle.std.proofs.lemmas.List.Folds.{list_any-append}
use Rattle.std.proofs.lemmas.List.Sums.{sum_by-cons}
use Rattle.std.proofs.lemmas.List.Sorted.{IsPermutation-refl, IsPermutation-sym, IsPermutation-trans, IsPermutation-cons, IsPermutation-middle, sum_by-IsPermutation}
use Rattle.plain_types.specs.Bags.{total, SameBag, In, has, Apart, Tells}

module _ {X : Type 0} (weight : X → ℕ) where
  -- total is std's sum
  pub total-sum_by : (xs : List X) → total weight xs ≡ sum_by weight xs
  total-sum_by [] = refl
  total-sum_by (x ∷ xs) = omega (arith, total-sum_by xs, sum_by-cons weight x xs)

  -- the total of two lists joined
  pub total-append : (xs ys : List X) → total weight (xs ++ ys) ≡ total weight xs + total weight ys
  total-append [] ys = omega arith
  total-append (x ∷ xs) ys = omega (arith, total-append xs ys)

  kept : (x : X) (xs : List X) (b : Bool) → total weight (cond b (x ∷ xs) xs) ≡ cond b (weight x) 0 + total weight xs
  kept x xs true = refl
  kept x xs false = omega arith

  -- the total of the members that pass
  pub total-filter : (test : X → Bool) (xs : List X) → total weight (filter test xs) ≡ total (λ x. cond (test x) (weight x) 0) xs
  total-filter test [] = refl
  total-filter test (x ∷ xs) = omega (arith, total-filter test xs, kept x (filter test xs) (test x))

  -- the total of images
  pub total-map : {W : Type 0} (f : W → X) (xs : List W) → total weight (map f xs) ≡ total (λ x. weight (f x)) xs
  total-map f [] = refl
  total-map f (x ∷ xs) = omega (arith, total-map f xs)

  -- the total of what each member gives
  pub total-flat_map : {W : Type 0} (f : W → List X) (xs : List W) → total weight (flat_map f xs) ≡ total (λ x. total weight (f x)) xs
  total-flat_map f [] = refl
  total-flat_map f (x ∷ xs) = omega (arith, total-flat_map f xs, total-append (f x) (flat_map f xs))

-- two weights added
pub total-plus : {X : Type 0} (first second : X → ℕ) (xs : List X) → total (λ x. first x + second x) xs ≡ total first xs + total second xs
total-plus first second [] = omega arith
total-plus first second (x ∷ xs) = omega (arith, total-plus first second xs)

-- weights that agree on the members
pub total-weights : {X : Type 0} (first second : X → ℕ) (xs : List X) → ((x : X) → In x xs → first x ≡ second x) → total first xs ≡ total second xs
total-weights first second [] agree = refl
total-weights first second (x ∷ xs) agree = omega (arith, agree x (inl refl), total-weights first second xs (λ y there. agree y (inr there)))

-- a bag is itself
pub SameBag-refl : {X : Type 0} (xs : List X) → SameBag xs xs
SameBag-refl xs weight = refl

-- either side may stand first
pub SameBag-sym : {X : Type 0} (xs ys : List X) → SameBag xs ys → SameBag ys xs
SameBag-sym xs ys same weight = sym (same weight)

-- two steps are one
pub SameBag-trans : {X : Type 0} (xs ys zs : List X) → SameBag xs ys → SameBag ys zs → SameBag xs zs
SameBag-trans xs ys zs first second weight = first weight ∙ second weight

-- the same bag before the same bag
pub SameBag-append : {X : Type 0} (xs ys us vs : List X) → SameBag xs ys → SameBag us vs → SameBag (xs ++ us) (ys ++ vs)
SameBag-append xs ys us vs first second weight = omega (arith, total-append weight xs us, total-append weight ys vs, first weight, second weight)

-- which list comes first does not matter
pub SameBag-append_comm : {X : Type 0} (xs ys : List X) → SameBag (xs ++ ys) (ys ++ xs)
SameBag-append_comm xs ys weight = omega (arith, total-append weight xs ys, total-append weight ys xs)

-- one more member on both sides
pub SameBag-cons : {X : Type 0} (x : X) (xs ys : List X) → SameBag xs ys → SameBag (x ∷ xs) (x ∷ ys)
SameBag-cons x xs ys same weight = ap (λ n. weight x + n) (same weight)

-- what passes
pub SameBag-filter : {X : Type 0} (test : X → Bool) (xs ys : List X) → SameBag xs ys → SameBag (filter test xs) (filter test ys)
SameBag-filter test xs ys same weight = total-filter weight test xs ∙ same (λ x. cond (test x) (weight x) 0) ∙ sym (total-filter weight test ys)

-- images
pub SameBag-map : {X Y : Type 0} (f : X → Y) (xs ys : List X) → SameBag xs ys → SameBag (map f xs) (map f ys)
SameBag-map f xs ys same weight = total-map weight f xs ∙ same (λ x. weight (f x)) ∙ sym (total-map weight f ys)

-- what each member gives
pub SameBag-flat_map : {X Y : Type 0} (f : X → List Y) (xs ys : List X) → SameBag xs ys → SameBag (flat_map f xs) (flat_map f ys)
SameBag-flat_map f xs ys same weight = total-flat_map weight f xs ∙ same (λ x. total weight (f x)) ∙ sym (total-flat_map weight f ys)

any_by_total : {X : Type 0} (test : X → Bool) (xs : List X) → list_any test xs ≡ nat_lt 0 (total (λ x. cond (test x) 1 0) xs)
any_by_total test [] = refl
any_by_total test (x ∷ xs) = by (test x) (list_any test xs) _ (any_by_total test xs)
  where
    by : (b c : Bool) (n : ℕ) → c ≡ nat_lt 0 n → (b || c) ≡ nat_lt 0 (cond b 1 0 + n)
    by true c n e = grind arith
    by false c n e = grind arith

-- whether some member passes
pub SameBag-list_any : {X : Type 0} (test : X → Bool) (xs ys : List X) → SameBag xs ys → list_any test xs ≡ list_any test ys
SameBag-list_any test xs ys same = any_by_total test xs ∙ ap (nat_lt 0) (same (λ x. cond (test x) 1 0)) ∙ sym (any_by_total test ys)

-- a member of two lists joined is in one of them
pub In-append : {X : Type 0} (x : X) (xs ys : List X) → In x (xs ++ ys) → In x xs ⊎ In x ys
In-append x [] ys there = inr there
In-append x (z ∷ xs) ys (inl here) = inl (inl here)
In-append x (z ∷ xs) ys (inr there) = ⊎_elim (λ h. inl (inr h)) (λ h. inr h) (In-append x xs ys there)

-- and back, from the first
pub In-append_left : {X : Type 0} (x : X) (xs ys : List X) → In x xs → In x (xs ++ ys)
In-append_left x [] ys there = absurd there
In-append_left x (z ∷ xs) ys (inl here) = inl here
In-append_left x (z ∷ xs) ys (inr there) = inr (In-append_left x xs ys there)

-- and back, from the second
pub In-append_right : {X : Type 0} (x : X) (xs ys : List X) → In x ys → In x (xs ++ ys)
In-append_right x [] ys there = there
In-append_right x (z ∷ xs) ys there = inr (In-append_right x xs ys there)

-- a member that passes is one of the list's
pub In-filter : {X : Type 0} (x : X) (test : X → Bool) (xs : List X) → In x (filter test xs) → In x xs × (test x ≡ true)
In-filter x test [] there = absurd there
In-filter x test (y ∷ xs) there = by (test y) refl (λ later. In-filter x test xs later) there
  where
    by : (b : Bool) → test y ≡ b → (In x (filter test xs) → In x xs × (test x ≡ true))
        → In x (cond b (y ∷ filter test xs) (filter test xs)) → ((x ≡ y) ⊎ In x xs) × (test x ≡ true)
    by true passes found (inl here) = (inl here, ap test here ∙ passes)
    by true passes found (inr later) = (inr (found later).0, (found later).1)
    by false passes found later = (inr (found later).0, (found later).1)

-- and back
pub In-filter_from : {X : Type 0} (x : X) (test : X → Bool) (xs : List X) → In x xs → test x ≡ true → In x (filter test xs)
In-filter_from x test [] there passes = absurd there
In-filter_from x test (y ∷ xs) there passes = by (test y) refl (λ later. In-filter_from x test xs later passes) there
  where
    by : (b : Bool) → test y ≡ b → (In x xs → In x (filter test xs)) → (x ≡ y) ⊎ In x xs → In x (cond b (y ∷ filter test xs) (filter test xs))
    by true is kept (inl here) = inl here
    by true is kept (inr later) = inr (kept later)
    by false is kept (inl here) = absurd (true≢false (sym passes ∙ ap test here ∙ is))
    by false is kept (inr later) = kept later

-- a member of the images is an image of a member
pub In-map : {X Y : Type 0} (y : Y) (f : X → Y) (xs : List X) → In y (map f xs) → (x : X) × In x xs × (y ≡ f x)
In-map y f [] there = absurd there
In-map y f (x ∷ xs) (inl here) = (x, inl refl, here)
In-map y f (x ∷ xs) (inr later) = let found = In-map y f xs later in (found.0, inr found.1, found.2)

-- and back
pub In-map_from : {X Y : Type 0} (x : X) (f : X → Y) (xs : List X) → In x xs → In (f x) (map f xs)
In-map_from x f [] there = absurd there
In-map_from x f (z ∷ xs) (inl here) = inl (ap f here)
In-map_from x f (z ∷ xs) (inr later) = inr (In-map_from x f xs later)

-- what some member gives
pub In-flat_map : {X Y : Type 0} (y : Y) (f : X → List Y) (xs : List X) → In y (flat_map f xs) → (x : X) × In x xs × In y (f x)
In-flat_map y f [] there = absurd there
In-flat_map y f (x ∷ xs) there = ⊎_elim (λ here. (x, inl refl, here)) (λ later. let found = In-flat_map y f xs later in (found.0, inr found.1, found.2)) (In-append y (f x) (flat_map f xs) there)

-- and back
pub In-flat_map_from : {X Y : Type 0} (y : Y) (x : X) (f : X → List Y) (xs : List X) → In x xs → In y (f x) → In y (flat_map f xs)
In-flat_map_from y x f [] there given = absurd there
In-flat_map_from y x f (z ∷ xs) (inl here) given = In-append_left y (f z) (flat_map f xs) (subst (λ w. In y (f w)) here given)
In-flat_map_from y x f (z ∷ xs) (inr later) given = In-append_right y (f z) (flat_map f xs) (In-flat_map_from y x f xs later given)

module _ {X : Type 0} {same : X → X → Bool} (tells : Tells same) where
  -- the test finds each member
  pub has-In : (x : X) (xs : List X) → In x xs → has same x xs ≡ true
  has-In x [] there = absurd there
  has-In x (y ∷ xs) (inl here) = or_left (same x y) (has same x xs) (ap (same x) (sym here) ∙ tells.itself x)
  has-In x (y ∷ xs) (inr later) = or_right (same x y) (has same x xs) (has-In x xs later)

  -- and nothing else
  pub In-has : (x : X) (xs : List X) → has same x xs ≡ true → In x xs
  In-has x [] found = absurd (cc)
  In-has x (y ∷ xs) found = ⊎_elim (λ here. inl (tells.means x y here)) (λ later. inr (In-has x xs later)) (or_cases (same x y) (has same x xs) found)

has-filter_none : {X : Type 0} (same : X → X → Bool) (x : X) (test : X → Bool) (xs : List X) → has same x xs ≡ false → has same x (filter test xs) ≡ false
has-filter_none same x test [] none = refl
has-filter_none same x test (y ∷ xs) none = let parts = or_parts (same x y) (has same x xs) none in by (test y) parts.0 (has-filter_none same x test xs parts.1)
  where
    by : (b : Bool) → same x y ≡ false → has same x (filter test xs) ≡ false → has same x (cond b (y ∷ filter test xs) (filter test xs)) ≡ false
    by true first rest = or_from (same x y) (has same x (filter test xs)) first rest
    by false first rest = rest

-- no two alike among those that pass
pub Apart-filter : {X : Type 0} (same : X → X → Bool) (test : X → Bool) (xs : List X) → Apart same xs → Apart same (filter test xs)
Apart-filter same test [] apart = tt
Apart-filter same test (x ∷ xs) apart = by (test x) (Apart-filter same test xs apart.1)
  where
    by : (b : Bool) → Apart same (filter test xs) → Apart same (cond b (x ∷ filter test xs) (filter test xs))
    by true rest = (has-filter_none same x test xs apart.0, rest)
    by false rest = rest

-- what no two alike among two lists joined says of each, and of one in the other
pub Apart-append : {X : Type 0} (same : X → X → Bool) (xs ys : List X) → Apart same (xs ++ ys) → Apart same xs × Apart same ys
    × ((x : X) → In x xs → has same x ys ≡ false)
Apart-append same [] ys apart = (tt, apart, λ x there. absurd there)
Apart-append {X} same (x ∷ xs) ys apart =
    let rest = Apart-append same xs ys apart.1 in
    let parts = or_parts (has same x xs) (has same x ys) (sym (list_any-append (same x) xs ys) ∙ apart.0) in
    ((parts.0, rest.0), rest.1, λ z. ⊎_elim (λ here. ap (λ w. has same w ys) here ∙ parts.1) (λ later. rest.2 z later))

-- and back
pub Apart-append_from : {X : Type 0} (same : X → X → Bool) (xs ys : List X) → Apart same xs → Apart same ys
    → ((x : X) → In x xs → has same x ys ≡ false) → Apart same (xs ++ ys)
Apart-append_from same [] ys first second between = second
Apart-append_from same (x ∷ xs) ys first second between = (list_any-append (same x) xs ys ∙ or_from (has same x xs) (has same x ys) first.0 (between x (inl refl)), Apart-append_from same xs ys first.1 second (λ z later. between z (inr later)))

-- a weight of nothing
pub total-zero : {X : Type 0} (xs : List X) → total (λ x. 0) xs ≡ 0
total-zero [] = refl
total-zero (x ∷ xs) = omega (arith, total-zero xs)

-- a double sum, the other way round
pub total-total : {X Y : Type 0} (weight : X → Y → ℕ) (xs : List X) (ys : List Y)
    → total (λ x. total (λ y. weight x y) ys) xs ≡ total (λ y. total (λ x. weight x y) xs) ys
total-total weight [] ys = sym (total-zero ys)
total-total weight (x ∷ xs) ys = omega (arith, total-total weight xs ys, total-plus (λ y. weight x y) (λ y. total (λ z. weight z y) xs) ys)

module _ {X : Type 0} {same : X → X → Bool} (tells : Tells same) where
  alike_once : (x : X) (n : ℕ) (ys : List X) → Apart same ys → cond (has same x ys) n 0 ≡ total (λ y. cond (same x y) n 0) ys
  alike_once x n [] apart = refl
  alike_once x n (y ∷ ys) apart = by (same x y) refl (has same x ys) refl (alike_once x n ys apart.1)
    where
      by : (b : Bool) → same x y ≡ b → (c : Bool) → has same x ys ≡ c → cond c n 0 ≡ total (λ z. cond (same x z) n 0) ys
          → cond (b || c) n 0 ≡ cond b n 0 + total (λ z. cond (same x z) n 0) ys
      by true here true later rest = absurd (true≢false (sym later ∙ ap (λ z. has same z ys) (tells.means x y here) ∙ apart.0))
      by true here false later rest = omega arith
      by false here c later rest = omega arith

  -- what two lists with no two alike have in common weighs the same, counted in either
  pub total-common : (weight : X → ℕ) (xs ys : List X) → Apart same xs → Apart same ys
      → total (λ x. cond (has same x ys) (weight x) 0) xs ≡ total (λ y. cond (has same y xs) (weight y) 0) ys
  total-common weight xs ys first second =
      total-weights (λ x. cond (has same x ys) (weight x) 0) (λ x. total (λ y. cond (same x y) (weight x) 0) ys) xs (λ x there. alike_once x (weight x) ys second)
      ∙ total-total (λ x y. cond (same x y) (weight x) 0) xs ys
      ∙ total-weights (λ y. total (λ x. cond (same x y) (weight x) 0) xs) (λ y. cond (has same y xs) (weight y) 0) ys
      (λ y there. total-weights (λ x. cond (same x y) (weight x) 0) (λ x. cond (same y x) (weight y) 0) xs (λ x here. either_way x y (same x y) refl (same y x) refl) ∙ sym (alike_once y (weight y) xs first))
    where
      either_way : (x y : X) (b : Bool) → same x y ≡ b → (c : Bool) → same y x ≡ c → cond b (weight x) 0 ≡ cond c (weight y) 0
      either_way x y true p true q = ap weight (tells.means x y p)
      either_way x y true p false q = absurd (true≢false (sym (tells.itself y) ∙ ap (same y) (sym (tells.means x y p)) ∙ q))
      either_way x y false p true q = absurd (true≢false (sym (tells.itself x) ∙ ap (same x) (sym (tells.means y x q)) ∙ p))
      either_way x y false p false q = refl

-- a bag has equal counts for every test
pub SameBag-count_by : {X : Type 0} (xs ys : List X) → SameBag xs ys → (test : X → Bool) → count_by test xs ≡ count_by test ys
SameBag-count_by {X} xs ys same test = let weight : X → ℕ = λ x. cond (test x) 1 0 in sym (total-sum_by weight xs) ∙ same weight ∙ total-sum_by weight ys

bounded : {X : Type 0} (weight : X → ℕ) (x : X) (xs : List X) → In x xs → weight x ≤ total weight xs
bounded weight x [] there = absurd there
bounded weight x (y ∷ xs) (inl here) = omega (arith, ap weight here)
bounded weight x (y ∷ xs) (inr later) = omega (arith, bounded weight x xs later)

none_weighs : {X : Type 0} (weight : X → ℕ) (xs : List X) → ((x : X) → In x xs → weight x ≤ 0) → total weight xs ≡ 0
none_weighs weight xs light = total-weights weight (λ x. 0) xs (λ x there. omega (arith, light x there)) ∙ total-zero xs

one_off : (n : ℕ) → n ≡ cond (nat_lt 0 n) 1 0 + (n - 1)
one_off n = grind arith

by_counts : {X : Type 0} (xs ys : List X) → ((test : X → Bool) → count_by test xs ≡ count_by test ys)
    → (bound : ℕ) (weight : X → ℕ) → ((x : X) → In x xs → weight x ≤ bound) → ((x : X) → In x ys → weight x ≤ bound) → total weight xs ≡ total weight ys
by_counts xs ys counts zero weight first second = none_weighs weight xs first ∙ sym (none_weighs weight ys second)
by_counts {X} xs ys counts (suc bound) weight first second =
    let ones : X → ℕ = λ x. cond (nat_lt 0 (weight x)) 1 0 in
    let less : X → ℕ = λ x. weight x - 1 in
    let split : (zs : List X) → total weight zs ≡ total ones zs + total less zs = λ zs. total-weights weight (λ x. ones x + less x) zs (λ x there. one_off (weight x)) ∙ total-plus ones less zs in
    let counted : total ones xs ≡ total ones ys = total-sum_by ones xs ∙ counts (λ x. nat_lt 0 (weight x)) ∙ sym (total-sum_by ones ys) in
    let smaller : total less xs ≡ total less ys = by_counts xs ys counts bound less (λ x there. omega (arith, first x there)) (λ x there. omega (arith, second x there)) in
    omega (arith, split xs, split ys, counted, smaller)

-- and equal counts for every test make a bag
pub SameBag-from_counts : {X : Type 0} (xs ys : List X) → ((test : X → Bool) → count_by test xs ≡ count_by test ys) → SameBag xs ys
SameBag-from_counts xs ys counts weight =
    by_counts xs ys counts (total weight xs + total weight ys) weight (λ x there. omega (arith, bounded weight x xs there)) (λ x there. omega (arith, bounded weight x ys there))

-- a list in another order is the same bag
pub SameBag-from_permutation : {X : Type 0} (xs ys : List X) → IsPermutation xs ys → SameBag xs ys
SameBag-from_permutation xs ys moved weight = total-sum_by weight xs ∙ sym (sum_by-IsPermutation weight xs ys moved) ∙ sym (total-sum_by weight ys)

-- a member has a front before it and a rest after it
split_at_member : {X : Type 0} (x : X) (ys : List X) → In x ys → (front : List X) × (rest : List X) × (ys ≡ front ++ x ∷ rest)
split_at_member x [] there = absurd there
split_at_member x (y ∷ ys) (inl here) = ([], ys, ap (λ z. z ∷ ys) (sym here))
split_at_member x (y ∷ ys) (inr later) = let found = split_at_member x ys later in (y ∷ found.0, found.1, ap (λ l. y ∷ l) found.2)

-- the same bag as one with x holds x, and is the same bag without it
pub SameBag-taken : {X : Type 0} {same : X → X → Bool} (tells : Tells same) (x : X) (xs ys : List X) → SameBag (x ∷ xs) ys
    → (front : List X) × (rest : List X) × (ys ≡ front ++ x ∷ rest) × SameBag xs (front ++ rest)
SameBag-taken {same = same} tells x xs ys bag =
    let found = split_at_member x ys (In-has tells x ys (sym (SameBag-list_any (same x) (x ∷ xs) ys bag) ∙ has-In tells x (x ∷ xs) (inl refl))) in
    (found.0, found.1, found.2, λ weight. omega (arith, bag weight, ap (total weight) found.2, total-append weight found.0 (x ∷ found.1), total-append weight found.0 found.1))

-- the same bag is a list in another order
pub IsPermutation-from_SameBag : {X : Type 0} {same : X → X → Bool} (tells : Tells same) (xs ys : List X) → SameBag xs ys → IsPermutation xs ys
IsPermutation-from_SameBag {X} tells [] [] bag = IsPermutation-refl []
IsPermutation-from_SameBag {X} tells [] (y ∷ ys) bag = absurd (omega (arith, bag (λ x. 1)))
IsPermutation-from_SameBag {X} tells (x ∷ xs) ys bag =
    let found = SameBag-taken tells x xs ys bag in
    let rest : IsPermutation (x ∷ xs) (x ∷ (found.0 ++ found.1)) = IsPermutation-cons x xs (found.0 ++ found.1) (IsPermutation-from_SameBag tells xs (found.0 ++ found.1) found.3) in
    let back : IsPermutation (x ∷ (found.0 ++ found.1)) (found.0 ++ x ∷ found.1) = IsPermutation-sym (found.0 ++ x ∷ found.1) (x ∷ (found.0 ++ found.1)) (IsPermutation-middle found.0 x found.1) in
    subst (λ l. IsPermutation (x ∷ xs) l) (sym found.2) (IsPermutation-trans (x ∷ xs) (x ∷ (found.0 ++ found.1)) (found.0 ++ x ∷ found.1) rest back)
