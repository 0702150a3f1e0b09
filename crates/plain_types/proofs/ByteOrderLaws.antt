-- The byte order of a bag of texts: it is one list for a bag, and the only one of the bag that is sorted.
use Rattle.std.proofs.Common.{◌≡◌, refl, sym, ap, ◌∙◌, true≢false, ℕ, zero, suc, ◌+◌, Bool, true, false, not, List, [], ◌∷◌, ◌++◌, get_or, nat_eq, nat_cmp, is_le, is_lt, is_gt, if◌then◌else◌, Ordering, Less, Equal, Greater, IsPermutation, IsSorted, arith}
use Rattle.std.specs.Cmp.Lexicographic.{slice_cmp, pointwise, same_text}
use Rattle.std.specs.Ordering.{ordering_reverse}
use Rattle.std.proofs.lemmas.Cmp.{nat_list_cmp_total, nat_list_eq_equiv, upto}
use Rattle.std.proofs.lemmas.Map.Lookups.{exact_bytes}
use Rattle.plain_types.specs.Bags.{total, SameBag, Tells}
use Rattle.plain_types.specs.ByteOrder.{with_text, in_byte_order}
use Rattle.plain_types.proofs.BagLaws.{SameBag-from_permutation, SameBag-taken}

-- the test of texts, byte by byte, tells
pub Tells-texts : Tells (pointwise nat_eq)
Tells-texts = record { means = λ x y e. same_text x y (sym e); itself = nat_list_eq_equiv.refl }

abbrev upto_text : List ℕ → List ℕ → Bool
upto_text x y = is_le (slice_cmp nat_cmp x y)

turned : (r s : Ordering) → r ≡ ordering_reverse s → is_lt r ≡ not (is_le s)
turned r Less e = ap is_lt e
turned r Equal e = ap is_lt e
turned r Greater e = ap is_lt e

lt_is : (x y : List ℕ) → is_lt (slice_cmp nat_cmp x y) ≡ not (upto_text y x)
lt_is x y = turned (slice_cmp nat_cmp x y) (slice_cmp nat_cmp y x) (nat_list_cmp_total.antisymm x y)

other_way : (r s : Ordering) → r ≡ ordering_reverse s → is_le r ≡ false → is_le s ≡ true
other_way r Less e h = refl
other_way r Equal e h = refl
other_way r Greater e h = absurd (true≢false (sym (ap is_le e) ∙ h))

either : (x y : List ℕ) → upto_text x y ≡ false → upto_text y x ≡ true
either x y h = other_way (slice_cmp nat_cmp x y) (slice_cmp nat_cmp y x) (nat_list_cmp_total.antisymm x y) h

no_gap : (r s : Ordering) → r ≡ ordering_reverse s → is_le r ≡ true → is_le s ≡ true → r ≡ Equal
no_gap r Less e h k = absurd (true≢false (sym h ∙ ap is_le e))
no_gap r Equal e h k = e
no_gap r Greater e h k = absurd (true≢false (sym k))

one_text : (x y : List ℕ) → upto_text x y ≡ true → upto_text y x ≡ true → x ≡ y
one_text x y h k = exact_bytes x y (no_gap (slice_cmp nat_cmp x y) (slice_cmp nat_cmp y x) (nat_list_cmp_total.antisymm x y) h k)

not_gt : (r : Ordering) → is_le r ≡ not (is_gt r)
not_gt Less = refl
not_gt Equal = refl
not_gt Greater = refl

gt_false : (r : Ordering) → is_le r ≡ true → is_gt r ≡ false
gt_false Less h = refl
gt_false Equal h = refl
gt_false Greater h = absurd (true≢false (sym h))

chain : (x y z : List ℕ) → upto_text x y ≡ true → upto_text y z ≡ true → upto_text x z ≡ true
chain x y z h k = not_gt (slice_cmp nat_cmp x z) ∙ ap not (upto nat_list_cmp_total x y z (gt_false (slice_cmp nat_cmp x y) h) (gt_false (slice_cmp nat_cmp y z) k))

before_it : (text first : List ℕ) (texts : List (List ℕ)) → upto_text text first ≡ true → with_text text (first ∷ texts) ≡ text ∷ first ∷ texts
before_it text first texts h = ap (λ b. if b then text ∷ first ∷ texts else first ∷ with_text text texts) h

after_it : (text first : List ℕ) (texts : List (List ℕ)) → upto_text text first ≡ false → with_text text (first ∷ texts) ≡ first ∷ with_text text texts
after_it text first texts h = ap (λ b. if b then text ∷ first ∷ texts else first ∷ with_text text texts) h

with_smaller : (a b : List ℕ) → upto_text b a ≡ false → (texts : List (List ℕ)) → with_text a (with_text b texts) ≡ with_text b (with_text a texts)
with_smaller a b low [] = before_it a b [] (either b a low) ∙ sym (after_it b a [] low)
with_smaller a b low (f ∷ texts) = by (upto_text a f) refl (upto_text b f) refl (with_smaller a b low texts)
  where
    by : (p : Bool) → upto_text a f ≡ p → (q : Bool) → upto_text b f ≡ q → with_text a (with_text b texts) ≡ with_text b (with_text a texts)
        → with_text a (with_text b (f ∷ texts)) ≡ with_text b (with_text a (f ∷ texts))
    by true p true q rest =
        ap (with_text a) (before_it b f texts q) ∙ before_it a b (f ∷ texts) (either b a low) ∙ ap (λ l. a ∷ l) (sym (before_it b f texts q))
        ∙ sym (after_it b a (f ∷ texts) low) ∙ ap (with_text b) (sym (before_it a f texts p))
    by true p false q rest =
        ap (with_text a) (after_it b f texts q) ∙ before_it a f (with_text b texts) p ∙ ap (λ l. a ∷ l) (sym (after_it b f texts q))
        ∙ sym (after_it b a (f ∷ texts) low) ∙ ap (with_text b) (sym (before_it a f texts p))
    by false p true q rest = absurd (true≢false (sym (chain a b f (either b a low) q) ∙ p))
    by false p false q rest =
        ap (with_text a) (after_it b f texts q) ∙ after_it a f (with_text b texts) p ∙ ap (λ l. f ∷ l) rest
        ∙ sym (after_it b f (with_text a texts) q) ∙ ap (with_text b) (sym (after_it a f texts p))

-- which of two texts goes in first does not matter
with_text-with_text : (a b : List ℕ) (texts : List (List ℕ)) → with_text a (with_text b texts) ≡ with_text b (with_text a texts)
with_text-with_text a b texts = by (upto_text a b) refl (upto_text b a) refl
  where
    by : (p : Bool) → upto_text a b ≡ p → (q : Bool) → upto_text b a ≡ q → with_text a (with_text b texts) ≡ with_text b (with_text a texts)
    by p e false k = with_smaller a b k texts
    by false e true k = sym (with_smaller b a e texts)
    by true e true k = ap (λ c. with_text a (with_text c texts)) (sym (one_text a b e k)) ∙ ap (λ c. with_text c (with_text a texts)) (one_text a b e k)

in_byte_order-middle : (front : List (List ℕ)) (x : List ℕ) (rest : List (List ℕ))
    → in_byte_order (front ++ x ∷ rest) ≡ with_text x (in_byte_order (front ++ rest))
in_byte_order-middle [] x rest = refl
in_byte_order-middle (f ∷ front) x rest = ap (with_text f) (in_byte_order-middle front x rest) ∙ with_text-with_text f x (in_byte_order (front ++ rest))

-- equal bags have one list in byte order
pub in_byte_order-SameBag : (xs ys : List (List ℕ)) → SameBag xs ys → in_byte_order xs ≡ in_byte_order ys
in_byte_order-SameBag [] [] bag = refl
in_byte_order-SameBag [] (y ∷ ys) bag = absurd (omega (arith, bag (λ x. 1)))
in_byte_order-SameBag (x ∷ xs) ys bag =
    let found = SameBag-taken Tells-texts x xs ys bag in
    ap (with_text x) (in_byte_order-SameBag xs (found.0 ++ found.1) found.3) ∙ sym (in_byte_order-middle found.0 x found.1) ∙ ap in_byte_order (sym found.2)

total-with_text : (weight : List ℕ → ℕ) (text : List ℕ) (texts : List (List ℕ)) → total weight (with_text text texts) ≡ weight text + total weight texts
total-with_text weight text [] = refl
total-with_text weight text (f ∷ texts) = by (upto_text text f) (total-with_text weight text texts)
  where
    by : (b : Bool) → total weight (with_text text texts) ≡ weight text + total weight texts
        → total weight (if b then text ∷ f ∷ texts else f ∷ with_text text texts) ≡ weight text + (weight f + total weight texts)
    by true rest = refl
    by false rest = omega arith

-- the list in byte order is the same bag
pub SameBag-in_byte_order : (xs : List (List ℕ)) → SameBag (in_byte_order xs) xs
SameBag-in_byte_order [] weight = refl
SameBag-in_byte_order (x ∷ xs) weight = omega (arith, total-with_text weight x (in_byte_order xs), SameBag-in_byte_order xs weight)

-- the first of the list, if there is one, is not below the text
abbrev Before : List ℕ → List (List ℕ) → Type 0
Before x [] = Unit {0}
Before x (y ∷ ys) = upto_text x y ≡ true

-- each is before the next
abbrev Rising : List (List ℕ) → Type 0
Rising [] = Unit {0}
Rising (x ∷ xs) = Before x xs × Rising xs

Before-with_text : (x text : List ℕ) (texts : List (List ℕ)) → upto_text x text ≡ true → Before x texts → Before x (with_text text texts)
Before-with_text x text [] h before = h
Before-with_text x text (f ∷ texts) h before = by (upto_text text f)
  where
    by : (b : Bool) → Before x (if b then text ∷ f ∷ texts else f ∷ with_text text texts)
    by true = h
    by false = before

Rising-with_text : (text : List ℕ) (texts : List (List ℕ)) → Rising texts → Rising (with_text text texts)
Rising-with_text text [] rising = (tt, tt)
Rising-with_text text (f ∷ texts) rising = by (upto_text text f) refl (Rising-with_text text texts rising.1)
  where
    by : (b : Bool) → upto_text text f ≡ b → Rising (with_text text texts) → Rising (if b then text ∷ f ∷ texts else f ∷ with_text text texts)
    by true h rest = (h, rising)
    by false h rest = (Before-with_text f text texts (either text f h) rising.0, rest)

Rising-in_byte_order : (xs : List (List ℕ)) → Rising (in_byte_order xs)
Rising-in_byte_order [] = tt
Rising-in_byte_order (x ∷ xs) = Rising-with_text x (in_byte_order xs) (Rising-in_byte_order xs)

sorted_from_Rising : (xs : List (List ℕ)) → Rising xs → IsSorted (slice_cmp nat_cmp) xs
sorted_from_Rising [] rising k d low high = absurd (omega arith)
sorted_from_Rising (x ∷ []) rising k d low high = absurd (omega arith)
sorted_from_Rising (x ∷ y ∷ ys) rising zero d low high = lt_is y x ∙ ap not rising.0
sorted_from_Rising (x ∷ y ∷ ys) rising (suc k) d low high =
    let next : suc k + 1 ≡ suc (k + 1) = omega arith in
    ap (λ n. is_lt (slice_cmp nat_cmp (get_or (x ∷ y ∷ ys) n d) (get_or (y ∷ ys) k d))) next ∙ sorted_from_Rising (y ∷ ys) rising.1 k d (omega arith) (omega arith)

not-false_true : (b : Bool) → not b ≡ false → b ≡ true
not-false_true true h = refl
not-false_true false h = absurd (true≢false h)

Rising_from_sorted : (xs : List (List ℕ)) → IsSorted (slice_cmp nat_cmp) xs → Rising xs
Rising_from_sorted [] sorted = tt
Rising_from_sorted (x ∷ []) sorted = (tt, tt)
Rising_from_sorted (x ∷ y ∷ ys) sorted = (
  not-false_true (upto_text x y) (sym (lt_is y x) ∙ sorted 0 x (omega arith) (omega arith)),
  Rising_from_sorted (y ∷ ys) (λ k d low high.
      let next : suc k + 1 ≡ suc (k + 1) = omega arith in
      ap (λ n. is_lt (slice_cmp nat_cmp (get_or (x ∷ y ∷ ys) n d) (get_or (y ∷ ys) k d))) (sym next) ∙ sorted (suc k) d (omega arith) (omega arith)),
)

with_text_first : (x : List ℕ) (xs : List (List ℕ)) → Before x xs → with_text x xs ≡ x ∷ xs
with_text_first x [] before = refl
with_text_first x (y ∷ ys) before = before_it x y ys before

in_byte_order_rising : (xs : List (List ℕ)) → Rising xs → in_byte_order xs ≡ xs
in_byte_order_rising [] rising = refl
in_byte_order_rising (x ∷ xs) rising = ap (with_text x) (in_byte_order_rising xs rising.1) ∙ with_text_first x xs rising.0

-- the list in byte order is sorted
pub IsSorted-in_byte_order : (xs : List (List ℕ)) → IsSorted (slice_cmp nat_cmp) (in_byte_order xs)
IsSorted-in_byte_order xs = sorted_from_Rising (in_byte_order xs) (Rising-in_byte_order xs)

-- a sorted list of the same bag is the list in byte order
pub in_byte_order-from_sorted : (xs ys : List (List ℕ)) → SameBag xs ys → IsSorted (slice_cmp nat_cmp) ys → ys ≡ in_byte_order xs
in_byte_order-from_sorted xs ys bag sorted = sym (in_byte_order-SameBag xs ys bag ∙ in_byte_order_rising ys (Rising_from_sorted ys sorted))

-- what a sort leaves is the list in byte order
pub in_byte_order-from_sort : (xs ys : List (List ℕ)) → IsPermutation xs ys → IsSorted (slice_cmp nat_cmp) ys → ys ≡ in_byte_order xs
in_byte_order-from_sort xs ys moved sorted = in_byte_order-from_sorted xs ys (SameBag-from_permutation xs ys moved) sorted

-- what a function that sorts names in its attribute
pub ruleset byte_order = (in_byte_order-from_sort)
