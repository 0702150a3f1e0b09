-- Of paths in byte order the first that stands right before itself is the least that stands more than once.
use Rattle.std.proofs.Common.{◌≡◌, refl, sym, ap, ap₂, subst, ◌∙◌, true≢false, ℕ, ◌+◌, ◌<◌, Bool, true, false, not, ◌||◌, if◌then◌else◌, List, [], ◌∷◌, map, length, sum_by, Option, Some, nat_eq, nat_cmp, is_le, is_lt, is_gt, Ordering, Less, Equal, Greater, Bor, IsPermutation, IsSorted, arith}
use Rattle.std.specs.Cmp.Lexicographic.{slice_cmp, pointwise}
use Rattle.std.specs.Ordering.{ordering_reverse}
use Rattle.std.proofs.lemmas.Cmp.{nat_list_cmp_total, upto}
use Rattle.std.proofs.lemmas.List.{get_or-map, length-map}
use Rattle.std.proofs.lemmas.List.Sums.{sum_by-cons}
use Rattle.std.proofs.lemmas.List.Sorted.{IsPermutation-map, sum_by-IsPermutation}
use Rattle.std.proofs.lemmas.Map.Lookups.{exact_bytes}
use Rattle.plain_types.specs.Bags.{has, total, SameBag}
use Rattle.plain_types.specs.ByteOrder.{with_text, in_byte_order}
use Rattle.plain_types.proofs.CallerLemmas.{Tells-texts}
use Rattle.dml_program.specs.Twice.{again, lower, least, is_first, first_pair}

-- ---- the byte order

abbrev not_above : List ℕ → List ℕ → Bool
not_above x y = is_le (slice_cmp nat_cmp x y)

abbrev alike : List ℕ → List ℕ → Bool
alike = pointwise nat_eq

turned : (r s : Ordering) → r ≡ ordering_reverse s → is_lt r ≡ not (is_le s)
turned r Less e = ap is_lt e
turned r Equal e = ap is_lt e
turned r Greater e = ap is_lt e

lt_is : (x y : List ℕ) → is_lt (slice_cmp nat_cmp x y) ≡ not (not_above y x)
lt_is x y = turned (slice_cmp nat_cmp x y) (slice_cmp nat_cmp y x) (nat_list_cmp_total.antisymm x y)

other_way : (r s : Ordering) → r ≡ ordering_reverse s → is_le r ≡ false → is_le s ≡ true
other_way r Less e h = refl
other_way r Equal e h = refl
other_way r Greater e h = absurd (true≢false (sym (ap is_le e) ∙ h))

either : (x y : List ℕ) → not_above x y ≡ false → not_above y x ≡ true
either x y h = other_way (slice_cmp nat_cmp x y) (slice_cmp nat_cmp y x) (nat_list_cmp_total.antisymm x y) h

no_gap : (r s : Ordering) → r ≡ ordering_reverse s → is_le r ≡ true → is_le s ≡ true → r ≡ Equal
no_gap r Less e h k = absurd (true≢false (sym h ∙ ap is_le e))
no_gap r Equal e h k = e
no_gap r Greater e h k = absurd (true≢false (sym k))

one_text : (x y : List ℕ) → not_above x y ≡ true → not_above y x ≡ true → x ≡ y
one_text x y h k = exact_bytes x y (no_gap (slice_cmp nat_cmp x y) (slice_cmp nat_cmp y x) (nat_list_cmp_total.antisymm x y) h k)

not_gt : (r : Ordering) → is_le r ≡ not (is_gt r)
not_gt Less = refl
not_gt Equal = refl
not_gt Greater = refl

gt_false : (r : Ordering) → is_le r ≡ true → is_gt r ≡ false
gt_false Less h = refl
gt_false Equal h = refl
gt_false Greater h = absurd (true≢false (sym h))

chain : (x y z : List ℕ) → not_above x y ≡ true → not_above y z ≡ true → not_above x z ≡ true
chain x y z h k = not_gt (slice_cmp nat_cmp x z) ∙ ap not (upto nat_list_cmp_total x y z (gt_false (slice_cmp nat_cmp x y) h) (gt_false (slice_cmp nat_cmp y z) k))

itself : (x : List ℕ) → not_above x x ≡ true
itself x = by (not_above x x) refl
  where
    by : (b : Bool) → not_above x x ≡ b → not_above x x ≡ true
    by true e = e
    by false e = either x x e

-- a text above another is not that one
differs : (x y : List ℕ) → not_above x y ≡ false → alike x y ≡ false
differs x y above = by (alike x y) refl
  where
    by : (b : Bool) → alike x y ≡ b → alike x y ≡ false
    by true e = absurd (true≢false (sym (subst (λ (z : List ℕ). not_above x z ≡ true) (Tells-texts.means x y e) (itself x)) ∙ above))
    by false e = e

-- nor the other way round
differs_too : (x y : List ℕ) → not_above x y ≡ false → alike y x ≡ false
differs_too x y above = by (alike y x) refl
  where
    by : (b : Bool) → alike y x ≡ b → alike y x ≡ false
    by true e = absurd (true≢false (sym (subst (λ (z : List ℕ). not_above z y ≡ true) (Tells-texts.means y x e) (itself y)) ∙ above))
    by false e = e

-- a text above another is above all that are not above that
above_too : (x y z : List ℕ) → not_above x y ≡ true → not_above x z ≡ false → not_above y z ≡ false
above_too x y z h above = by (not_above y z) refl
  where
    by : (b : Bool) → not_above y z ≡ b → not_above y z ≡ false
    by true e = absurd (true≢false (sym (chain x y z h e) ∙ above))
    by false e = e

-- ---- lists in byte order

-- the first of the list, if there is one, is not below the text
abbrev Before : List ℕ → List (List ℕ) → Type 0
Before x [] = Unit {0}
Before x (y ∷ ys) = not_above x y ≡ true

-- each is before the next
abbrev Rising : List (List ℕ) → Type 0
Rising [] = Unit {0}
Rising (x ∷ xs) = Before x xs × Rising xs

Before-with_text : (x text : List ℕ) (texts : List (List ℕ)) → not_above x text ≡ true → Before x texts → Before x (with_text text texts)
Before-with_text x text [] h before = h
Before-with_text x text (f ∷ texts) h before = by (not_above text f)
  where
    by : (b : Bool) → Before x (if b then text ∷ f ∷ texts else f ∷ with_text text texts)
    by true = h
    by false = before

Rising-with_text : (text : List ℕ) (texts : List (List ℕ)) → Rising texts → Rising (with_text text texts)
Rising-with_text text [] rising = (tt, tt)
Rising-with_text text (f ∷ texts) rising = by (not_above text f) refl (Rising-with_text text texts rising.1)
  where
    by : (b : Bool) → not_above text f ≡ b → Rising (with_text text texts) → Rising (if b then text ∷ f ∷ texts else f ∷ with_text text texts)
    by true h rest = (h, rising)
    by false h rest = (Before-with_text f text texts (either text f h) rising.0, rest)

Rising-in_byte_order : (xs : List (List ℕ)) → Rising (in_byte_order xs)
Rising-in_byte_order [] = tt
Rising-in_byte_order (x ∷ xs) = Rising-with_text x (in_byte_order xs) (Rising-in_byte_order xs)

swapped : (a b c : Bool) → a || (b || c) ≡ b || (a || c)
swapped true true c = refl
swapped true false c = refl
swapped false true c = refl
swapped false false c = refl

-- a list with one more text holds that and what it held
has-with_text : (x text : List ℕ) (texts : List (List ℕ)) → has alike x (with_text text texts) ≡ has alike x (text ∷ texts)
has-with_text x text [] = refl
has-with_text x text (f ∷ texts) = by (not_above text f) (has-with_text x text texts)
  where
    by : (b : Bool) → has alike x (with_text text texts) ≡ has alike x (text ∷ texts)
        → has alike x (if b then text ∷ f ∷ texts else f ∷ with_text text texts) ≡ has alike x (text ∷ f ∷ texts)
    by true rest = refl
    by false rest = ap (λ b. alike x f || b) rest ∙ swapped (alike x f) (alike x text) (has alike x texts)

has-in_byte_order : (x : List ℕ) (xs : List (List ℕ)) → has alike x (in_byte_order xs) ≡ has alike x xs
has-in_byte_order x [] = refl
has-in_byte_order x (y ∷ ys) = has-with_text x y (in_byte_order ys) ∙ ap (λ b. alike x y || b) (has-in_byte_order x ys)

-- what is below the first is not among them
none_below : (text f : List ℕ) (texts : List (List ℕ)) → not_above f text ≡ false → Before f texts → Rising texts → has alike text texts ≡ false
none_below text f [] below before rising = refl
none_below text f (g ∷ texts) below before rising =
    let lower_too = above_too f g text before below in
    ap (λ b. b || has alike text texts) (differs_too g text lower_too) ∙ none_below text g texts lower_too rising.0 rising.1

-- ---- the first pair

lower-above : (x y : List ℕ) → not_above x y ≡ true → lower (Some y) x ≡ x
lower-above x y h = by (not_above y x) refl
  where
    by : (b : Bool) → not_above y x ≡ b → lower (Some y) x ≡ x
    by true e = ap (λ b. if b then x else y) (lt_is x y ∙ ap not e) ∙ one_text y x e h
    by false e = ap (λ b. if b then x else y) (lt_is x y ∙ ap not e)

lower-below : (x y : List ℕ) → not_above y x ≡ true → lower (Some y) x ≡ y
lower-below x y e = ap (λ b. if b then x else y) (lt_is x y ∙ ap not e)

Before-far : (x y : List ℕ) (ys : List (List ℕ)) → not_above x y ≡ true → Before y ys → Before x ys
Before-far x y [] h before = tt
Before-far x y (z ∷ zs) h before = chain x y z h before

-- of texts that are not below x
above_pair : (x : List ℕ) (ys : List (List ℕ)) → Before x ys → Rising ys → lower (first_pair ys) x ≡ x
above_pair x [] before rising = refl
above_pair x (y ∷ ys) before rising = by (is_first y ys) (above_pair x ys (Before-far x y ys before rising.0) rising.1)
  where
    by : (b : Bool) → lower (first_pair ys) x ≡ x → lower (if b then Some y else first_pair ys) x ≡ x
    by true rest = lower-above x y before
    by false rest = rest

is_first-with_text : (f text : List ℕ) (texts : List (List ℕ)) → not_above text f ≡ false → Before f texts → is_first f (with_text text texts) ≡ is_first f texts
is_first-with_text f text [] above before = differs_too text f above
is_first-with_text f text (g ∷ texts) above before = by (not_above text g) refl
  where
    by : (b : Bool) → not_above text g ≡ b → is_first f (if b then text ∷ g ∷ texts else g ∷ with_text text texts) ≡ alike f g
    by true h = differs_too text f above ∙ sym (differs_too g f (above_too text g f h above))
    by false h = refl

abbrev with_pair : Bool → List ℕ → Option (List ℕ) → Option (List ℕ)
with_pair b text pair = if b then Some (lower pair text) else pair

-- one more text makes a pair where it is there
first_pair-with_text : (text : List ℕ) (texts : List (List ℕ)) → Rising texts
    → first_pair (with_text text texts) ≡ with_pair (has alike text texts) text (first_pair texts)
first_pair-with_text text [] rising = refl
first_pair-with_text text (f ∷ texts) rising = by (not_above text f) refl (first_pair-with_text text texts rising.1)
  where
    at_front : not_above text f ≡ true → (b : Bool) → alike text f ≡ b
        → (if b then Some text else first_pair (f ∷ texts)) ≡ with_pair (b || has alike text texts) text (first_pair (f ∷ texts))
    at_front h true e = ap Some (sym (above_pair text (f ∷ texts) h rising))
    at_front h false e = by_other (not_above f text) refl
      where
        by_other : (c : Bool) → not_above f text ≡ c → first_pair (f ∷ texts) ≡ with_pair (has alike text texts) text (first_pair (f ∷ texts))
        by_other true k = absurd (true≢false (sym (subst (λ (z : List ℕ). alike text z ≡ true) (one_text text f h k) (Tells-texts.itself text)) ∙ e))
        by_other false k = ap (λ b. with_pair b text (first_pair (f ∷ texts))) (sym (none_below text f texts k rising.0 rising.1))

    behind : not_above text f ≡ false → (b c : Bool) → first_pair (with_text text texts) ≡ with_pair c text (first_pair texts)
        → (if b then Some f else first_pair (with_text text texts)) ≡ with_pair c text (if b then Some f else first_pair texts)
    behind h true true rest = ap Some (sym (lower-below text f (either text f h)))
    behind h true false rest = refl
    behind h false c rest = rest

    by : (b : Bool) → not_above text f ≡ b → first_pair (with_text text texts) ≡ with_pair (has alike text texts) text (first_pair texts)
        → first_pair (if b then text ∷ f ∷ texts else f ∷ with_text text texts) ≡ with_pair (alike text f || has alike text texts) text (first_pair (f ∷ texts))
    by true h rest = at_front h (alike text f) refl
    by false h rest =
        ap (λ b. if b then Some f else first_pair (with_text text texts)) (is_first-with_text f text texts h rising.0)
        ∙ behind h (is_first f texts) (has alike text texts) rest
        ∙ ap (λ b. with_pair (b || has alike text texts) text (first_pair (f ∷ texts))) (sym (differs text f h))

-- the first pair of the texts in byte order is the least that stands more than once
pub first_pair-in_byte_order : (xs : List (List ℕ)) → first_pair (in_byte_order xs) ≡ least (again xs)
first_pair-in_byte_order [] = refl
first_pair-in_byte_order (x ∷ xs) =
    first_pair-with_text x (in_byte_order xs) (Rising-in_byte_order xs)
    ∙ ap (λ b. with_pair b x (first_pair (in_byte_order xs))) (has-in_byte_order x xs)
    ∙ ap (with_pair (has alike x xs) x) (first_pair-in_byte_order xs) ∙ by (has alike x xs)
  where
    by : (b : Bool) → with_pair b x (least (again xs)) ≡ least (if b then x ∷ again xs else again xs)
    by true = refl
    by false = refl

-- ---- a sort

total_is : {X : Type 0} (weight : X → ℕ) (xs : List X) → total weight xs ≡ sum_by weight xs
total_is weight [] = refl
total_is weight (x ∷ xs) = omega (arith, total_is weight xs, sum_by-cons weight x xs)

bag_of : {X : Type 0} (xs ys : List X) → IsPermutation xs ys → SameBag xs ys
bag_of xs ys moved weight = total_is weight xs ∙ sym (sum_by-IsPermutation weight xs ys moved) ∙ sym (total_is weight ys)

abbrev Path : Type 0
Path = Bor (List ℕ)

abbrev pub texts : List Path → List (List ℕ)
texts paths = map (λ path. path.now) paths

sorted_texts : (paths : List Path) → IsSorted (λ a b. slice_cmp nat_cmp a.now b.now) paths → IsSorted (slice_cmp nat_cmp) (texts paths)
sorted_texts paths sorted k d low high =
    let blank : Path = record { ref_ptr = (0, 0); now = [] } in
    let within : k + 1 < length paths = omega (arith, length-map paths (λ (x : Path). x.now)) in
    ap₂ (λ x y. is_lt (slice_cmp nat_cmp x y)) (get_or-map (λ x. x.now) paths (k + 1) blank d within) (get_or-map (λ x. x.now) paths k blank d (omega arith))
    ∙ sorted k blank low within

pub first_pair-from_sort : (old new : List Path) → IsPermutation old new → IsSorted (λ a b. slice_cmp nat_cmp a.now b.now) new
    → ((xs ys : List (List ℕ)) → SameBag xs ys → IsSorted (slice_cmp nat_cmp) ys → ys ≡ in_byte_order xs)
    → first_pair (texts new) ≡ least (again (texts old))
first_pair-from_sort old new moved sorted only =
    ap first_pair (only (texts old) (texts new) (bag_of (texts old) (texts new) (IsPermutation-map (λ path. path.now) old new moved)) (sorted_texts new sorted))
    ∙ first_pair-in_byte_order (texts old)
