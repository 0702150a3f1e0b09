-- The next id is none of those that are there.
use Rattle.std.proofs.Common.{◌≡◌, ◌<◌, ◌^◌, ℕ, suc, ℤ, pos, ◌+ℤ◌, Bool, true, false, int_lt, List, [], ◌∷◌, length, refl, sym, ap, ◌∙◌, subst, arith, true≢false}
use Rattle.std.specs.Prelude.{if◌then◌else◌}
use Rattle.std.specs.Int.{int_max}
use Rattle.std.specs.Ordering.{int_eq}
use Rattle.std.proofs.lemmas.Int.{ints, clamps}
use Rattle.commit_builder.specs.SnapshotIds.{above, free_from, greatest, last, next_id}
use Rattle.commit_manifests.specs.Sorting.{has_id}

-- ---- above the greatest

first_stays : (n a b : ℤ) → int_lt b n ≡ false → int_lt (int_max a b) n ≡ false
first_stays n a b h = grind (arith, ints, clamps)

second_stays : (a b : ℤ) → int_lt (int_max a b) a ≡ false
second_stays a b = grind (arith, ints, clamps)

stays : (n best : ℤ) (ids : List ℤ) → int_lt best n ≡ false → int_lt (greatest best ids) n ≡ false
unfolding greatest
stays n best [] h = h
stays n best (id ∷ ids) h = stays n (int_max id best) ids (first_stays n id best h)

same : (a b : ℤ) → int_eq a b ≡ true → a ≡ b
same a b h = grind (arith, ints)

at_least_by : (b : Bool) (id one best : ℤ) (ids : List ℤ) → int_eq one id ≡ b → (if b then true else has_id id ids) ≡ true
    → (has_id id ids ≡ true → int_lt (greatest (int_max one best) ids) id ≡ false)
    → int_lt (greatest (int_max one best) ids) id ≡ false
at_least_by true id one best ids is found more = subst (λ n. int_lt (greatest (int_max one best) ids) n ≡ false) (same one id is) (stays one (int_max one best) ids (second_stays one best))
at_least_by false id one best ids is found more = more found

at_least : (id best : ℤ) (ids : List ℤ) → has_id id ids ≡ true → int_lt (greatest best ids) id ≡ false
unfolding greatest has_id
at_least id best [] found = absurd (true≢false (sym found))
at_least id best (one ∷ ids) found = at_least_by (int_eq one id) id one best ids refl found (λ more. at_least id (int_max one best) ids more)

one_above : (n : ℤ) → int_lt n last ≡ true → above n ≡ n +ℤ pos 1
one_above n h = rw h refl

is_below : (n : ℤ) → int_lt n (n +ℤ pos 1) ≡ true
is_below n = grind (arith, ints)

above_is_new_by : (ids : List ℤ) (b : Bool) → int_lt (greatest (pos 0) ids) last ≡ true → has_id (above (greatest (pos 0) ids)) ids ≡ b → b ≡ false
above_is_new_by ids false small is = refl
above_is_new_by ids true small is = absurd (true≢false (sym (is_below (greatest (pos 0) ids)) ∙ subst (λ n. int_lt (greatest (pos 0) ids) n ≡ false) (one_above (greatest (pos 0) ids) small) (at_least (above (greatest (pos 0) ids)) (pos 0) ids is)))

-- ---- the first that is free

remove : ℤ → List ℤ → List ℤ
remove n [] = []
remove n (one ∷ pool) = if int_eq one n then pool else one ∷ remove n pool

one_fewer_by : (b : Bool) (n one : ℤ) (pool : List ℤ) → (if b then true else has_id n pool) ≡ true
    → (has_id n pool ≡ true → suc (length (remove n pool)) ≡ length pool)
    → suc (length (if b then pool else one ∷ remove n pool)) ≡ suc (length pool)
one_fewer_by true n one pool found more = refl
one_fewer_by false n one pool found more = ap suc (more found)

one_fewer : (n : ℤ) (pool : List ℤ) → has_id n pool ≡ true → suc (length (remove n pool)) ≡ length pool
unfolding has_id remove
one_fewer n [] found = absurd (true≢false (sym found))
one_fewer n (one ∷ pool) found = one_fewer_by (int_eq one n) n one pool found (one_fewer n pool)

apart : (a b c : ℤ) → int_eq a b ≡ true → int_eq a c ≡ true → int_eq b c ≡ false → true ≡ false
apart a b c h k l = grind (arith, ints)

others_stay_by : (b d : Bool) (n m one : ℤ) (pool : List ℤ) → int_eq one n ≡ b → int_eq one m ≡ d → int_eq n m ≡ false
    → (if d then true else has_id m pool) ≡ true → (has_id m pool ≡ true → has_id m (remove n pool) ≡ true)
    → has_id m (if b then pool else one ∷ remove n pool) ≡ true
unfolding has_id
others_stay_by true true n m one pool e f differ found more = absurd (true≢false (apart one n m e f differ))
others_stay_by true false n m one pool e f differ found more = found
others_stay_by false true n m one pool e f differ found more = rw f refl
others_stay_by false false n m one pool e f differ found more = rw f (more found)

others_stay : (n m : ℤ) (pool : List ℤ) → int_eq n m ≡ false → has_id m pool ≡ true → has_id m (remove n pool) ≡ true
unfolding has_id remove
others_stay n m [] differ found = absurd (true≢false (sym found))
others_stay n m (one ∷ pool) differ found = others_stay_by (int_eq one n) (int_eq one m) n m one pool refl refl differ found (others_stay n m pool differ)

not_below : (n m : ℤ) → int_lt m (n +ℤ pos 1) ≡ false → int_lt m n ≡ false
not_below n m h = grind (arith, ints)

not_same : (n m : ℤ) → int_lt m (n +ℤ pos 1) ≡ false → int_eq n m ≡ false
not_same n m h = grind (arith, ints)

-- the numbers that can still be met stand in the pool
abbrev Holds : ℤ → List ℤ → List ℤ → Type 0
Holds n ids pool = (m : ℤ) → int_lt m n ≡ false → has_id m ids ≡ true → has_id m pool ≡ true

itself : (n : ℤ) → int_lt n n ≡ false
itself n = grind (arith, ints)

small_enough : (n : ℤ) (k : ℕ) → int_lt (n +ℤ pos (suc k)) last ≡ true → int_lt n last ≡ true
small_enough n k h = grind (arith, ints)

one_more : (n : ℤ) (k : ℕ) → int_lt (n +ℤ pos (suc k)) last ≡ true → int_lt ((n +ℤ pos 1) +ℤ pos k) last ≡ true
one_more n k h = grind (arith, ints)

none_left : (n : ℤ) (ids pool : List ℤ) (b : Bool) → 0 ≡ length pool → Holds n ids pool → has_id n ids ≡ b → b ≡ false
unfolding has_id
none_left n ids pool false e holds is = refl
none_left n ids [] true e holds is = absurd (true≢false (sym (holds n (itself n) is)))
none_left n ids (one ∷ pool) true e holds is = absurd cc

free_is_new_by : (n : ℤ) (more ids pool : List ℤ) (b : Bool) → suc (length more) ≡ length pool → Holds n ids pool → has_id n ids ≡ b → int_lt n last ≡ true
    → ((rest : List ℤ) → length more ≡ length rest → Holds (n +ℤ pos 1) ids rest → has_id (free_from (n +ℤ pos 1) more ids) ids ≡ false)
    → has_id (if b then free_from (above n) more ids else n) ids ≡ false
free_is_new_by n more ids pool false e holds is small go = is
free_is_new_by n more ids pool true e holds is small go =
    let found : has_id n pool ≡ true = holds n (itself n) is in
    let fewer : suc (length (remove n pool)) ≡ length pool = one_fewer n pool found in
    subst (λ m. has_id (free_from m more ids) ids ≡ false) (sym (one_above n small))
    (go (remove n pool) (omega arith) (λ m high there. others_stay n m pool (not_same n m high) (holds m (not_below n m high) there)))

free_is_new : (n : ℤ) (more ids pool : List ℤ) → length more ≡ length pool → Holds n ids pool
    → int_lt (n +ℤ pos (length more)) last ≡ true → has_id (free_from n more ids) ids ≡ false
unfolding free_from
free_is_new n [] ids pool e holds small = none_left n ids pool (has_id n ids) e holds refl
free_is_new n (one ∷ more) ids pool e holds small =
    free_is_new_by n more ids pool (has_id n ids) e holds refl (small_enough n (length more) small) (λ rest same_length still. free_is_new (n +ℤ pos 1) more ids rest same_length still (one_more n (length more) small))

few_enough : (k : ℕ) → k < 2 ^ 62 → int_lt (pos 1 +ℤ pos k) last ≡ true
few_enough k h = grind (arith, ints)

next_is_new_by : (ids : List ℤ) (b : Bool) → length ids < 2 ^ 62 → int_lt (greatest (pos 0) ids) last ≡ b
    → has_id (if b then above (greatest (pos 0) ids) else free_from (pos 1) ids ids) ids ≡ false
next_is_new_by ids true few is = above_is_new_by ids (has_id (above (greatest (pos 0) ids)) ids) is refl
next_is_new_by ids false few is = free_is_new (pos 1) ids ids ids refl (λ m high there. there) (few_enough (length ids) few)

pub next_is_new : (ids : List ℤ) → length ids < 2 ^ 62 → has_id (next_id ids) ids ≡ false
next_is_new ids few = next_is_new_by ids (int_lt (greatest (pos 0) ids) last) few refl
