-- One mark is made for each number at most, so a place is left, and the first such place is the least number that is missing.
use Rattle.std.proofs.Common.{◌≡◌, ℕ, zero, suc, ◌+◌, ◌<◌, ◌≤◌, List, [], ◌∷◌, length, get_or, set, replicate, Bool, true, false, not, cond, Some, None, ◌||◌, nat_eq, nat_lt, refl, sym, ap, ◌∙◌, arith, true≢false}
use Rattle.std.specs.List.{position}
use Rattle.std.specs.Option.{unwrap_or}
use Rattle.std.proofs.lemmas.List.{length-set, length-replicate, get_or-replicate, get_or-set_same, get_or-set_other}
use Rattle.std.proofs.lemmas.List.Sums.{fails_before_first, passes_at_first, prefix_len-le-length}
use Rattle.std.proofs.lemmas.Bool.{eqb-true, eq-eqb, ne_eqb}
use Rattle.std.proofs.lemmas.Bool.Decides.{nat_tests}
use Rattle.table_names.specs.Marks.{has, IsLeastMissing, with_mark, marked, marks_of, first_unmarked}

-- ---- places

length_by : (marks : List Bool) (n : ℕ) (b : Bool) → length (cond b (set marks n true) marks) ≡ length marks
length_by marks n true = length-set marks n true
length_by marks n false = refl

length-with_mark : (marks : List Bool) (n : ℕ) → length (with_mark marks n) ≡ length marks
length-with_mark marks n = length_by marks n (nat_lt n (length marks))

length-marked : (marks : List Bool) (numbers : List ℕ) → length (marked marks numbers) ≡ length marks
unfolding marked
length-marked marks [] = refl
length-marked marks (n ∷ ns) = length-marked (with_mark marks n) ns ∙ length-with_mark marks n

-- ---- what is marked

at_set : (marks : List Bool) (n i : ℕ) (b : Bool) → nat_eq i n ≡ b → i < length marks → get_or (set marks n true) i false ≡ (b || get_or marks i false)
at_set marks n i true is within =
    let same : i ≡ n = eqb-true i n is in
    ap (λ k. get_or (set marks k true) i false) (sym same) ∙ get_or-set_same marks i true false within
at_set marks n i false is within = get_or-set_other marks n i true false (λ e. true≢false (sym (eq-eqb i n e) ∙ is))

at_by : (marks : List Bool) (n i : ℕ) (b : Bool) → nat_lt n (length marks) ≡ b → i < length marks
    → get_or (cond b (set marks n true) marks) i false ≡ (nat_eq i n || get_or marks i false)
at_by marks n i true is within = at_set marks n i (nat_eq i n) refl within
at_by marks n i false is within = ap (λ b. b || get_or marks i false) (sym (ne_eqb i n (λ e. grind (arith, nat_tests))))

at_mark : (marks : List Bool) (n i : ℕ) → i < length marks → get_or (with_mark marks n) i false ≡ (nat_eq i n || get_or marks i false)
at_mark marks n i within = at_by marks n i (nat_lt n (length marks)) refl within

or_none : (b : Bool) → b ≡ (b || false)
or_none true = refl
or_none false = refl

or_moved : (a b c : Bool) → (a || b) || c ≡ (b || (a || c))
or_moved true true c = refl
or_moved true false c = refl
or_moved false true c = refl
or_moved false false c = refl

at_marked : (marks : List Bool) (numbers : List ℕ) (i : ℕ) → i < length marks → get_or (marked marks numbers) i false ≡ (get_or marks i false || has i numbers)
unfolding marked
at_marked marks [] i within = or_none (get_or marks i false)
at_marked marks (n ∷ ns) i within =
    at_marked (with_mark marks n) ns i (omega (arith, length-with_mark marks n))
    ∙ ap (λ b. b || has i ns) (at_mark marks n i within)
    ∙ or_moved (nat_eq i n) (get_or marks i false) (has i ns)

-- ---- how many are marked

abbrev count : List Bool → ℕ
count [] = 0
count (true ∷ bs) = suc (count bs)
count (false ∷ bs) = count bs

count-set : (marks : List Bool) (i : ℕ) → count (set marks i true) ≤ count marks + 1
count-set [] i = omega arith
count-set (true ∷ bs) zero = omega arith
count-set (false ∷ bs) zero = omega arith
count-set (true ∷ bs) (suc i) = omega (arith, count-set bs i)
count-set (false ∷ bs) (suc i) = count-set bs i

count_by_test : (marks : List Bool) (n : ℕ) (b : Bool) → count (cond b (set marks n true) marks) ≤ count marks + 1
count_by_test marks n true = count-set marks n
count_by_test marks n false = omega arith

count-marked : (marks : List Bool) (numbers : List ℕ) → count (marked marks numbers) ≤ count marks + length numbers
unfolding marked
count-marked marks [] = omega arith
count-marked marks (n ∷ ns) = omega (arith, count-marked (with_mark marks n) ns, count_by_test marks n (nat_lt n (length marks)))

count-none : (n : ℕ) → count (replicate n false) ≡ 0
count-none zero = refl
count-none (suc n) = count-none n

-- where fewer are marked than there are, one is left
is_left : (marks : List Bool) → count marks < length marks → first_unmarked marks < length marks
is_left [] some = absurd (omega arith)
is_left (true ∷ bs) some = omega (arith, is_left bs (omega arith))
is_left (false ∷ bs) some = omega arith

-- the place that the code finds
last_or_before : (n size : ℕ) (b : Bool) → nat_lt n size ≡ b → n ≤ size → unwrap_or (cond b (Some n) None) size ≡ n
last_or_before n size true is within = refl
last_or_before n size false is within = grind (arith, nat_tests)

pub first_or_length : (marks : List Bool) → unwrap_or (position not marks) (length marks) ≡ first_unmarked marks
first_or_length marks = last_or_before (first_unmarked marks) (length marks) (nat_lt (first_unmarked marks) (length marks)) refl (prefix_len-le-length (λ b. not (not b)) marks)

-- ---- the least that is missing

not_true : (b : Bool) → not b ≡ true → b ≡ false
not_true true is = absurd cc
not_true false is = refl

not_false : (b : Bool) → not b ≡ false → b ≡ true
not_false true is = refl
not_false false is = absurd cc

or_second : (a b c : Bool) → c ≡ (a || b) → c ≡ false → b ≡ false
or_second true b c is none = absurd cc
or_second false b c is none = cc

module _ (numbers : List ℕ) where
  abbrev start : List Bool
  start = replicate (length numbers + 2) false

  size : length (marks_of numbers) ≡ length numbers + 2
  size = length-marked (with_mark start 0) numbers ∙ length-with_mark start 0 ∙ length-replicate (length numbers + 2) false

  within : first_unmarked (marks_of numbers) < length (marks_of numbers)
  within = is_left (marks_of numbers) (omega (arith, size, count-marked (with_mark start 0) numbers, count_by_test start 0 (nat_lt 0 (length start)), count-none (length numbers + 2)))

  place : (i : ℕ) → i < length (marks_of numbers) → get_or (marks_of numbers) i false ≡ (nat_eq i 0 || has i numbers)
  place i small =
      let room : i < length numbers + 2 = omega (arith, size) in
      let starts : length start ≡ length numbers + 2 = length-replicate (length numbers + 2) false in
      at_marked (with_mark start 0) numbers i (omega (arith, starts, length-with_mark start 0))
      ∙ ap (λ b. b || has i numbers) (at_mark start 0 i (omega (arith, starts)) ∙ ap (λ b. nat_eq i 0 || b) (get_or-replicate (length numbers + 2) i false false room) ∙ sym (or_none (nat_eq i 0)))

  unmarked : get_or (marks_of numbers) (first_unmarked (marks_of numbers)) false ≡ false
  unmarked = not_true (get_or (marks_of numbers) (first_unmarked (marks_of numbers)) false) (passes_at_first not (marks_of numbers) false within)

  positive_by : (n : ℕ) → get_or (marks_of numbers) n false ≡ false → n < length (marks_of numbers) → 1 ≤ n
  positive_by zero is small = absurd (true≢false (sym (place 0 small) ∙ is))
  positive_by (suc n) is small = omega arith

  marked_before : (m : ℕ) → 1 ≤ m → m < first_unmarked (marks_of numbers) → has m numbers ≡ true
  marked_before m some before =
      let mark : get_or (marks_of numbers) m false ≡ true = not_false (get_or (marks_of numbers) m false) (fails_before_first not (marks_of numbers) m false before) in
      ap (λ b. b || has m numbers) (sym (ne_eqb m 0 (λ e. omega (arith, e)))) ∙ sym (place m (omega (arith, within))) ∙ mark

  pub is_least : IsLeastMissing numbers (first_unmarked (marks_of numbers))
  is_least = record {
    positive = positive_by (first_unmarked (marks_of numbers)) unmarked within;
    missing = or_second (nat_eq (first_unmarked (marks_of numbers)) 0) (has (first_unmarked (marks_of numbers)) numbers) (get_or (marks_of numbers) (first_unmarked (marks_of numbers)) false) (place (first_unmarked (marks_of numbers)) within) unmarked;
    least = marked_before;
  }
