-- The groups of a number are a spelling of it, and none is shorter.
use Rattle.std.proofs.Common.{◌≡◌, ℕ, zero, suc, ◌+◌, ◌*◌, ◌/◌, ◌%◌, ◌^◌, ◌<◌, ◌≤◌, List, [], ◌∷◌, length, refl, sym, ap, subst, inl, inr, arith}
use Rattle.std.proofs.lemmas.Bool.{cases_lt, lt-ltb, le-ltb}
use Rattle.avro_binary.specs.Spelling.{groups_up_to}
use Rattle.avro_binary.specs.Grammar.{IsNumber}

-- the numbers that so many groups after the first are enough for
abbrev limit : ℕ → ℕ
limit zero = 128
limit (suc more) = 128 * limit more

one_group : (more n : ℕ) → n < 128 → groups_up_to more n ≡ n ∷ []
unfolding groups_up_to
one_group zero n lt = let same : n % 128 ≡ n = omega arith in ap (λ (m : ℕ). m ∷ []) same
one_group (suc more) n lt = rw (lt-ltb n 128 lt) refl

more_groups : (more n : ℕ) → 128 ≤ n → groups_up_to (suc more) n ≡ (n % 128 + 128) ∷ groups_up_to more (n / 128)
unfolding groups_up_to
more_groups more n le = rw (le-ltb n 128 le) refl

is_number_more : (b high n : ℕ) (spelling : List ℕ) → 128 ≤ b → n ≡ b % 128 + 128 * high → IsNumber spelling high → IsNumber (b ∷ spelling) n
is_number_more b high n [] le e is = absurd is
is_number_more b high n (c ∷ cs) le e is = (le, (high, e, is))

pub groups_are : (more n : ℕ) → n < limit more → IsNumber (groups_up_to more n) n
groups_are zero n lt = let e = one_group zero n lt in subst (λ (t : List ℕ). IsNumber t n) (sym e) (lt, refl)
groups_are (suc more) n lt = elim (cases_lt n 128) [
  | inl one ↦ (let e = one_group (suc more) n one in subst (λ (t : List ℕ). IsNumber t n) (sym e) (one, refl))
  | inr le ↦ (let e = more_groups more n le in
      let high = groups_are more (n / 128) (omega arith) in
      subst (λ (t : List ℕ). IsNumber t n) (sym e) (is_number_more (n % 128 + 128) (n / 128) n (groups_up_to more (n / 128)) (omega arith) (omega arith) high))
]

pub groups_few : (more n : ℕ) → length (groups_up_to more n) ≤ suc more
unfolding groups_up_to
groups_few zero n = omega arith
groups_few (suc more) n = elim (cases_lt n 128) [
  | inl one ↦ (let e : length (groups_up_to (suc more) n) ≡ 1 = ap length (one_group (suc more) n one) in omega arith)
  | inr le ↦ (let e : length (groups_up_to (suc more) n) ≡ suc (length (groups_up_to more (n / 128))) = ap length (more_groups more n le) in
      let few : length (groups_up_to more (n / 128)) ≤ suc more = groups_few more (n / 128) in
      omega arith)
]

pub groups_some : (more n : ℕ) → 0 < length (groups_up_to more n)
unfolding groups_up_to
groups_some zero n = omega arith
groups_some (suc more) n = elim (cases_lt n 128) [
  | inl one ↦ (let e : length (groups_up_to (suc more) n) ≡ 1 = ap length (one_group (suc more) n one) in omega arith)
  | inr le ↦ (let e : length (groups_up_to (suc more) n) ≡ suc (length (groups_up_to more (n / 128))) = ap length (more_groups more n le) in omega arith)
]

pub groups_shortest : (more n : ℕ) (spelling : List ℕ) → IsNumber spelling n → length (groups_up_to more n) ≤ length spelling
groups_shortest more n [] is = absurd is
groups_shortest more n (b ∷ []) is = let lt : b < 128 = is.0 in let e : n ≡ b = is.1 in let one : length (groups_up_to more n) ≡ 1 = ap length (one_group more n (omega arith)) in omega arith
groups_shortest zero n (b ∷ c ∷ bs) is = let few : length (groups_up_to zero n) ≤ 1 = groups_few zero n in omega arith
groups_shortest (suc more) n (b ∷ c ∷ bs) is = elim (cases_lt n 128) [
  | inl one ↦ (let e : length (groups_up_to (suc more) n) ≡ 1 = ap length (one_group (suc more) n one) in omega arith)
  | inr le ↦ (let high = is.1.0 in
      let value : n ≡ b % 128 + 128 * high = is.1.1 in
      let same : high ≡ n / 128 = omega arith in
      let less : length (groups_up_to more (n / 128)) ≤ length (c ∷ bs) = groups_shortest more (n / 128) (c ∷ bs) (subst (λ (m : ℕ). IsNumber (c ∷ bs) m) same is.1.2) in
      let e : length (groups_up_to (suc more) n) ≡ suc (length (groups_up_to more (n / 128))) = ap length (more_groups more n le) in
      omega arith)
]

abbrev pub fits_limit : (n : ℕ) → n < 2 ^ 64 → n < limit 9
fits_limit n lt = omega arith
