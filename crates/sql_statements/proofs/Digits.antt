-- An amount of at most so many digits, by its size.
use Rattle.std.proofs.Common.{◌≡◌, ℕ, ◌-◌, ◌^◌, ◌<◌, ℤ, pos, neg_ℤ, nat_lt, ap, ◌∙◌, lit<, arith}
use Rattle.std.proofs.Math.Nat.{one-le-pow}
use Rattle.std.specs.Prelude.{unsigned_abs}
use Rattle.std.proofs.lemmas.Int.{ints}
use Rattle.std.proofs.lemmas.Bool.Decides.{nat_tests}
use Rattle.row_values.specs.Rows.{is_between, has_digits}

pub below_bound : (bound : ℕ) (n : ℤ) → 0 < bound → nat_lt (unsigned_abs n) bound ≡ is_between (neg_ℤ (pos (bound - 1))) (pos (bound - 1)) n
below_bound bound n h = grind (arith, ints, nat_tests)

pub has_digits_by_size : (precision exponent bound size : ℕ) (n m : ℤ) → exponent ≡ precision → bound ≡ 10 ^ exponent → m ≡ n
    → size ≡ unsigned_abs m → nat_lt size bound ≡ has_digits precision n
has_digits_by_size precision exponent bound size n m same is is_n measures =
    ap (λ s. nat_lt s bound) (measures ∙ ap unsigned_abs is_n) ∙ ap (nat_lt (unsigned_abs n)) (is ∙ ap (λ k. 10 ^ k) same) ∙ below_bound (10 ^ precision) n (one-le-pow precision 10 (lit< tt))
