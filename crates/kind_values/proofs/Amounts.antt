-- Amounts of so many digits to the base 256 stay within 128 bits.
use Rattle.std.proofs.Common.{◌≡◌, ℕ, suc, ◌+◌, ◌-◌, ◌*◌, ◌<◌, ◌≤◌, ◌^◌, ℤ, pos, neg_ℤ, ◌+ℤ◌, ◌-ℤ◌, ◌*ℤ◌, ◌≤ℤ◌, ◌<ℤ◌, arith, FitsSigned, Bool, true, false, nat_lt, cond, refl, ap, List, [], ◌∷◌, length, take, drop, get_or}
use Rattle.std.proofs.lemmas.List.{take_all}
use Rattle.std.specs.Int.{w128}
use Rattle.std.proofs.lemmas.Int.{ints}
use Rattle.std.proofs.lemmas.Bool.Decides.{nat_tests}
use Rattle.std.proofs.Math.Nat.{pow-suc, pow-le-pow_right}
use Rattle.kind_values.specs.BigEndian.{Within, first_digit, digits_from}

scaled : (power : ℕ) (number : ℤ) (byte : ℕ) → byte < 256 → neg_ℤ (pos (128 * power)) ≤ℤ number → number <ℤ pos (128 * power)
    → (neg_ℤ (pos (128 * (power * 256))) ≤ℤ ((number *ℤ pos 256) +ℤ pos byte))
    × (((number *ℤ pos 256) +ℤ pos byte) <ℤ pos (128 * (power * 256)))
scaled power number byte b low high = (omega (arith, ints), omega (arith, ints))

pub one_more : (digits : ℕ) (number : ℤ) (byte : ℕ) → byte < 256 → Within digits number → Within (suc digits) ((number *ℤ pos 256) +ℤ pos byte)
one_more digits number byte b w =
    let s = scaled (256 ^ digits) number byte b w.low w.high in
    record { low = rw (pow-suc 256 digits) s.0; high = rw (pow-suc 256 digits) s.1 }

pub scaled_fits : (number : ℤ) → Within 14 number → FitsSigned w128 (number *ℤ pos 256)
scaled_fits number w =
    let low = w.low in
    let high = w.high in
    omega (arith, ints)

pub next_fits : (number : ℤ) (byte : ℕ) → byte < 256 → Within 14 number → FitsSigned w128 ((number *ℤ pos 256) +ℤ pos byte)
next_fits number byte b w =
    let low = w.low in
    let high = w.high in
    omega (arith, ints)

pub with_room : (digits room : ℕ) (number : ℤ) → digits ≤ room → Within digits number → Within room number
with_room digits room number d w =
    let p : 256 ^ digits ≤ 256 ^ room = pow-le-pow_right (omega arith) d in
    let low = w.low in
    let high = w.high in
    record { low = omega (arith, ints); high = omega (arith, ints) }

small : (byte : ℕ) → byte < 128 → Within 0 (pos byte)
small byte b = record { low = omega (arith, ints); high = omega (arith, ints) }

negative : (byte : ℕ) → 128 ≤ byte → byte < 256 → Within 0 (pos byte -ℤ pos 256)
negative byte a b = record { low = omega (arith, ints); high = omega (arith, ints) }

first_by : (byte : ℕ) (b : Bool) → nat_lt byte 128 ≡ b → byte < 256 → Within 0 (cond b (pos byte) (pos byte -ℤ pos 256))
first_by byte true t lt = small byte (grind (arith, nat_tests))
first_by byte false t lt = negative byte (grind (arith, nat_tests)) lt

pub first_within : (byte : ℕ) → byte < 256 → Within 0 (first_digit byte)
first_within byte b = first_by byte (nat_lt byte 128) refl b

after_first : (rest : List ℕ) → 1 ≤ length rest → length (take (length rest - 1) (drop 1 rest)) + 1 ≡ length rest
after_first [] some = absurd (omega arith)
after_first (b ∷ bs) some = rw (take_all (length (b ∷ bs) - 1) bs (omega arith)) (omega arith)

goes : (number next : ℤ) (rest : List ℕ) (total : ℤ) → 1 ≤ length rest → next ≡ (number *ℤ pos 256) +ℤ pos (get_or rest 0 0)
    → digits_from number rest ≡ total → digits_from next (take (length rest - 1) (drop 1 rest)) ≡ total
unfolding digits_from
goes number next [] total some is so_far = absurd (omega arith)
goes number next (b ∷ bs) total some is so_far = rw (take_all (length (b ∷ bs) - 1) bs (omega arith), is) so_far

-- what is left of the bytes gives the number, which has room for them
pub record GivesAmount (number : ℤ) (rest : List ℕ) (total : ℤ) : Type 0 where
  pub same : digits_from number rest ≡ total
  pub short : length rest ≤ 15
  pub within : Within (15 - length rest) number

pub begins : (number : ℤ) (first : ℕ) (bytes : List ℕ) → first < 256 → length bytes ≤ 15 → number ≡ first_digit first
    → GivesAmount number bytes (digits_from (first_digit first) bytes)
begins number first bytes b short is =
    record { same = ap (λ n. digits_from n bytes) is; short = short; within = with_room 0 (15 - length bytes) number (omega arith) (rw is (first_within first b)) }

pub goes_on : (number next : ℤ) (rest : List ℕ) (total : ℤ) → 1 ≤ length rest → get_or rest 0 0 < 256
    → next ≡ (number *ℤ pos 256) +ℤ pos (get_or rest 0 0) → GivesAmount number rest total
    → GivesAmount next (take (length rest - 1) (drop 1 rest)) total
goes_on number next rest total some b is g =
    let after = after_first rest some in
    let short : length rest ≤ 15 = g.short in
    let room : 15 - length (take (length rest - 1) (drop 1 rest)) ≡ suc (15 - length rest) = omega arith in
    record { same = goes number next rest total some is g.same; short = omega arith; within = rw (room, is) (one_more (15 - length rest) number (get_or rest 0 0) b g.within) }
