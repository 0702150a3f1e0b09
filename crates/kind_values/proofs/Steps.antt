-- Numbers are written byte by byte.
use Rattle.std.proofs.Common.{◌≡◌, ℕ, zero, suc, ◌-◌, ◌/◌, ◌%◌, ◌<◌, arith, Bool, sym, ap, ◌∙◌, List, [], ◌∷◌, ◌++◌, append_assoc, Result}
use Rattle.plain_types.specs.Appends.{Appends}
use Rattle.plain_types.proofs.CallerLemmas.{appends_more}
use Rattle.kind_values.specs.LittleEndian.{lowest_first}
use Rattle.kind_values.specs.BigEndian.{digit, digits_of}

one_less : (more : ℕ) → suc more - 1 ≡ more
one_less more = omega arith

digits_step : (negative : Bool) (count size : ℕ) → 0 < count → digits_of negative count size ≡ digits_of negative (count - 1)
    (size / 256) ++ digit negative (size % 256) ∷ []
unfolding digits_of
digits_step negative zero size some = absurd (omega arith)
digits_step negative (suc more) size some = ap (λ (n : ℕ). digits_of negative n (size / 256) ++ digit negative (size % 256) ∷ []) (sym (one_less more))

pub digits_end : (negative : Bool) (count size byte : ℕ) (out before after : List ℕ) → 0 < count
    → byte ≡ digit negative (size % 256) → before ≡ out ++ digits_of negative (count - 1) (size / 256)
    → after ≡ before ++ byte ∷ [] → after ≡ out ++ digits_of negative count size
digits_end negative count size byte out before after some is b a =
    rw (a, b, is) (append_assoc out (digits_of negative (count - 1) (size / 256)) (digit negative (size % 256) ∷ []) ∙ ap (λ (xs : List ℕ). out ++ xs) (sym (digits_step negative count size some)))

lowest_step : (count number : ℕ) → 0 < count → lowest_first count number ≡ number % 256 ∷ lowest_first (count - 1) (number / 256)
unfolding lowest_first
lowest_step zero number some = absurd (omega arith)
lowest_step (suc more) number some = ap (λ (n : ℕ). number % 256 ∷ lowest_first n (number / 256)) (sym (one_less more))

pub lowest_begin : {E : Type 0} (count number : ℕ) (out before after : List ℕ) (r : Result (Unit {0}) E) → 0 < count → before ≡ out ++ (number % 256) ∷ []
    → Appends before after (lowest_first (count - 1) (number / 256)) r → Appends out after (lowest_first count number) r
lowest_begin count number out before after r some b a =
    appends_more out ((number % 256) ∷ []) (lowest_first (count - 1) (number / 256)) (lowest_first count number) before after r b a (lowest_step count number some)
