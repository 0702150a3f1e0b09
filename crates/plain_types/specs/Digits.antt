-- Decimal numbers in texts.
use Rattle.std.specs.Prelude.{ℕ, ◌+◌, ◌-◌, ◌*◌, ◌^◌, min, ◌&&◌, nat_le, nat_eq, if◌then◌else◌, List, [], ◌∷◌, length, Bool, false, Option, Some, None, option_and_then}

abbrev pub is_digit : ℕ → Bool
is_digit b = nat_le 48 b && nat_le b 57

-- the number with one more digit, at most 2^64 - 1
abbrev pub with_digit : ℕ → ℕ → ℕ
with_digit n b = min (min (n * 10) (2 ^ 64 - 1) + (b - 48)) (2 ^ 64 - 1)

-- the number that the digits at the front continue, and what follows them
unfoldable pub digits_from : ℕ → List ℕ → ℕ × List ℕ
digits_from n [] = (n, [])
digits_from n (b ∷ bs) = if is_digit b then digits_from (with_digit n b) bs else (n, b ∷ bs)

-- the number that the text begins with, and what follows it
unfoldable pub number_at : List ℕ → Option (ℕ × List ℕ)
number_at [] = None
number_at (b ∷ bs) = if is_digit b then Some (digits_from 0 (b ∷ bs)) else None

-- what follows this front of the text
unfoldable pub after_text : List ℕ → List ℕ → Option (List ℕ)
after_text [] bytes = Some bytes
after_text (p ∷ ps) [] = None
after_text (p ∷ ps) (b ∷ bs) = if nat_eq b p then after_text ps bs else None

-- what follows the blanks (spaces and tabs) at the front
unfoldable pub after_blanks : List ℕ → List ℕ
after_blanks [] = []
after_blanks (b ∷ bs) = if nat_eq b 32 then after_blanks bs else (if nat_eq b 9 then after_blanks bs else b ∷ bs)

abbrev pub has_leading_zero : List ℕ → Bool
has_leading_zero [] = false
has_leading_zero (b ∷ []) = false
has_leading_zero (b ∷ c ∷ cs) = nat_eq b 48

-- the number that the whole text is, without a leading zero
unfoldable pub whole_number : List ℕ → Option ℕ
whole_number text = if has_leading_zero text then None else option_and_then (λ n. if nat_eq (length n.1) 0 then Some n.0 else None) (number_at text)
