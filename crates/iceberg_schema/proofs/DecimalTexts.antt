-- A number is read of its decimal text.
use Rattle.std.proofs.Common.{◌≡◌, ℕ, ◌+◌, ◌*◌, ◌/◌, ◌%◌, ◌^◌, ◌<◌, Bool, true, false, List, [], ◌∷◌, ◌++◌, Some, None, nat_eq, refl, ap, sym, ◌∙◌, arith, append_assoc}
use Rattle.std.specs.Prelude.{if◌then◌else◌, decimal}
use Rattle.std.proofs.lemmas.Bool.Decides.{nat_tests}
use Rattle.std.proofs.lemmas.Fmt.{decimal_by_steps}
use Rattle.plain_types.specs.Digits.{is_digit, with_digit, digits_from, number_at, after_blanks}

digit_is : (d : ℕ) → d < 10 → is_digit (48 + d) ≡ true
digit_is d h = grind (arith, nat_tests)

digit_read : (n d : ℕ) (rest : List ℕ) → d < 10 → n * 10 + d < 2 ^ 64 → digits_from n ((48 + d) ∷ rest) ≡ digits_from (n * 10 + d) rest
unfolding digits_from
digit_read n d rest h k =
    let e : with_digit n (48 + d) ≡ n * 10 + d = omega arith in
    ap (λ (b : Bool). if b then digits_from (with_digit n (48 + d)) rest else (n, (48 + d) ∷ rest)) (digit_is d h)
    ∙ ap (λ (m : ℕ). digits_from m rest) e

-- the text of a number: it begins with a digit, and its digits are read on into what follows
record IsText (n : ℕ) (ds : List ℕ) : Type 0 where
  first : ℕ
  others : List ℕ
  parts : ds ≡ first ∷ others
  digit : is_digit first ≡ true
  value : (rest : List ℕ) → digits_from 0 (ds ++ rest) ≡ digits_from n rest

text_of_digit : (n : ℕ) → n < 10 → IsText n ((48 + n) ∷ [])
text_of_digit n h = record {
  first = 48 + n;
  others = [];
  parts = refl;
  digit = digit_is n h;
  value = λ rest. digit_read 0 n rest h (omega arith) ∙ ap (λ (m : ℕ). digits_from m rest) (omega arith);
}

text_of_more : (n : ℕ) (ds : List ℕ) → n < 2 ^ 64 → IsText (n / 10) ds → IsText n (ds ++ ((48 + n % 10) ∷ []))
text_of_more n ds small h = record {
  first = h.first;
  others = h.others ++ ((48 + n % 10) ∷ []);
  parts = ap (λ (xs : List ℕ). xs ++ ((48 + n % 10) ∷ [])) h.parts;
  digit = h.digit;
  value = λ rest. ap (digits_from 0) (append_assoc ds ((48 + n % 10) ∷ []) rest) ∙ h.value ((48 + n % 10) ∷ rest)
      ∙ digit_read (n / 10) (n % 10) rest (omega arith) (omega arith) ∙ ap (λ (m : ℕ). digits_from m rest) (omega arith);
}

decimal_text : (n : ℕ) → n < 2 ^ 64 → IsText n (decimal n)
decimal_text n small = decimal_by_steps (λ m ds. m < 2 ^ 64 → IsText m ds)
    (λ m l a. text_of_digit m l) (λ m ds l h a. text_of_more m ds a (h (omega arith))) n small small

digits_end : (n b : ℕ) (rest : List ℕ) → is_digit b ≡ false → digits_from n (b ∷ rest) ≡ (n, b ∷ rest)
unfolding digits_from
digits_end n b rest h = ap (λ (t : Bool). if t then digits_from (with_digit n b) rest else (n, b ∷ rest)) h

number_begins : (b : ℕ) (bs : List ℕ) → is_digit b ≡ true → number_at (b ∷ bs) ≡ Some (digits_from 0 (b ∷ bs))
unfolding number_at
number_begins b bs h = ap (λ (t : Bool). if t then Some (digits_from 0 (b ∷ bs)) else None) h

-- a number before what is no digit
pub number_read : (n b : ℕ) (rest : List ℕ) → n < 2 ^ 64 → is_digit b ≡ false → number_at (decimal n ++ (b ∷ rest)) ≡ Some (n, b ∷ rest)
number_read n b rest small h =
    let t = decimal_text n small in
    let e : decimal n ++ (b ∷ rest) ≡ t.first ∷ (t.others ++ (b ∷ rest)) = ap (λ (xs : List ℕ). xs ++ (b ∷ rest)) t.parts in
    ap number_at e ∙ number_begins t.first (t.others ++ (b ∷ rest)) t.digit
    ∙ ap (λ (xs : List ℕ). Some (digits_from 0 xs)) (sym e) ∙ ap Some (t.value (b ∷ rest) ∙ digits_end n b rest h)

no_blank : (b : ℕ) (bs : List ℕ) → is_digit b ≡ true → after_blanks (b ∷ bs) ≡ b ∷ bs
unfolding after_blanks
no_blank b bs h =
    let space : nat_eq b 32 ≡ false = grind (arith, nat_tests) in
    let tab : nat_eq b 9 ≡ false = grind (arith, nat_tests) in
    rw (space, tab)

-- no blank stands before a number
pub number_unblanked : (n : ℕ) (rest : List ℕ) → n < 2 ^ 64 → after_blanks (decimal n ++ rest) ≡ decimal n ++ rest
number_unblanked n rest small =
    let t = decimal_text n small in
    let e : decimal n ++ rest ≡ t.first ∷ (t.others ++ rest) = ap (λ (xs : List ℕ). xs ++ rest) t.parts in
    ap after_blanks e ∙ no_blank t.first (t.others ++ rest) t.digit ∙ sym e
