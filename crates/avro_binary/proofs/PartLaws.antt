-- Lengths, indexes, bytes, texts, counts and blocks are read by their grammar.
use Rattle.std.proofs.Common.{◌≡◌, ◌⊎◌, ℕ, min, ◌+◌, ◌/◌, ◌%◌, ◌^◌, ◌<◌, ◌≤◌, Bool, true, false, cond, ltb, leb, eqb, ◌&&◌, List, [], ◌++◌, length, take, drop, Ok, Err, refl, sym, ap, ◌∙◌, inl, inr, arith}
use Rattle.std.specs.Str.{is_utf8, IsUtf8}
use Rattle.std.proofs.lemmas.Str.{IsUtf8-from_is_utf8, is_utf8-from_IsUtf8}
use Rattle.std.proofs.lemmas.Bool.{cases_lt, ltb-true, ltb-false, lt-ltb, le-ltb, leb-true, leb-false, le-leb, lt-leb, eqb-true}
use Rattle.std.proofs.lemmas.List.{take_at, drop_at, take-append-drop, length-append, length-take}
use Rattle.plain_types.specs.Steps.{◌>>=◌}
use Rattle.avro_binary.specs.declared.fault.FaultKind.TheVariants.{Long, Branch, Text, Size}
use Rattle.avro_binary.specs.declared.fault.Spot.{Spot}
use Rattle.avro_binary.specs.Answer.{Part, ended, spot}
use Rattle.avro_binary.specs.Number.{signed, number_at, int_at, long_at, length_at, index_at, front_at, bytes_at, text_at, count_of, counted_at, count_at}
use Rattle.avro_binary.specs.Reading.{under}
use Rattle.avro_binary.specs.Grammar.{ReadsNumber, FailsNumber, ReadsInt, FailsInt, ReadsLong, ReadsLength, FailsLength, IsIndex, ReadsIndex, FailsIndex, ReadsFront, FailsFront, ReadsBytes, FailsBytes, ReadsText, FailsText, ReadsCounted, FailsCounted, ReadsSize, FailsSize, ReadsCount, FailsCount}
use Rattle.avro_binary.proofs.Laws.{Law, done, same_value, same_rest, ok_no_err, err_no_ok, law_then, law_under, law_where, Tells}
use Rattle.avro_binary.proofs.NumberLaws.{groups_law}

number_law : (bytes : List ℕ) → Law bytes (ReadsNumber bytes) (FailsNumber bytes) (number_at bytes)
number_law bytes = groups_law 10 bytes bytes

-- ---- what the tests say

is_below : (limit : ℕ) → Tells (λ n rest. ltb n limit) (λ n rest. n < limit) (λ n rest. limit ≤ n)
is_below limit = record {
  keeps = λ n rest e. ltb-true n limit e;
  kept = λ n rest h. lt-ltb n limit h;
  fails = λ n rest e. ltb-false n limit e;
  failed = λ n rest h. le-ltb n limit h;
}

odd_or_even : (n : ℕ) → (n % 2 ≡ 0) ⊎ (n % 2 ≡ 1)
odd_or_even n = elim (cases_lt (n % 2) 1) [ inl lt ↦ inl (omega arith) | inr le ↦ inr (omega arith) ]

pub even_test : (n : ℕ) → n % 2 ≡ 0 → eqb (n % 2) 0 ≡ true
even_test n e = ap (λ m. eqb m 0) e

pub odd_test : (n : ℕ) → n % 2 ≡ 1 → eqb (n % 2) 0 ≡ false
odd_test n e = ap (λ m. eqb m 0) e

true_no_false : true ≡ false → ⊥
true_no_false e = cc

tested_odd : (n : ℕ) → eqb (n % 2) 0 ≡ false → n % 2 ≡ 1
tested_odd n e = elim (odd_or_even n) [ inl z ↦ absurd (true_no_false (sym (even_test n z) ∙ e)) | inr o ↦ o ]

is_even : Tells (λ n (rest : List ℕ). eqb (n % 2) 0) (λ n rest. n % 2 ≡ 0) (λ n rest. n % 2 ≡ 1)
is_even = record {
  keeps = λ n rest e. eqb-true (n % 2) 0 e;
  kept = λ n rest h. even_test n h;
  fails = λ n rest e. tested_odd n e;
  failed = λ n rest h. odd_test n h;
}

both_true : (a b : Bool) → (a && b) ≡ true → (a ≡ true) × (b ≡ true)
both_true true b e = (refl, e)
both_true false b e = absurd cc

not_true : (b : Bool) → (b ≡ true → ⊥) → b ≡ false
not_true true h = absurd (h refl)
not_true false h = refl

index_test : (limit n : ℕ) → IsIndex limit n → (eqb (n % 2) 0 && ltb (n / 2) (min limit (2 ^ 32))) ≡ true
index_test limit n h = ap (λ b. b && ltb (n / 2) (min limit (2 ^ 32))) (even_test n h.0) ∙ lt-ltb (n / 2) (min limit (2 ^ 32)) h.1

index_from_test : (limit n : ℕ) → (eqb (n % 2) 0 && ltb (n / 2) (min limit (2 ^ 32))) ≡ true → IsIndex limit n
index_from_test limit n e = let b = both_true (eqb (n % 2) 0) (ltb (n / 2) (min limit (2 ^ 32))) e in (eqb-true (n % 2) 0 b.0, ltb-true (n / 2) (min limit (2 ^ 32)) b.1)

is_index : (limit : ℕ) → Tells (λ n (rest : List ℕ). eqb (n % 2) 0 && ltb (n / 2) (min limit (2 ^ 32)))
    (λ n rest. IsIndex limit n) (λ n rest. ¬ (IsIndex limit n))
is_index limit = record {
  keeps = λ n rest e. index_from_test limit n e;
  kept = λ n rest h. index_test limit n h;
  fails = λ n rest e h. true_no_false (sym (index_test limit n h) ∙ e);
  failed = λ n rest h. not_true (eqb (n % 2) 0 && ltb (n / 2) (min limit (2 ^ 32))) (λ e. h (index_from_test limit n e));
}

is_text : Tells (λ text (rest : List ℕ). is_utf8 text) (λ text rest. IsUtf8 text) (λ text rest. ¬ (IsUtf8 text))
is_text = record {
  keeps = λ text rest e. IsUtf8-from_is_utf8 text e;
  kept = λ text rest h. is_utf8-from_IsUtf8 text h;
  fails = λ text rest e h. true_no_false (sym (is_utf8-from_IsUtf8 text h) ∙ e);
  failed = λ text rest h. not_true (is_utf8 text) (λ e. h (IsUtf8-from_is_utf8 text e));
}

is_counted : Tells (λ n (rest : List ℕ). leb (count_of n) (length rest)) (λ n rest. count_of n ≤ length rest) (λ n rest. length rest < count_of n)
is_counted = record {
  keeps = λ n rest e. leb-true (count_of n) (length rest) e;
  kept = λ n rest h. le-leb (count_of n) (length rest) h;
  fails = λ n rest e. leb-false (count_of n) (length rest) e;
  failed = λ n rest h. lt-leb (count_of n) (length rest) h;
}

-- ---- numbers

pub int_law : (bytes : List ℕ) → Law bytes (ReadsInt bytes) (FailsInt bytes) (int_at bytes)
unfolding int_at
int_law bytes = law_where (λ n rest. ltb n (2 ^ 32)) (λ n rest. n < 2 ^ 32) (λ n rest. 2 ^ 32 ≤ n) signed (spot Long bytes) (is_below (2 ^ 32)) (number_law bytes)

pub long_law : (bytes : List ℕ) → Law bytes (ReadsLong bytes) (FailsNumber bytes) (long_at bytes)
unfolding long_at
long_law bytes = law_under signed (number_law bytes)

pub length_law : (bytes : List ℕ) → Law bytes (ReadsLength bytes) (FailsLength bytes) (length_at bytes)
unfolding length_at
length_law bytes = law_where (λ n rest. eqb (n % 2) 0) (λ n rest. n % 2 ≡ 0) (λ n rest. n % 2 ≡ 1) (λ n. n / 2) (spot Size bytes) is_even (number_law bytes)

pub index_law : (limit : ℕ) (bytes : List ℕ) → Law bytes (ReadsIndex limit bytes) (FailsIndex limit bytes) (index_at limit bytes)
unfolding index_at
index_law limit bytes = law_where (λ n rest. eqb (n % 2) 0 && ltb (n / 2) (min limit (2 ^ 32))) (λ n rest. IsIndex limit n) (λ n rest. ¬ (IsIndex limit n)) (λ n. n / 2) (spot Branch bytes) (is_index limit) (number_law bytes)

-- ---- bytes and texts

fronted_ok : (b : Bool) (n : ℕ) (bytes text rest : List ℕ) → cond b (Err ended)
    (done (take n bytes) (drop n bytes)) ≡ done text rest → (b ≡ false) × (take n bytes ≡ text) × (drop n bytes ≡ rest)
fronted_ok true n bytes text rest e = absurd (err_no_ok text rest ended e)
fronted_ok false n bytes text rest e = (refl, same_value (take n bytes) text (drop n bytes) rest e, same_rest (take n bytes) text (drop n bytes) rest e)

fronted_err : (b : Bool) (n : ℕ) (bytes : List ℕ) (f : Spot) → cond b (Err ended) (done (take n bytes) (drop n bytes)) ≡ Err f → (b ≡ true) × (f ≡ ended)
fronted_err true n bytes f e = (refl, cc)
fronted_err false n bytes f e = absurd (ok_no_err (take n bytes) (drop n bytes) f e)

front_found : (n : ℕ) (bytes text rest : List ℕ) → front_at n bytes ≡ Ok (text, rest) → ReadsFront n bytes text rest
unfolding front_at
front_found n bytes text rest e =
    let g = fronted_ok (ltb (length bytes) n) n bytes text rest e in
    let long : n ≤ length bytes = ltb-false (length bytes) n g.0 in
    (ap length (sym g.1) ∙ omega (arith, length-take n bytes), sym (take-append-drop n bytes) ∙ ap (λ (t : List ℕ). t ++ drop n bytes) g.1 ∙ ap (λ (t : List ℕ). text ++ t) g.2)

front_again : (n : ℕ) (text rest : List ℕ) → length text ≡ n → front_at n (text ++ rest) ≡ Ok (text, rest)
unfolding front_at
front_again n text rest len =
    let long : ltb (length (text ++ rest)) n ≡ false = le-ltb (length (text ++ rest)) n (omega (arith, length-append text rest)) in
    rw (long, take_at text rest n len, drop_at text rest n len) refl

pub front_law : (n : ℕ) (bytes : List ℕ) → Law bytes (ReadsFront n bytes) (FailsFront n bytes) (front_at n bytes)
unfolding front_at
front_law n bytes = record {
  found = λ text rest e. front_found n bytes text rest e;
  only = λ text rest h. ap (front_at n) h.1 ∙ front_again n text rest h.0;
  fault = λ f e. (let g = fronted_err (ltb (length bytes) n) n bytes f e in (ltb-true (length bytes) n g.0, g.1));
  first = λ f h. ap (λ b. cond b (Err ended) (done (take n bytes) (drop n bytes))) (lt-ltb (length bytes) n h.0) ∙ ap (λ (g : Spot). Err g) (sym h.1);
  parts = λ text rest e. (text, (front_found n bytes text rest e).1);
}

pub bytes_law : (bytes : List ℕ) → Law bytes (ReadsBytes bytes) (FailsBytes bytes) (bytes_at bytes)
unfolding bytes_at
bytes_law bytes = law_then ReadsFront FailsFront (λ n. front_at n.0 n.1) (length_law bytes) (λ n after e. front_law n after)

pub text_law : (bytes : List ℕ) → Law bytes (ReadsText bytes) (FailsText bytes) (text_at bytes)
unfolding text_at
text_law bytes = law_where (λ text rest. is_utf8 text) (λ text rest. IsUtf8 text) (λ text rest. ¬ (IsUtf8 text)) (λ text. text) (spot Text bytes) is_text (bytes_law bytes)

-- ---- counts

counted_law : (bytes : List ℕ) → Law bytes (ReadsCounted bytes) (FailsCounted bytes) (counted_at bytes)
unfolding counted_at
counted_law bytes = law_where (λ n rest. leb (count_of n) (length rest)) (λ n rest. count_of n ≤ length rest) (λ n rest. length rest < count_of n) (λ n. n) (spot Size bytes) is_counted (number_law bytes)

size_of_count : ℕ × List ℕ → Part ℕ
size_of_count n = cond (eqb (n.0 % 2) 0) (Ok (n.0 / 2, n.1)) (length_at n.1 >>= λ size. Ok (n.0 / 2 + 1, size.1))

abbrev zero_is_one : Type 0
zero_is_one = let none : ℕ = 0 in none ≡ 1

zero_no_one : zero_is_one → ⊥
zero_no_one e = cc

size_law_even : (n : ℕ) (bytes : List ℕ) → n % 2 ≡ 0 → Law bytes (ReadsSize n bytes) (FailsSize n bytes) (size_of_count (n, bytes))
unfolding size_of_count
size_law_even n bytes even =
    let is : size_of_count (n, bytes) ≡ done (n / 2) bytes = rw (even_test n even) refl in
    record {
      found = λ count rest e. (let ok = sym is ∙ e in inl (even, sym (same_value (n / 2) count bytes rest ok), same_rest (n / 2) count bytes rest ok));
      only = λ count rest h. elim h [ inl l ↦ is ∙ ap (λ (m : ℕ). done m bytes) (sym l.1) ∙ ap (λ (t : List ℕ). done count t) l.2 | inr r ↦ absurd (zero_no_one (sym even ∙ r.0)) ];
      fault = λ f e. absurd (ok_no_err (n / 2) bytes f (sym is ∙ e));
      first = λ f h. absurd (zero_no_one (sym even ∙ h.0));
      parts = λ count rest e. ([], same_rest (n / 2) count bytes rest (sym is ∙ e));
    }

size_law_odd : (n : ℕ) (bytes : List ℕ) → n % 2 ≡ 1 → Law bytes (ReadsSize n bytes) (FailsSize n bytes) (size_of_count (n, bytes))
unfolding size_of_count
size_law_odd n bytes odd =
    let is : size_of_count (n, bytes) ≡ under (λ (size : ℕ). n / 2 + 1) (length_at bytes) = rw (odd_test n odd) refl in
    let l = law_under (λ (size : ℕ). n / 2 + 1) (length_law bytes) in
    record {
      found = λ count rest e. (let r = l.found count rest (sym is ∙ e) in inr (odd, r.2, (r.0, r.1)));
      only = λ count rest h. elim h [ inl z ↦ absurd (zero_no_one (sym z.0 ∙ odd)) | inr r ↦ is ∙ l.only count rest (r.2.0, r.2.1, r.1) ];
      fault = λ f e. (odd, l.fault f (sym is ∙ e));
      first = λ f h. is ∙ l.first f h.1;
      parts = λ count rest e. l.parts count rest (sym is ∙ e);
    }

size_law : (n : ℕ) (bytes : List ℕ) → Law bytes (ReadsSize n bytes) (FailsSize n bytes) (size_of_count (n, bytes))
unfolding size_of_count
size_law n bytes = elim (odd_or_even n) [ inl even ↦ size_law_even n bytes even | inr odd ↦ size_law_odd n bytes odd ]

pub count_law : (bytes : List ℕ) → Law bytes (ReadsCount bytes) (FailsCount bytes) (count_at bytes)
unfolding count_at size_of_count
count_law bytes = law_then ReadsSize FailsSize size_of_count (counted_law bytes) (λ n after e. size_law n after)
