-- JSON that is read from UTF-8: its texts are UTF-8, and its whole numbers have 64 bits.
use Rattle.std.proofs.Common.{◌≡◌, ℕ, zero, suc, ◌+◌, ◌-◌, ◌*◌, ◌^◌, ◌<◌, ◌≤◌, Bool, true, false, cond, ◌&&◌, ◌==◌, nat_eq, nat_lt, nat_le, List, [], ◌∷◌}
use Rattle.std.proofs.Common.{◌++◌, length, take, drop, get_or, Option, Some, None, refl, sym, ap, subst, ◌∙◌, inl, inr, append_assoc, append-nil, arith}
use Rattle.std.specs.Prelude.{pos, neg_ℤ, option_map, option_and_then, slice_index, if◌then◌else◌}
use Rattle.std.specs.Ordering.{nat_cmp, match_ordering}
use Rattle.std.specs.declared.cmp.Ordering.{Ordering}
use Rattle.std.specs.declared.cmp.Ordering.TheVariants as ordering
use Rattle.std.specs.Cmp.Lexicographic.{slice_cmp}
use Rattle.std.specs.List.{starts_with}
use Rattle.std.specs.Float.{binary64, float_is_finite}
use Rattle.std.specs.Float.Numeral.{minus, Parts, scan_numeral, numeral_digits, nearest_float}
use Rattle.std.specs.Char.{digit_value, is_digit, encode_utf8}
use Rattle.std.specs.Str.{IsUtf8, is_utf8}
use Rattle.std.proofs.lemmas.Bool.{cases_lt, eqb-true, ltb-true, le-ltb, leb-true, lt-ltb, le-leb}
use Rattle.std.proofs.lemmas.List.{take_at, drop_at}
use Rattle.std.proofs.lemmas.Str.{IsUtf8-append, IsUtf8-encode, IsUtf8-take, IsUtf8-drop, IsCharBoundary-before_ascii, IsCharBoundary-after_ascii, encode_ascii, IsUtf8-from_is_utf8}
use lib.Utf8.{scalar, low_scalar}
use Rattle.json.specs.Token.{Token, begin_object, end_object, begin_array, end_array, key, string, number, boolean, null, bad}
use Rattle.json.specs.Text.{code_unit, short_escape, is_high_surrogate, is_low_surrogate, surrogate_pair, Within, plain, after_backslash, after_u, after_high, prepend, content}
use Rattle.json.specs.Word.{head, is_operator, is_space, number_before, literal, after_number, word, ends_word}
use Rattle.json.specs.Ascii as ascii
use Rattle.json.specs.Lex as lex
use Rattle.json.specs.Json as json
use Rattle.serde_json.specs.Data as values
use Rattle.serde_json.specs.Read.{is_integer, float_of, number_from, number_of, of_json, of_items, of_members, read, max_depth}
use Rattle.avro_binary.specs.SchemaText.{json_of}
use Rattle.avro_binary.proofs.SchemaLaws.{same_some, none_some, and_then, both_true}
use Rattle.avro_binary.proofs.SchemaTexts.{front_at}

-- ---- options

map_some : {A B : Type 0} (g : A → B) (o : Option A) (y : B) → option_map g o ≡ Some y → (x : A) × (o ≡ Some x) × (g x ≡ y)
map_some g None y e = none_some y e
map_some g (Some x) y e = (x, refl, same_some (g x) y e)

-- ---- a text is cut at a byte of ASCII

cut_before : (pre : List ℕ) (x : ℕ) (xs : List ℕ) → x < 128 → IsUtf8 (pre ++ x ∷ xs) → IsUtf8 pre
cut_before pre x xs small u =
    let h = front_at pre x xs in
    let low : get_or (pre ++ x ∷ xs) (length pre) 0 < 128 = omega arith in
    subst IsUtf8 (take_at pre (x ∷ xs) (length pre) refl) (IsUtf8-take (pre ++ x ∷ xs) (length pre) u (IsCharBoundary-before_ascii (pre ++ x ∷ xs) (length pre) h.0 low))

one_more : (pre : List ℕ) (x : ℕ) → length (pre ++ x ∷ []) ≡ length pre + 1
one_more [] x = refl
one_more (p ∷ pre) x = let h = one_more pre x in omega arith

cut_after : (pre : List ℕ) (x : ℕ) (xs : List ℕ) → x < 128 → IsUtf8 (pre ++ x ∷ xs) → IsUtf8 xs
cut_after pre x xs small u =
    let h = front_at pre x xs in
    let low : get_or (pre ++ x ∷ xs) (length pre) 0 < 128 = omega arith in
    let rest : drop (length pre + 1) (pre ++ x ∷ xs) ≡ xs = ap (drop (length pre + 1)) (sym (append_assoc pre (x ∷ []) xs)) ∙ drop_at (pre ++ x ∷ []) xs (length pre + 1) (one_more pre x) in
    subst IsUtf8 rest (IsUtf8-drop (pre ++ x ∷ xs) (length pre + 1) u (IsCharBoundary-after_ascii (pre ++ x ∷ xs) (length pre) u h.0 low))

ascii_one : (x : ℕ) → x < 128 → IsUtf8 (x ∷ [])
ascii_one x small = subst IsUtf8 (encode_ascii x small) (IsUtf8-encode x (low_scalar x (omega arith)))

-- ---- the content of a string

high_scalar : (c : ℕ) → 57344 ≤ c → c < 1114112 → scalar c ≡ true
high_scalar c low high =
    let a : nat_lt c 55296 ≡ false = le-ltb c 55296 (omega arith) in
    let b : nat_le 57344 c ≡ true = le-leb 57344 c low in
    let d : nat_lt c 1114112 ≡ true = lt-ltb c 1114112 high in
    rw (a, b, d) refl

abbrev TextOf : Within → List ℕ → Type 0
TextOf plain xs = (pre s : List ℕ) → IsUtf8 (pre ++ xs) → content plain xs ≡ Some s → IsUtf8 (pre ++ s)
TextOf after_backslash xs = (s : List ℕ) → IsUtf8 xs → content after_backslash xs ≡ Some s → IsUtf8 s
TextOf after_u xs = (s : List ℕ) → IsUtf8 xs → content after_u xs ≡ Some s → IsUtf8 s
TextOf (after_high h) xs = (s : List ℕ) → is_high_surrogate h ≡ true → IsUtf8 xs → content (after_high h) xs ≡ Some s → IsUtf8 s

plain_step : (q k l : Bool) (x : ℕ) (xs pre s : List ℕ) → (x == 34) ≡ q → (x == 92) ≡ k → IsUtf8 (pre ++ x ∷ xs) → TextOf after_backslash xs → TextOf plain xs
    → cond q (Some []) (cond k (content after_backslash xs) (cond l None (prepend (x ∷ []) (content plain xs)))) ≡ Some s → IsUtf8 (pre ++ s)
plain_step true k l x xs pre s is b u escaped more e =
    let x34 : x ≡ 34 = eqb-true x 34 is in
    let small : x < 128 = omega arith in
    subst (λ (t : List ℕ). IsUtf8 (pre ++ t)) (same_some [] s e) (subst IsUtf8 (sym (append-nil pre)) (cut_before pre x xs small u))
plain_step false true l x xs pre s q is u escaped more e =
    let x92 : x ≡ 92 = eqb-true x 92 is in
    let small : x < 128 = omega arith in
    IsUtf8-append pre s (cut_before pre x xs small u) (escaped s (cut_after pre x xs small u) e)
plain_step false false true x xs pre s q is u escaped more e = none_some s e
plain_step false false false x xs pre s q is u escaped more e =
    let r = map_some (λ (t : List ℕ). (x ∷ []) ++ t) (content plain xs) s e in
    let longer : IsUtf8 ((pre ++ x ∷ []) ++ r.0) = more (pre ++ x ∷ []) r.0 (subst IsUtf8 (sym (append_assoc pre (x ∷ []) xs)) u) r.1 in
    subst (λ (t : List ℕ). IsUtf8 (pre ++ t)) r.2 (subst IsUtf8 (append_assoc pre (x ∷ []) r.0) longer)

short_small : (x c : ℕ) → short_escape x ≡ Some c → (x < 128) × (c < 128)
unfolding short_escape
short_small x c e = grind arith

backslash_step : (k : Bool) (x : ℕ) (xs s : List ℕ) → (x == 117) ≡ k → IsUtf8 (x ∷ xs) → TextOf after_u xs → TextOf plain xs
    → cond k (content after_u xs) (option_and_then (λ c. prepend (c ∷ []) (content plain xs)) (short_escape x)) ≡ Some s → IsUtf8 s
backslash_step true x xs s is u unit more e =
    let same : x ≡ 117 = eqb-true x 117 is in
    let small : x < 128 = omega arith in
    unit s (cut_after [] x xs small u) e
backslash_step false x xs s is u unit more e =
    let c = and_then (λ (c : ℕ). prepend (c ∷ []) (content plain xs)) (short_escape x) s e in
    let small = short_small x c.0 c.1 in
    let r = map_some (λ (t : List ℕ). (c.0 ∷ []) ++ t) (content plain xs) s c.2 in
    let rest : IsUtf8 r.0 = more [] r.0 (cut_after [] x xs small.0 u) r.1 in
    subst IsUtf8 r.2 (IsUtf8-append (c.0 ∷ []) r.0 (ascii_one c.0 small.1) rest)

hex_small : (a : ℕ) → is_digit a 16 ≡ true → (a < 128) × (digit_value a < 16)
hex_small a e = (grind arith, ltb-true (digit_value a) 16 e)

unit_by : (h : Bool) (u v : ℕ) → cond h (Some u) None ≡ Some v → (h ≡ true) × (u ≡ v)
unit_by true u v e = (refl, same_some u v e)
unit_by false u v e = none_some v e

record Unit16 (a b c d u : ℕ) : Type 0 where
  a_small : a < 128
  b_small : b < 128
  c_small : c < 128
  d_small : d < 128
  fits : u < 65536

unit_of : (a b c d u : ℕ) → code_unit a b c d ≡ Some u → Unit16 a b c d u
unfolding code_unit
unit_of a b c d u e =
    let h = unit_by (is_digit a 16 && is_digit b 16 && is_digit c 16 && is_digit d 16) (digit_value a * 4096 + digit_value b * 256 + digit_value c * 16 + digit_value d) u e in
    let abc = both_true (is_digit a 16 && is_digit b 16 && is_digit c 16) (is_digit d 16) h.0 in
    let ab = both_true (is_digit a 16 && is_digit b 16) (is_digit c 16) abc.0 in
    let a_b = both_true (is_digit a 16) (is_digit b 16) ab.0 in
    let ha = hex_small a a_b.0 in
    let hb = hex_small b a_b.1 in
    let hc = hex_small c ab.1 in
    let hd = hex_small d abc.1 in
    record { a_small = ha.0; b_small = hb.0; c_small = hc.0; d_small = hd.0; fits = omega (arith, ha.1, hb.1, hc.1, hd.1, h.1) }

after_four : (a b c d u : ℕ) (xs : List ℕ) → Unit16 a b c d u → IsUtf8 (a ∷ b ∷ c ∷ d ∷ xs) → IsUtf8 xs
after_four a b c d u xs h text = cut_after [] d xs h.d_small (cut_after [] c (d ∷ xs) h.c_small (cut_after [] b (c ∷ d ∷ xs) h.b_small (cut_after [] a (b ∷ c ∷ d ∷ xs) h.a_small text)))

no_surrogate : (u : ℕ) → u < 65536 → is_high_surrogate u ≡ false → is_low_surrogate u ≡ false → scalar u ≡ true
no_surrogate u small high low = elim (cases_lt u 55296) [
  | inl lt ↦ low_scalar u lt
  | inr ge ↦ elim (cases_lt u 57344) [
    | inl lt ↦ (let no : ⊥ = grind arith in absurd no)
    | inr big ↦ high_scalar u big (omega arith)
  ]
]

unit_step : (high low : Bool) (u : ℕ) (xs s : List ℕ) → is_high_surrogate u ≡ high → is_low_surrogate u ≡ low → u < 65536
    → IsUtf8 xs → TextOf (after_high u) xs → TextOf plain xs
    → cond high (content (after_high u) xs) (cond low None (prepend (encode_utf8 u) (content plain xs))) ≡ Some s → IsUtf8 s
unit_step true low u xs s is l small text pair more e = pair s is text e
unit_step false true u xs s h is small text pair more e = none_some s e
unit_step false false u xs s h l small text pair more e =
    let r = map_some (λ (t : List ℕ). encode_utf8 u ++ t) (content plain xs) s e in
    subst IsUtf8 r.2 (IsUtf8-append (encode_utf8 u) r.0 (IsUtf8-encode u (no_surrogate u small h l)) (more [] r.0 text r.1))

pair_scalar : (h l : ℕ) → is_high_surrogate h ≡ true → is_low_surrogate l ≡ true → scalar (surrogate_pair h l) ≡ true
pair_scalar h l high low =
    let a = both_true (nat_le 0xd800 h) (nat_lt h 0xdc00) high in
    let b = both_true (nat_le 0xdc00 l) (nat_lt l 0xe000) low in
    let a0 : 0xd800 ≤ h = leb-true 0xd800 h a.0 in
    let a1 : h < 0xdc00 = ltb-true h 0xdc00 a.1 in
    let b0 : 0xdc00 ≤ l = leb-true 0xdc00 l b.0 in
    let b1 : l < 0xe000 = ltb-true l 0xe000 b.1 in
    high_scalar (surrogate_pair h l) (omega arith) (omega arith)

low_step : (low : Bool) (h l : ℕ) (xs s : List ℕ) → is_low_surrogate l ≡ low → is_high_surrogate h ≡ true → IsUtf8 xs
    → TextOf plain xs → cond low (prepend (encode_utf8 (surrogate_pair h l)) (content plain xs)) None ≡ Some s → IsUtf8 s
low_step true h l xs s is high text more e =
    let r = map_some (λ (t : List ℕ). encode_utf8 (surrogate_pair h l) ++ t) (content plain xs) s e in
    subst IsUtf8 r.2 (IsUtf8-append (encode_utf8 (surrogate_pair h l)) r.0 (IsUtf8-encode (surrogate_pair h l) (pair_scalar h l high is)) (more [] r.0 text r.1))
low_step false h l xs s is high text more e = none_some s e

slash_by : {A : Type 0} (h : Bool) (o : Option A) (s : A) → cond h o None ≡ Some s → (h ≡ true) × (o ≡ Some s)
slash_by true o s e = (refl, e)
slash_by false o s e = none_some s e

content_text : (w : Within) (xs : List ℕ) → TextOf w xs
unfolding content
content_text plain [] = λ pre s u e. none_some s e
content_text plain (x ∷ xs) = λ pre s u e. plain_step (x == 34) (x == 92) (nat_lt x 32) x xs pre s refl refl u (content_text after_backslash xs) (content_text plain xs) e
content_text after_backslash [] = λ s u e. none_some s e
content_text after_backslash (x ∷ xs) = λ s u e. backslash_step (x == 117) x xs s refl u (content_text after_u xs) (content_text plain xs) e
content_text after_u [] = λ s u e. none_some s e
content_text after_u (a ∷ []) = λ s u e. none_some s e
content_text after_u (a ∷ b ∷ []) = λ s u e. none_some s e
content_text after_u (a ∷ b ∷ c ∷ []) = λ s u e. none_some s e
content_text after_u (a ∷ b ∷ c ∷ d ∷ xs) = λ s u e.
    let c1 = and_then (λ (v : ℕ). cond (is_high_surrogate v) (content (after_high v) xs) (cond (is_low_surrogate v) None (prepend (encode_utf8 v) (content plain xs)))) (code_unit a b c d) s e in
    let h = unit_of a b c d c1.0 c1.1 in
    unit_step (is_high_surrogate c1.0) (is_low_surrogate c1.0) c1.0 xs s refl refl h.fits (after_four a b c d c1.0 xs h u) (content_text (after_high c1.0) xs) (content_text plain xs) c1.2
content_text (after_high h) [] = λ s high u e. none_some s e
content_text (after_high h) (y ∷ []) = λ s high u e. none_some s e
content_text (after_high h) (y ∷ z ∷ []) = λ s high u e. none_some s e
content_text (after_high h) (y ∷ z ∷ a ∷ []) = λ s high u e. none_some s e
content_text (after_high h) (y ∷ z ∷ a ∷ b ∷ []) = λ s high u e. none_some s e
content_text (after_high h) (y ∷ z ∷ a ∷ b ∷ c ∷ []) = λ s high u e. none_some s e
content_text (after_high h) (y ∷ z ∷ a ∷ b ∷ c ∷ d ∷ xs) = λ s high u e.
    let pair = slash_by ((y == 92) && (z == 117)) (option_and_then (λ l. cond (is_low_surrogate l) (prepend (encode_utf8 (surrogate_pair h l)) (content plain xs)) None) (code_unit a b c d)) s e in
    let yz = both_true (y == 92) (z == 117) pair.0 in
    let y_is : y ≡ 92 = eqb-true y 92 yz.0 in
    let z_is : z ≡ 117 = eqb-true z 117 yz.1 in
    let y_small : y < 128 = omega arith in
    let z_small : z < 128 = omega arith in
    let l = and_then (λ (l : ℕ). cond (is_low_surrogate l) (prepend (encode_utf8 (surrogate_pair h l)) (content plain xs)) None) (code_unit a b c d) s pair.1 in
    let unit = unit_of a b c d l.0 l.1 in
    low_step (is_low_surrogate l.0) h l.0 xs s refl high (after_four a b c d l.0 xs unit (cut_after [] z (a ∷ b ∷ c ∷ d ∷ xs) z_small (cut_after [] y (z ∷ a ∷ b ∷ c ∷ d ∷ xs) y_small u))) (content_text plain xs) l.2

-- ---- lexemes

abbrev TokenText : Token → Type 0
TokenText begin_object = Unit {0}
TokenText end_object = Unit {0}
TokenText begin_array = Unit {0}
TokenText end_array = Unit {0}
TokenText (key s) = IsUtf8 s
TokenText (string s) = IsUtf8 s
TokenText (number s) = Unit {0}
TokenText (boolean b) = Unit {0}
TokenText null = Unit {0}
TokenText bad = Unit {0}

abbrev LexemeText : lex.Lexeme → Type 0
LexemeText (lex.token t) = TokenText t
LexemeText lex.comma = Unit {0}
LexemeText lex.colon = Unit {0}

abbrev LexemeTexts : List lex.Lexeme → Type 0
LexemeTexts [] = Unit {0}
LexemeTexts (l ∷ ls) = LexemeText l × LexemeTexts ls

abbrev TokenTexts : List Token → Type 0
TokenTexts [] = Unit {0}
TokenTexts (t ∷ ts) = TokenText t × TokenTexts ts

operator_by : (a b c d e : Bool) → LexemeText (cond a (lex.token begin_object)
    (cond b (lex.token end_object) (cond c (lex.token begin_array) (cond d (lex.token end_array) (cond e lex.comma lex.colon)))))
operator_by true b c d e = tt
operator_by false true c d e = tt
operator_by false false true d e = tt
operator_by false false false true e = tt
operator_by false false false false true = tt
operator_by false false false false false = tt

literal_by : (b : Bool) (t : Token) → TokenText t → TokenText (cond b t bad)
literal_by true t h = h
literal_by false t h = tt

number_text : (t : List ℕ) (o : Option (List ℕ)) → TokenText (number_before t o)
number_text t None = tt
number_text t (Some rest) = literal_by (ends_word rest) (number (take (length t - length rest) t)) tt

either_token : (b : Bool) (t u : Token) → TokenText t → TokenText u → TokenText (cond b t u)
either_token true t u ht hu = ht
either_token false t u ht hu = hu

literal_text : (name : List ℕ) (t : Token) (text : List ℕ) → TokenText t → TokenText (literal name t text)
literal_text name t text h = literal_by (starts_with nat_eq text name && ends_word (drop (length name) text)) t h

word_text : (t : List ℕ) → TokenText (word t)
unfolding word
word_text t =
    let numbers : Token = number_before t (after_number t) in
    let nulls : Token = cond (head t == ascii.lower_n) (literal ascii.null_text null t) numbers in
    let falses : Token = cond (head t == ascii.lower_f) (literal ascii.false_text (boolean false) t) nulls in
    either_token (head t == ascii.lower_t) (literal ascii.true_text (boolean true) t) falses (literal_text ascii.true_text (boolean true) t tt)
    (either_token (head t == ascii.lower_f) (literal ascii.false_text (boolean false) t) nulls (literal_text ascii.false_text (boolean false) t tt)
    (either_token (head t == ascii.lower_n) (literal ascii.null_text null t) numbers (literal_text ascii.null_text null t tt) (number_text t (after_number t))))

string_text : (o : Option (List ℕ)) → ((s : List ℕ) → o ≡ Some s → IsUtf8 s) → TokenText (lex.string_token o)
string_text None h = tt
string_text (Some s) h = h s refl

quote_by : (q b o s : Bool) → cond q lex.quote (cond b lex.backslash (cond o lex.operator (cond s lex.space lex.other))) ≡ lex.quote → q ≡ true
quote_by true b o s e = refl
quote_by false true o s e = absurd cc
quote_by false false true s e = absurd cc
quote_by false false false true e = absurd cc
quote_by false false false false e = absurd cc

quote_is : (x : ℕ) → lex.class x ≡ lex.quote → x < 128
quote_is x e =
    let is : x ≡ 34 = eqb-true x 34 (quote_by (x == 34) (x == 92) (is_operator x) (is_space x) e) in
    omega arith

lex_step : (m : lex.Mode) (c : lex.Class) (x : ℕ) (pre xs : List ℕ) → lex.class x ≡ c → IsUtf8 (pre ++ x ∷ xs)
    → ((next : lex.Mode) → LexemeTexts (lex.lex next xs)) → LexemeTexts (lex.lex_byte m c x xs (λ next. lex.lex next xs))
lex_step lex.between lex.quote x pre xs is u more = (string_text (content plain xs) (λ s e. content_text plain xs [] s (cut_after pre x xs (quote_is x is) u) e), more lex.in_string)
lex_step lex.between lex.backslash x pre xs is u more = (tt, more lex.in_word)
lex_step lex.between lex.operator x pre xs is u more = (operator_by _ _ _ _ _, more lex.between)
lex_step lex.between lex.space x pre xs is u more = more lex.between
lex_step lex.between lex.other x pre xs is u more = (word_text (x ∷ xs), more lex.in_word)
lex_step lex.in_word lex.quote x pre xs is u more = more lex.in_word
lex_step lex.in_word lex.backslash x pre xs is u more = more lex.in_word
lex_step lex.in_word lex.operator x pre xs is u more = (operator_by _ _ _ _ _, more lex.between)
lex_step lex.in_word lex.space x pre xs is u more = more lex.between
lex_step lex.in_word lex.other x pre xs is u more = more lex.in_word
lex_step lex.in_string lex.quote x pre xs is u more = more lex.between
lex_step lex.in_string lex.backslash x pre xs is u more = more lex.in_escape
lex_step lex.in_string lex.operator x pre xs is u more = more lex.in_string
lex_step lex.in_string lex.space x pre xs is u more = more lex.in_string
lex_step lex.in_string lex.other x pre xs is u more = more lex.in_string
lex_step lex.in_escape c x pre xs is u more = more lex.in_string

lexemes : (xs pre : List ℕ) (m : lex.Mode) → IsUtf8 (pre ++ xs) → LexemeTexts (lex.lex m xs)
unfolding lex.lex
lexemes [] pre m u = tt
lexemes (x ∷ xs) pre m u = lex_step m (lex.class x) x pre xs refl u (λ next. lexemes xs (pre ++ x ∷ []) next (subst IsUtf8 (sym (append_assoc pre (x ∷ []) xs)) u))

-- ---- tokens

allowed : (b : Bool) (t : Token) (k : lex.Place → List Token) (next : lex.Place) → TokenText t
    → ((p : lex.Place) → TokenTexts (k p)) → TokenTexts (lex.if_allowed b t k next)
allowed true t k next h more = (h, more next)
allowed false t k next h more = (tt, tt)

placed_token : (p : lex.Place) (t : Token) (before_colon : Bool) (k : lex.Place → List Token) → TokenText t
    → ((q : lex.Place) → TokenTexts (k q)) → TokenTexts (lex.place_token p t before_colon k)
placed_token p begin_object b k h more = allowed (lex.may_begin p) begin_object k lex.fresh tt more
placed_token p end_object b k h more = allowed (lex.may_close p) end_object k lex.after_value tt more
placed_token p begin_array b k h more = allowed (lex.may_begin p) begin_array k lex.fresh tt more
placed_token p end_array b k h more = allowed (lex.may_close p) end_array k lex.after_value tt more
placed_token p (key s) b k h more = (tt, tt)
placed_token p (string s) true k h more = allowed (lex.may_begin p) (key s) k lex.after_key h more
placed_token p (string s) false k h more = allowed (lex.may_begin p) (string s) k lex.after_value h more
placed_token p (number s) b k h more = allowed (lex.may_begin p) (number s) k lex.after_value tt more
placed_token p (boolean v) b k h more = allowed (lex.may_begin p) (boolean v) k lex.after_value tt more
placed_token p null b k h more = allowed (lex.may_begin p) null k lex.after_value tt more
placed_token p bad b k h more = (tt, tt)

punctuated : (p : lex.Place) (ls : List lex.Lexeme) → LexemeTexts ls → TokenTexts (lex.punctuate p ls)
unfolding lex.punctuate
punctuated lex.fresh [] h = tt
punctuated lex.after_value [] h = tt
punctuated lex.after_comma [] h = (tt, tt)
punctuated lex.after_key [] h = (tt, tt)
punctuated lex.fresh (lex.token t ∷ ls) h = placed_token lex.fresh t (lex.begins_colon ls) (λ next. lex.punctuate next ls) h.0 (λ q. punctuated q ls h.1)
punctuated lex.after_value (lex.token t ∷ ls) h = placed_token lex.after_value t (lex.begins_colon ls) (λ next. lex.punctuate next ls) h.0 (λ q. punctuated q ls h.1)
punctuated lex.after_comma (lex.token t ∷ ls) h = placed_token lex.after_comma t (lex.begins_colon ls) (λ next. lex.punctuate next ls) h.0 (λ q. punctuated q ls h.1)
punctuated lex.after_key (lex.token t ∷ ls) h = placed_token lex.after_key t (lex.begins_colon ls) (λ next. lex.punctuate next ls) h.0 (λ q. punctuated q ls h.1)
punctuated lex.fresh (lex.comma ∷ ls) h = (tt, tt)
punctuated lex.after_value (lex.comma ∷ ls) h = punctuated lex.after_comma ls h.1
punctuated lex.after_comma (lex.comma ∷ ls) h = (tt, tt)
punctuated lex.after_key (lex.comma ∷ ls) h = (tt, tt)
punctuated lex.fresh (lex.colon ∷ ls) h = (tt, tt)
punctuated lex.after_value (lex.colon ∷ ls) h = (tt, tt)
punctuated lex.after_comma (lex.colon ∷ ls) h = (tt, tt)
punctuated lex.after_key (lex.colon ∷ ls) h = punctuated lex.fresh ls h.1

-- ---- values

abbrev mutual
  JsonText : json.Json → Type 0
  JsonText json.null = Unit {0}
  JsonText (json.boolean b) = Unit {0}
  JsonText (json.number s) = Unit {0}
  JsonText (json.string s) = IsUtf8 s
  JsonText (json.array js) = ItemTexts js
  JsonText (json.object ms) = MemberTexts ms

  ItemTexts : json.Items → Type 0
  ItemTexts json.no_items = Unit {0}
  ItemTexts (json.item j js) = JsonText j × ItemTexts js

  MemberTexts : json.Members → Type 0
  MemberTexts json.no_members = Unit {0}
  MemberTexts (json.member k j ms) = JsonText j × MemberTexts ms

-- a parser whose values hold P, and leaves tokens of texts
abbrev Parses : {A : Type 0} → (A → Type 0) → json.Parse A → Type 0
Parses {A = A} P parse = (ts : List Token) (r : A × List Token) → TokenTexts ts → parse ts ≡ Some r → P r.0 × TokenTexts r.1

mapped : {A B : Type 0} (P : A → Type 0) (Q : B → Type 0) (f : A → B) (o : Option (A × List Token)) (r : B × List Token)
    → ((a : A) → P a → Q (f a)) → ((x : A × List Token) → o ≡ Some x → P x.0 × TokenTexts x.1) → json.parse_map f o ≡ Some r
    → Q r.0 × TokenTexts r.1
mapped {A = A} P Q f o r h parts e =
    let x = map_some (λ (p : A × List Token). (f p.0, p.1)) o r e in
    let p = parts x.0 x.1 in
    subst (λ (y : _). Q y.0 × TokenTexts y.1) x.2 (h x.0.0 p.0, p.1)

ended : (ts rest : List Token) → TokenTexts ts → json.after_end_array ts ≡ Some rest → TokenTexts rest
ended [] rest h e = none_some rest e
ended (begin_object ∷ ts) rest h e = none_some rest e
ended (end_object ∷ ts) rest h e = none_some rest e
ended (begin_array ∷ ts) rest h e = none_some rest e
ended (end_array ∷ ts) rest h e = subst TokenTexts (same_some ts rest e) h.1
ended (key s ∷ ts) rest h e = none_some rest e
ended (string s ∷ ts) rest h e = none_some rest e
ended (number s ∷ ts) rest h e = none_some rest e
ended (boolean b ∷ ts) rest h e = none_some rest e
ended (null ∷ ts) rest h e = none_some rest e
ended (bad ∷ ts) rest h e = none_some rest e

keyed : (ts : List Token) (r : Option (List ℕ) × List Token) → TokenTexts ts → json.read_key ts ≡ Some r → TokenTexts r.1
keyed [] r h e = none_some r e
keyed (begin_object ∷ ts) r h e = none_some r e
keyed (end_object ∷ ts) r h e = subst (λ (x : Option (List ℕ) × List Token). TokenTexts x.1) (same_some (None, ts) r e) h.1
keyed (begin_array ∷ ts) r h e = none_some r e
keyed (end_array ∷ ts) r h e = none_some r e
keyed (key s ∷ ts) r h e = subst (λ (x : Option (List ℕ) × List Token). TokenTexts x.1) (same_some (Some s, ts) r e) h.1
keyed (string s ∷ ts) r h e = none_some r e
keyed (number s ∷ ts) r h e = none_some r e
keyed (boolean b ∷ ts) r h e = none_some r e
keyed (null ∷ ts) r h e = none_some r e
keyed (bad ∷ ts) r h e = none_some r e

item_step : (value : json.Parse json.Json) (more : json.Parse json.Items) (ts : List Token) (o : Option (List Token))
    (r : json.Items × List Token) → Parses JsonText value → Parses ItemTexts more → TokenTexts ts → json.after_end_array ts ≡ o
    → json.items_step value more ts o ≡ Some r
    → ItemTexts r.0 × TokenTexts r.1
item_step value more ts (Some rest) r v m h is e = subst (λ (x : json.Items × List Token). ItemTexts x.0 × TokenTexts x.1) (same_some (json.no_items, rest) r e) (tt, ended ts rest h is)
item_step value more ts None r v m h is e =
    let p = and_then (λ (p : json.Json × List Token). json.parse_map (json.item p.0) (more p.1)) (value ts) r e in
    let first = v ts p.0 h p.1 in
    mapped ItemTexts ItemTexts (json.item p.0.0) (more p.0.1) r (λ js g. (first.0, g)) (λ x is. m p.0.1 x first.1 is) p.2

items_text : (value : json.Parse json.Json) (n : ℕ) → Parses JsonText value → Parses ItemTexts (json.items value n)
unfolding json.items
items_text value zero v ts r h e = none_some r e
items_text value (suc n) v ts r h e = item_step value (json.items value n) ts (json.after_end_array ts) r v (items_text value n v) h refl e

member_step : (value : json.Parse json.Json) (more : json.Parse json.Members) (k : Option (List ℕ)) (ts : List Token)
    (r : json.Members × List Token) → Parses JsonText value → Parses MemberTexts more → TokenTexts ts
    → json.members_step value more k ts ≡ Some r
    → MemberTexts r.0 × TokenTexts r.1
member_step value more None ts r v m h e = subst (λ (x : json.Members × List Token). MemberTexts x.0 × TokenTexts x.1) (same_some (json.no_members, ts) r e) (tt, h)
member_step value more (Some k) ts r v m h e =
    let p = and_then (λ (p : json.Json × List Token). json.parse_map (json.member k p.0) (more p.1)) (value ts) r e in
    let first = v ts p.0 h p.1 in
    mapped MemberTexts MemberTexts (json.member k p.0.0) (more p.0.1) r (λ js g. (first.0, g)) (λ x is. m p.0.1 x first.1 is) p.2

members_text : (value : json.Parse json.Json) (n : ℕ) → Parses JsonText value → Parses MemberTexts (json.members value n)
unfolding json.members
members_text value zero v ts r h e = none_some r e
members_text value (suc n) v ts r h e =
    let k = and_then (λ (p : Option (List ℕ) × List Token). json.members_step value (json.members value n) p.0 p.1) (json.read_key ts) r e in
    member_step value (json.members value n) k.0.0 k.0.1 r v (members_text value n v) (keyed ts k.0 h k.1) k.2

value_by : (a : json.Parse json.Items) (o : json.Parse json.Members) → Parses ItemTexts a → Parses MemberTexts o → Parses JsonText (json.value_with a o)
value_by a o ha ho [] r h e = none_some r e
value_by a o ha ho (begin_object ∷ ts) r h e = mapped MemberTexts JsonText json.object (o ts) r (λ ms g. g) (λ x is. ho ts x h.1 is) e
value_by a o ha ho (end_object ∷ ts) r h e = none_some r e
value_by a o ha ho (begin_array ∷ ts) r h e = mapped ItemTexts JsonText json.array (a ts) r (λ js g. g) (λ x is. ha ts x h.1 is) e
value_by a o ha ho (end_array ∷ ts) r h e = none_some r e
value_by a o ha ho (key s ∷ ts) r h e = none_some r e
value_by a o ha ho (string s ∷ ts) r h e = subst (λ (x : json.Json × List Token). JsonText x.0 × TokenTexts x.1) (same_some (json.string s, ts) r e) (h.0, h.1)
value_by a o ha ho (number s ∷ ts) r h e = subst (λ (x : json.Json × List Token). JsonText x.0 × TokenTexts x.1) (same_some (json.number s, ts) r e) (tt, h.1)
value_by a o ha ho (boolean b ∷ ts) r h e = subst (λ (x : json.Json × List Token). JsonText x.0 × TokenTexts x.1) (same_some (json.boolean b, ts) r e) (tt, h.1)
value_by a o ha ho (null ∷ ts) r h e = subst (λ (x : json.Json × List Token). JsonText x.0 × TokenTexts x.1) (same_some (json.null, ts) r e) (tt, h.1)
value_by a o ha ho (bad ∷ ts) r h e = none_some r e

value_text : (depth : ℕ) → Parses JsonText (json.value depth)
unfolding json.value
value_text zero = value_by (λ ts. None) (λ ts. None) (λ ts r h e. none_some r e) (λ ts r h e. none_some r e)
value_text (suc depth) =
    value_by (λ ts. json.items (json.value depth) (length ts) ts) (λ ts. json.members (json.value depth) (length ts) ts)
    (λ ts r h e. items_text (json.value depth) (length ts) (value_text depth) ts r h e) (λ ts r h e. members_text (json.value depth) (length ts) (value_text depth) ts r h e)

-- ---- data

abbrev pub SmallNumber : values.Num → Type 0
SmallNumber (values.unsigned n) = n < 2 ^ 64
SmallNumber (values.negative z) = Unit {0}
SmallNumber (values.float x) = Unit {0}

-- texts of UTF-8, and whole numbers of 64 bits
abbrev mutual
  pub Texts : values.Data → Type 0
  Texts values.null = Unit {0}
  Texts (values.boolean b) = Unit {0}
  Texts (values.number n) = SmallNumber n
  Texts (values.string s) = IsUtf8 s
  Texts (values.array ds) = EachTexts ds
  Texts (values.object ms) = MembersTexts ms

  pub EachTexts : values.Items → Type 0
  EachTexts values.no_items = Unit {0}
  EachTexts (values.item d ds) = Texts d × EachTexts ds

  pub MembersTexts : values.Members → Type 0
  MembersTexts values.no_members = Unit {0}
  MembersTexts (values.member k d ms) = Texts d × MembersTexts ms

put_texts_step : (o : Ordering) (k l : List ℕ) (d e : values.Data) (ms : values.Members) → Texts d → Texts e → MembersTexts ms
    → MembersTexts (values.put k d ms) → MembersTexts (match_ordering o (values.member k d (values.member l e ms))
    (values.member l d ms) (values.member l e (values.put k d ms)))
put_texts_step ordering.Less k l d e ms hd he h hput = (hd, (he, h))
put_texts_step ordering.Equal k l d e ms hd he h hput = (hd, h)
put_texts_step ordering.Greater k l d e ms hd he h hput = (he, hput)

put_texts : (k : List ℕ) (d : values.Data) (ms : values.Members) → Texts d → MembersTexts ms → MembersTexts (values.put k d ms)
put_texts k d values.no_members hd h = (hd, tt)
put_texts k d (values.member l e ms) hd h = put_texts_step (slice_cmp nat_cmp k l) k l d e ms hd h.0 h.1 (put_texts k d ms hd h.1)

abbrev AreSmall : Option values.Num → Type 0
AreSmall o = (n : values.Num) → o ≡ Some n → SmallNumber n

none_small : AreSmall None
none_small n e = none_some n e

one_small : (m : values.Num) → SmallNumber m → AreSmall (Some m)
one_small m h n e = subst SmallNumber (same_some m n e) h

either_small : (c : Bool) (x y : Option values.Num) → (c ≡ true → AreSmall x) → AreSmall y → AreSmall (if c then x else y)
either_small true x y hx hy = hx refl
either_small false x y hx hy = hy

float_small : (sign : Bool) (p : Parts) → AreSmall (float_of sign p)
float_small sign p = either_small (float_is_finite (nearest_float binary64 sign p)) (Some (values.float (nearest_float binary64 sign p))) None (λ e. one_small (values.float (nearest_float binary64 sign p)) tt) none_small

signed_small : (sign : Bool) (p : Parts) → AreSmall (number_from sign p)
signed_small true p = either_small (is_integer p && nat_lt 0 (numeral_digits p) && nat_le (numeral_digits p) (2 ^ 63)) (Some (values.negative (neg_ℤ (pos (numeral_digits p))))) (float_of true p) (λ e. one_small (values.negative (neg_ℤ (pos (numeral_digits p)))) tt) (float_small true p)
signed_small false p =
    either_small (is_integer p && nat_lt (numeral_digits p) (2 ^ 64)) (Some (values.unsigned (numeral_digits p))) (float_of false p)
    (λ e. one_small (values.unsigned (numeral_digits p)) (ltb-true (numeral_digits p) (2 ^ 64) (both_true (is_integer p) (nat_lt (numeral_digits p) (2 ^ 64)) e).1)) (float_small false p)

number_small : (s : List ℕ) → AreSmall (number_of s)
unfolding number_of
number_small s = either_small (slice_index s 0 == minus) (number_from true (scan_numeral (drop 1 s))) (number_from false (scan_numeral s)) (λ e. signed_small true (scan_numeral (drop 1 s))) (signed_small false (scan_numeral s))

mutual
  data_texts : (j : json.Json) (d : values.Data) → JsonText j → of_json j ≡ Some d → Texts d
  data_texts json.null d h e = subst Texts (same_some values.null d e) tt
  data_texts (json.boolean b) d h e = subst Texts (same_some (values.boolean b) d e) tt
  data_texts (json.number s) d h e = let n = map_some values.number (number_of s) d e in subst Texts n.2 (number_small s n.0 n.1)
  data_texts (json.string s) d h e = subst Texts (same_some (values.string s) d e) h
  data_texts (json.array js) d h e = let ds = map_some values.array (of_items js) d e in subst Texts ds.2 (items_texts js ds.0 h ds.1)
  data_texts (json.object ms) d h e = let ds = map_some values.object (of_members ms values.no_members) d e in subst Texts ds.2 (members_texts ms values.no_members ds.0 h tt ds.1)

  items_texts : (js : json.Items) (ds : values.Items) → ItemTexts js → of_items js ≡ Some ds → EachTexts ds
  items_texts json.no_items ds h e = subst EachTexts (same_some values.no_items ds e) tt
  items_texts (json.item j js) ds h e =
      let d = and_then (λ (d : values.Data). option_map (values.item d) (of_items js)) (of_json j) ds e in
      let others = map_some (values.item d.0) (of_items js) ds d.2 in
      subst EachTexts others.2 (data_texts j d.0 h.0 d.1, items_texts js others.0 h.1 others.1)

  members_texts : (ms : json.Members) (found all : values.Members) → MemberTexts ms → MembersTexts found → of_members ms found ≡ Some all → MembersTexts all
  members_texts json.no_members found all h g e = subst MembersTexts (same_some found all e) g
  members_texts (json.member k j ms) found all h g e =
      let d = and_then (λ (d : values.Data). of_members ms (values.put k d found)) (of_json j) all e in
      members_texts ms (values.put k d.0 found) all h.1 (put_texts k d.0 found (data_texts j d.0 h.0 d.1) g) d.2

last_by : (j : json.Json) (ts : List Token) (k : json.Json) → json.if_last j ts ≡ Some k → j ≡ k
last_by j [] k e = same_some j k e
last_by j (t ∷ ts) k e = none_some k e

utf8_by : (b : Bool) (o : Option values.Data) (d : values.Data) → (if b then o else None) ≡ Some d → (b ≡ true) × (o ≡ Some d)
utf8_by true o d e = (refl, e)
utf8_by false o d e = none_some d e

pub json_texts : (bytes : List ℕ) (d : values.Data) → json_of bytes ≡ Some d → Texts d
json_texts bytes d e =
    let u = utf8_by (is_utf8 bytes) (read bytes) d e in
    let j = and_then of_json (option_and_then (λ p. json.if_last p.0 p.1) (json.value max_depth (lex.tokens bytes))) d u.1 in
    let p = and_then (λ p. json.if_last p.0 p.1) (json.value max_depth (lex.tokens bytes)) j.0 j.1 in
    let v = value_text max_depth (lex.tokens bytes) p.0 (punctuated lex.fresh (lex.lex lex.between bytes) (lexemes bytes [] lex.between (IsUtf8-from_is_utf8 bytes u.0))) p.1 in
    data_texts j.0 d (subst JsonText (last_by p.0.0 p.0.1 j.0 p.2) v.0) j.2
