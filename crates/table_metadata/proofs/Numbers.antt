-- The numbers of a JSON text that are read as 64 bits have 64 bits.
use Rattle.std.proofs.Common.{◌≡◌, ◌^◌, drop, ℕ, ℤ, pos, neg_ℤ, Bool, true, false, ◌&&◌, List, Option, Some, None, option_map, option_and_then, Ordering, Less, Equal, Greater, Ok, Err, refl, subst, arith}
use Rattle.std.specs.Prelude.{⊤, nat_lt, nat_le, is_some, if◌then◌else◌}
use Rattle.std.specs.Float.{binary64, float_is_finite}
use Rattle.std.specs.Ordering.{nat_cmp, match_ordering}
use Rattle.std.specs.Cmp.Lexicographic.{slice_cmp}
use Rattle.std.specs.Str.{is_utf8}
use Rattle.std.proofs.lemmas.Int.{ints}
use Rattle.fast_float.specs.Text.{Parts, digits_of, nearest, scan, with_sign}
use Rattle.json.specs.Json as json
use Rattle.json.specs.Lex.{tokens}
use Rattle.serde_json.specs.Data.{Num, unsigned, negative, float, Data, null, boolean, number, string, array, object, Items, no_items, item, Members, no_members, member, put}
use Rattle.serde_json.specs.Find.{get, get_member, as_array, as_i64, as_number, as_object}
use Rattle.serde_json.specs.Read.{float_of, is_integer, max_depth, number_from, number_of, of_items, of_json, of_members, read}
use Rattle.serde_json.specs.Written.{has_float}
use Rattle.plain_types.specs.Steps.{by_option}
use Rattle.iceberg_schema.specs.Widths.{IsLong}
use Rattle.iceberg_schema.proofs.CallerLemmas.{between}
use Rattle.table_metadata.specs.declared.metadata_fault.MetadataFault.TheVariants as fault
use Rattle.iceberg_schema.specs.Keys.{items_at, long_at, long_of}
use Rattle.table_metadata.specs.Metadata.{json_of, whole_object}

-- ---- a number with a sign has 64 bits

abbrev IsShort : Num → Type 0
IsShort (unsigned n) = ⊤
IsShort (negative z) = IsLong z
IsShort (float x) = ⊤

-- what holds of the value, where there is one
abbrev Then : {A : Type 0} → (A → Type 0) → Option A → Type 0
Then P None = ⊤
Then P (Some a) = P a

then_map : {A B : Type 0} (P : A → Type 0) (Q : B → Type 0) (f : A → B) → ((a : A) → P a → Q (f a)) → (o : Option A) → Then P o → Then Q (option_map f o)
then_map P Q f k None h = tt
then_map P Q f k (Some a) h = k a h

then_next : {A B : Type 0} (P : A → Type 0) (Q : B → Type 0) (f : A → Option B) → ((a : A) → P a → Then Q (f a)) → (o : Option A)
    → Then P o → Then Q (option_and_then f o)
then_next P Q f k None h = tt
then_next P Q f k (Some a) h = k a h

either : {A : Type 0} (P : A → Type 0) (b : Bool) (x y : Option A) → Then P x → Then P y → Then P (if b then x else y)
either P true x y h k = h
either P false x y h k = k

-- what holds of the first where the test says true, and of the second
tested : {A : Type 0} (P : A → Type 0) (b : Bool) (x y : Option A) → (b ≡ true → Then P x) → Then P y → Then P (if b then x else y)
tested P true x y h k = h refl
tested P false x y h k = k

last_of : (a b c : Bool) → (a && b && c) ≡ true → c ≡ true
last_of true true c h = h
last_of true false c h = absurd cc
last_of false b c h = absurd cc

below : (n : ℕ) → nat_le n (2 ^ 63) ≡ true → IsLong (neg_ℤ (pos n))
below n h = between (neg_ℤ (pos n)) (grind (arith, ints, h)) (grind (arith, ints))

float_short : (sign : Bool) (p : Parts) → Then IsShort (float_of sign p)
float_short sign p = either IsShort (float_is_finite (nearest binary64 sign p)) (Some (float (nearest binary64 sign p))) None tt tt

number_short : (sign : Bool) (p : Parts) → Then IsShort (number_from sign p)
number_short false p = either IsShort (is_integer p && nat_lt (digits_of p) (2 ^ 64)) (Some (unsigned (digits_of p))) (float_of false p) tt (float_short false p)
number_short true p = tested IsShort (is_integer p && nat_lt 0 (digits_of p) && nat_le (digits_of p) (2 ^ 63)) (Some (negative (with_sign true (digits_of p))))
    (float_of true p) (λ h. below (digits_of p) (last_of (is_integer p) (nat_lt 0 (digits_of p)) (nat_le (digits_of p) (2 ^ 63)) h)) (float_short true p)

text_short : (s : List ℕ) → Then IsShort (number_of s)
unfolding number_of
text_short s = either IsShort _ (number_from true (scan (drop 1 s))) (number_from false (scan s)) (number_short true (scan (drop 1 s))) (number_short false (scan s))

-- ---- so are all numbers of a value that is read

abbrev mutual
  pub IsRead : Data → Type 0
  IsRead null = ⊤
  IsRead (boolean b) = ⊤
  IsRead (number n) = IsShort n
  IsRead (string s) = ⊤
  IsRead (array ds) = AreRead ds
  IsRead (object ms) = MembersAreRead ms

  pub AreRead : Items → Type 0
  AreRead no_items = ⊤
  AreRead (item d ds) = IsRead d × AreRead ds

  pub MembersAreRead : Members → Type 0
  MembersAreRead no_members = ⊤
  MembersAreRead (member k d ms) = IsRead d × MembersAreRead ms

one_of : (o : Ordering) (a b c : Members) → MembersAreRead a → MembersAreRead b → MembersAreRead c → MembersAreRead (match_ordering o a b c)
one_of Less a b c x y z = x
one_of Equal a b c x y z = y
one_of Greater a b c x y z = z

put_read : (k : List ℕ) (d : Data) (ms : Members) → IsRead d → MembersAreRead ms → MembersAreRead (put k d ms)
put_read k d no_members h hs = (h, tt)
put_read k d (member l e ms) h hs =
    one_of (slice_cmp nat_cmp k l) (member k d (member l e ms)) (member l d ms) (member l e (put k d ms)) (h, hs) (h, hs.1) (hs.0, put_read k d ms h hs.1)

mutual
  json_read : (j : json.Json) → Then IsRead (of_json j)
  json_read json.null = tt
  json_read (json.boolean b) = tt
  json_read (json.number s) = then_map IsShort IsRead number (λ n h. h) (number_of s) (text_short s)
  json_read (json.string s) = tt
  json_read (json.array js) = then_map AreRead IsRead array (λ ds h. h) (of_items js) (items_read js)
  json_read (json.object ms) = then_map MembersAreRead IsRead object (λ found h. h) (of_members ms no_members) (members_read ms no_members tt)

  items_read : (js : json.Items) → Then AreRead (of_items js)
  items_read json.no_items = tt
  items_read (json.item j js) = then_next IsRead AreRead (λ d. option_map (item d) (of_items js)) (λ d h. then_map AreRead AreRead (item d) (λ ds hs. (h, hs)) (of_items js) (items_read js)) (of_json j) (json_read j)

  members_read : (ms : json.Members) (found : Members) → MembersAreRead found → Then MembersAreRead (of_members ms found)
  members_read json.no_members found h = h
  members_read (json.member k j ms) found h = then_next IsRead MembersAreRead (λ d. of_members ms (put k d found)) (λ d own. members_read ms (put k d found) (put_read k d found own h)) (of_json j) (json_read j)

value_read : (o : Option json.Json) (d : Data) → option_and_then of_json o ≡ Some d → IsRead d
value_read (Some j) d e = subst (Then IsRead) e (json_read j)
value_read None d e = absurd cc

text_read : (text : List ℕ) (d : Data) → read text ≡ Some d → IsRead d
text_read text d e = value_read (option_and_then (λ p. json.if_last p.0 p.1) (json.value max_depth (tokens text))) d e

whole_same : (c d : Data) → whole_object c ≡ Ok d → c ≡ d
unfolding whole_object
whole_same c d e = by_tests (is_some (as_object c)) (has_float c) e
  where
    by_tests : (b f : Bool) → (if b then (if f then Err fault.Json else Ok c) else Err fault.Json) ≡ Ok d → c ≡ d
    by_tests true true h = absurd cc
    by_tests true false h = cc
    by_tests false f h = absurd cc

found_read : (o : Option Data) (d : Data) → ((c : Data) → o ≡ Some c → IsRead c) → by_option o whole_object (Err fault.Json) ≡ Ok d → IsRead d
found_read None d h e = absurd cc
found_read (Some c) d h e = subst IsRead (whole_same c d e) (h c refl)

pub json_is_read : (bytes : List ℕ) (d : Data) → json_of bytes ≡ Ok d → IsRead d
unfolding json_of
json_is_read bytes d e = by_utf8 (is_utf8 bytes) e
  where
    by_utf8 : (b : Bool) → (if b then by_option (read bytes) whole_object (Err fault.Json) else Err fault.Json) ≡ Ok d → IsRead d
    by_utf8 true h = found_read (read bytes) d (text_read bytes) h
    by_utf8 false h = absurd cc

-- ---- and what is found in it

found_by : (o : Ordering) (P : Data → Type 0) (x y : Option Data) → Then P x → Then P y → Then P (match_ordering o x y x)
found_by Less P x y h k = h
found_by Equal P x y h k = k
found_by Greater P x y h k = h

member_read : (key : List ℕ) (ms : Members) → MembersAreRead ms → Then IsRead (get_member key ms)
member_read key no_members h = tt
member_read key (member l e ms) h = found_by (slice_cmp nat_cmp key l) IsRead (get_member key ms) (Some e) (member_read key ms h.1) h.0

pub key_read : (key : List ℕ) (d : Data) → IsRead d → Then IsRead (get key d)
key_read key null h = tt
key_read key (boolean b) h = tt
key_read key (number n) h = tt
key_read key (string s) h = tt
key_read key (array ds) h = tt
key_read key (object ms) h = member_read key ms h

as_number_read : (d : Data) → IsRead d → Then IsShort (as_number d)
as_number_read null h = tt
as_number_read (boolean b) h = tt
as_number_read (number n) h = h
as_number_read (string s) h = tt
as_number_read (array ds) h = tt
as_number_read (object ms) h = tt

as_array_read : (d : Data) → IsRead d → Then AreRead (as_array d)
as_array_read null h = tt
as_array_read (boolean b) h = tt
as_array_read (number n) h = tt
as_array_read (string s) h = tt
as_array_read (array ds) h = h
as_array_read (object ms) h = tt

small : (n : ℕ) (b : Bool) → nat_lt n (2 ^ 63) ≡ b → Then IsLong (if b then Some (pos n) else None)
small n true e = between (pos n) (grind (arith, ints)) e
small n false e = tt

as_i64_read : (n : Num) → IsShort n → Then IsLong (as_i64 n)
as_i64_read (unsigned n) h = small n (nat_lt n (2 ^ 63)) refl
as_i64_read (negative z) h = h
as_i64_read (float x) h = tt

long_read : (d : Data) → IsRead d → Then IsLong (long_of d)
long_read d h = then_next IsShort IsLong as_i64 as_i64_read (as_number d) (as_number_read d h)

value_of : {A : Type 0} (P : A → Type 0) (o : Option A) (a : A) → Then P o → o ≡ Some a → P a
value_of P o a h e = subst (Then P) e h

-- a number under a key
pub long_is : (key : List ℕ) (d : Data) (n : ℤ) → IsRead d → long_at key d ≡ Some n → IsLong n
long_is key d n h e = value_of IsLong (long_at key d) n (then_next IsRead IsLong long_of long_read (get key d) (key_read key d h)) e

-- the elements under a key
pub items_are : (key : List ℕ) (d : Data) (ds : Items) → IsRead d → items_at key d ≡ Some ds → AreRead ds
items_are key d ds h e = value_of AreRead (items_at key d) ds (then_next IsRead AreRead as_array as_array_read (get key d) (key_read key d h)) e
