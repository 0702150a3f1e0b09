-- A schema that was read is read again from its JSON, where named types stand again too: the writer begins the names that the
-- reader began, and a name stands again only where the reader found the finished type under it.
use Rattle.std.proofs.Common.{◌≡◌, ℕ, zero, suc, ◌+◌, ◌-◌, ◌*◌, ◌^◌, ◌<◌, ◌≤◌, eqb, ℤ, pos, negsuc, Bool, true, false, not, ◌&&◌, ◌||◌, List}
use Rattle.std.proofs.Common.{[], ◌∷◌, ◌++◌, length, map, Option, Some, None, Result, Ok, Err, codes, refl, sym, ap, subst, ◌∙◌, arith}
use Rattle.std.specs.Prelude.{if◌then◌else◌, option_and_then, unwrap_or, is_some, nat_le}
use Rattle.std.specs.List.{list_all}
use Rattle.std.specs.Ordering.{nat_cmp, match_ordering}
use Rattle.std.specs.declared.cmp.Ordering.{Ordering}
use Rattle.std.specs.declared.cmp.Ordering.TheVariants as ordering
use Rattle.std.specs.Cmp.Lexicographic.{slice_cmp}
use Rattle.std.specs.Str.{bytes_eq, is_utf8, IsUtf8}
use Rattle.std.proofs.lemmas.Slice.Eq.{bytes_eq-Decides}
use Rattle.std.proofs.lemmas.Str.{IsUtf8-append, IsUtf8-nil, is_utf8-from_IsUtf8, IsUtf8-from_is_utf8}
use Rattle.serde_json.specs.Data.{Num, unsigned, negative, float, Data, null, boolean, number, string, array, object, Items, no_items, item, Members, no_members, member, depth}
use Rattle.serde_json.specs.Read.{max_depth}
use Rattle.serde_json.specs.Find.{get_member, get, as_array, as_str, as_number, as_u64, as_i64}
use Rattle.serde_json.specs.View.{items_of}
use Rattle.plain_types.specs.Steps.{◌>>=◌}
use Rattle.avro_binary.specs.declared.schema_fault.SchemaFault.{SchemaFault}
use Rattle.avro_binary.specs.declared.schema_fault.SchemaFault.TheVariants.{Json, Shape, Depth, TypeName}
use Rattle.avro_binary.specs.declared.names.Names.{Names}
use Rattle.avro_binary.specs.declared.names.Named.{Named}
use Rattle.avro_binary.specs.declared.schema.Schema.{Schema, roll-Schema}
use Rattle.avro_binary.specs.declared.schema.Schema.TheOpen as open_schema
use Rattle.avro_binary.specs.declared.schema.Schema.TheVariants as schema
use Rattle.avro_binary.specs.declared.schema.Field.{Field, roll-Field}
use Rattle.avro_binary.specs.declared.schema.Logical.{Logical}
use Rattle.avro_binary.specs.declared.schema.Logical.TheVariants.{Date, TimestampMicros, Decimal, Other}
use Rattle.avro_binary.specs.declared.word.Word as words
use Rattle.avro_binary.specs.declared.word.Word.TheVariants as word
use Rattle.avro_binary.specs.Word.{word_of}
use Rattle.avro_binary.specs.Naming.{dot_from, last_dot, space_of, full_name, find, has_begun}
use Rattle.avro_binary.specs.Placed.{Placing, place_each, placed, placed_field}
use Rattle.avro_binary.specs.SchemaText.{needed, node, text_at, number_at, narrow, id_at, decimal, logical_named, logical_by, logical_of, is_map, type_name, defined_name, used, begin, finish, Nodes, each, symbol, field}
use Rattle.avro_binary.specs.SchemaText.{record_node, enum_node, fixed_node, array_node, map_node, union_node, if_placed, referred, name_node, typed, single, schema_at, start, schema_of, json_of, schema_in, schema_from}
use Rattle.avro_binary.specs.SchemaData.{Writing, name_data, primitive, write_each, named, record_written, enum_written, fixed_written, written, written_field, data_of, schema_text}
use Rattle.avro_binary.specs.SchemaOnce.{is_logical, is_id}
use Rattle.avro_binary.proofs.JsonTexts.{Good, GoodItems, is_text, read_text, ascii_before}
use Rattle.avro_binary.proofs.ReadTexts.{SmallNumber, Texts, EachTexts, MembersTexts, json_texts}
use Rattle.avro_binary.proofs.SchemaFloats.{written_roll, written_field_roll}
use Rattle.avro_binary.proofs.SchemaLaws.{names_of, lossless, same_some, none_some, and_then, level_of, inner_of, placed_roll, placed_field_roll, one_deeper, NodeReads, used_is, single_of, null_read, boolean_read, text_read}
use Rattle.avro_binary.proofs.SchemaLaws.{int_read, long_read, bytes_read, named_out, finishing, record_read, enum_read, fixed_read, array_data, array_read, map_data, map_read, union_read, field_data, field_read}
use Rattle.avro_binary.proofs.SchemaTexts.{space_is_text, primitive_is_good, record_is_good, enum_is_good, fixed_is_good, array_is_good, map_is_good, field_is_good, written_deep}

-- ---- answers

same_ok : {A : Type 0} (x y : A) → (let r : Result A SchemaFault = Ok x in r ≡ Ok y) → x ≡ y
same_ok x y e = cc

no_ok : {A P : Type 0} (f : SchemaFault) (y : A) → (let r : Result A SchemaFault = Err f in r ≡ Ok y) → P
no_ok f y e = absurd cc

-- what holds of each answer of the rest holds of the whole
bind_then : {A B : Type 0} (P : B → Type 0) (r : Result A SchemaFault) (k : A → Result B SchemaFault)
    → ((x : A) → r ≡ Ok x → (y : B) → k x ≡ Ok y → P y) → (y : B) → (r >>= k) ≡ Ok y → P y
bind_then P (Ok x) k h y e = h x refl y e
bind_then P (Err f) k h y e = no_ok f y e

needed_then : {A B : Type 0} (P : B → Type 0) (o : Option A) (k : A → Result B SchemaFault)
    → ((x : A) → o ≡ Some x → (y : B) → k x ≡ Ok y → P y) → (y : B) → (needed o >>= k) ≡ Ok y → P y
needed_then P (Some x) k h y e = h x refl y e
needed_then P None k h y e = no_ok Shape y e

-- ---- what the keys of a text say

member_step : (o : Ordering) (k : List ℕ) (e : Data) (ms : Members) (x : Data) → Texts e → MembersTexts ms
    → ((y : Data) → get_member k ms ≡ Some y → Texts y) → match_ordering o (get_member k ms) (Some e) (get_member k ms) ≡ Some x
    → Texts x
member_step ordering.Less k e ms x he h more is = more x is
member_step ordering.Equal k e ms x he h more is = subst Texts (same_some e x is) he
member_step ordering.Greater k e ms x he h more is = more x is

member_texts : (k : List ℕ) (ms : Members) (x : Data) → MembersTexts ms → get_member k ms ≡ Some x → Texts x
member_texts k no_members x h is = none_some x is
member_texts k (member l e ms) x h is = member_step (slice_cmp nat_cmp k l) k e ms x h.0 h.1 (λ y at. member_texts k ms y h.1 at) is

get_texts : (k : List ℕ) (d x : Data) → Texts d → get k d ≡ Some x → Texts x
get_texts k null x h is = none_some x is
get_texts k (boolean b) x h is = none_some x is
get_texts k (number n) x h is = none_some x is
get_texts k (string s) x h is = none_some x is
get_texts k (array ds) x h is = none_some x is
get_texts k (object ms) x h is = member_texts k ms x h is

str_text : (d : Data) (s : List ℕ) → Texts d → as_str d ≡ Some s → IsUtf8 s
str_text null s h is = none_some s is
str_text (boolean b) s h is = none_some s is
str_text (number n) s h is = none_some s is
str_text (string t) s h is = subst IsUtf8 (same_some t s is) h
str_text (array ds) s h is = none_some s is
str_text (object ms) s h is = none_some s is

array_texts : (d : Data) (ds : Items) → Texts d → as_array d ≡ Some ds → EachTexts ds
array_texts null ds h is = none_some ds is
array_texts (boolean b) ds h is = none_some ds is
array_texts (number n) ds h is = none_some ds is
array_texts (string t) ds h is = none_some ds is
array_texts (array es) ds h is = subst EachTexts (same_some es ds is) h
array_texts (object ms) ds h is = none_some ds is

number_small : (d : Data) (n : Num) → Texts d → as_number d ≡ Some n → SmallNumber n
number_small null n h is = none_some n is
number_small (boolean b) n h is = none_some n is
number_small (number m) n h is = subst SmallNumber (same_some m n is) h
number_small (string t) n h is = none_some n is
number_small (array es) n h is = none_some n is
number_small (object ms) n h is = none_some n is

natural_small : (m : Num) (n : ℕ) → SmallNumber m → as_u64 m ≡ Some n → n < 2 ^ 64
natural_small (unsigned m) n h is = subst (λ (k : ℕ). k < 2 ^ 64) (same_some m n is) h
natural_small (negative z) n h is = none_some n is
natural_small (float x) n h is = none_some n is

text_here : (k : List ℕ) (d : Data) (s : List ℕ) → Texts d → text_at k d ≡ Some s → is_utf8 s ≡ true
text_here k d s h is = let x = and_then as_str (get k d) s is in is_utf8-from_IsUtf8 s (str_text x.0 s (get_texts k d x.0 h x.1) x.2)

items_here : (k : List ℕ) (d : Data) (ds : Items) → Texts d → option_and_then as_array (get k d) ≡ Some ds → EachTexts ds
items_here k d ds h is = let x = and_then as_array (get k d) ds is in array_texts x.0 ds (get_texts k d x.0 h x.1) x.2

number_here : (k : List ℕ) (d : Data) (n : ℕ) → Texts d → number_at k d ≡ Some n → n < 2 ^ 64
number_here k d n h is =
    let m = and_then as_u64 (option_and_then as_number (get k d)) n is in
    let x = and_then as_number (get k d) m.0 m.1 in
    natural_small m.0 n (number_small x.0 m.0 (get_texts k d x.0 h x.1) x.2) m.2

id_by : (c : Bool) (n : ℕ) (z : ℤ) → (narrow z ≡ (if c then Some z else None)) → is_id (if c then Some z else None) ≡ true
id_by true n z is = ap is_some is
id_by false n z is = refl

narrowed : (z : ℤ) → is_id (narrow z) ≡ true
narrowed (pos n) = id_by (nat_le n (2 ^ 31 - 1)) n (pos n) refl
narrowed (negsuc n) = id_by (nat_le n (2 ^ 31 - 1)) n (negsuc n) refl

id_of : (o : Option ℤ) → is_id (option_and_then narrow o) ≡ true
id_of None = refl
id_of (Some z) = narrowed z

id_here : (k : List ℕ) (d : Data) → is_id (id_at k d) ≡ true
unfolding id_at
id_here k d = id_of (option_and_then as_i64 (option_and_then as_number (get k d)))

other_decimal : is_logical (Other (codes "decimal")) ≡ true
other_decimal = ap (λ (b : Bool). b && (not (bytes_eq (codes "decimal") (codes "date")) && not (bytes_eq (codes "decimal") (codes "timestamp-micros")))) (is_utf8-from_IsUtf8 (codes "decimal") (is_text (codes "decimal") refl))

decimal_by : (c : Bool) (precision scale : ℕ) → (nat_le 1 precision && (nat_le precision 38 && nat_le scale precision)) ≡ c
    → is_logical (if c then Decimal precision scale else Other (codes "decimal")) ≡ true
decimal_by true precision scale e = e
decimal_by false precision scale e = other_decimal

decimal_ok : (precision scale : Option ℕ) → is_logical (decimal precision scale) ≡ true
unfolding decimal
decimal_ok (Some precision) (Some scale) = decimal_by (nat_le 1 precision && (nat_le precision 38 && nat_le scale precision)) precision scale refl
decimal_ok (Some precision) None = other_decimal
decimal_ok None scale = other_decimal

logical_case : (a b c : Bool) (name : List ℕ) (utc : Bool) (digits : Logical) → bytes_eq name (codes "date") ≡ a
    → bytes_eq name (codes "timestamp-micros") ≡ b → is_utf8 name ≡ true → is_logical digits ≡ true
    → is_logical (if a then Date else (if b then TimestampMicros utc else (if c then digits else Other name))) ≡ true
logical_case true b c name utc digits date micros text h = refl
logical_case false true c name utc digits date micros text h = refl
logical_case false false true name utc digits date micros text h = h
logical_case false false false name utc digits date micros text h = rw (text, date, micros) refl

named_logical : (o : Option (List ℕ)) (d : Data) → ((s : List ℕ) → o ≡ Some s → is_utf8 s ≡ true) → is_logical (logical_by o d) ≡ true
unfolding logical_named
named_logical None d h = refl
named_logical (Some name) d h = logical_case (bytes_eq name (codes "date")) (bytes_eq name (codes "timestamp-micros")) (bytes_eq name (codes "decimal")) name _ _ refl refl (h name refl) (decimal_ok _ _)

logical_here : (d : Data) → Texts d → is_logical (logical_of d) ≡ true
unfolding logical_of
logical_here d h = named_logical (text_at (codes "logicalType") d) d (λ s is. text_here (codes "logicalType") d s h is)

-- ---- full names

full_text_by : (c : Bool) (space name : List ℕ) → IsUtf8 space → IsUtf8 name → IsUtf8 (if c then name else space ++ 46 ∷ name)
full_text_by true space name hs hn = hn
full_text_by false space name hs hn = IsUtf8-append space (46 ∷ name) hs (ascii_before 46 name refl hn)

full_text : (space name : List ℕ) → IsUtf8 space → IsUtf8 name → IsUtf8 (full_name space name)
unfolding full_name
full_text space name hs hn = full_text_by (is_some (last_dot name) || eqb (length space) 0) space name hs hn

space_or : (o : Option (List ℕ)) (space : List ℕ) → ((s : List ℕ) → o ≡ Some s → is_utf8 s ≡ true) → IsUtf8 space → IsUtf8 (unwrap_or o space)
space_or None space h hs = hs
space_or (Some s) space h hs = IsUtf8-from_is_utf8 s (h s refl)

defined_text : (space name : List ℕ) (d : Data) → Texts d → IsUtf8 space → is_utf8 name ≡ true → is_utf8 (defined_name space name d) ≡ true
unfolding defined_name
defined_text space name d h hs hn =
    let around : List ℕ = unwrap_or (text_at (codes "namespace") d) space in
    is_utf8-from_IsUtf8 (full_name around name) (full_text around name (space_or (text_at (codes "namespace") d) space (λ s is. text_here (codes "namespace") d s h is) hs) (IsUtf8-from_is_utf8 name hn))

dot_now : (c : Bool) (at : ℕ) (last : Option ℕ) → is_some last ≡ true → is_some (if c then Some at else last) ≡ true
dot_now true at last h = refl
dot_now false at last h = h

dot_stays : (bs : List ℕ) (at : ℕ) (last : Option ℕ) → is_some last ≡ true → is_some (dot_from bs at last) ≡ true
unfolding dot_from
dot_stays [] at last h = h
dot_stays (b ∷ bs) at last h = dot_stays bs (at + 1) (if eqb b 46 then Some at else last) (dot_now (eqb b 46) at last h)

has_dot : (xs ys : List ℕ) (at : ℕ) (last : Option ℕ) → is_some (dot_from (xs ++ 46 ∷ ys) at last) ≡ true
unfolding dot_from
has_dot [] ys at last = dot_stays ys (at + 1) (Some at) refl
has_dot (x ∷ xs) ys at last = has_dot xs ys (at + 1) (if eqb x 46 then Some at else last)

dotted_full : (space name : List ℕ) → is_some (last_dot name) ≡ true → full_name space name ≡ name
unfolding full_name
dotted_full space name h = ap (λ (c : Bool). if c || eqb (length space) 0 then name else space ++ 46 ∷ name) h

no_word : (c : Bool) (name w : List ℕ) → bytes_eq name w ≡ c → is_some (last_dot name) ≡ true → is_some (last_dot w) ≡ false → c ≡ false
no_word true name w is dot none =
    let same : name ≡ w = (bytes_eq-Decides name w).0 is in
    absurd (let e : true ≡ false = sym dot ∙ ap (λ (n : List ℕ). is_some (last_dot n)) same ∙ none in cc)
no_word false name w is dot none = refl

dotted_word : (name : List ℕ) → is_some (last_dot name) ≡ true → word_of name ≡ word.Name
unfolding dot_from
dotted_word name dot =
    let other : (w : List ℕ) → is_some (last_dot w) ≡ false → bytes_eq name w ≡ false = λ w none. no_word (bytes_eq name w) name w refl dot none in
    rw (
      other (codes "null") refl,
      other (codes "boolean") refl,
      other (codes "int") refl,
      other (codes "long") refl,
      other (codes "bytes") refl,
      other (codes "string") refl,
      other (codes "record") refl,
      other (codes "enum") refl,
      other (codes "array") refl,
      other (codes "map") refl,
      other (codes "fixed") refl,
    ) refl

-- a name in a namespace, as its full name
record IsResolved (space name full : List ℕ) : Type 0 where
  again : full_name space full ≡ full
  reference : word_of name ≡ word.Name → word_of full ≡ word.Name

resolved_by : (c : Bool) (space name : List ℕ) → (is_some (last_dot name) || eqb (length space) 0) ≡ c
    → IsResolved space name (if c then name else space ++ 46 ∷ name)
unfolding full_name
resolved_by true space name e = record { again = ap (λ (c : Bool). if c then name else space ++ 46 ∷ name) e; reference = λ h. h }
resolved_by false space name e =
    let dot : is_some (last_dot (space ++ 46 ∷ name)) ≡ true = has_dot space name 0 None in
    record { again = dotted_full space (space ++ 46 ∷ name) dot; reference = λ h. dotted_word (space ++ 46 ∷ name) dot }

resolved : (space name : List ℕ) → IsResolved space name (full_name space name)
unfolding full_name
resolved space name = resolved_by (is_some (last_dot name) || eqb (length space) 0) space name refl

-- ---- the names met so far

begun_by : (c : Bool) (n m : List ℕ) (ms more : List (List ℕ)) → (has_begun n ms ≡ true → has_begun n (ms ++ more) ≡ true)
    → (if c then true else has_begun n ms) ≡ true → (if c then true else has_begun n (ms ++ more)) ≡ true
begun_by true n m ms more h e = refl
begun_by false n m ms more h e = h e

begun_stays : (n : List ℕ) (ms more : List (List ℕ)) → has_begun n ms ≡ true → has_begun n (ms ++ more) ≡ true
unfolding has_begun
begun_stays n [] more e = absurd cc
begun_stays n (m ∷ ms) more e = begun_by (bytes_eq m n) n m ms more (begun_stays n ms more) e

begun_now : (n : List ℕ) (ms : List (List ℕ)) → has_begun n (ms ++ n ∷ []) ≡ true
unfolding has_begun
begun_now n [] = ap (λ (c : Bool). if c then true else false) ((bytes_eq-Decides n n).1 refl)
begun_now n (m ∷ ms) = now_by (bytes_eq m n) (begun_now n ms)
  where
    now_by : (c : Bool) → has_begun n (ms ++ n ∷ []) ≡ true → (if c then true else has_begun n (ms ++ n ∷ [])) ≡ true
    now_by true h = refl
    now_by false h = h

-- a finished type: its name was begun, and it is written as that name wherever the name was
record IsFinished (names : List (List ℕ)) (e : Named) : Type 0 where
  begun : has_begun e.name names ≡ true
  text : is_utf8 e.name ≡ true
  short : (b : List (List ℕ)) → has_begun e.name b ≡ true → written e.schema b ≡ (name_data e.name, b)

abbrev AllFinished : List (List ℕ) → List Named → Type 0
AllFinished b [] = Unit {0}
AllFinished b (e ∷ es) = IsFinished b e × AllFinished b es

more_begun : (b more : List (List ℕ)) (es : List Named) → AllFinished b es → AllFinished (b ++ more) es
more_begun b more [] h = tt
more_begun b more (e ∷ es) h = (record { begun = begun_stays e.name b more h.0.begun; text = h.0.text; short = h.0.short }, more_begun b more es h.1)

one_finished : (b : List (List ℕ)) (es : List Named) (e : Named) → AllFinished b es → IsFinished b e → AllFinished b (es ++ e ∷ [])
one_finished b [] e h is = (is, tt)
one_finished b (x ∷ es) e h is = (h.0, one_finished b es e h.1 is)

found_by : (c : Bool) (b : List (List ℕ)) (name : List ℕ) (e : Named) (es : List Named) (s : Schema) → bytes_eq e.name name ≡ c
    → IsFinished b e → (find name es ≡ Some s → IsFinished b (record { name = name; schema = s }))
    → (if c then Some e.schema else find name es) ≡ Some s
    → IsFinished b (record { name = name; schema = s })
found_by true b name e es s is h more at =
    let same_name : e.name ≡ name = (bytes_eq-Decides e.name name).0 is in
    let same_schema : e.schema ≡ s = same_some e.schema s at in
    subst (λ (t : Schema). IsFinished b (record { name = name; schema = t })) same_schema (subst (λ (n : List ℕ). IsFinished b (record { name = n; schema = e.schema })) same_name h)
found_by false b name e es s is h more at = more at

found : (b : List (List ℕ)) (name : List ℕ) (es : List Named) (s : Schema) → AllFinished b es → find name es ≡ Some s
    → IsFinished b (record { name = name; schema = s })
unfolding find
found b name [] s h at = none_some s at
found b name (e ∷ es) s h at = found_by (bytes_eq e.name name) b name e es s refl h.0 (λ is. found b name es s h.1 is) at

-- ---- what was read, written and read again

record Again {A : Type 0} (read : Data → Names → Result (A × Names) SchemaFault) (write : A → Writing Data)
    (place : A → ℕ → Option ℕ) (before : Names) (x : A) (after : Names) : Type 0 where
  begun : (write x before.begun).1 ≡ after.begun
  again : read (write x before.begun).0 before ≡ Ok (x, after)
  fits : place x before.left ≡ Some after.left
  good : Good (write x before.begun).0
  kept : (n : List ℕ) → has_begun n before.begun ≡ true → has_begun n after.begun ≡ true
  finished : AllFinished after.begun after.finished

record EachAgain {A : Type 0} (read : Data → Names → Result (A × Names) SchemaFault) (write : A → Writing Data)
    (place : A → Placing) (depth : ℕ) (before : Names) (xs : List A) (after : Names) : Type 0 where
  begun : (write_each (map write xs) before.begun).1 ≡ after.begun
  again : each read (items_of (write_each (map write xs) before.begun).0) before ≡ Ok (xs, after)
  fits : place_each (map place xs) depth before.left ≡ Some after.left
  good : GoodItems (items_of (write_each (map write xs) before.begun).0)
  kept : (n : List ℕ) → has_begun n before.begun ≡ true → has_begun n after.begun ≡ true
  finished : AllFinished after.begun after.finished

abbrev IsAgain : {A : Type 0} → (Data → Names → Result (A × Names) SchemaFault) → (A → Writing Data) → (A → ℕ → Option ℕ) → Type 0
IsAgain {A = A} read write place = (d : Data) (before : Names) (r : A × Names) → Texts d → AllFinished before.begun before.finished → read d before ≡ Ok r → Again read write place before r.0 r.1

one_and_others : {A : Type 0} (read : Data → Names → Result (A × Names) SchemaFault) (write : A → Writing Data)
    (place : A → Placing) (depth : ℕ) (before : Names) (x : A) (between : Names) (xs : List A) (after : Names)
    → Again read write (λ y. place y depth) before x between → EachAgain read write place depth between xs after → EachAgain read write place depth before (x ∷ xs) after
unfolding each place_each
one_and_others {A = A} read write place depth before x between xs after one others =
    let more : List (List ℕ) → A × Names → Result (List A × Names) SchemaFault = λ n y. each read (items_of (write_each (map write xs) n).0) y.1 >>= λ ys. Ok (y.0 ∷ ys.0, ys.1) in
    record {
      begun = ap (λ (n : List (List ℕ)). (write_each (map write xs) n).1) one.begun ∙ others.begun;
      again = ap (λ y. y >>= more (write x before.begun).1) one.again ∙ ap (λ (n : List (List ℕ)). more n (x, between)) one.begun ∙ ap (λ y. y >>= λ ys. Ok (x ∷ ys.0, ys.1)) others.again;
      fits = ap (option_and_then (place_each (map place xs) depth)) one.fits ∙ others.fits;
      good = (one.good, subst (λ (n : List (List ℕ)). GoodItems (items_of (write_each (map write xs) n).0)) (sym one.begun) others.good);
      kept = λ n b. others.kept n (one.kept n b);
      finished = others.finished;
    }

each_again : {A : Type 0} (read : Data → Names → Result (A × Names) SchemaFault) (write : A → Writing Data) (place : A → Placing)
    (depth : ℕ) → IsAgain read write (λ x. place x depth)
    → (ds : Items) (before : Names) (r : List A × Names) → EachTexts ds → AllFinished before.begun before.finished → each read ds before ≡ Ok r → EachAgain read write place depth before r.0 r.1
unfolding each place_each
each_again {A = A} read write place depth law no_items before r h finished e =
    let none : List A × Names = ([], before) in
    subst (λ (x : List A × Names). EachAgain read write place depth before x.0 x.1) (same_ok none r e) (record { begun = refl; again = refl; fits = refl; good = tt; kept = λ n b. b; finished = finished })
each_again {A = A} read write place depth law (item d ds) before r h finished e =
    let P : List A × Names → Type 0 = λ x. EachAgain read write place depth before x.0 x.1 in
    bind_then P (read d before) (λ first. each read ds first.1 >>= λ others. Ok (first.0 ∷ others.0, others.1)) (λ first at.
    bind_then P (each read ds first.1) (λ others. Ok (first.0 ∷ others.0, others.1)) (λ others more y is.
    (let one = law d before first h.0 finished at in
    subst P (same_ok (first.0 ∷ others.0, others.1) y is) (one_and_others read write place depth before first.0 first.1 others.0 others.1 one (each_again read write place depth law ds first.1 others h.1 one.finished more))))) r e

-- what is to be shown of nodes that nest `depth` deep
abbrev Deep : ℕ → Type 0
Deep depth = (space : List ℕ) → IsUtf8 space → IsAgain (schema_at depth space) written (λ s. placed s depth)

abbrev SchemaAgain : ℕ → List ℕ → Names → Schema → Names → Type 0
SchemaAgain depth space = Again (schema_at depth space) written (λ s. placed s depth)

-- one level, one deeper
record LevelAgain (depth : ℕ) (space : List ℕ) (f : List Named) (b : List (List ℕ)) (l : ℕ)
    (x : open_schema.Schema-F Schema Field) (after : Names) : Type 0 where
  begun : (level_of x b).1 ≡ after.begun
  again : NodeReads depth space (level_of x b).0 (names_of f b (suc l)) (roll-Schema x) after
  fits : inner_of x depth l ≡ Some after.left
  good : Good (level_of x b).0
  kept : (n : List ℕ) → has_begun n b ≡ true → has_begun n after.begun ≡ true
  finished : AllFinished after.begun after.finished

level_again : (depth : ℕ) (space : List ℕ) (f : List Named) (b : List (List ℕ)) (l : ℕ) (x : open_schema.Schema-F Schema Field)
    (after : Names) → LevelAgain depth space f b l x after
    → SchemaAgain (suc depth) space (names_of f b (suc l)) (roll-Schema x) after
level_again depth space f b l x after h =
    let is : written (roll-Schema x) ≡ level_of x = written_roll x in
    record {
      begun = ap (λ (w : Writing Data). (w b).1) is ∙ h.begun;
      again = ap (λ (w : Writing Data). schema_at (suc depth) space (w b).0 (names_of f b (suc l))) is ∙ one_deeper depth space (level_of x b).0 f b l ∙ h.again;
      fits = ap (λ (p : Placing). p (suc depth) (suc l)) (placed_roll x) ∙ h.fits;
      good = subst (λ (w : Writing Data). Good (w b).0) (sym is) h.good;
      kept = h.kept;
      finished = h.finished;
    }

abbrev GivesNamed : Nodes → Schema × Names → Type 0
GivesNamed nodes r = nodes ≡ Ok r

-- and of the schema of that level, as it was answered
answered : (depth : ℕ) (space : List ℕ) (f : List Named) (b : List (List ℕ)) (l : ℕ) (x : open_schema.Schema-F Schema Field)
    (s : Schema) (made after : Names) (r : Schema × Names) → roll-Schema x ≡ s → made ≡ after → GivesNamed (Ok (s, made)) r
    → LevelAgain depth space f b l x after
    → SchemaAgain (suc depth) space (names_of f b (suc l)) r.0 r.1
answered depth space f b l x s made after r is names e h =
    let one : SchemaAgain (suc depth) space (names_of f b (suc l)) s after = subst (λ (t : Schema). SchemaAgain (suc depth) space (names_of f b (suc l)) t after) is (level_again depth space f b l x after h) in
    let two : SchemaAgain (suc depth) space (names_of f b (suc l)) s made = subst (λ (n : Names). SchemaAgain (suc depth) space (names_of f b (suc l)) s n) (sym names) one in
    subst (λ (y : Schema × Names). SchemaAgain (suc depth) space (names_of f b (suc l)) y.0 y.1) (same_ok (s, made) r e) two

-- ---- named types

begin_ok : (c : Bool) (full : List ℕ) (names r : Names) → has_begun full names.begun ≡ c
    → (if c then Err Shape else Ok (record names { begun = names.begun ++ full ∷ [] })) ≡ Ok r
    → (has_begun full names.begun ≡ false) × (record names { begun = names.begun ++ full ∷ [] } ≡ r)
begin_ok true full names r is e = no_ok Shape r e
begin_ok false full names r is e = (is, same_ok (record names { begun = names.begun ++ full ∷ [] }) r e)

begun_ok : (full : List ℕ) (f : List Named) (b : List (List ℕ)) (l : ℕ) (r : Names)
    → begin full (used (names_of f b (suc l))) ≡ Ok r → (has_begun full b ≡ false) × (names_of f (b ++ full ∷ []) l ≡ r)
unfolding begin
begun_ok full f b l r e =
    let p = begin_ok (has_begun full b) full (used (names_of f b (suc l))) r refl e in
    (p.0, ap (λ (n : Names). record n { begun = b ++ full ∷ [] }) (sym (used_is f b l)) ∙ p.1)

named_short : (name : List ℕ) (w : Writing Data) (b : List (List ℕ)) → has_begun name b ≡ true → named name w b ≡ (name_data name, b)
unfolding named
named_short name w b h = ap (λ (c : Bool). if c then (let p : Data × List (List ℕ) = (name_data name, b) in p) else w (b ++ name ∷ [])) h

-- a named type of this level that is finished
is_finished : (name : List ℕ) (b : List (List ℕ)) (x : open_schema.Schema-F Schema Field) (s : Schema) (w : Writing Data)
    → roll-Schema x ≡ s → level_of x ≡ named name w → has_begun name b ≡ true → is_utf8 name ≡ true
    → IsFinished b (record { name = name; schema = s })
is_finished name b x s w is level begun text =
    record { begun = begun; text = text; short = λ c h. ap (λ (t : Schema). written t c) (sym is) ∙ ap (λ (v : Writing Data). v c) (written_roll x ∙ level) ∙ named_short name w c h }

-- what a named type's level is, by what was written out under its name
named_level : (depth : ℕ) (space : List ℕ) (f : List Named) (b : List (List ℕ)) (l : ℕ) (x : open_schema.Schema-F Schema Field)
    (name : List ℕ) (w : Writing Data) (after : Names) → level_of x ≡ named name w → has_begun name b ≡ false
    → ((w (b ++ name ∷ [])).1 ≡ after.begun) → NodeReads depth space (w (b ++ name ∷ [])).0 (names_of f b (suc l)) (roll-Schema x) after → inner_of x depth l ≡ Some after.left → Good (w (b ++ name ∷ [])).0
    → ((n : List ℕ) → has_begun n (b ++ name ∷ []) ≡ true → has_begun n after.begun ≡ true) → AllFinished after.begun after.finished → LevelAgain depth space f b l x after
named_level depth space f b l x name w after level new begun again fits good kept finished =
    let out : level_of x b ≡ w (b ++ name ∷ []) = ap (λ (v : Writing Data). v b) level ∙ named_out name w b new in
    record {
      begun = ap (λ (p : Data × List (List ℕ)). p.1) out ∙ begun;
      again = subst (λ (p : Data × List (List ℕ)). NodeReads depth space p.0 (names_of f b (suc l)) (roll-Schema x) after) (sym out) again;
      fits = fits;
      good = subst (λ (p : Data × List (List ℕ)). Good p.0) (sym out) good;
      kept = λ n h. kept n (begun_stays n b (name ∷ []) h);
      finished = finished;
    }

-- ---- fields

fields_part : (depth : ℕ) (space name : List ℕ) (id : Option ℤ) (before : Names) (s : Schema) (after : Names)
    → is_utf8 name ≡ true → is_id id ≡ true → SchemaAgain depth space before s after
    → Again (field (schema_at depth) space) written_field (λ f. placed_field f depth) before (roll-Field (record { name = name; id = id; schema = s })) after
unfolding field_data
fields_part depth space name id before s after text has_id part =
    let x : open_schema.Field-F Schema Field = record { name = name; id = id; schema = s } in
    let is = written_field_roll x in
    record {
      begun = ap (λ (w : Writing Data). (w before.begun).1) is ∙ part.begun;
      again = ap (λ (w : Writing Data). field (schema_at depth) space (w before.begun).0 before) is ∙ field_read name id s (written s before.begun).0 depth space before after text has_id part.again;
      fits = ap (λ (p : Placing). p depth before.left) (placed_field_roll x) ∙ part.fits;
      good = subst (λ (w : Writing Data). Good (w before.begun).0) (sym is) (field_is_good name id (written s before.begun).0 text has_id part.good);
      kept = part.kept;
      finished = part.finished;
    }

field_law : (depth : ℕ) → Deep depth → (space : List ℕ) → IsUtf8 space → IsAgain (field (schema_at depth) space) written_field (λ f. placed_field f depth)
unfolding field
field_law depth deep space hs d before r h finished e =
    let P : Field × Names → Type 0 = λ y. Again (field (schema_at depth) space) written_field (λ f. placed_field f depth) before y.0 y.1 in
    let id : Option ℤ = id_at (codes "field-id") d in
    needed_then P (text_at (codes "name") d) (λ name. needed (get (codes "type") d) >>= λ type. schema_at depth space type before >>= λ inner. Ok (record { name = name; id = id; schema = inner.0 }, inner.1)) (λ name named.
    needed_then P (get (codes "type") d) (λ type. schema_at depth space type before >>= λ inner. Ok (record { name = name; id = id; schema = inner.0 }, inner.1)) (λ type typed.
    bind_then P (schema_at depth space type before) (λ inner. Ok (record { name = name; id = id; schema = inner.0 }, inner.1)) (λ inner at y is.
    (let made : Field × Names = (roll-Field (record { name = name; id = id; schema = inner.0 }), inner.1) in
    subst P (same_ok made y is) (fields_part depth space name id before inner.0 inner.1 (text_here (codes "name") d name h named) (id_here (codes "field-id") d) (deep space hs type before inner (get_texts (codes "type") d type h typed) finished at)))))) r e

-- ---- records, enums and fixed

-- what a node at this level is to show
abbrev NodeAgain : ℕ → Data → Nodes → List ℕ → List Named → List (List ℕ) → ℕ → Type 0
NodeAgain depth d nodes space f b l = (r : Schema × Names) → Texts d → IsUtf8 space → AllFinished b f → nodes ≡ Ok r → SchemaAgain (suc depth) space (names_of f b (suc l)) r.0 r.1

-- what a node of this level was answered as
abbrev Answered : ℕ → List ℕ → List Named → List (List ℕ) → ℕ → Schema × Names → Type 0
Answered depth space f b l r = SchemaAgain (suc depth) space (names_of f b (suc l)) r.0 r.1

record_part : (depth : ℕ) (space full : List ℕ) (f : List Named) (b : List (List ℕ)) (l : ℕ) (fields : List Field) (after : Names)
    (r : Schema × Names) → is_utf8 full ≡ true → has_begun full b ≡ false
    → EachAgain (field (schema_at depth) (space_of full)) written_field placed_field depth (names_of f (b ++ full ∷ []) l) fields after → GivesNamed (Ok (finish full (schema.Record full fields) after)) r → Answered depth space f b l r
record_part depth space full f b l fields after r text new parts e =
    let x : open_schema.Schema-F Schema Field = open_schema.Record full fields in
    let s : Schema = schema.Record full fields in
    let w : Writing Data = record_written full (map written_field fields) in
    let done : Names = (finish full s after).1 in
    let is : roll-Schema x ≡ s = schema.rolls-Record full fields in
    let mine : IsFinished after.begun (record { name = full; schema = s }) = is_finished full after.begun x s w is refl (parts.kept full (begun_now full b)) text in
    let items : Items = items_of (write_each (map written_field fields) (b ++ full ∷ [])).0 in
    answered depth space f b l x s done done r is refl e
    (named_level depth space f b l x full w done refl new parts.begun (record_read full fields items depth space f after.finished b after.begun l after.left text new parts.again) parts.fits
    (record_is_good full items text parts.good) parts.kept (one_finished after.begun after.finished (record { name = full; schema = s }) parts.finished mine))

record_again : (depth : ℕ) → Deep depth → (d : Data) (space : List ℕ) (f : List Named) (b : List (List ℕ)) (l : ℕ)
    → NodeAgain depth d (record_node (schema_at depth) space d (names_of f b (suc l))) space f b l
unfolding record_node
record_again depth deep d space f b l r h hs finished e =
    let before : Names = names_of f b (suc l) in
    let P : Schema × Names → Type 0 = λ y. Answered depth space f b l y in
    let full : List ℕ → List ℕ = λ name. defined_name space name d in
    let reading : List ℕ → Data → Names → Result (Field × Names) SchemaFault = λ name. field (schema_at depth) (space_of (full name)) in
    let done : List ℕ → List Field × Names → Nodes = λ name inner. Ok (finish (full name) (schema.Record (full name) inner.0) inner.1) in
    needed_then P (text_at (codes "name") d) (λ name. needed (option_and_then as_array (get (codes "fields") d)) >>= λ fields. begin (full name) (used before) >>= λ begun. each (reading name) fields begun >>= done name) (λ name named.
    needed_then P (option_and_then as_array (get (codes "fields") d)) (λ fields. begin (full name) (used before) >>= λ begun. each (reading name) fields begun >>= done name) (λ fields at.
    bind_then P (begin (full name) (used before)) (λ begun. each (reading name) fields begun >>= done name) (λ begun begins.
    bind_then P (each (reading name) fields begun) (done name) (λ inner parts y is.
    (let new = begun_ok (full name) f b l begun begins in
    let text : is_utf8 (full name) ≡ true = defined_text space name d h hs (text_here (codes "name") d name h named) in
    record_part depth space (full name) f b l inner.0 inner.1 y text new.0
    (each_again (reading name) written_field placed_field depth (field_law depth deep (space_of (full name)) (space_is_text (full name) (IsUtf8-from_is_utf8 (full name) text))) fields (names_of f (b ++ full name ∷ []) l) inner
    (items_here (codes "fields") d fields h at) (more_begun b (full name ∷ []) f finished) (ap (λ (n : Names). each (reading name) fields n) new.1 ∙ parts)) is))))) r e

symbol_ok : (d : Data) (before : Names) (r : List ℕ × Names) → Texts d → symbol d before ≡ Ok r → (is_utf8 r.0 ≡ true) × (before ≡ r.1)
unfolding symbol
symbol_ok d before r h e =
    let P : List ℕ × Names → Type 0 = λ x. (is_utf8 x.0 ≡ true) × (before ≡ x.1) in
    needed_then P (as_str d) (λ text. Ok (text, before)) (λ text at y is. subst P (same_ok (text, before) y is) (is_utf8-from_IsUtf8 text (str_text d text h at), refl)) r e

symbols_ok : (ds : Items) (before : Names) (r : List (List ℕ) × Names) → EachTexts ds → each symbol ds before ≡ Ok r
    → (list_all is_utf8 r.0 ≡ true) × (before ≡ r.1)
unfolding each symbol
symbols_ok no_items before r h e =
    let none : List (List ℕ) × Names = ([], before) in
    subst (λ (x : List (List ℕ) × Names). (list_all is_utf8 x.0 ≡ true) × (before ≡ x.1)) (same_ok none r e) (refl, refl)
symbols_ok (item d ds) before r h e =
    let P : List (List ℕ) × Names → Type 0 = λ x. (list_all is_utf8 x.0 ≡ true) × (before ≡ x.1) in
    bind_then P (symbol d before) (λ first. each symbol ds first.1 >>= λ others. Ok (first.0 ∷ others.0, others.1)) (λ first at.
    bind_then P (each symbol ds first.1) (λ others. Ok (first.0 ∷ others.0, others.1)) (λ others more y is.
    (let one = symbol_ok d before first h.0 at in
    let rest = symbols_ok ds first.1 others h.1 more in
    subst P (same_ok (first.0 ∷ others.0, others.1) y is) (ap (λ (c : Bool). c && list_all is_utf8 others.0) one.0 ∙ rest.0, one.1 ∙ rest.1)))) r e

enum_part : (depth : ℕ) (space full : List ℕ) (f : List Named) (b : List (List ℕ)) (l : ℕ) (ns : List (List ℕ)) (after : Names)
    (r : Schema × Names) → is_utf8 full ≡ true → has_begun full b ≡ false → list_all is_utf8 ns ≡ true → AllFinished b f
    → names_of f (b ++ full ∷ []) l ≡ after → GivesNamed (Ok (finish full (schema.Enum full ns) after)) r → Answered depth space f b l r
enum_part depth space full f b l ns after r text new texts finished same e =
    let x : open_schema.Schema-F Schema Field = open_schema.Enum full ns in
    let s : Schema = schema.Enum full ns in
    let w : Writing Data = enum_written full ns in
    let more : List (List ℕ) = b ++ full ∷ [] in
    let done : Names = names_of (finishing full s f) more l in
    let is : roll-Schema x ≡ s = schema.rolls-Enum full ns in
    let mine : IsFinished more (record { name = full; schema = s }) = is_finished full more x s w is refl (begun_now full b) text in
    answered depth space f b l x s (finish full s after).1 done r is (ap (λ (n : Names). (finish full s n).1) (sym same)) e
    (named_level depth space f b l x full w done refl new refl (enum_read full ns depth space f b l text texts new) refl (enum_is_good full ns text texts) (λ n g. g) (one_finished more f (record { name = full; schema = s }) (more_begun b (full ∷ []) f finished) mine))

enum_again : (depth : ℕ) (d : Data) (space : List ℕ) (f : List Named) (b : List (List ℕ)) (l : ℕ)
    → NodeAgain depth d (enum_node space d (names_of f b (suc l))) space f b l
unfolding enum_node
enum_again depth d space f b l r h hs finished e =
    let before : Names = names_of f b (suc l) in
    let P : Schema × Names → Type 0 = λ y. Answered depth space f b l y in
    let full : List ℕ → List ℕ = λ name. defined_name space name d in
    let done : List ℕ → List (List ℕ) × Names → Nodes = λ name inner. Ok (finish (full name) (schema.Enum (full name) inner.0) inner.1) in
    needed_then P (text_at (codes "name") d) (λ name. needed (option_and_then as_array (get (codes "symbols") d)) >>= λ items. begin (full name) (used before) >>= λ begun. each symbol items begun >>= done name) (λ name named.
    needed_then P (option_and_then as_array (get (codes "symbols") d)) (λ items. begin (full name) (used before) >>= λ begun. each symbol items begun >>= done name) (λ items at.
    bind_then P (begin (full name) (used before)) (λ begun. each symbol items begun >>= done name) (λ begun begins.
    bind_then P (each symbol items begun) (done name) (λ inner parts y is.
    (let new = begun_ok (full name) f b l begun begins in
    let all = symbols_ok items begun inner (items_here (codes "symbols") d items h at) parts in
    enum_part depth space (full name) f b l inner.0 inner.1 y (defined_text space name d h hs (text_here (codes "name") d name h named)) new.0 all.0 finished (new.1 ∙ all.1) is))))) r e

fixed_part : (depth : ℕ) (space full : List ℕ) (f : List Named) (b : List (List ℕ)) (l size : ℕ) (logical : Logical)
    (after : Names) (r : Schema × Names) → is_utf8 full ≡ true → has_begun full b ≡ false → is_logical logical ≡ true
    → size < 2 ^ 64 → AllFinished b f
    → names_of f (b ++ full ∷ []) l ≡ after → GivesNamed (Ok (finish full (schema.Fixed full size logical) after)) r → Answered depth space f b l r
fixed_part depth space full f b l size logical after r text new type small finished same e =
    let x : open_schema.Schema-F Schema Field = open_schema.Fixed full size logical in
    let s : Schema = schema.Fixed full size logical in
    let w : Writing Data = fixed_written full size logical in
    let more : List (List ℕ) = b ++ full ∷ [] in
    let done : Names = names_of (finishing full s f) more l in
    let is : roll-Schema x ≡ s = schema.rolls-Fixed full size logical in
    let mine : IsFinished more (record { name = full; schema = s }) = is_finished full more x s w is refl (begun_now full b) text in
    answered depth space f b l x s (finish full s after).1 done r is (ap (λ (n : Names). (finish full s n).1) (sym same)) e
    (named_level depth space f b l x full w done refl new refl (fixed_read full size logical depth space f b l text type new) refl (fixed_is_good full size logical text type small) (λ n g. g) (one_finished more f (record { name = full; schema = s }) (more_begun b (full ∷ []) f finished) mine))

fixed_again : (depth : ℕ) (d : Data) (space : List ℕ) (f : List Named) (b : List (List ℕ)) (l : ℕ)
    → NodeAgain depth d (fixed_node space d (names_of f b (suc l))) space f b l
unfolding fixed_node
fixed_again depth d space f b l r h hs finished e =
    let before : Names = names_of f b (suc l) in
    let P : Schema × Names → Type 0 = λ y. Answered depth space f b l y in
    let full : List ℕ → List ℕ = λ name. defined_name space name d in
    let done : List ℕ → ℕ → Names → Nodes = λ name size begun. Ok (finish (full name) (schema.Fixed (full name) size (logical_of d)) begun) in
    needed_then P (text_at (codes "name") d) (λ name. needed (number_at (codes "size") d) >>= λ size. begin (full name) (used before) >>= done name size) (λ name named.
    needed_then P (number_at (codes "size") d) (λ size. begin (full name) (used before) >>= done name size) (λ size at.
    bind_then P (begin (full name) (used before)) (done name size) (λ begun begins y is.
    (let new = begun_ok (full name) f b l begun begins in
    fixed_part depth space (full name) f b l size (logical_of d) begun y (defined_text space name d h hs (text_here (codes "name") d name h named)) new.0 (logical_here d h) (number_here (codes "size") d size h at) finished new.1 is)))) r e

-- ---- arrays, maps and unions

array_part : (depth : ℕ) (space : List ℕ) (f : List Named) (b : List (List ℕ)) (l : ℕ) (element : Option ℤ) (map : Bool)
    (s : Schema) (after : Names) (r : Schema × Names) → is_id element ≡ true → SchemaAgain depth space (names_of f b l) s after
    → GivesNamed (Ok (schema.Array s element map, after)) r → Answered depth space f b l r
unfolding array_data
array_part depth space f b l element map s after r id part e =
    let i : Data = (written s b).0 in
    answered depth space f b l (open_schema.Array s element map) (schema.Array s element map) after after r (schema.rolls-Array s element map) refl e
    (record { begun = part.begun; again = array_read s element map i depth space f b l after id part.again; fits = part.fits; good = array_is_good i element map id part.good; kept = part.kept; finished = part.finished })

array_again : (depth : ℕ) → Deep depth → (d : Data) (space : List ℕ) (f : List Named) (b : List (List ℕ)) (l : ℕ)
    → NodeAgain depth d (array_node (schema_at depth) space d (names_of f b (suc l))) space f b l
unfolding array_node
array_again depth deep d space f b l r h hs finished e =
    let before : Names = names_of f b (suc l) in
    let P : Schema × Names → Type 0 = λ y. Answered depth space f b l y in
    let element : Option ℤ = id_at (codes "element-id") d in
    let done : Schema × Names → Nodes = λ inner. Ok (schema.Array inner.0 element (is_map d), inner.1) in
    needed_then P (get (codes "items") d) (λ items. schema_at depth space items (used before) >>= done) (λ items at.
    bind_then P (schema_at depth space items (used before)) done (λ inner reads y is.
    array_part depth space f b l element (is_map d) inner.0 inner.1 y (id_here (codes "element-id") d)
    (deep space hs items (names_of f b l) inner (get_texts (codes "items") d items h at) finished (ap (λ (n : Names). schema_at depth space items n) (sym (used_is f b l)) ∙ reads)) is)) r e

map_part : (depth : ℕ) (space : List ℕ) (f : List Named) (b : List (List ℕ)) (l : ℕ) (key value : Option ℤ) (s : Schema)
    (after : Names) (r : Schema × Names) → is_id key ≡ true → is_id value ≡ true
    → SchemaAgain depth space (names_of f b l) s after
    → GivesNamed (Ok (schema.Map s key value, after)) r → Answered depth space f b l r
unfolding map_data
map_part depth space f b l key value s after r key_id value_id part e =
    let i : Data = (written s b).0 in
    answered depth space f b l (open_schema.Map s key value) (schema.Map s key value) after after r (schema.rolls-Map s key value) refl e
    (record { begun = part.begun; again = map_read s key value i depth space f b l after key_id value_id part.again; fits = part.fits; good = map_is_good i key value key_id value_id part.good; kept = part.kept; finished = part.finished })

map_again : (depth : ℕ) → Deep depth → (d : Data) (space : List ℕ) (f : List Named) (b : List (List ℕ)) (l : ℕ)
    → NodeAgain depth d (map_node (schema_at depth) space d (names_of f b (suc l))) space f b l
unfolding map_node
map_again depth deep d space f b l r h hs finished e =
    let before : Names = names_of f b (suc l) in
    let P : Schema × Names → Type 0 = λ y. Answered depth space f b l y in
    let key : Option ℤ = id_at (codes "key-id") d in
    let value : Option ℤ = id_at (codes "value-id") d in
    let done : Schema × Names → Nodes = λ inner. Ok (schema.Map inner.0 key value, inner.1) in
    needed_then P (get (codes "values") d) (λ values. schema_at depth space values (used before) >>= done) (λ values at.
    bind_then P (schema_at depth space values (used before)) done (λ inner reads y is.
    map_part depth space f b l key value inner.0 inner.1 y (id_here (codes "key-id") d) (id_here (codes "value-id") d)
    (deep space hs values (names_of f b l) inner (get_texts (codes "values") d values h at) finished (ap (λ (n : Names). schema_at depth space values n) (sym (used_is f b l)) ∙ reads)) is)) r e

union_again : (depth : ℕ) → Deep depth → (branches : Items) (space : List ℕ) (f : List Named) (b : List (List ℕ)) (l : ℕ)
    (r : Schema × Names) → EachTexts branches → IsUtf8 space → AllFinished b f
    → union_node (schema_at depth) space branches (names_of f b (suc l)) ≡ Ok r
    → Answered depth space f b l r
unfolding union_node
union_again depth deep branches space f b l r h hs finished e =
    let before : Names = names_of f b (suc l) in
    let P : Schema × Names → Type 0 = λ y. Answered depth space f b l y in
    bind_then P (each (schema_at depth space) branches (used before)) (λ inner. Ok (schema.Union inner.0, inner.1)) (λ inner reads y is.
    (let parts = each_again (schema_at depth space) written placed depth (deep space hs) branches (names_of f b l) inner h finished (ap (λ (n : Names). each (schema_at depth space) branches n) (sym (used_is f b l)) ∙ reads) in
    let items : Items = items_of (write_each (map written inner.0) b).0 in
    answered depth space f b l (open_schema.Union inner.0) (schema.Union inner.0) inner.1 inner.1 y (schema.rolls-Union inner.0) refl is
    (record { begun = parts.begun; again = union_read inner.0 items depth space f b l inner.1 parts.again; fits = parts.fits; good = parts.good; kept = parts.kept; finished = parts.finished }))) r e

-- ---- names

placed_by : (depth : ℕ) (s : Schema) (o : Option ℕ) (before : Names) (r : Schema × Names) → placed s depth before.left ≡ o
    → if_placed s o before ≡ Ok r → (left : ℕ) × (placed s depth before.left ≡ Some left)
    × ((s, record before { left = left }) ≡ r)
placed_by depth s None before r is e = no_ok Depth r e
placed_by depth s (Some left) before r is e = let p : Schema × Names = (s, record before { left = left }) in (left, is, same_ok p r e)

-- where a name that a type was finished under stands, it stands again
name_read : (depth : ℕ) (space full : List ℕ) (s : Schema) (f : List Named) (b : List (List ℕ)) (l left : ℕ)
    → word_of full ≡ word.Name → full_name space full ≡ full → find full f ≡ Some s → placed s (suc depth) (suc l) ≡ Some left
    → NodeReads depth space (string full) (names_of f b (suc l)) s (names_of f b left)
unfolding typed type_name name_node
name_read depth space full s f b l left is again at fits =
    let before : Names = names_of f b (suc l) in
    single_of (schema_at depth) (suc depth) space (string full) before full refl
    ∙ ap (λ (w : words.Word). typed (schema_at depth) (suc depth) space w full (string full) before) is
    ∙ ap (λ (n : List ℕ). referred (suc depth) full (find n f) before) again
    ∙ ap (λ (o : Option Schema). referred (suc depth) full o before) at
    ∙ ap (λ (o : Option ℕ). if_placed s o before) fits

found_again : (depth : ℕ) (space name : List ℕ) (o : Option Schema) (f : List Named) (b : List (List ℕ)) (l : ℕ)
    (r : Schema × Names) → word_of name ≡ word.Name → AllFinished b f → find (full_name space name) f ≡ o
    → referred (suc depth) name o (names_of f b (suc l)) ≡ Ok r
    → SchemaAgain (suc depth) space (names_of f b (suc l)) r.0 r.1
found_again depth space name None f b l r is finished at e = no_ok (TypeName name) r e
found_again depth space name (Some s) f b l r is finished at e =
    let before : Names = names_of f b (suc l) in
    let full : List ℕ = full_name space name in
    let p = placed_by (suc depth) s (placed s (suc depth) (suc l)) before r refl e in
    let entry = found b full f s finished at in
    let same = resolved space name in
    let short : written s b ≡ (name_data full, b) = entry.short b entry.begun in
    let read : schema_at (suc depth) space (string full) before ≡ Ok (s, names_of f b p.0) = one_deeper depth space (string full) f b l ∙ name_read depth space full s f b l p.0 (same.reference is) same.again at p.1 in
    subst (λ (y : Schema × Names). SchemaAgain (suc depth) space before y.0 y.1) p.2 (record {
      begun = ap (λ (x : Data × List (List ℕ)). x.1) short;
      again = ap (λ (x : Data × List (List ℕ)). schema_at (suc depth) space x.0 before) short ∙ ap (λ (t : List ℕ). schema_at (suc depth) space (string t) before) (lossless full entry.text) ∙ read;
      fits = p.1;
      good = subst (λ (x : Data × List (List ℕ)). Good x.0) (sym short) (subst IsUtf8 (sym (lossless full entry.text)) (IsUtf8-from_is_utf8 full entry.text));
      kept = λ n h. h;
      finished = finished;
    })

name_again : (depth : ℕ) (space name : List ℕ) (f : List Named) (b : List (List ℕ)) (l : ℕ) (r : Schema × Names)
    → word_of name ≡ word.Name → AllFinished b f → name_node (suc depth) space name (names_of f b (suc l)) ≡ Ok r
    → SchemaAgain (suc depth) space (names_of f b (suc l)) r.0 r.1
unfolding name_node
name_again depth space name f b l r is finished e = found_again depth space name (find (full_name space name) f) f b l r is finished refl e

-- ---- a node

leaf_again : (depth : ℕ) (space : List ℕ) (f : List Named) (b : List (List ℕ)) (l : ℕ) (x : open_schema.Schema-F Schema Field)
    (s : Schema) (w : Data) (r : Schema × Names) → roll-Schema x ≡ s → AllFinished b f
    → GivesNamed (Ok (s, used (names_of f b (suc l)))) r
    → level_of x b ≡ (w, b) → NodeReads depth space w (names_of f b (suc l)) (roll-Schema x) (names_of f b l) → inner_of x depth l ≡ Some l → Good w → SchemaAgain (suc depth) space (names_of f b (suc l)) r.0 r.1
leaf_again depth space f b l x s w r is finished e out again fits good =
    answered depth space f b l x s (used (names_of f b (suc l))) (names_of f b l) r is (used_is f b l) e
    (record {
      begun = ap (λ (p : Data × List (List ℕ)). p.1) out;
      again = subst (λ (p : Data × List (List ℕ)). NodeReads depth space p.0 (names_of f b (suc l)) (roll-Schema x) (names_of f b l)) (sym out) again;
      fits = fits;
      good = subst (λ (p : Data × List (List ℕ)). Good p.0) (sym out) good;
      kept = λ n h. h;
      finished = finished;
    })

typed_again : (depth : ℕ) → Deep depth → (w : words.Word) (name : List ℕ) (d : Data) (space : List ℕ) (f : List Named)
    (b : List (List ℕ)) (l : ℕ) → word_of name ≡ w → NodeAgain depth d (typed (schema_at depth)
    (suc depth) space w name d (names_of f b (suc l))) space f b l
unfolding typed
typed_again depth deep word.Null name d space f b l is r h hs finished e = leaf_again depth space f b l open_schema.Null schema.Null (string (codes "null")) r schema.rolls-Null finished e refl (null_read depth space f b l) refl (is_text (codes "null") refl)
typed_again depth deep word.Boolean name d space f b l is r h hs finished e = leaf_again depth space f b l open_schema.Boolean schema.Boolean (string (codes "boolean")) r schema.rolls-Boolean finished e refl (boolean_read depth space f b l) refl (is_text (codes "boolean") refl)
typed_again depth deep word.Int name d space f b l is r h hs finished e =
    leaf_again depth space f b l (open_schema.Int (logical_of d)) (schema.Int (logical_of d)) (primitive (codes "int") (logical_of d)) r (schema.rolls-Int (logical_of d)) finished e refl (int_read (logical_of d) (logical_here d h) depth space f b l) refl
    (primitive_is_good (codes "int") (logical_of d) (is_text (codes "int") refl) (logical_here d h))
typed_again depth deep word.Long name d space f b l is r h hs finished e =
    leaf_again depth space f b l (open_schema.Long (logical_of d)) (schema.Long (logical_of d)) (primitive (codes "long") (logical_of d)) r (schema.rolls-Long (logical_of d)) finished e refl (long_read (logical_of d) (logical_here d h) depth space f b l) refl
    (primitive_is_good (codes "long") (logical_of d) (is_text (codes "long") refl) (logical_here d h))
typed_again depth deep word.Bytes name d space f b l is r h hs finished e =
    leaf_again depth space f b l (open_schema.Bytes (logical_of d)) (schema.Bytes (logical_of d)) (primitive (codes "bytes") (logical_of d)) r (schema.rolls-Bytes (logical_of d)) finished e refl (bytes_read (logical_of d) (logical_here d h) depth space f b l) refl
    (primitive_is_good (codes "bytes") (logical_of d) (is_text (codes "bytes") refl) (logical_here d h))
typed_again depth deep word.Text name d space f b l is r h hs finished e = leaf_again depth space f b l open_schema.Text schema.Text (string (codes "string")) r schema.rolls-Text finished e refl (text_read depth space f b l) refl (is_text (codes "string") refl)
typed_again depth deep word.Record name d space f b l is r h hs finished e = record_again depth deep d space f b l r h hs finished e
typed_again depth deep word.Enum name d space f b l is r h hs finished e = enum_again depth d space f b l r h hs finished e
typed_again depth deep word.Array name d space f b l is r h hs finished e = array_again depth deep d space f b l r h hs finished e
typed_again depth deep word.Map name d space f b l is r h hs finished e = map_again depth deep d space f b l r h hs finished e
typed_again depth deep word.Fixed name d space f b l is r h hs finished e = fixed_again depth d space f b l r h hs finished e
typed_again depth deep word.Name name d space f b l is r h hs finished e = name_again depth space name f b l r is finished e

single_again : (depth : ℕ) → Deep depth → (d : Data) (space : List ℕ) (f : List Named) (b : List (List ℕ)) (l : ℕ)
    → NodeAgain depth d (single (schema_at depth) (suc depth) space d (names_of f b (suc l))) space f b l
unfolding single
single_again depth deep d space f b l r h hs finished e =
    needed_then (λ y. Answered depth space f b l y) (type_name d) (λ name. typed (schema_at depth) (suc depth) space (word_of name) name d (names_of f b (suc l)))
    (λ name at y is. typed_again depth deep (word_of name) name d space f b l refl y h hs finished is) r e

node_again : (depth : ℕ) → Deep depth → (o : Option Items) (d : Data) (space : List ℕ) (f : List Named) (b : List (List ℕ))
    (l : ℕ) → as_array d ≡ o → NodeAgain depth d (node (schema_at depth) (suc depth) space o d (names_of f b (suc l))) space f b l
node_again depth deep (Some branches) d space f b l is r h hs finished e = union_again depth deep branches space f b l r (array_texts d branches h is) hs finished e
node_again depth deep None d space f b l is r h hs finished e = single_again depth deep d space f b l r h hs finished e

room_by : (c : Bool) (nodes : Nodes) (r : Schema × Names) → (if c then Err Depth else nodes) ≡ Ok r → (c ≡ false) × (nodes ≡ Ok r)
room_by true nodes r e = no_ok Depth r e
room_by false nodes r e = (refl, e)

one_left : (n : ℕ) → eqb n 0 ≡ false → n ≡ suc (n - 1)
one_left zero e = absurd cc
one_left (suc n) e = let less : suc n - 1 ≡ n = omega arith in ap suc (sym less)

schema_again : (depth : ℕ) → Deep depth
unfolding schema_at
schema_again zero space hs d before r h finished e = no_ok Depth r e
schema_again (suc depth) space hs d before r h finished e =
    let room = room_by (eqb before.left 0) (node (schema_at depth) (suc depth) space (as_array d) d before) r e in
    let l : ℕ = before.left - 1 in
    let same : before ≡ names_of before.finished before.begun (suc l) = ap (λ (n : ℕ). names_of before.finished before.begun n) (one_left before.left room.0) in
    subst (λ (n : Names). SchemaAgain (suc depth) space n r.0 r.1) (sym same)
    (node_again depth (schema_again depth) (as_array d) d space before.finished before.begun l refl r h hs finished (ap (λ (n : Names). node (schema_at depth) (suc depth) space (as_array d) d n) (sym same) ∙ room.1))

-- ---- the whole

pub record IsRead (s : Schema) : Type 0 where
  pub json : schema_of (data_of s) ≡ Ok s
  pub text : schema_from (schema_text s) ≡ Ok s

whole_again : (w : Schema × Names) → SchemaAgain 32 [] start w.0 w.1 → IsRead w.0
unfolding schema_of schema_from
whole_again w a =
    let json : schema_of (data_of w.0) ≡ Ok w.0 = ap (λ x. x >>= λ whole. Ok whole.0) a.again in
    let deep : depth (data_of w.0) ≤ 3 * 32 = written_deep w.0 32 [] 100000 w.1.left a.fits in
    let shallow : depth (data_of w.0) ≤ max_depth = omega arith in
    record { json = json; text = ap schema_in (read_text (data_of w.0) a.good shallow) ∙ json }

data_again : (d : Data) (s : Schema) → Texts d → schema_of d ≡ Ok s → IsRead s
unfolding schema_of
data_again d s h e =
    bind_then IsRead (schema_at 32 [] d start) (λ whole. Ok whole.0) (λ whole at y is. subst IsRead (same_ok whole.0 y is) (whole_again whole (schema_again 32 [] IsUtf8-nil d start whole h tt at))) s e

json_by : (o : Option Data) (s : Schema) → schema_in o ≡ Ok s → (d : Data) × (o ≡ Some d) × (schema_of d ≡ Ok s)
json_by None s e = no_ok Json s e
json_by (Some d) s e = (d, refl, e)

-- what a text was read as is read again
pub read_text_again : (bytes : List ℕ) (s : Schema) → schema_from bytes ≡ Ok s → IsRead s
unfolding schema_from
read_text_again bytes s e = let d = json_by (json_of bytes) s e in data_again d.0 s (json_texts bytes d.0 d.1) d.2
