-- The refs of metadata that is read from bytes stand in byte order of their names.
use Rattle.std.proofs.Common.{◌≡◌, ℕ, ℤ, suc, List, [], ◌∷◌, ◌++◌, ◌||◌, Bool, true, false, codes, Option, Some, None, Ok, Err, option_map, option_and_then, map, cond, Ordering, Less, Equal, Greater, refl, sym, ap, subst, ◌∙◌}
use Rattle.std.specs.Prelude.{⊤}
use Rattle.std.specs.Ordering.{nat_cmp, is_lt, is_eq, match_ordering, ordering_reverse}
use Rattle.std.specs.List.{AllByRecursion, insert}
use Rattle.std.specs.List.Sorted.{IsStrictlySortedBy}
use Rattle.std.specs.Cmp.Lexicographic.{slice_cmp}
use Rattle.std.specs.Str.{is_utf8}
use Rattle.std.proofs.lemmas.Cmp.{nat_list_cmp_total}
use Rattle.std.proofs.lemmas.Map.Text.{is_eq-slice_cmp}
use Rattle.json.specs.Lex.{tokens}
use Rattle.json.specs.Json as json
use Rattle.serde_json.specs.Data.{Data, Num, null, boolean, number, string, array, object, Items, no_items, item, Members, no_members, member, put}
use Rattle.serde_json.specs.Find.{get, get_member, as_object}
use Rattle.serde_json.specs.Read.{of_json, of_items, of_members, number_of, max_depth, read}
use Rattle.serde_json.specs.Written.{has_float}
use Rattle.table_metadata.specs.declared.metadata_fault.MetadataFault.TheVariants as fault
use Rattle.table_metadata.specs.declared.references.RefItem.{RefItem}
use Rattle.table_metadata.specs.declared.snapshots.Snapshot.{Snapshot}
use Rattle.iceberg_schema.specs.Keys.{long_at, text_at, members_at}
use Rattle.table_metadata.specs.Metadata.{Parts, json_of, metadata_of, parts_of, whole_object}
use Rattle.table_metadata.specs.References.{AreInOrder, all_hold, all_refs, before_main, is_before_main, is_main, is_tag_type, listed_refs_of, lists_main, ref_of, refs_from, refs_of, with_main}
use Rattle.table_metadata.specs.TableKeys.{shaped}
use Rattle.plain_types.specs.Steps.{by_option}
use Rattle.table_metadata.proofs.CallerLemmas.{readings_of}
use Rattle.plain_types.proofs.CallerLemmas.{one_value, two_steps}

abbrev text_cmp : List ℕ → List ℕ → Ordering
text_cmp = slice_cmp nat_cmp

-- ---- the names of each object that is read ascend

abbrev Above : List ℕ → Members → Type 0
Above k no_members = ⊤
Above k (member l d ms) = (text_cmp k l ≡ Less) × Above k ms

abbrev mutual
  IsOrdered : Data → Type 0
  IsOrdered null = ⊤
  IsOrdered (boolean b) = ⊤
  IsOrdered (number n) = ⊤
  IsOrdered (string s) = ⊤
  IsOrdered (array ds) = AreOrdered ds
  IsOrdered (object ms) = Ascend ms

  AreOrdered : Items → Type 0
  AreOrdered no_items = ⊤
  AreOrdered (item d ds) = IsOrdered d × AreOrdered ds

  Ascend : Members → Type 0
  Ascend no_members = ⊤
  Ascend (member k d ms) = IsOrdered d × Above k ms × Ascend ms

abbrev Holds : {A : Type 0} → (A → Type 0) → Option A → Type 0
Holds P None = ⊤
Holds P (Some a) = P a

above_later : (k l : List ℕ) (ms : Members) → text_cmp k l ≡ Less → Above l ms → Above k ms
above_later k l no_members h a = tt
above_later k l (member m d ms) h a = (nat_list_cmp_total.trans k l m h a.0, above_later k l ms h a.1)

one_of : (P : Members → Type 0) (o r : Ordering) (a b c : Members) → r ≡ o → (r ≡ Less → P a) → (r ≡ Equal → P b)
    → (r ≡ Greater → P c) → P (match_ordering o a b c)
one_of P Less r a b c e x y z = x e
one_of P Equal r a b c e x y z = y e
one_of P Greater r a b c e x y z = z e

above_put : (l k : List ℕ) (d : Data) (ms : Members) → Above l ms → text_cmp l k ≡ Less → Above l (put k d ms)
above_put l k d no_members a h = (h, tt)
above_put l k d (member m e ms) a h =
    one_of (Above l) (text_cmp k m) (text_cmp k m) _ _ _ refl (λ _. (h, a)) (λ _. a) (λ _. (a.0, above_put l k d ms a.1 h))

turned : (k l : List ℕ) → text_cmp k l ≡ Greater → text_cmp l k ≡ Less
turned k l h = nat_list_cmp_total.antisymm l k ∙ ap ordering_reverse h

put_ascends : (k : List ℕ) (d : Data) (ms : Members) → IsOrdered d → Ascend ms → Ascend (put k d ms)
put_ascends k d no_members h a = (h, tt, tt)
put_ascends k d (member l e ms) h a =
    one_of Ascend (text_cmp k l) (text_cmp k l) _ _ _ refl
    (λ o. (h, (o, above_later k l ms o a.1), a))
    (λ _. (h, a.1, a.2))
    (λ o. (a.0, above_put l k d ms a.1 (turned k l o), put_ascends k d ms h a.2))

holds_map : {A B : Type 0} (P : A → Type 0) (Q : B → Type 0) (f : A → B) → ((a : A) → P a → Q (f a)) → (o : Option A) → Holds P o → Holds Q (option_map f o)
holds_map P Q f k None h = tt
holds_map P Q f k (Some a) h = k a h

holds_then : {A B : Type 0} (P : A → Type 0) (Q : B → Type 0) (f : A → Option B) → ((a : A) → P a → Holds Q (f a))
    → (o : Option A) → Holds P o → Holds Q (option_and_then f o)
holds_then P Q f k None h = tt
holds_then P Q f k (Some a) h = k a h

number_ordered : (o : Option Num) → Holds IsOrdered (option_map number o)
number_ordered None = tt
number_ordered (Some n) = tt

mutual
  of_json-ordered : (j : json.Json) → Holds IsOrdered (of_json j)
  of_json-ordered json.null = tt
  of_json-ordered (json.boolean b) = tt
  of_json-ordered (json.number s) = number_ordered (number_of s)
  of_json-ordered (json.string s) = tt
  of_json-ordered (json.array js) = holds_map AreOrdered IsOrdered array (λ _ h. h) (of_items js) (of_items-ordered js)
  of_json-ordered (json.object ms) = holds_map Ascend IsOrdered object (λ _ h. h) (of_members ms no_members) (of_members-ascend ms no_members tt)

  of_items-ordered : (js : json.Items) → Holds AreOrdered (of_items js)
  of_items-ordered json.no_items = tt
  of_items-ordered (json.item j js) =
      holds_then IsOrdered AreOrdered _ (λ d h. holds_map AreOrdered AreOrdered (item d) (λ ds k. (h, k)) (of_items js) (of_items-ordered js)) (of_json j) (of_json-ordered j)

  of_members-ascend : (ms : json.Members) (found : Members) → Ascend found → Holds Ascend (of_members ms found)
  of_members-ascend json.no_members found a = a
  of_members-ascend (json.member k j ms) found a =
      holds_then IsOrdered Ascend _ (λ d h. of_members-ascend ms (put k d found) (put_ascends k d found h a)) (of_json j) (of_json-ordered j)

json_ordered : (o : Option json.Json) → Holds IsOrdered (option_and_then of_json o)
json_ordered None = tt
json_ordered (Some j) = of_json-ordered j

whole_at : (o f : Bool) (e d : Data) → cond o (cond f (Err fault.Json) (Ok e)) (Err fault.Json) ≡ Ok d → e ≡ d
whole_at true false e d h = cc
whole_at true true e d h = cc
whole_at false f e d h = cc

whole_is : (e d : Data) → whole_object e ≡ Ok d → e ≡ d
unfolding whole_object
whole_is e d h = whole_at _ (has_float e) e d h

ordered_at : (u : Bool) (r : Option Data) (d : Data) → Holds IsOrdered r
    → cond u (by_option r whole_object (Err fault.Json)) (Err fault.Json) ≡ Ok d → IsOrdered d
ordered_at true (Some e) d o h = subst IsOrdered (whole_is e d h) o
ordered_at true None d o h = cc
ordered_at false r d o h = cc

json_of-ordered : (bytes : List ℕ) (d : Data) → json_of bytes ≡ Ok d → IsOrdered d
unfolding json_of
json_of-ordered bytes d h = ordered_at (is_utf8 bytes) (read bytes) d (json_ordered (option_and_then (λ p. json.if_last p.0 p.1) (json.value max_depth (tokens bytes)))) h

-- ---- the refs of an ordered object

either_ordered : (o : Ordering) (r : Option Data) (e : Data) → Holds IsOrdered r → IsOrdered e → Holds IsOrdered (match_ordering o r (Some e) r)
either_ordered Less r e h k = h
either_ordered Equal r e h k = k
either_ordered Greater r e h k = h

member_ordered : (k : List ℕ) (ms : Members) → Ascend ms → Holds IsOrdered (get_member k ms)
member_ordered k no_members a = tt
member_ordered k (member l e ms) a = either_ordered (text_cmp k l) _ e (member_ordered k ms a.2) a.0

get_ordered : (k : List ℕ) (d : Data) → IsOrdered d → Holds IsOrdered (get k d)
get_ordered k null h = tt
get_ordered k (boolean b) h = tt
get_ordered k (number n) h = tt
get_ordered k (string s) h = tt
get_ordered k (array ds) h = tt
get_ordered k (object ms) h = member_ordered k ms h

members_ascend : (d : Data) → IsOrdered d → Holds Ascend (as_object d)
members_ascend null h = tt
members_ascend (boolean b) h = tt
members_ascend (number n) h = tt
members_ascend (string s) h = tt
members_ascend (array ds) h = tt
members_ascend (object ms) h = h

refs_ascend : (d : Data) → IsOrdered d → Holds Ascend (members_at (codes "refs") d)
refs_ascend d h = holds_then IsOrdered Ascend as_object members_ascend (get (codes "refs") d) (get_ordered (codes "refs") d h)

abbrev names : Members → List (List ℕ)
names no_members = []
names (member k d ms) = k ∷ names ms

all_above : (k : List ℕ) (ms : Members) → Above k ms → AllByRecursion (λ l. text_cmp k l ≡ Less) (names ms)
all_above k no_members a = tt
all_above k (member l d ms) a = (a.0, all_above k ms a.1)

names_sorted : (ms : Members) → Ascend ms → IsStrictlySortedBy text_cmp (names ms)
unfolding IsStrictlySortedBy
names_sorted no_members a = tt
names_sorted (member k d ms) a = (all_above k ms a.1, names_sorted ms a.2)

pub ref_named : (name : List ℕ) (d : Data) (r : RefItem) → ref_of name d ≡ Ok r → r.name ≡ name
unfolding ref_of
ref_named name d r h =
    let s1 = two_steps (shaped (codes "snapshot-id") (long_at (codes "snapshot-id") d)) _ r h in
    let s2 = two_steps (shaped (codes "type") (text_at (codes "type") d)) _ r s1.2 in
    let s3 = two_steps (is_tag_type s2.0) _ r s2.2 in
    sym (ap (λ x. x.name) (one_value _ r _ refl s3.2))

none_more : (ns : List (List ℕ)) → ns ≡ ns ++ []
none_more [] = refl
none_more (n ∷ ns) = ap (λ l. n ∷ l) (none_more ns)

abbrev names_of : List RefItem → List (List ℕ)
names_of refs = map (λ r. r.name) refs

one_more_name : (rs : List RefItem) (r : RefItem) (more : List (List ℕ)) → names_of (rs ++ r ∷ []) ++ more ≡ names_of rs ++ r.name ∷ more
one_more_name [] r more = refl
one_more_name (x ∷ rs) r more = ap (λ l. x.name ∷ l) (one_more_name rs r more)

names_read : (earlier refs : List RefItem) (ms : Members) → refs_from earlier ms ≡ Ok refs → names_of refs ≡ names_of earlier ++ names ms
unfolding refs_from
names_read earlier refs no_members h = ap names_of (sym (one_value earlier refs _ refl h)) ∙ none_more (names_of earlier)
names_read earlier refs (member k d ms) h =
    let s = two_steps (ref_of k d) _ refs h in
    names_read (earlier ++ s.0 ∷ []) refs ms s.2 ∙ one_more_name earlier s.0 (names ms) ∙ ap (λ n. names_of earlier ++ n ∷ names ms) (ref_named k d s.0 s.1)

members_in_order : (o : Option Members) (listed : List RefItem) → Holds Ascend o → by_option o (refs_from []) (Ok []) ≡ Ok listed → AreInOrder listed
unfolding IsStrictlySortedBy
members_in_order None listed a h = subst AreInOrder (one_value [] listed _ refl h) tt
members_in_order (Some ms) listed a h = subst (IsStrictlySortedBy text_cmp) (sym (names_read [] listed ms h)) (names_sorted ms a)

listed_in_order : (d : Data) (listed : List RefItem) → IsOrdered d → listed_refs_of d ≡ Ok listed → AreInOrder listed
unfolding listed_refs_of
listed_in_order d listed o h = members_in_order (members_at (codes "refs") d) listed (refs_ascend d o) h

-- ---- the implied `main` stands at its place

below_all : (k l : List ℕ) (ns : List (List ℕ)) → text_cmp k l ≡ Less → AllByRecursion (λ n. text_cmp l n ≡ Less) ns
    → AllByRecursion (λ n. text_cmp k n ≡ Less) ns
below_all k l [] h a = tt
below_all k l (n ∷ ns) h a = (nat_list_cmp_total.trans k l n h a.0, below_all k l ns h a.1)

below_placed_at : (b : Bool) (k : List ℕ) (m x : RefItem) (xs : List RefItem) → text_cmp k m.name ≡ Less
    → (text_cmp k x.name ≡ Less) × AllByRecursion (λ n. text_cmp k n ≡ Less) (names_of xs)
    → AllByRecursion (λ n. text_cmp k n ≡ Less) (names_of (insert xs (before_main xs) m))
    → AllByRecursion (λ n. text_cmp k n ≡ Less) (names_of (insert (x ∷ xs) (cond b (suc (before_main xs)) 0) m))
below_placed_at true k m x xs h a later = (a.0, later)
below_placed_at false k m x xs h a later = (h, a)

below_placed : (k : List ℕ) (m : RefItem) (xs : List RefItem) → text_cmp k m.name ≡ Less
    → AllByRecursion (λ n. text_cmp k n ≡ Less) (names_of xs)
    → AllByRecursion (λ n. text_cmp k n ≡ Less) (names_of (insert xs (before_main xs) m))
unfolding before_main
below_placed k m [] h a = (h, tt)
below_placed k m (x ∷ xs) h a = below_placed_at (is_before_main x) k m x xs h a (below_placed k m xs h a.1)

is_less : (o : Ordering) → is_lt o ≡ true → o ≡ Less
is_less Less h = refl
is_less Equal h = cc
is_less Greater h = cc

is_greater : (o : Ordering) → is_lt o ≡ false → is_eq o ≡ false → o ≡ Greater
is_greater Less h k = cc
is_greater Equal h k = cc
is_greater Greater h k = refl

neither : (a b : Bool) → (a || b) ≡ false → (a ≡ false) × (b ≡ false)
neither false b h = (refl, h)
neither true b h = cc

placed_at : (b : Bool) (m x : RefItem) (xs : List RefItem) → is_lt (text_cmp x.name m.name) ≡ b
    → is_eq (text_cmp x.name m.name) ≡ false → IsStrictlySortedBy text_cmp (x.name ∷ names_of xs)
    → AreInOrder (insert xs (before_main xs) m)
    → AreInOrder (insert (x ∷ xs) (cond b (suc (before_main xs)) 0) m)
unfolding IsStrictlySortedBy
placed_at true m x xs h e s later = (below_placed x.name m xs (is_less _ h) s.0, later)
placed_at false m x xs h e s later =
    let first = turned x.name m.name (is_greater _ h e) in ((first, below_all m.name x.name (names_of xs) first s.0), s)

placed_in_order : (m : RefItem) (xs : List RefItem) → m.name ≡ codes "main" → lists_main xs ≡ false → AreInOrder xs → AreInOrder (insert xs (before_main xs) m)
unfolding before_main IsStrictlySortedBy
placed_in_order m [] n h s = (tt, tt)
placed_in_order m (x ∷ xs) n h s =
    let no = neither (is_main x) (lists_main xs) h in
    placed_at (is_before_main x) m x xs (ap (λ l. is_lt (text_cmp x.name l)) n) (ap (λ l. is_eq (text_cmp x.name l)) n ∙ is_eq-slice_cmp x.name (codes "main") ∙ no.0) s (placed_in_order m xs n no.1 s.1)

with_main_in_order : (current : Option ℤ) (listed : List RefItem) → lists_main listed ≡ false → AreInOrder listed → AreInOrder (with_main current listed)
unfolding with_main
with_main_in_order None listed h s = s
with_main_in_order (Some id) listed h s = placed_in_order _ listed refl h s

either_in_order : (b : Bool) (current : Option ℤ) (listed : List RefItem) → lists_main listed ≡ b → AreInOrder listed
    → AreInOrder (cond b listed (with_main current listed))
either_in_order true current listed h s = s
either_in_order false current listed h s = with_main_in_order current listed h s

all_in_order : (current : Option ℤ) (listed : List RefItem) → AreInOrder listed → AreInOrder (all_refs current listed)
unfolding all_refs
all_in_order current listed s = either_in_order (lists_main listed) current listed refl s

refs_in_order : (current : Option ℤ) (snapshots : List Snapshot) (listed refs : List RefItem)
    → refs_of current snapshots listed ≡ Ok refs → AreInOrder listed → AreInOrder refs
unfolding refs_of
refs_in_order current snapshots listed refs h s =
    let t = two_steps (all_hold current snapshots (all_refs current listed)) _ refs h in
    subst AreInOrder (one_value _ refs _ refl t.2) (all_in_order current listed s)

-- ---- what the bytes say

pub parts_in_order : (bytes : List ℕ) (d : Data) (p : Parts) → json_of bytes ≡ Ok d → parts_of d ≡ Ok p → AreInOrder p.refs
parts_in_order bytes d p j h =
    let r = readings_of d p h in
    refs_in_order p.current_snapshot p.snapshots r.listed p.refs r.refs (listed_in_order d r.listed (json_of-ordered bytes d j) r.lists)

pub refs_of_metadata : (bytes : List ℕ) (p : Parts) → metadata_of bytes ≡ Ok p → AreInOrder p.refs
unfolding metadata_of
refs_of_metadata bytes p h =
    let s = two_steps (json_of bytes) parts_of p h in parts_in_order bytes s.0 p s.1 s.2
