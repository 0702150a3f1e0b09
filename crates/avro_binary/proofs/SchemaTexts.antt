-- The text of a schema is read as the schema.
use Rattle.std.proofs.Common.{◌≡◌, ◌⊎◌, ℕ, zero, suc, max, ◌+◌, ◌-◌, ◌*◌, ◌^◌, ◌<◌, ◌≤◌, eqb, ℤ, pos, negsuc, Bool, true, false, ◌&&◌, List, [], ◌∷◌}
use Rattle.std.proofs.Common.{◌++◌, length, map, take, get_or, Option, Some, None, Ok, codes, refl, sym, ap, subst, ◌∙◌, inl, inr, append_assoc, arith}
use Rattle.std.specs.Prelude.{if◌then◌else◌, option_and_then, unwrap_or, is_some, nat_le, nat_lt}
use Rattle.std.specs.List.{list_all}
use Rattle.std.specs.Str.{is_utf8, IsUtf8}
use Rattle.std.specs.Str.Lossy.{utf8_lossy}
use Rattle.std.specs.Ordering.{nat_cmp, match_ordering}
use Rattle.std.specs.declared.cmp.Ordering.{Ordering}
use Rattle.std.specs.declared.cmp.Ordering.TheVariants as ordering
use Rattle.std.specs.Cmp.Lexicographic.{slice_cmp}
use Rattle.std.proofs.lemmas.Bool.{ltb-true, leb-true, eqb-true}
use Rattle.std.proofs.lemmas.List.{length-append}
use Rattle.std.proofs.lemmas.Str.{IsUtf8-from_is_utf8, utf8_lossy-IsUtf8, IsUtf8-nil, IsUtf8-take, IsCharBoundary-before_ascii}
use Rattle.serde_json.specs.Data.{Data, unsigned, boolean, number, string, array, object, Items, Members, no_members, member, put, depth, items_depth, members_depth}
use Rattle.serde_json.specs.Find.{of_integer}
use Rattle.serde_json.specs.Read.{max_depth}
use Rattle.serde_json.specs.View.{items_of}
use Rattle.avro_binary.specs.declared.schema.Schema.{Schema, roll-Schema}
use Rattle.avro_binary.specs.declared.schema.Schema.TheFolds.{map-Schema, map-Field}
use Rattle.avro_binary.specs.declared.schema.Schema.TheOpen as open_schema
use Rattle.avro_binary.specs.declared.schema.Field.{Field, roll-Field}
use Rattle.avro_binary.specs.declared.schema.Logical.{Logical}
use Rattle.avro_binary.specs.declared.schema.Logical.TheVariants.{Plain, Date, TimestampMicros, Decimal, Other}
use Rattle.avro_binary.specs.Naming.{dot_from, last_dot, space_of, has_begun}
use Rattle.avro_binary.specs.Placed.{Placing, place_each, place_inner, placed, placed_field}
use Rattle.avro_binary.specs.SchemaText.{narrow, json_of, schema_in, schema_from}
use Rattle.avro_binary.specs.SchemaData.{Writing, name_data, type_key, with_id, with_logical, with_map, named_keys, primitive, symbols, write_each, named, record_written, enum_written, fixed_written, written, written_field, data_of, schema_text}
use Rattle.avro_binary.specs.SchemaOnce.{is_logical, is_id, Begins, when, one_name, each_once, once, once_field, has_text}
use Rattle.avro_binary.proofs.SchemaFloats.{Proved, ProvedField, by_levels, written_roll, written_field_roll}
use Rattle.avro_binary.proofs.SchemaLaws.{lossless, same_some, and_then, when_true, both_true, once_roll, once_field_roll, one_name_is, named_out, some_of, data_read, placed_roll, placed_field_roll, none_some}
use Rattle.avro_binary.proofs.JsonTexts.{rebuilt, are_ascii, Good, GoodItems, GoodMembers, is_text, read_text}

-- ---- the namespace of a name is text

-- no dot, or the place of one
abbrev IsDot : List ℕ → Option ℕ → Type 0
IsDot name o = (o ≡ None) ⊎ ((at : ℕ) × (o ≡ Some at) × (at < length name) × (get_or name at 0 ≡ 46))

-- the byte after the front
pub front_at : (front : List ℕ) (b : ℕ) (rest : List ℕ) → (length front < length (front ++ b ∷ rest)) × (get_or (front ++ b ∷ rest) (length front) 0 ≡ b)
front_at [] b rest = (omega arith, refl)
front_at (x ∷ front) b rest = let h = front_at front b rest in (omega arith, h.1)

dot_step : (c : Bool) (front : List ℕ) (b : ℕ) (rest : List ℕ) (last : Option ℕ) → eqb b 46 ≡ c → IsDot (front ++ b ∷ rest) last
    → IsDot (front ++ b ∷ rest) (if c then Some (length front) else last)
dot_step true front b rest last e h = inr (length front, refl, (front_at front b rest).0, (front_at front b rest).1 ∙ eqb-true b 46 e)
dot_step false front b rest last e h = h

dots : (front rest : List ℕ) (last : Option ℕ) → IsDot (front ++ rest) last → IsDot (front ++ rest) (dot_from rest (length front) last)
unfolding dot_from
dots front [] last h = h
dots front (b ∷ rest) last h =
    let more : List ℕ = front ++ b ∷ [] in
    let same : more ++ rest ≡ front ++ b ∷ rest = append_assoc front (b ∷ []) rest in
    let long : length more ≡ length front + 1 = length-append front (b ∷ []) in
    let now : Option ℕ = if eqb b 46 then Some (length front) else last in
    let next : IsDot (more ++ rest) (dot_from rest (length more) now) = dots more rest now (subst (λ (t : List ℕ). IsDot t now) (sym same) (dot_step (eqb b 46) front b rest last refl h)) in
    subst (λ (n : ℕ). IsDot (front ++ b ∷ rest) (dot_from rest n now)) long (subst (λ (t : List ℕ). IsDot t (dot_from rest (length more) now)) same next)

space_by : (name : List ℕ) (o : Option ℕ) → last_dot name ≡ o → IsDot name o → IsUtf8 name → IsUtf8 (space_of name)
space_by name o e (inl none) text = subst IsUtf8 (sym (ap (λ (p : Option ℕ). take (unwrap_or p 0) name) (e ∙ none))) IsUtf8-nil
space_by name o e (inr (at, is, lt, dot)) text =
    let ascii : get_or name at 0 < 128 = omega arith in
    subst IsUtf8 (sym (ap (λ (p : Option ℕ). take (unwrap_or p 0) name) (e ∙ is))) (IsUtf8-take name at text (IsCharBoundary-before_ascii name at lt ascii))

pub space_is_text : (name : List ℕ) → IsUtf8 name → IsUtf8 (space_of name)
space_is_text name text = space_by name (last_dot name) refl (dots [] name None (inl refl)) text

text_of : (name : List ℕ) → is_utf8 name ≡ true → IsUtf8 (utf8_lossy name)
text_of name h = subst IsUtf8 (sym (lossless name h)) (IsUtf8-from_is_utf8 name h)

space_text : (name : List ℕ) → is_utf8 name ≡ true → IsUtf8 (utf8_lossy (space_of name))
space_text name h =
    let space : IsUtf8 (space_of name) = space_is_text name (IsUtf8-from_is_utf8 name h) in
    subst IsUtf8 (sym (utf8_lossy-IsUtf8 (space_of name) space)) space

-- ---- members

put_step : (o : Ordering) (k l : List ℕ) (d e : Data) (ms : Members) → are_ascii k ≡ true → Good d → GoodMembers (member l e ms)
    → GoodMembers (put k d ms) → are_ascii l ≡ true
    → GoodMembers (match_ordering o (member k d (member l e ms)) (member l d ms) (member l e (put k d ms)))
put_step ordering.Less k l d e ms hk hd h hput hl = (hk, hd, h)
put_step ordering.Equal k l d e ms hk hd h hput hl = (hl, hd, h.2)
put_step ordering.Greater k l d e ms hk hd h hput hl = (hl, h.1, hput)

put_good : (k : List ℕ) (d : Data) (ms : Members) → are_ascii k ≡ true → Good d → GoodMembers ms → GoodMembers (put k d ms)
put_good k d no_members hk hd h = (hk, hd, tt)
put_good k d (member l e ms) hk hd h = put_step (slice_cmp nat_cmp k l) k l d e ms hk hd h (put_good k d ms hk hd h.2) h.0

type_good : (word : List ℕ) → IsUtf8 word → GoodMembers (type_key word)
type_good word h = (refl, h, tt)

narrow_by : (b : Bool) (z : ℤ) → is_some (if b then (let o : Option ℤ = Some z in o) else None) ≡ true → b ≡ true
narrow_by true z h = refl
narrow_by false z h = h

narrow_small : (n : ℕ) (z : ℤ) → is_some (if nat_le n (2 ^ 31 - 1) then (let o : Option ℤ = Some z in o) else None) ≡ true → n ≤ 2 ^ 31 - 1
narrow_small n z h = leb-true n (2 ^ 31 - 1) (narrow_by (nat_le n (2 ^ 31 - 1)) z h)

integer_good : (z : ℤ) → is_some (narrow z) ≡ true → Good (number (of_integer z))
integer_good (pos n) h = let le : n ≤ 2 ^ 31 - 1 = narrow_small n (pos n) h in omega arith
integer_good (negsuc n) h = let le : n ≤ 2 ^ 31 - 1 = narrow_small n (negsuc n) h in (n, refl, omega arith)

id_good : (key : List ℕ) (id : Option ℤ) (ms : Members) → are_ascii key ≡ true → is_id id ≡ true → GoodMembers ms → GoodMembers (with_id key id ms)
id_good key None ms hk h g = g
id_good key (Some z) ms hk h g = put_good key (number (of_integer z)) ms hk (integer_good z h) g

logical_good : (logical : Logical) (ms : Members) → is_logical logical ≡ true → GoodMembers ms → GoodMembers (with_logical logical ms)
logical_good Plain ms h g = g
logical_good Date ms h g = put_good (codes "logicalType") (string (codes "date")) ms refl (is_text (codes "date") refl) g
logical_good (TimestampMicros utc) ms h g =
    put_good (codes "adjust-to-utc") (boolean utc) (put (codes "logicalType") (string (codes "timestamp-micros")) ms) refl tt (put_good (codes "logicalType") (string (codes "timestamp-micros")) ms refl (is_text (codes "timestamp-micros") refl) g)
logical_good (Decimal precision scale) ms h g =
    let a = both_true (nat_le 1 precision) (nat_le precision 38 && nat_le scale precision) h in
    let b = both_true (nat_le precision 38) (nat_le scale precision) a.1 in
    let p : precision ≤ 38 = leb-true precision 38 b.0 in
    let s : scale ≤ precision = leb-true scale precision b.1 in
    let small_p : precision < 2 ^ 64 = omega arith in
    let small_s : scale < 2 ^ 64 = omega arith in
    put_good (codes "scale") (number (unsigned scale)) (put (codes "precision") (number (unsigned precision)) (put (codes "logicalType") (string (codes "decimal")) ms)) refl small_s
    (put_good (codes "precision") (number (unsigned precision)) (put (codes "logicalType") (string (codes "decimal")) ms) refl small_p (put_good (codes "logicalType") (string (codes "decimal")) ms refl (is_text (codes "decimal") refl) g))
logical_good (Other name) ms h g = put_good (codes "logicalType") (name_data name) ms refl (text_of name (both_true (is_utf8 name) _ h).0) g

map_good : (map : Bool) (ms : Members) → GoodMembers ms → GoodMembers (with_map map ms)
map_good false ms g = g
map_good true ms g = put_good (codes "logicalType") (string (codes "map")) ms refl (is_text (codes "map") refl) g

keys_good : (word name : List ℕ) → IsUtf8 word → is_utf8 name ≡ true → GoodMembers (named_keys word name)
keys_good word name hw h = put_good (codes "namespace") (name_data (space_of name)) (put (codes "name") (name_data name) (type_key word)) refl (space_text name h) (put_good (codes "name") (name_data name) (type_key word) refl (text_of name h) (type_good word hw))

pub symbols_good : (ns : List (List ℕ)) → list_all is_utf8 ns ≡ true → GoodItems (items_of (map name_data ns))
symbols_good [] h = tt
symbols_good (n ∷ ns) h = let a = both_true (is_utf8 n) (list_all is_utf8 ns) h in (text_of n a.0, symbols_good ns a.1)

-- ---- nodes

abbrev GoodWriting : Writing Data → Begins → Type 0
GoodWriting w begins = (b after : List (List ℕ)) → begins b ≡ Some after → ((w b).1 ≡ after) × Good (w b).0

abbrev GoodSchema : Schema → Type 0
GoodSchema s = GoodWriting (written s) (once s)

abbrev GoodField : Field → Type 0
GoodField f = GoodWriting (written_field f) (once_field f)

each_good : {X : Type 0} (write : X → Writing Data) (begins : X → Begins) (Q : X → Type 0) → ((x : X) → Q x → GoodWriting (write x) (begins x))
    → (es : List ((x : X) × Q x)) (b after : List (List ℕ)) → each_once (map begins (map (λ e. e.0) es)) b ≡ Some after
    → ((write_each (map write (map (λ e. e.0) es)) b).1 ≡ after) × GoodItems (items_of (write_each (map write (map (λ e. e.0) es)) b).0)
each_good write begins Q law [] b after begun = (same_some b after begun, tt)
each_good {X = X} write begins Q law (e ∷ es) b after begun =
    let xs : List X = map (λ (e : (x : X) × Q x). e.0) es in
    let o = and_then (each_once (map begins xs)) (begins e.0 b) after begun in
    let first = law e.0 e.1 b o.0 o.1 in
    let others = each_good write begins Q law es o.0 after o.2 in (
      ap (λ (n : List (List ℕ)). (write_each (map write xs) n).1) first.0 ∙ others.0,
      (first.1, subst (λ (n : List (List ℕ)). GoodItems (items_of (write_each (map write xs) n).0)) (sym first.0) others.1),
    )

-- a law of the level is one of the schema
good_level : (x : open_schema.Schema-F Schema Field) (w : Writing Data) (begins : Begins) → written (roll-Schema x) ≡ w
    → once (roll-Schema x) ≡ begins → GoodWriting w begins → GoodSchema (roll-Schema x)
good_level x w begins is o law b after begun =
    let r = law b after (sym (ap (λ (g : Begins). g b) o) ∙ begun) in
    (ap (λ (v : Writing Data). (v b).1) is ∙ r.0, subst (λ (v : Writing Data). Good (v b).0) (sym is) r.1)

good_named : (name : List ℕ) (w : Writing Data) (b after : List (List ℕ)) → one_name name b ≡ Some after → Good (w after).0
    → ((w after).1 ≡ after) → ((named name w b).1 ≡ after) × Good (named name w b).0
good_named name w b after begun good ends =
    let new = one_name_is (has_begun name b) name b after refl begun in
    let out : named name w b ≡ w after = named_out name w b new.0 ∙ ap w new.1 in
    (ap (λ (x : Data × List (List ℕ)). x.1) out ∙ ends, subst (λ (x : Data × List (List ℕ)). Good x.0) (sym out) good)

built_primitive : (word : List ℕ) (logical : Logical) → rebuilt (with_logical logical (type_key word)) no_members ≡ with_logical logical (type_key word)
built_primitive word Plain = refl
built_primitive word Date = refl
built_primitive word (TimestampMicros utc) = refl
built_primitive word (Decimal precision scale) = refl
built_primitive word (Other name) = refl

pub primitive_is_good : (word : List ℕ) (logical : Logical) → IsUtf8 word → is_logical logical ≡ true → Good (primitive word logical)
primitive_is_good word logical hw h = (built_primitive word logical, logical_good logical (type_key word) h (type_good word hw))

built_record : (items : Data) (name : List ℕ)
    → rebuilt (put (codes "fields") items (named_keys (codes "record") name)) no_members ≡ put (codes "fields") items (named_keys (codes "record") name)
built_record items name = refl

pub record_is_good : (name : List ℕ) (items : Items) → is_utf8 name ≡ true → GoodItems items
    → Good (object (put (codes "fields") (array items) (named_keys (codes "record") name)))
record_is_good name items text good = (built_record (array items) name, put_good (codes "fields") (array items) (named_keys (codes "record") name) refl good (keys_good (codes "record") name (is_text (codes "record") refl) text))

built_enum : (items : Data) (name : List ℕ)
    → rebuilt (put (codes "symbols") items (named_keys (codes "enum") name)) no_members ≡ put (codes "symbols") items (named_keys (codes "enum") name)
built_enum items name = refl

pub enum_is_good : (name : List ℕ) (ns : List (List ℕ)) → is_utf8 name ≡ true → list_all is_utf8 ns ≡ true
    → Good (object (put (codes "symbols") (symbols ns) (named_keys (codes "enum") name)))
enum_is_good name ns text texts = (built_enum (symbols ns) name, put_good (codes "symbols") (symbols ns) (named_keys (codes "enum") name) refl (symbols_good ns texts) (keys_good (codes "enum") name (is_text (codes "enum") refl) text))

abbrev fixed_keys : List ℕ → ℕ → Logical → Members
fixed_keys name size logical = with_logical logical (put (codes "size") (number (unsigned size)) (named_keys (codes "fixed") name))

built_fixed : (name : List ℕ) (size : ℕ) (logical : Logical) → rebuilt (fixed_keys name size logical) no_members ≡ fixed_keys name size logical
built_fixed name size Plain = refl
built_fixed name size Date = refl
built_fixed name size (TimestampMicros utc) = refl
built_fixed name size (Decimal precision scale) = refl
built_fixed name size (Other other) = refl

pub fixed_is_good : (name : List ℕ) (size : ℕ) (logical : Logical) → is_utf8 name ≡ true → is_logical logical ≡ true
    → size < 2 ^ 64 → Good (object (fixed_keys name size logical))
fixed_is_good name size logical text type small =
    (built_fixed name size logical, logical_good logical _ type (put_good (codes "size") (number (unsigned size)) (named_keys (codes "fixed") name) refl small (keys_good (codes "fixed") name (is_text (codes "fixed") refl) text)))

abbrev array_keys : Data → Option ℤ → Bool → Members
array_keys inner element map = with_map map (with_id (codes "element-id") element (put (codes "items") inner (type_key (codes "array"))))

built_array : (inner : Data) (element : Option ℤ) (map : Bool) → rebuilt (array_keys inner element map) no_members ≡ array_keys inner element map
built_array inner None false = refl
built_array inner None true = refl
built_array inner (Some z) false = refl
built_array inner (Some z) true = refl

pub array_is_good : (inner : Data) (element : Option ℤ) (map : Bool) → is_id element ≡ true → Good inner → Good (object (array_keys inner element map))
array_is_good inner element map id good =
    (built_array inner element map, map_good map _ (id_good (codes "element-id") element _ refl id (put_good (codes "items") inner (type_key (codes "array")) refl good (type_good (codes "array") (is_text (codes "array") refl)))))

abbrev map_keys : Data → Option ℤ → Option ℤ → Members
map_keys inner key value = with_id (codes "value-id") value (with_id (codes "key-id") key (put (codes "values") inner (type_key (codes "map"))))

built_map : (inner : Data) (key value : Option ℤ) → rebuilt (map_keys inner key value) no_members ≡ map_keys inner key value
built_map inner None None = refl
built_map inner None (Some w) = refl
built_map inner (Some z) None = refl
built_map inner (Some z) (Some w) = refl

pub map_is_good : (inner : Data) (key value : Option ℤ) → is_id key ≡ true → is_id value ≡ true → Good inner → Good (object (map_keys inner key value))
map_is_good inner key value key_id value_id good =
    (built_map inner key value, id_good (codes "value-id") value _ refl value_id (id_good (codes "key-id") key _ refl key_id (put_good (codes "values") inner (type_key (codes "map")) refl good (type_good (codes "map") (is_text (codes "map") refl)))))

abbrev field_keys : List ℕ → Option ℤ → Data → Members
field_keys name id inner = with_id (codes "field-id") id (put (codes "type") inner (put (codes "name") (name_data name) no_members))

built_field : (name : List ℕ) (id : Option ℤ) (inner : Data) → rebuilt (field_keys name id inner) no_members ≡ field_keys name id inner
built_field name None inner = refl
built_field name (Some z) inner = refl

pub field_is_good : (name : List ℕ) (id : Option ℤ) (inner : Data) → is_utf8 name ≡ true → is_id id ≡ true → Good inner
    → Good (object (field_keys name id inner))
field_is_good name id inner text has_id good =
    (built_field name id inner, id_good (codes "field-id") id _ refl has_id (put_good (codes "type") inner (put (codes "name") (name_data name) no_members) refl good (refl, text_of name text, tt)))

record_good : (name : List ℕ) (es : List (ProvedField GoodField))
    → GoodWriting (named name (record_written name (map written_field (map (λ e. e.0) es))))
    (when (is_utf8 name) (λ b. option_and_then (each_once (map once_field (map (λ e. e.0) es))) (one_name name b)))
record_good name es b after begun =
    let fields : List Field = map (λ (e : ProvedField GoodField). e.0) es in
    let o = when_true (is_utf8 name) (λ n. option_and_then (each_once (map once_field fields)) (one_name name n)) b after begun in
    let p = and_then (each_once (map once_field fields)) (one_name name b) after o.1 in
    let new = one_name_is (has_begun name b) name b p.0 refl p.1 in
    let inner = each_good written_field once_field GoodField (λ x q. q) es p.0 after p.2 in
    let w : Writing Data = record_written name (map written_field fields) in
    let out : named name w b ≡ w p.0 = named_out name w b new.0 ∙ ap w new.1 in (
      ap (λ (x : Data × List (List ℕ)). x.1) out ∙ inner.0,
      subst (λ (x : Data × List (List ℕ)). Good x.0) (sym out)
          (record_is_good name (items_of (write_each (map written_field fields) p.0).0) o.0 inner.1),
    )

good_levels : (y : open_schema.Schema-F (Proved GoodSchema) (ProvedField GoodField))
    → GoodSchema (roll-Schema (map-Schema (Proved GoodSchema) (ProvedField GoodField) Schema Field (λ e. e.0) (λ e. e.0) y))
good_levels open_schema.Null = good_level open_schema.Null _ _ (written_roll open_schema.Null) (once_roll open_schema.Null) (λ b after begun. (same_some b after begun, is_text (codes "null") refl))
good_levels open_schema.Boolean = good_level open_schema.Boolean _ _ (written_roll open_schema.Boolean) (once_roll open_schema.Boolean) (λ b after begun. (same_some b after begun, is_text (codes "boolean") refl))
good_levels (open_schema.Int logical) = good_level (open_schema.Int logical) _ _ (written_roll (open_schema.Int logical)) (once_roll (open_schema.Int logical))
    (λ b after begun. (let o = when_true (is_logical logical) _ b after begun in (same_some b after o.1, primitive_is_good (codes "int") logical (is_text (codes "int") refl) o.0)))
good_levels (open_schema.Long logical) = good_level (open_schema.Long logical) _ _ (written_roll (open_schema.Long logical)) (once_roll (open_schema.Long logical))
    (λ b after begun. (let o = when_true (is_logical logical) _ b after begun in (same_some b after o.1, primitive_is_good (codes "long") logical (is_text (codes "long") refl) o.0)))
good_levels (open_schema.Bytes logical) = good_level (open_schema.Bytes logical) _ _ (written_roll (open_schema.Bytes logical)) (once_roll (open_schema.Bytes logical))
    (λ b after begun. (let o = when_true (is_logical logical) _ b after begun in (same_some b after o.1, primitive_is_good (codes "bytes") logical (is_text (codes "bytes") refl) o.0)))
good_levels open_schema.Text = good_level open_schema.Text _ _ (written_roll open_schema.Text) (once_roll open_schema.Text) (λ b after begun. (same_some b after begun, is_text (codes "string") refl))
good_levels (open_schema.Record name es) =
    let fields : List Field = map (λ (e : ProvedField GoodField). e.0) es in
    good_level (open_schema.Record name fields) _ _ (written_roll (open_schema.Record name fields)) (once_roll (open_schema.Record name fields)) (record_good name es)
good_levels (open_schema.Enum name ns) = good_level (open_schema.Enum name ns) _ _ (written_roll (open_schema.Enum name ns)) (once_roll (open_schema.Enum name ns))
    (λ b after begun. (let o = when_true (is_utf8 name && list_all is_utf8 ns) (one_name name) b after begun in let u = both_true (is_utf8 name) (list_all is_utf8 ns) o.0 in
    good_named name (enum_written name ns) b after o.1 (enum_is_good name ns u.0 u.1) refl))
good_levels (open_schema.Array e element map) = good_level (open_schema.Array e.0 element map) _ _ (written_roll (open_schema.Array e.0 element map)) (once_roll (open_schema.Array e.0 element map))
    (λ b after begun. (let o = when_true (is_id element) (once e.0) b after begun in let r = e.1 b after o.1 in
    (r.0, array_is_good (written e.0 b).0 element map o.0 r.1)))
good_levels (open_schema.Map e key value) = good_level (open_schema.Map e.0 key value) _ _ (written_roll (open_schema.Map e.0 key value)) (once_roll (open_schema.Map e.0 key value))
    (λ b after begun. (let o = when_true (is_id key && is_id value) (once e.0) b after begun in let ids = both_true (is_id key) (is_id value) o.0 in let r = e.1 b after o.1 in
    (r.0, map_is_good (written e.0 b).0 key value ids.0 ids.1 r.1)))
good_levels (open_schema.Union es) =
    let branches : List Schema = map (λ (e : Proved GoodSchema). e.0) es in
    good_level (open_schema.Union branches) _ _ (written_roll (open_schema.Union branches)) (once_roll (open_schema.Union branches)) (λ b after begun. each_good written once GoodSchema (λ x q. q) es b after begun)
good_levels (open_schema.Fixed name size logical) = good_level (open_schema.Fixed name size logical) _ _ (written_roll (open_schema.Fixed name size logical)) (once_roll (open_schema.Fixed name size logical))
    (λ b after begun. (let o = when_true (is_utf8 name && (is_logical logical && nat_lt size (2 ^ 64))) (one_name name) b after begun in
    let u = both_true (is_utf8 name) (is_logical logical && nat_lt size (2 ^ 64)) o.0 in
    let g = both_true (is_logical logical) (nat_lt size (2 ^ 64)) u.1 in
    good_named name (fixed_written name size logical) b after o.1
    (fixed_is_good name size logical u.0 g.0 (ltb-true size (2 ^ 64) g.1)) refl))

good_fields : (y : open_schema.Field-F (Proved GoodSchema) (ProvedField GoodField))
    → GoodField (roll-Field (map-Field (Proved GoodSchema) (ProvedField GoodField) Schema Field (λ e. e.0) (λ e. e.0) y))
good_fields y b after begun =
    let x : open_schema.Field-F Schema Field = map-Field (Proved GoodSchema) (ProvedField GoodField) Schema Field (λ e. e.0) (λ e. e.0) y in
    let o = when_true (is_utf8 y.name && is_id y.id) (once y.schema.0) b after (sym (ap (λ (g : Begins). g b) (once_field_roll x)) ∙ begun) in
    let u = both_true (is_utf8 y.name) (is_id y.id) o.0 in
    let r = y.schema.1 b after o.1 in
    let is = written_field_roll x in (
      ap (λ (v : Writing Data). (v b).1) is ∙ r.0,
      subst (λ (v : Writing Data). Good (v b).0) (sym is)
          (field_is_good y.name y.id (written y.schema.0 b).0 u.0 u.1 r.1),
    )

pub written_good : (s : Schema) → GoodSchema s
written_good s = by_levels GoodSchema GoodField good_levels good_fields s

-- ---- how deep the JSON nests

both_small : (a b n : ℕ) → a ≤ n → b ≤ n → max a b ≤ n
both_small a b n p q = omega arith

put_deep_step : (o : Ordering) (k l : List ℕ) (d e : Data) (ms : Members) (n : ℕ) → depth d ≤ n → depth e ≤ n
    → members_depth ms ≤ n → members_depth (put k d ms) ≤ n
    → members_depth (match_ordering o (member k d (member l e ms)) (member l d ms) (member l e (put k d ms))) ≤ n
put_deep_step ordering.Less k l d e ms n hd he hms hput = both_small (depth d) (max (depth e) (members_depth ms)) n hd (both_small (depth e) (members_depth ms) n he hms)
put_deep_step ordering.Equal k l d e ms n hd he hms hput = both_small (depth d) (members_depth ms) n hd hms
put_deep_step ordering.Greater k l d e ms n hd he hms hput = both_small (depth e) (members_depth (put k d ms)) n he hput

put_deep : (k : List ℕ) (d : Data) (ms : Members) (n : ℕ) → depth d ≤ n → members_depth ms ≤ n → members_depth (put k d ms) ≤ n
put_deep k d no_members n hd h = both_small (depth d) 0 n hd (omega arith)
put_deep k d (member l e ms) n hd h =
    let m : max (depth e) (members_depth ms) ≤ n = h in
    let he : depth e ≤ n = omega arith in
    let hms : members_depth ms ≤ n = omega arith in
    put_deep_step (slice_cmp nat_cmp k l) k l d e ms n hd he hms (put_deep k d ms n hd hms)

-- what doesn't nest
flat : (k : List ℕ) (d : Data) (ms : Members) (n : ℕ) → depth d ≡ 0 → members_depth ms ≤ n → members_depth (put k d ms) ≤ n
flat k d ms n z h = put_deep k d ms n (omega arith) h

id_deep : (key : List ℕ) (id : Option ℤ) (ms : Members) (n : ℕ) → members_depth ms ≤ n → members_depth (with_id key id ms) ≤ n
id_deep key None ms n h = h
id_deep key (Some z) ms n h = flat key (number (of_integer z)) ms n refl h

logical_deep : (logical : Logical) (ms : Members) (n : ℕ) → members_depth ms ≤ n → members_depth (with_logical logical ms) ≤ n
logical_deep Plain ms n h = h
logical_deep Date ms n h = flat (codes "logicalType") (string (codes "date")) ms n refl h
logical_deep (TimestampMicros utc) ms n h = flat (codes "adjust-to-utc") (boolean utc) (put (codes "logicalType") (string (codes "timestamp-micros")) ms) n refl (flat (codes "logicalType") (string (codes "timestamp-micros")) ms n refl h)
logical_deep (Decimal precision scale) ms n h =
    flat (codes "scale") (number (unsigned scale)) (put (codes "precision") (number (unsigned precision)) (put (codes "logicalType") (string (codes "decimal")) ms)) n refl
    (flat (codes "precision") (number (unsigned precision)) (put (codes "logicalType") (string (codes "decimal")) ms) n refl (flat (codes "logicalType") (string (codes "decimal")) ms n refl h))
logical_deep (Other name) ms n h = flat (codes "logicalType") (name_data name) ms n refl h

map_deep : (map : Bool) (ms : Members) (n : ℕ) → members_depth ms ≤ n → members_depth (with_map map ms) ≤ n
map_deep false ms n h = h
map_deep true ms n h = flat (codes "logicalType") (string (codes "map")) ms n refl h

type_flat : (word : List ℕ) (n : ℕ) → members_depth (type_key word) ≤ n
type_flat word n = flat (codes "type") (string word) no_members n refl (omega arith)

keys_flat : (word name : List ℕ) (n : ℕ) → members_depth (named_keys word name) ≤ n
keys_flat word name n = flat (codes "namespace") (name_data (space_of name)) (put (codes "name") (name_data name) (type_key word)) n refl (flat (codes "name") (name_data name) (type_key word) n refl (type_flat word n))

symbols_flat : (ns : List (List ℕ)) → items_depth (items_of (map name_data ns)) ≤ 0
symbols_flat [] = omega arith
symbols_flat (n ∷ ns) = both_small 0 (items_depth (items_of (map name_data ns))) 0 (omega arith) (symbols_flat ns)

named_flat : (c : Bool) (name : List ℕ) (out : Data × List (List ℕ)) (b : List (List ℕ)) (n : ℕ) → depth out.0 ≤ n
    → depth (if c then (let p : Data × List (List ℕ) = (name_data name, b) in p) else out).0 ≤ n
named_flat true name out b n h = omega arith
named_flat false name out b n h = h

named_deep : (name : List ℕ) (w : Writing Data) (b : List (List ℕ)) (n : ℕ) → ((c : List (List ℕ)) → depth (w c).0 ≤ n) → depth (named name w b).0 ≤ n
unfolding named
named_deep name w b n h = named_flat (has_begun name b) name (w (b ++ name ∷ [])) b n (h (b ++ name ∷ []))

abbrev Deep : Schema → Type 0
Deep s = (d : ℕ) (b : List (List ℕ)) (l left : ℕ) → placed s d l ≡ Some left → depth (written s b).0 ≤ 3 * d

abbrev DeepField : Field → Type 0
DeepField f = (d : ℕ) (b : List (List ℕ)) (l left : ℕ) → placed_field f d l ≡ Some left → depth (written_field f b).0 ≤ 3 * d + 1

each_deep : {X : Type 0} (write : X → Writing Data) (place : X → Placing) (Q : X → Type 0) (d n : ℕ)
    → ((x : X) → Q x → (b : List (List ℕ)) (l left : ℕ) → place x d l ≡ Some left → depth (write x b).0 ≤ n)
    → (es : List ((x : X) × Q x)) (b : List (List ℕ)) (l left : ℕ) → place_each (map place (map (λ e. e.0) es)) d l ≡ Some left → items_depth (items_of (write_each (map write (map (λ e. e.0) es)) b).0) ≤ n
unfolding place_each
each_deep write place Q d n law [] b l left placing = omega arith
each_deep {X = X} write place Q d n law (e ∷ es) b l left placing =
    let xs : List X = map (λ (e : (x : X) × Q x). e.0) es in
    let p = and_then (place_each (map place xs) d) (place e.0 d l) left placing in
    both_small (depth (write e.0 b).0) (items_depth (items_of (write_each (map write xs) (write e.0 b).1).0)) n (law e.0 e.1 b l p.0 p.1) (each_deep write place Q d n law es (write e.0 b).1 p.0 left p.2)

deep_level : (x : open_schema.Schema-F Schema Field) (w : Writing Data) → written (roll-Schema x) ≡ w
    → ((d : ℕ) (b : List (List ℕ)) (l left : ℕ) → place_inner (map-Schema Schema Field Placing Placing placed placed_field x) d l ≡ Some left → depth (w b).0 ≤ 3 * d + 3) → Deep (roll-Schema x)
deep_level x w is law zero b l left placing = none_some left (sym (ap (λ (p : Placing). p zero l) (placed_roll x)) ∙ placing)
deep_level x w is law (suc d) b zero left placing = none_some left (sym (ap (λ (p : Placing). p (suc d) zero) (placed_roll x)) ∙ placing)
deep_level x w is law (suc d) b (suc l) left placing =
    let small : depth (w b).0 ≤ 3 * d + 3 = law d b l left (sym (ap (λ (p : Placing). p (suc d) (suc l)) (placed_roll x)) ∙ placing) in
    let all : depth (w b).0 ≤ 3 * suc d = omega arith in
    subst (λ (v : Writing Data). depth (v b).0 ≤ 3 * suc d) (sym is) all

one_more : (n m : ℕ) → n ≤ m → suc n ≤ m + 1
one_more n m h = omega arith

object_deep : (ms : Members) (d n : ℕ) → members_depth ms ≤ n → n ≤ 3 * d + 2 → depth (object ms) ≤ 3 * d + 3
object_deep ms d n h le = omega arith

primitive_deep : (word : List ℕ) (logical : Logical) (d : ℕ) → depth (primitive word logical) ≤ 3 * d + 3
primitive_deep word logical d = object_deep (with_logical logical (type_key word)) d 0 (logical_deep logical (type_key word) 0 (type_flat word 0)) (omega arith)

array_deep : (ds : Items) (d : ℕ) → items_depth ds ≤ 3 * d → depth (array ds) ≤ 3 * d + 3
array_deep ds d h = omega arith

fields_deep : (ds : Items) (d : ℕ) → items_depth ds ≤ 3 * d + 1 → depth (array ds) ≤ 3 * d + 2
fields_deep ds d h = omega arith

record_deep : (name : List ℕ) (es : List (ProvedField DeepField)) (d : ℕ) (b : List (List ℕ)) (l left : ℕ)
    → place_each (map placed_field (map (λ e. e.0) es)) d l ≡ Some left
    → depth (named name (record_written name (map written_field (map (λ e. e.0) es))) b).0 ≤ 3 * d + 3
record_deep name es d b l left placing =
    let fields : List Field = map (λ (e : ProvedField DeepField). e.0) es in
    named_deep name (record_written name (map written_field fields)) b (3 * d + 3)
    (λ c. object_deep (put (codes "fields") (array (items_of (write_each (map written_field fields) c).0)) (named_keys (codes "record") name)) d (3 * d + 2) (put_deep (codes "fields") (array (items_of (write_each (map written_field fields) c).0)) (named_keys (codes "record") name) (3 * d + 2)
    (fields_deep (items_of (write_each (map written_field fields) c).0) d (each_deep written_field placed_field DeepField d (3 * d + 1) (λ x q e m r h. q d e m r h) es c l left placing)) (keys_flat (codes "record") name (3 * d + 2))) (omega arith))

deep_levels : (y : open_schema.Schema-F (Proved Deep) (ProvedField DeepField))
    → Deep (roll-Schema (map-Schema (Proved Deep) (ProvedField DeepField) Schema Field (λ e. e.0) (λ e. e.0) y))
deep_levels open_schema.Null = deep_level open_schema.Null _ (written_roll open_schema.Null) (λ d b l left placing. omega arith)
deep_levels open_schema.Boolean = deep_level open_schema.Boolean _ (written_roll open_schema.Boolean) (λ d b l left placing. omega arith)
deep_levels (open_schema.Int logical) = deep_level (open_schema.Int logical) _ (written_roll (open_schema.Int logical)) (λ d b l left placing. primitive_deep (codes "int") logical d)
deep_levels (open_schema.Long logical) = deep_level (open_schema.Long logical) _ (written_roll (open_schema.Long logical)) (λ d b l left placing. primitive_deep (codes "long") logical d)
deep_levels (open_schema.Bytes logical) = deep_level (open_schema.Bytes logical) _ (written_roll (open_schema.Bytes logical)) (λ d b l left placing. primitive_deep (codes "bytes") logical d)
deep_levels open_schema.Text = deep_level open_schema.Text _ (written_roll open_schema.Text) (λ d b l left placing. omega arith)
deep_levels (open_schema.Record name es) =
    let fields : List Field = map (λ (e : ProvedField DeepField). e.0) es in
    deep_level (open_schema.Record name fields) _ (written_roll (open_schema.Record name fields)) (record_deep name es)
deep_levels (open_schema.Enum name ns) = deep_level (open_schema.Enum name ns) _ (written_roll (open_schema.Enum name ns))
    (λ d b l left placing. named_deep name (enum_written name ns) b (3 * d + 3)
    (λ c. object_deep (put (codes "symbols") (symbols ns) (named_keys (codes "enum") name)) d 1
    (put_deep (codes "symbols") (symbols ns) (named_keys (codes "enum") name) 1 (one_more (items_depth (items_of (map name_data ns))) 0 (symbols_flat ns)) (keys_flat (codes "enum") name 1))
    (omega arith)))
deep_levels (open_schema.Array e element map) = deep_level (open_schema.Array e.0 element map) _ (written_roll (open_schema.Array e.0 element map))
    (λ d b l left placing. object_deep (array_keys (written e.0 b).0 element map) d (3 * d)
    (map_deep map _ (3 * d) (id_deep (codes "element-id") element _ (3 * d)
    (put_deep (codes "items") (written e.0 b).0 (type_key (codes "array")) (3 * d) (e.1 d b l left placing) (type_flat (codes "array") (3 * d))))) (omega arith))
deep_levels (open_schema.Map e key value) = deep_level (open_schema.Map e.0 key value) _ (written_roll (open_schema.Map e.0 key value))
    (λ d b l left placing. object_deep (map_keys (written e.0 b).0 key value) d (3 * d)
    (id_deep (codes "value-id") value _ (3 * d) (id_deep (codes "key-id") key _ (3 * d)
    (put_deep (codes "values") (written e.0 b).0 (type_key (codes "map")) (3 * d) (e.1 d b l left placing) (type_flat (codes "map") (3 * d))))) (omega arith))
deep_levels (open_schema.Union es) =
    let branches : List Schema = map (λ (e : Proved Deep). e.0) es in
    deep_level (open_schema.Union branches) _ (written_roll (open_schema.Union branches)) (λ d b l left placing. array_deep (items_of (write_each (map written branches) b).0) d (each_deep written placed Deep d (3 * d) (λ x q c m r h. q d c m r h) es b l left placing))
deep_levels (open_schema.Fixed name size logical) = deep_level (open_schema.Fixed name size logical) _ (written_roll (open_schema.Fixed name size logical))
    (λ d b l left placing. named_deep name (fixed_written name size logical) b (3 * d + 3)
    (λ c. object_deep (fixed_keys name size logical) d 0 (logical_deep logical _ 0
    (flat (codes "size") (number (unsigned size)) (named_keys (codes "fixed") name) 0 refl (keys_flat (codes "fixed") name 0))) (omega arith)))

deep_fields : (y : open_schema.Field-F (Proved Deep) (ProvedField DeepField))
    → DeepField (roll-Field (map-Field (Proved Deep) (ProvedField DeepField) Schema Field (λ e. e.0) (λ e. e.0) y))
deep_fields y d b l left placing =
    let x : open_schema.Field-F Schema Field = map-Field (Proved Deep) (ProvedField DeepField) Schema Field (λ e. e.0) (λ e. e.0) y in
    let inner : depth (written y.schema.0 b).0 ≤ 3 * d = y.schema.1 d b l left (sym (ap (λ (p : Placing). p d l) (placed_field_roll x)) ∙ placing) in
    let ms : Members = field_keys y.name y.id (written y.schema.0 b).0 in
    let small : members_depth ms ≤ 3 * d = id_deep (codes "field-id") y.id _ (3 * d) (put_deep (codes "type") (written y.schema.0 b).0 (put (codes "name") (name_data y.name) no_members) (3 * d) inner (flat (codes "name") (name_data y.name) no_members (3 * d) refl (omega arith))) in
    subst (λ (v : Writing Data). depth (v b).0 ≤ 3 * d + 1) (sym (written_field_roll x)) (one_more (members_depth ms) (3 * d) small)

pub written_deep : (s : Schema) → Deep s
written_deep s = by_levels Deep DeepField deep_levels deep_fields s

-- ---- the text

pub json_read : (s : Schema) → has_text s ≡ true → json_of (schema_text s) ≡ Some (data_of s)
json_read s h =
    let parts = both_true (is_some (once s [])) (is_some (placed s 32 100000)) h in
    let o = some_of (once s []) parts.0 in
    let p = some_of (placed s 32 100000) parts.1 in
    let deep : depth (data_of s) ≤ 3 * 32 = written_deep s 32 [] 100000 p.0 p.1 in
    let shallow : depth (data_of s) ≤ max_depth = omega arith in
    read_text (data_of s) (written_good s [] o.0 o.1).1 shallow

pub schema_read : (s : Schema) → has_text s ≡ true → schema_from (schema_text s) ≡ Ok s
unfolding schema_from
schema_read s h = ap schema_in (json_read s h) ∙ data_read s h
