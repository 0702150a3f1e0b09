-- The JSON of a schema is read as the schema.
use Rattle.std.proofs.Common.{◌≡◌, ℕ, zero, suc, ◌-◌, ◌^◌, ltb, inl, inr, ℤ, pos, negsuc, Bool, true, false, not, ◌&&◌, ◌||◌, eqb, List, [], ◌∷◌, ◌++◌, length, map, take, Option, Some, None, Result, Ok, Err, codes, refl, sym, ap, ◌∙◌, arith}
use Rattle.std.specs.Prelude.{if◌then◌else◌, option_and_then, unwrap_or, is_some, nat_lt}
use Rattle.std.specs.List.{list_all}
use Rattle.std.specs.Str.{bytes_eq, is_utf8}
use Rattle.std.specs.Str.Lossy.{utf8_lossy}
use Rattle.std.proofs.lemmas.Slice.Eq.{bytes_eq-Decides}
use Rattle.std.proofs.lemmas.Bool.{cases_lt, lt-ltb, le-leb, lt-leb}
use Rattle.std.proofs.lemmas.Str.{IsUtf8-from_is_utf8, utf8_lossy-IsUtf8, utf8_lossy_empty}
use Rattle.serde_json.specs.Data.{Data, unsigned, number, string, array, object, Items, Members, no_members, put}
use Rattle.serde_json.specs.Find.{get, as_array, as_i64, of_integer}
use Rattle.serde_json.specs.View.{items_of}
use Rattle.plain_types.specs.Steps.{◌>>=◌}
use Rattle.avro_binary.specs.declared.schema_fault.SchemaFault.{SchemaFault}
use Rattle.avro_binary.specs.declared.schema_fault.SchemaFault.TheVariants.{Shape, Depth}
use Rattle.avro_binary.specs.declared.names.Names.{Names}
use Rattle.avro_binary.specs.declared.names.Named.{Named}
use Rattle.avro_binary.specs.declared.schema.Schema.{Schema, roll-Schema}
use Rattle.avro_binary.specs.declared.schema.Schema.TheFolds.{fold-roll-Schema, fold-roll-Field, map-Schema, map-Field}
use Rattle.avro_binary.specs.declared.schema.Schema.TheOpen as open_schema
use Rattle.avro_binary.specs.declared.schema.Schema.TheVariants as schema
use Rattle.avro_binary.specs.declared.schema.Field.{Field, roll-Field}
use Rattle.avro_binary.specs.declared.schema.Logical.{Logical}
use Rattle.avro_binary.specs.declared.schema.Logical.TheVariants.{Plain, Date, TimestampMicros, Decimal, Other}
use Rattle.avro_binary.specs.Word.{word_of}
use Rattle.avro_binary.specs.Naming.{space_of, last_dot, full_name, has_begun}
use Rattle.avro_binary.specs.Placed.{Placing, place_each, place_inner, place_level, place_field, placed, placed_field}
use Rattle.avro_binary.specs.SchemaText.{needed, node, text_at, narrow, id_at, decimal, logical_named, logical_of, is_map, type_name, defined_name, used, begin, finish, Nodes}
use Rattle.avro_binary.specs.SchemaText.{Reader, each, symbol, field, record_node, enum_node, fixed_node, array_node, map_node, union_node, typed, single, schema_at, schema_of}
use Rattle.avro_binary.specs.SchemaData.{Writing, name_data, type_key, with_id, with_logical, with_map, named_keys, primitive, symbols, write_each, named, record_written, enum_written, fixed_written, written_level, field_level, written, written_field, data_of}
use Rattle.avro_binary.specs.SchemaOnce.{is_logical, is_id, Begins, when, no_name, one_name, each_once, once_level, once_field_level, once, once_field, has_text}
use Rattle.avro_binary.proofs.Loops.{ne-eqb}
use Rattle.avro_binary.proofs.SchemaFloats.{Proved, ProvedField, by_levels, written_roll, written_field_roll}

abbrev pub names_of : List Named → List (List ℕ) → ℕ → Names
names_of f b l = record { finished = f; begun = b; left = l }

-- ---- texts

pub lossless : (name : List ℕ) → is_utf8 name ≡ true → utf8_lossy name ≡ name
lossless name h = utf8_lossy-IsUtf8 name (IsUtf8-from_is_utf8 name h)

full_by : (o : Option ℕ) (name : List ℕ) → last_dot name ≡ o → full_name (utf8_lossy (space_of name)) name ≡ name
unfolding full_name
full_by (Some at) name e = ap (λ (p : Option ℕ). if is_some p || eqb (length (utf8_lossy (space_of name))) 0 then name else (utf8_lossy (space_of name) ++ 46 ∷ name)) e
full_by None name e =
    let space : space_of name ≡ [] = ap (λ (p : Option ℕ). take (unwrap_or p 0) name) e in
    let none : utf8_lossy (space_of name) ≡ [] = utf8_lossy_empty (space_of name) (ap length space) ∙ refl in
    ap (λ (s : List ℕ). full_name s name) none ∙ ap (λ (p : Option ℕ). if is_some p || true then name else (46 ∷ name)) e

pub named_full : (name : List ℕ) → full_name (utf8_lossy (space_of name)) name ≡ name
named_full name = full_by (last_dot name) name refl

-- ---- logical types

type_of : (word : List ℕ) (logical : Logical) → text_at (codes "type") (primitive word logical) ≡ Some word
type_of word Plain = refl
type_of word Date = refl
type_of word (TimestampMicros utc) = refl
type_of word (Decimal precision scale) = refl
type_of word (Other name) = refl

pub both_true : (a b : Bool) → (a && b) ≡ true → (a ≡ true) × (b ≡ true)
both_true true b e = (refl, e)
both_true false b e = absurd cc

not_true : (a : Bool) → not a ≡ true → a ≡ false
not_true true e = absurd cc
not_true false e = refl

decimal_is : (precision scale : ℕ) → is_logical (Decimal precision scale) ≡ true → decimal (Some precision) (Some scale) ≡ Decimal precision scale
unfolding decimal
decimal_is precision scale h = ap (λ (b : Bool). if b then Decimal precision scale else Other (codes "decimal")) h

-- the text of a logical type under another name, where it is one of a decimal with no digits told or not
bare_decimal : (b : Bool) (name : List ℕ) → bytes_eq name (codes "decimal") ≡ b → (if b then Other (codes "decimal") else Other name) ≡ Other name
bare_decimal true name e = ap (λ (t : List ℕ). Other t) (sym ((bytes_eq-Decides name (codes "decimal")).0 e))
bare_decimal false name e = refl

other_is : (name : List ℕ) (d : Data) → get (codes "precision") d ≡ None → bytes_eq name (codes "date") ≡ false
    → bytes_eq name (codes "timestamp-micros") ≡ false → logical_named name d ≡ Other name
unfolding logical_named decimal
other_is name d none date micros = rw (date, micros, none) (bare_decimal (bytes_eq name (codes "decimal")) name refl)

with_text : (word name : List ℕ) → logical_of (object (put (codes "logicalType") (string name)
    (type_key word))) ≡ logical_named name (object (put (codes "logicalType") (string name) (type_key word)))
unfolding logical_of
with_text word name = refl

pub logical_is : (word : List ℕ) (logical : Logical) → is_logical logical ≡ true → logical_of (primitive word logical) ≡ logical
unfolding logical_of logical_named
logical_is word Plain h = refl
logical_is word Date h = refl
logical_is word (TimestampMicros utc) h = refl
logical_is word (Decimal precision scale) h = decimal_is precision scale h
logical_is word (Other name) h =
    let a = both_true (is_utf8 name) (not (bytes_eq name (codes "date")) && not (bytes_eq name (codes "timestamp-micros"))) h in
    let b = both_true (not (bytes_eq name (codes "date"))) (not (bytes_eq name (codes "timestamp-micros"))) a.1 in
    ap (λ (t : List ℕ). logical_of (object (put (codes "logicalType") (string t) (type_key word)))) (lossless name a.0)
    ∙ with_text word name
    ∙ other_is name (object (put (codes "logicalType") (string name) (type_key word))) refl (not_true (bytes_eq name (codes "date")) b.0) (not_true (bytes_eq name (codes "timestamp-micros")) b.1)

-- the same beside the keys of a fixed
fixed_data : List ℕ → List ℕ → ℕ → Logical → Data
fixed_data space name size logical = object (with_logical logical (put (codes "size") (number (unsigned size)) (put (codes "namespace") (string space) (put (codes "name") (string name) (type_key (codes "fixed"))))))

fixed_logical_is : (space name : List ℕ) (size : ℕ) (logical : Logical) → is_logical logical ≡ true → logical_of (fixed_data space name size logical) ≡ logical
unfolding logical_of logical_named fixed_data
fixed_logical_is space name size Plain h = refl
fixed_logical_is space name size Date h = refl
fixed_logical_is space name size (TimestampMicros utc) h = refl
fixed_logical_is space name size (Decimal precision scale) h = decimal_is precision scale h
fixed_logical_is space name size (Other other) h =
    let a = both_true (is_utf8 other) (not (bytes_eq other (codes "date")) && not (bytes_eq other (codes "timestamp-micros"))) h in
    let b = both_true (not (bytes_eq other (codes "date"))) (not (bytes_eq other (codes "timestamp-micros"))) a.1 in
    let of_text : List ℕ → Data = λ t. object (put (codes "logicalType") (string t) (put (codes "size") (number (unsigned size)) (put (codes "namespace") (string space) (put (codes "name") (string name) (type_key (codes "fixed")))))) in
    ap (λ (t : List ℕ). logical_of (of_text t)) (lossless other a.0)
    ∙ other_is other (of_text other) refl (not_true (bytes_eq other (codes "date")) b.0) (not_true (bytes_eq other (codes "timestamp-micros")) b.1)

-- ---- ids

pub none_no_some : false ≡ true → ⊥
none_no_some e = cc

narrow_is : (z : ℤ) → is_some (narrow z) ≡ true → option_and_then narrow (as_i64 (of_integer z)) ≡ Some z
narrow_is (pos n) h = elim (cases_lt (2 ^ 31 - 1) n) [
  | inl lt ↦ absurd (none_no_some (sym (ap (λ (b : Bool). is_some (if b then (let o : Option ℤ = Some (pos n) in o) else None)) (lt-leb n (2 ^ 31 - 1) lt)) ∙ h))
  | inr le ↦ (let small : ltb n (2 ^ 63) ≡ true = lt-ltb n (2 ^ 63) (omega arith) in
      ap (λ (b : Bool). option_and_then narrow (if b then Some (pos n) else None)) small ∙ ap (λ (b : Bool). if b then Some (pos n) else None) (le-leb n (2 ^ 31 - 1) le))
]
narrow_is (negsuc n) h = elim (cases_lt (2 ^ 31 - 1) n) [
  | inl lt ↦ absurd (none_no_some (sym (ap (λ (b : Bool). is_some (if b then (let o : Option ℤ = Some (negsuc n) in o) else None)) (lt-leb n (2 ^ 31 - 1) lt)) ∙ h))
  | inr le ↦ ap (λ (b : Bool). if b then Some (negsuc n) else None) (le-leb n (2 ^ 31 - 1) le)
]

-- an id where it is told, as it is read
id_read : (o : Option ℤ) → is_id o ≡ true → option_and_then narrow (option_and_then as_i64 (option_and_then (λ z. Some (of_integer z)) o)) ≡ o
id_read None h = refl
id_read (Some z) h = narrow_is z h

-- ---- reading what was written

-- a value of this writing is read, and leaves the names that it began and the nodes that it left
abbrev ReadsAs : {A : Type 0} → (Data → Names → Result (A × Names) SchemaFault) → Writing Data → A → Begins → (ℕ → Option ℕ) → Type 0
ReadsAs read w value begins place = (f : List Named) (b after : List (List ℕ)) (l left : ℕ) → begins b ≡ Some after → place l ≡ Some left
    → (finished : List Named) × ((w b).1 ≡ after) × (read (w b).0 (names_of f b l) ≡ Ok (value, names_of finished after left))

abbrev Reads : Schema → Type 0
Reads s = (depth : ℕ) (space : List ℕ) → ReadsAs (schema_at depth space) (written s) s (once s) (placed s depth)

abbrev ReadsField : Field → Type 0
ReadsField f = (depth : ℕ) (space : List ℕ) → ReadsAs (field (schema_at depth) space) (written_field f) f (once_field f) (placed_field f depth)

abbrev pub got : {A : Type 0} → A → Names → Result (A × Names) SchemaFault
got x names = Ok (x, names)

pub same_some : {A : Type 0} (x y : A) → Some x ≡ Some y → x ≡ y
same_some x y e = cc

pub none_some : {A P : Type 0} (y : A) → None ≡ Some y → P
none_some y e = absurd cc

pub and_then : {A B : Type 0} (g : A → Option B) (o : Option A) (y : B) → option_and_then g o ≡ Some y → (x : A) × (o ≡ Some x) × (g x ≡ Some y)
and_then g None y e = none_some y e
and_then g (Some x) y e = (x, refl, e)

pub when_true : (c : Bool) (g : Begins) (b after : List (List ℕ)) → when c g b ≡ Some after → (c ≡ true) × (g b ≡ Some after)
when_true true g b after e = (refl, e)
when_true false g b after e = none_some after e

pub placed_roll : (x : open_schema.Schema-F Schema Field) → placed (roll-Schema x) ≡ place_level (map-Schema Schema Field Placing Placing placed placed_field x)
placed_roll x = fold-roll-Schema Placing Placing place_level place_field x

pub placed_field_roll : (x : open_schema.Field-F Schema Field)
    → placed_field (roll-Field x) ≡ place_field (map-Field Schema Field Placing Placing placed placed_field x)
placed_field_roll x = fold-roll-Field Placing Placing place_level place_field x

pub once_roll : (x : open_schema.Schema-F Schema Field) → once (roll-Schema x) ≡ once_level (map-Schema Schema Field Begins Begins once once_field x)
once_roll x = fold-roll-Schema Begins Begins once_level once_field_level x

pub once_field_roll : (x : open_schema.Field-F Schema Field)
    → once_field (roll-Field x) ≡ once_field_level (map-Field Schema Field Begins Begins once once_field x)
once_field_roll x = fold-roll-Field Begins Begins once_level once_field_level x

-- ---- one after the other

each_reads : {X : Type 0} (step : Data → Names → Result (X × Names) SchemaFault) (write : X → Writing Data) (begins : X → Begins)
    (place : X → Placing) (depth : ℕ) (Q : X → Type 0)
    → ((x : X) → Q x → ReadsAs step (write x) x (begins x) (place x depth))
    → (es : List ((x : X) × Q x)) (f : List Named) (b after : List (List ℕ)) (l left : ℕ) → each_once (map begins (map (λ e. e.0) es)) b ≡ Some after → place_each (map place (map (λ e. e.0) es)) depth l ≡ Some left
    → (finished : List Named) × ((write_each (map write (map (λ e. e.0) es)) b).1 ≡ after) × (each step (items_of (write_each (map write (map (λ e. e.0) es)) b).0) (names_of f b l) ≡ Ok (map (λ e. e.0) es, names_of finished after left))
unfolding each place_each
each_reads step write begins place depth Q law [] f b after l left begun placing = (f, same_some b after begun, ap (λ (n : List (List ℕ)). got [] (names_of f n l)) (same_some b after begun) ∙ ap (λ (n : ℕ). got [] (names_of f after n)) (same_some l left placing))
each_reads {X = X} step write begins place depth Q law (e ∷ es) f b after l left begun placing =
    let xs : List X = map (λ (e : (x : X) × Q x). e.0) es in
    let o = and_then (each_once (map begins xs)) (begins e.0 b) after begun in
    let p = and_then (place_each (map place xs) depth) (place e.0 depth l) left placing in
    let first = law e.0 e.1 f b o.0 l p.0 o.1 p.1 in
    let others = each_reads step write begins place depth Q law es first.0 o.0 after p.0 left o.2 p.2 in
    let more : List (List ℕ) → X × Names → Result (List X × Names) SchemaFault = λ n x. each step (items_of (write_each (map write xs) n).0) x.1 >>= λ ys. Ok (x.0 ∷ ys.0, ys.1) in (
      others.0,
      ap (λ (n : List (List ℕ)). (write_each (map write xs) n).1) first.1 ∙ others.1,
      ap (λ r. r >>= more (write e.0 b).1) first.2 ∙ ap (λ (n : List (List ℕ)). more n (e.0, names_of first.0 o.0 p.0)) first.1 ∙ ap (λ r. r >>= λ ys. Ok (e.0 ∷ ys.0, ys.1)) others.2,
    )

-- ---- a node

-- how a node of so many nodes that are left is placed
place_of : (x : open_schema.Schema-F Schema Field) (depth l left : ℕ) → placed (roll-Schema x) depth l ≡ Some left → (d : ℕ)
    × (m : ℕ) × (depth ≡ suc d) × (l ≡ suc m) × (placed (roll-Schema x) (suc d) (suc m) ≡ Some left)
place_of x zero l left e = none_some left (sym (ap (λ (p : Placing). p zero l) (placed_roll x)) ∙ e)
place_of x (suc d) zero left e = none_some left (sym (ap (λ (p : Placing). p (suc d) zero) (placed_roll x)) ∙ e)
place_of x (suc d) (suc m) left e = (d, m, refl, refl, e)

abbrev pub level_of : open_schema.Schema-F Schema Field → Writing Data
level_of x = written_level (map-Schema Schema Field (Writing Data) (Writing Data) written written_field x)

abbrev begins_of : open_schema.Schema-F Schema Field → Begins
begins_of x = once_level (map-Schema Schema Field Begins Begins once once_field x)

abbrev pub inner_of : open_schema.Schema-F Schema Field → Placing
inner_of x = place_inner (map-Schema Schema Field Placing Placing placed placed_field x)

-- what is to be shown of one level: read one deeper, with one node more
abbrev AtLevel : open_schema.Schema-F Schema Field → Type 0
AtLevel x = (depth : ℕ) (space : List ℕ) (f : List Named) (b after : List (List ℕ)) (l left : ℕ) → begins_of x b ≡ Some after → inner_of x depth l ≡ Some left
    → (finished : List Named) × ((level_of x b).1 ≡ after) × (node (schema_at depth) (suc depth) space (as_array (level_of x b).0) (level_of x b).0 (names_of f b (suc l)) ≡ Ok (roll-Schema x, names_of finished after left))

zero_suc : (n : ℕ) → suc n ≡ 0 → ⊥
zero_suc n e = omega arith

pub one_deeper : (depth : ℕ) (space : List ℕ) (d : Data) (f : List Named) (b : List (List ℕ)) (l : ℕ)
    → schema_at (suc depth) space d (names_of f b (suc l)) ≡ node (schema_at depth)
    (suc depth) space (as_array d) d (names_of f b (suc l))
unfolding schema_at
one_deeper depth space d f b l =
    let some : eqb (suc l) 0 ≡ false = ne-eqb (suc l) 0 (λ e. zero_suc l e) in
    ap (λ (c : Bool). if c then Err Depth else node (schema_at depth) (suc depth) space (as_array d) d (names_of f b (suc l))) some

at_level : (x : open_schema.Schema-F Schema Field) → AtLevel x → Reads (roll-Schema x)
at_level x law zero space f b after l left begun placing = none_some left (sym (ap (λ (p : Placing). p zero l) (placed_roll x)) ∙ placing)
at_level x law (suc depth) space f b after zero left begun placing = none_some left (sym (ap (λ (p : Placing). p (suc depth) zero) (placed_roll x)) ∙ placing)
at_level x law (suc depth) space f b after (suc l) left begun placing =
    let is : written (roll-Schema x) ≡ level_of x = written_roll x in
    let r = law depth space f b after l left (sym (ap (λ (o : Begins). o b) (once_roll x)) ∙ begun) (sym (ap (λ (p : Placing). p (suc depth) (suc l)) (placed_roll x)) ∙ placing) in (
      r.0,
      ap (λ (w : Writing Data). (w b).1) is ∙ r.1,
      ap (λ (w : Writing Data). schema_at (suc depth) space (w b).0 (names_of f b (suc l))) is ∙ one_deeper depth space (level_of x b).0 f b l ∙ r.2,
    )

-- what a node is read as, one deeper
abbrev pub NodeReads : ℕ → List ℕ → Data → Names → Schema → Names → Type 0
NodeReads depth space d before s after = node (schema_at depth) (suc depth) space (as_array d) d before ≡ Ok (s, after)

pub used_is : (f : List Named) (b : List (List ℕ)) (l : ℕ) → used (names_of f b (suc l)) ≡ names_of f b l
used_is f b l = let less : suc l - 1 ≡ l = omega arith in ap (λ (n : ℕ). names_of f b n) less

-- a node with nothing inside
leaf : (s t : Schema) (f : List Named) (b : List (List ℕ)) (l : ℕ) → s ≡ t → got s (used (names_of f b (suc l))) ≡ Ok (t, names_of f b l)
leaf s t f b l same = ap (λ (n : Names). got s n) (used_is f b l) ∙ ap (λ (x : Schema). got x (names_of f b l)) same

same_names : (s : Schema) (f : List Named) (b after : List (List ℕ)) (l left : ℕ) → b ≡ after → l ≡ left
    → got s (names_of f b l) ≡ got s (names_of f after left)
same_names s f b after l left begun placing = ap (λ (n : List (List ℕ)). got s (names_of f n l)) begun ∙ ap (λ (n : ℕ). got s (names_of f after n)) placing

pub null_read : (depth : ℕ) (space : List ℕ) (f : List Named) (b : List (List ℕ)) (l : ℕ)
    → NodeReads depth space (string (codes "null")) (names_of f b (suc l)) (roll-Schema open_schema.Null) (names_of f b l)
unfolding single typed type_name
null_read depth space f b l = leaf schema.Null (roll-Schema open_schema.Null) f b l (sym schema.rolls-Null)

null_level : AtLevel open_schema.Null
null_level depth space f b after l left begun placing = (f, same_some b after begun, null_read depth space f b l ∙ same_names (roll-Schema open_schema.Null) f b after l left (same_some b after begun) (same_some l left placing))

pub boolean_read : (depth : ℕ) (space : List ℕ) (f : List Named) (b : List (List ℕ)) (l : ℕ)
    → NodeReads depth space (string (codes "boolean")) (names_of f b (suc l)) (roll-Schema open_schema.Boolean) (names_of f b l)
unfolding single typed type_name
boolean_read depth space f b l = leaf schema.Boolean (roll-Schema open_schema.Boolean) f b l (sym schema.rolls-Boolean)

boolean_level : AtLevel open_schema.Boolean
boolean_level depth space f b after l left begun placing = (f, same_some b after begun, boolean_read depth space f b l ∙ same_names (roll-Schema open_schema.Boolean) f b after l left (same_some b after begun) (same_some l left placing))

pub text_read : (depth : ℕ) (space : List ℕ) (f : List Named) (b : List (List ℕ)) (l : ℕ)
    → NodeReads depth space (string (codes "string")) (names_of f b (suc l)) (roll-Schema open_schema.Text) (names_of f b l)
unfolding single typed type_name
text_read depth space f b l = leaf schema.Text (roll-Schema open_schema.Text) f b l (sym schema.rolls-Text)

text_level : AtLevel open_schema.Text
text_level depth space f b after l left begun placing = (f, same_some b after begun, text_read depth space f b l ∙ same_names (roll-Schema open_schema.Text) f b after l left (same_some b after begun) (same_some l left placing))

pub single_of : (reader : Reader) (depth : ℕ) (space : List ℕ) (d : Data) (names : Names) (name : List ℕ)
    → type_name d ≡ Some name → single reader depth space d names ≡ typed reader depth space (word_of name) name d names
unfolding single
single_of reader depth space d names name e = ap (λ (o : Option (List ℕ)). needed o >>= λ n. typed reader depth space (word_of n) n d names) e

primitive_type : (word : List ℕ) (logical : Logical) → type_name (primitive word logical) ≡ Some word
unfolding type_name
primitive_type word logical = type_of word logical

pub int_read : (logical : Logical) → is_logical logical ≡ true → (depth : ℕ) (space : List ℕ) (f : List Named) (b : List (List ℕ)) (l : ℕ)
    → NodeReads depth space (primitive (codes "int") logical) (names_of f b (suc l)) (roll-Schema (open_schema.Int logical)) (names_of f b l)
unfolding typed
int_read logical h depth space f b l =
    single_of (schema_at depth) (suc depth) space (primitive (codes "int") logical) (names_of f b (suc l)) (codes "int") (primitive_type (codes "int") logical)
    ∙ leaf (schema.Int (logical_of (primitive (codes "int") logical))) (roll-Schema (open_schema.Int logical)) f b l (ap (λ (g : Logical). schema.Int g) (logical_is (codes "int") logical h) ∙ sym (schema.rolls-Int logical))

int_level : (logical : Logical) → AtLevel (open_schema.Int logical)
int_level logical depth space f b after l left begun placing =
    let o = when_true (is_logical logical) no_name b after begun in
    (f, same_some b after o.1, int_read logical o.0 depth space f b l ∙ same_names (roll-Schema (open_schema.Int logical)) f b after l left (same_some b after o.1) (same_some l left placing))

pub long_read : (logical : Logical) → is_logical logical ≡ true → (depth : ℕ) (space : List ℕ) (f : List Named) (b : List (List ℕ)) (l : ℕ)
    → NodeReads depth space (primitive (codes "long") logical) (names_of f b (suc l)) (roll-Schema (open_schema.Long logical)) (names_of f b l)
unfolding typed
long_read logical h depth space f b l =
    single_of (schema_at depth) (suc depth) space (primitive (codes "long") logical) (names_of f b (suc l)) (codes "long") (primitive_type (codes "long") logical)
    ∙ leaf (schema.Long (logical_of (primitive (codes "long") logical))) (roll-Schema (open_schema.Long logical)) f b l (ap (λ (g : Logical). schema.Long g) (logical_is (codes "long") logical h) ∙ sym (schema.rolls-Long logical))

long_level : (logical : Logical) → AtLevel (open_schema.Long logical)
long_level logical depth space f b after l left begun placing =
    let o = when_true (is_logical logical) no_name b after begun in
    (f, same_some b after o.1, long_read logical o.0 depth space f b l ∙ same_names (roll-Schema (open_schema.Long logical)) f b after l left (same_some b after o.1) (same_some l left placing))

pub bytes_read : (logical : Logical) → is_logical logical ≡ true → (depth : ℕ) (space : List ℕ) (f : List Named) (b : List (List ℕ)) (l : ℕ)
    → NodeReads depth space (primitive (codes "bytes") logical) (names_of f b (suc l)) (roll-Schema (open_schema.Bytes logical)) (names_of f b l)
unfolding typed
bytes_read logical h depth space f b l =
    single_of (schema_at depth) (suc depth) space (primitive (codes "bytes") logical) (names_of f b (suc l)) (codes "bytes") (primitive_type (codes "bytes") logical)
    ∙ leaf (schema.Bytes (logical_of (primitive (codes "bytes") logical))) (roll-Schema (open_schema.Bytes logical)) f b l (ap (λ (g : Logical). schema.Bytes g) (logical_is (codes "bytes") logical h) ∙ sym (schema.rolls-Bytes logical))

bytes_level : (logical : Logical) → AtLevel (open_schema.Bytes logical)
bytes_level logical depth space f b after l left begun placing =
    let o = when_true (is_logical logical) no_name b after begun in
    (f, same_some b after o.1, bytes_read logical o.0 depth space f b l ∙ same_names (roll-Schema (open_schema.Bytes logical)) f b after l left (same_some b after o.1) (same_some l left placing))

-- ---- named types

pub one_name_is : (b : Bool) (name : List ℕ) (begun after : List (List ℕ)) → has_begun name begun ≡ b
    → one_name name begun ≡ Some after → (has_begun name begun ≡ false) × (begun ++ name ∷ [] ≡ after)
one_name_is true name begun after e h = none_some after (sym (ap (λ (c : Bool). if c then None else Some (begun ++ name ∷ [])) e) ∙ h)
one_name_is false name begun after e h = (e, same_some (begun ++ name ∷ []) after (sym (ap (λ (c : Bool). if c then None else Some (begun ++ name ∷ [])) e) ∙ h))

-- a named type that didn't stand before is written out
pub named_out : (name : List ℕ) (w : Writing Data) (b : List (List ℕ)) → has_begun name b ≡ false → named name w b ≡ w (b ++ name ∷ [])
unfolding named
named_out name w b e = ap (λ (c : Bool). if c then (let p : Data × List (List ℕ) = (name_data name, b) in p) else w (b ++ name ∷ [])) e

begin_of : (name : List ℕ) (f : List Named) (b : List (List ℕ)) (l : ℕ) → has_begun name b ≡ false
    → begin name (used (names_of f b (suc l))) ≡ Ok (names_of f (b ++ name ∷ []) l)
unfolding begin
begin_of name f b l e =
    let less : suc l - 1 ≡ l = omega arith in
    ap (λ (c : Bool). if c then Err Shape else Ok (names_of f (b ++ name ∷ []) (suc l - 1))) e ∙ ap (λ (n : ℕ). let r : Result Names SchemaFault = Ok (names_of f (b ++ name ∷ []) n) in r) less

-- the keys of a named type, of texts
abbrev keys : List ℕ → List ℕ → List ℕ → Members
keys word space name = put (codes "namespace") (string space) (put (codes "name") (string name) (type_key word))

-- what a record becomes, once its full name is known
recorded : Reader → Items → List ℕ → Names → Nodes
recorded reader fields full names = begin full names >>= λ begun. each (field reader (space_of full)) fields begun >>= λ inner. Ok (finish full (schema.Record full inner.0) inner.1)

record_is : (reader : Reader) (around space name : List ℕ) (fields : Items) (names : Names)
    → record_node reader around (object (put (codes "fields") (array fields)
    (keys (codes "record") space name))) names ≡ recorded reader fields (full_name space name) (used names)
unfolding record_node defined_name recorded
record_is reader around space name fields names = refl

record_type : (space name : List ℕ) (fields : Items) → type_name (object (put (codes "fields") (array fields)
    (keys (codes "record") space name))) ≡ Some (codes "record")
unfolding type_name
record_type space name fields = refl

-- the JSON of a record whose fields are of these
abbrev pub record_data : List ℕ → Items → Data
record_data name items = object (put (codes "fields") (array items) (named_keys (codes "record") name))

abbrev pub finishing : List ℕ → Schema → List Named → List Named
finishing name s f = f ++ record { name = name; schema = s } ∷ []

pub record_read : (name : List ℕ) (fields : List Field) (items : Items) (depth : ℕ) (space : List ℕ) (f finished : List Named)
    (b after : List (List ℕ)) (l left : ℕ) → is_utf8 name ≡ true → has_begun name b ≡ false
    → each (field (schema_at depth) (space_of name)) items (names_of f (b ++ name ∷ []) l) ≡ Ok (fields, names_of finished after left)
    → NodeReads depth space (record_data name items) (names_of f b (suc l)) (roll-Schema (open_schema.Record name fields)) (names_of (finishing name (schema.Record name fields) finished) after left)
unfolding typed recorded
record_read name fields items depth space f finished b after l left text new inner =
    let before : Names = names_of f b (suc l) in
    let d : List ℕ → List ℕ → Data = λ s n. object (put (codes "fields") (array items) (keys (codes "record") s n)) in
    let goal : Data → Nodes = λ x. node (schema_at depth) (suc depth) space (as_array x) x before in
    let s : List ℕ = utf8_lossy (space_of name) in
    let all : List Named = finishing name (schema.Record name fields) finished in
    let e1 : goal (d s (utf8_lossy name)) ≡ goal (d s name) = ap (λ (n : List ℕ). goal (d s n)) (lossless name text) in
    let e2 : goal (d s name) ≡ record_node (schema_at depth) space (d s name) before = single_of (schema_at depth) (suc depth) space (d s name) before (codes "record") (record_type s name items) in
    let e3 : record_node (schema_at depth) space (d s name) before ≡ recorded (schema_at depth) items name (used before) = record_is (schema_at depth) space s name items before ∙ ap (λ (n : List ℕ). recorded (schema_at depth) items n (used before)) (named_full name) in
    let e4 : recorded (schema_at depth) items name (used before) ≡ Ok (finish name (schema.Record name fields) (names_of finished after left)) =
    ap (λ r. r >>= λ begun. each (field (schema_at depth) (space_of name)) items begun >>= λ x. Ok (finish name (schema.Record name x.0) x.1)) (begin_of name f b l new)
    ∙ ap (λ r. r >>= λ x. Ok (finish name (schema.Record name x.0) x.1)) inner in
    e1 ∙ e2 ∙ e3 ∙ e4 ∙ ap (λ (x : Schema). got x (names_of all after left)) (sym (schema.rolls-Record name fields))

record_level : (name : List ℕ) (es : List (ProvedField ReadsField)) → AtLevel (open_schema.Record name (map (λ e. e.0) es))
record_level name es depth space f b after l left begun placing =
    let fields : List Field = map (λ (e : ProvedField ReadsField). e.0) es in
    let o = when_true (is_utf8 name) (λ n. option_and_then (each_once (map once_field fields)) (one_name name n)) b after begun in
    let p = and_then (each_once (map once_field fields)) (one_name name b) after o.1 in
    let new = one_name_is (has_begun name b) name b p.0 refl p.1 in
    let inner = each_reads (field (schema_at depth) (space_of name)) written_field once_field placed_field depth ReadsField (λ x q. q depth (space_of name)) es f (b ++ name ∷ []) after l left (ap (each_once (map once_field fields)) new.1 ∙ p.2) placing in
    let w : Writing Data = record_written name (map written_field fields) in
    let out : named name w b ≡ w (b ++ name ∷ []) = named_out name w b new.0 in
    let items : Items = items_of (write_each (map written_field fields) (b ++ name ∷ [])).0 in (
      finishing name (schema.Record name fields) inner.0,
      ap (λ (x : Data × List (List ℕ)). x.1) out ∙ inner.1,
      ap (λ (x : Data × List (List ℕ)). node (schema_at depth) (suc depth) space (as_array x.0) x.0 (names_of f b (suc l))) out ∙ record_read name fields items depth space f inner.0 b after l left o.0 new.0 inner.2,
    )

-- ---- enums and fixed

symbols_read : (ns : List (List ℕ)) (names : Names) → list_all is_utf8 ns ≡ true → each symbol (items_of (map name_data ns)) names ≡ Ok (ns, names)
unfolding each symbol
symbols_read [] names h = refl
symbols_read (n ∷ ns) names h =
    let a = both_true (is_utf8 n) (list_all is_utf8 ns) h in
    ap (λ (t : List ℕ). symbol (string t) names >>= λ first. each symbol (items_of (map name_data ns)) first.1 >>= λ others. Ok (first.0 ∷ others.0, others.1)) (lossless n a.0)
    ∙ ap (λ r. r >>= λ others. Ok (n ∷ others.0, others.1)) (symbols_read ns names a.1)

listed : Items → List ℕ → Names → Nodes
listed items full names = begin full names >>= λ begun. each symbol items begun >>= λ inner. Ok (finish full (schema.Enum full inner.0) inner.1)

enum_is : (around space name : List ℕ) (items : Items) (names : Names)
    → enum_node around (object (put (codes "symbols") (array items)
    (keys (codes "enum") space name))) names ≡ listed items (full_name space name) (used names)
unfolding enum_node defined_name listed
enum_is around space name items names = refl

enum_type : (space name : List ℕ) (items : Items) → type_name (object (put (codes "symbols") (array items)
    (keys (codes "enum") space name))) ≡ Some (codes "enum")
unfolding type_name
enum_type space name items = refl

abbrev pub enum_data : List ℕ → List (List ℕ) → Data
enum_data name ns = object (put (codes "symbols") (symbols ns) (named_keys (codes "enum") name))

pub enum_read : (name : List ℕ) (ns : List (List ℕ)) (depth : ℕ) (space : List ℕ) (f : List Named) (b : List (List ℕ)) (l : ℕ)
    → is_utf8 name ≡ true → list_all is_utf8 ns ≡ true → has_begun name b ≡ false
    → NodeReads depth space (enum_data name ns) (names_of f b (suc l)) (roll-Schema (open_schema.Enum name ns)) (names_of (finishing name (schema.Enum name ns) f) (b ++ name ∷ []) l)
unfolding typed listed
enum_read name ns depth space f b l text texts new =
    let before : Names = names_of f b (suc l) in
    let items : Items = items_of (map name_data ns) in
    let d : List ℕ → List ℕ → Data = λ s n. object (put (codes "symbols") (array items) (keys (codes "enum") s n)) in
    let goal : Data → Nodes = λ x. node (schema_at depth) (suc depth) space (as_array x) x before in
    let s : List ℕ = utf8_lossy (space_of name) in
    let all : List Named = finishing name (schema.Enum name ns) f in
    let e1 : goal (d s (utf8_lossy name)) ≡ goal (d s name) = ap (λ (n : List ℕ). goal (d s n)) (lossless name text) in
    let e2 : goal (d s name) ≡ enum_node space (d s name) before = single_of (schema_at depth) (suc depth) space (d s name) before (codes "enum") (enum_type s name items) in
    let e3 : enum_node space (d s name) before ≡ listed items name (used before) = enum_is space s name items before ∙ ap (λ (n : List ℕ). listed items n (used before)) (named_full name) in
    let e4 : listed items name (used before) ≡ Ok (finish name (schema.Enum name ns) (names_of f (b ++ name ∷ []) l)) =
    ap (λ r. r >>= λ begun. each symbol items begun >>= λ x. Ok (finish name (schema.Enum name x.0) x.1)) (begin_of name f b l new)
    ∙ ap (λ r. r >>= λ x. Ok (finish name (schema.Enum name x.0) x.1)) (symbols_read ns (names_of f (b ++ name ∷ []) l) texts) in
    e1 ∙ e2 ∙ e3 ∙ e4 ∙ ap (λ (x : Schema). got x (names_of all (b ++ name ∷ []) l)) (sym (schema.rolls-Enum name ns))

enum_level : (name : List ℕ) (ns : List (List ℕ)) → AtLevel (open_schema.Enum name ns)
enum_level name ns depth space f b after l left begun placing =
    let o = when_true (is_utf8 name && list_all is_utf8 ns) (one_name name) b after begun in
    let u = both_true (is_utf8 name) (list_all is_utf8 ns) o.0 in
    let new = one_name_is (has_begun name b) name b after refl o.1 in
    let out = named_out name (enum_written name ns) b new.0 in
    let all : List Named = finishing name (schema.Enum name ns) f in (
      all,
      ap (λ (x : Data × List (List ℕ)). x.1) out ∙ new.1,
      ap (λ (x : Data × List (List ℕ)). node (schema_at depth) (suc depth) space (as_array x.0) x.0 (names_of f b (suc l))) out ∙ enum_read name ns depth space f b l u.0 u.1 new.0
          ∙ same_names (roll-Schema (open_schema.Enum name ns)) all (b ++ name ∷ []) after l left new.1 (same_some l left placing),
    )

fixed_done : ℕ → Logical → List ℕ → Names → Nodes
fixed_done size logical full names = begin full names >>= λ begun. Ok (finish full (schema.Fixed full size logical) begun)

fixed_is : (around space name : List ℕ) (size : ℕ) (logical : Logical) (names : Names)
    → fixed_node around (fixed_data space name size logical) names ≡ fixed_done size (logical_of (fixed_data space name size logical))
    (full_name space name) (used names)
unfolding fixed_node defined_name fixed_done fixed_data
fixed_is around space name size Plain names = refl
fixed_is around space name size Date names = refl
fixed_is around space name size (TimestampMicros utc) names = refl
fixed_is around space name size (Decimal precision scale) names = refl
fixed_is around space name size (Other other) names = refl

fixed_type : (space name : List ℕ) (size : ℕ) (logical : Logical) → type_name (fixed_data space name size logical) ≡ Some (codes "fixed")
unfolding type_name fixed_data
fixed_type space name size Plain = refl
fixed_type space name size Date = refl
fixed_type space name size (TimestampMicros utc) = refl
fixed_type space name size (Decimal precision scale) = refl
fixed_type space name size (Other other) = refl

abbrev pub fixed_text : List ℕ → ℕ → Logical → Data
fixed_text name size logical = object (with_logical logical (put (codes "size") (number (unsigned size)) (named_keys (codes "fixed") name)))

pub fixed_read : (name : List ℕ) (size : ℕ) (logical : Logical) (depth : ℕ) (space : List ℕ) (f : List Named) (b : List (List ℕ))
    (l : ℕ) → is_utf8 name ≡ true → is_logical logical ≡ true → has_begun name b ≡ false
    → NodeReads depth space (fixed_text name size logical) (names_of f b (suc l)) (roll-Schema (open_schema.Fixed name size logical)) (names_of (finishing name (schema.Fixed name size logical) f) (b ++ name ∷ []) l)
unfolding typed fixed_done fixed_data
fixed_read name size logical depth space f b l text type new =
    let before : Names = names_of f b (suc l) in
    let goal : Data → Nodes = λ x. node (schema_at depth) (suc depth) space (as_array x) x before in
    let s : List ℕ = utf8_lossy (space_of name) in
    let d : List ℕ → Data = λ n. fixed_data s n size logical in
    let all : List Named = finishing name (schema.Fixed name size logical) f in
    let e1 : goal (d (utf8_lossy name)) ≡ goal (d name) = ap (λ (n : List ℕ). goal (d n)) (lossless name text) in
    let e2 : goal (d name) ≡ fixed_node space (d name) before = single_of (schema_at depth) (suc depth) space (d name) before (codes "fixed") (fixed_type s name size logical) in
    let e3 : fixed_node space (d name) before ≡ fixed_done size logical name (used before) =
    fixed_is space s name size logical before ∙ ap (λ (n : List ℕ). fixed_done size (logical_of (d name)) n (used before)) (named_full name) ∙ ap (λ (h : Logical). fixed_done size h name (used before)) (fixed_logical_is s name size logical type) in
    let e4 : fixed_done size logical name (used before) ≡ Ok (finish name (schema.Fixed name size logical) (names_of f (b ++ name ∷ []) l)) =
    ap (λ r. r >>= λ begun. Ok (finish name (schema.Fixed name size logical) begun)) (begin_of name f b l new) in
    e1 ∙ e2 ∙ e3 ∙ e4 ∙ ap (λ (x : Schema). got x (names_of all (b ++ name ∷ []) l)) (sym (schema.rolls-Fixed name size logical))

fixed_level : (name : List ℕ) (size : ℕ) (logical : Logical) → AtLevel (open_schema.Fixed name size logical)
fixed_level name size logical depth space f b after l left begun placing =
    let o = when_true (is_utf8 name && (is_logical logical && nat_lt size (2 ^ 64))) (one_name name) b after begun in
    let u = both_true (is_utf8 name) (is_logical logical && nat_lt size (2 ^ 64)) o.0 in
    let g = both_true (is_logical logical) (nat_lt size (2 ^ 64)) u.1 in
    let new = one_name_is (has_begun name b) name b after refl o.1 in
    let out = named_out name (fixed_written name size logical) b new.0 in
    let all : List Named = finishing name (schema.Fixed name size logical) f in (
      all,
      ap (λ (x : Data × List (List ℕ)). x.1) out ∙ new.1,
      ap (λ (x : Data × List (List ℕ)). node (schema_at depth) (suc depth) space (as_array x.0) x.0 (names_of f b (suc l))) out ∙ fixed_read name size logical depth space f b l u.0 g.0 new.0
          ∙ same_names (roll-Schema (open_schema.Fixed name size logical)) all (b ++ name ∷ []) after l left new.1 (same_some l left placing),
    )

-- ---- arrays, maps and unions

unfoldable pub array_data : Data → Option ℤ → Bool → Data
array_data inner element map = object (with_map map (with_id (codes "element-id") element (put (codes "items") inner (type_key (codes "array")))))

array_type : (inner : Data) (element : Option ℤ) (map : Bool) → type_name (array_data inner element map) ≡ Some (codes "array")
unfolding type_name array_data
array_type inner None false = refl
array_type inner None true = refl
array_type inner (Some z) false = refl
array_type inner (Some z) true = refl

array_element : (inner : Data) (element : Option ℤ) (map : Bool) → is_id element ≡ true → id_at (codes "element-id") (array_data inner element map) ≡ element
unfolding id_at array_data
array_element inner None false h = refl
array_element inner None true h = refl
array_element inner (Some z) false h = narrow_is z h
array_element inner (Some z) true h = narrow_is z h

array_map : (inner : Data) (element : Option ℤ) (map : Bool) → is_map (array_data inner element map) ≡ map
unfolding is_map array_data
array_map inner None false = refl
array_map inner None true = refl
array_map inner (Some z) false = refl
array_map inner (Some z) true = refl

arrayed : Reader → List ℕ → Data → Option ℤ → Bool → Names → Nodes
arrayed reader space inner element map names = reader space inner names >>= λ x. Ok (schema.Array x.0 element map, x.1)

array_is : (reader : Reader) (space : List ℕ) (inner : Data) (element : Option ℤ) (map : Bool) (names : Names)
    → array_node reader space (array_data inner element map) names ≡ arrayed reader space inner (id_at (codes "element-id")
    (array_data inner element map)) (is_map (array_data inner element map)) (used names)
unfolding array_node array_data arrayed
array_is reader space inner None false names = refl
array_is reader space inner None true names = refl
array_is reader space inner (Some z) false names = refl
array_is reader space inner (Some z) true names = refl

pub array_read : (s : Schema) (element : Option ℤ) (map : Bool) (i : Data) (depth : ℕ) (space : List ℕ) (f : List Named)
    (b : List (List ℕ)) (l : ℕ) (after : Names) → is_id element ≡ true → schema_at depth space i (names_of f b l) ≡ Ok (s, after)
    → NodeReads depth space (array_data i element map) (names_of f b (suc l)) (roll-Schema (open_schema.Array s element map)) after
unfolding typed arrayed array_data
array_read s element map i depth space f b l after id inner =
    let d : Data = array_data i element map in
    let names : Names = names_of f b (suc l) in
    single_of (schema_at depth) (suc depth) space d names (codes "array") (array_type i element map)
    ∙ array_is (schema_at depth) space i element map names
    ∙ ap (λ (x : Option ℤ). arrayed (schema_at depth) space i x (is_map d) (used names)) (array_element i element map id)
    ∙ ap (λ (x : Bool). arrayed (schema_at depth) space i element x (used names)) (array_map i element map)
    ∙ ap (λ (n : Names). arrayed (schema_at depth) space i element map n) (used_is f b l)
    ∙ ap (λ r. r >>= λ x. Ok (schema.Array x.0 element map, x.1)) inner
    ∙ ap (λ (x : Schema). got x after) (sym (schema.rolls-Array s element map))

array_level : (e : Proved Reads) (element : Option ℤ) (map : Bool) → AtLevel (open_schema.Array e.0 element map)
unfolding array_data
array_level e element map depth space f b after l left begun placing =
    let o = when_true (is_id element) (once e.0) b after begun in
    let inner = e.1 depth space f b after l left o.1 placing in
    (inner.0, inner.1, array_read e.0 element map (written e.0 b).0 depth space f b l (names_of inner.0 after left) o.0 inner.2)

unfoldable pub map_data : Data → Option ℤ → Option ℤ → Data
map_data inner key value = object (with_id (codes "value-id") value (with_id (codes "key-id") key (put (codes "values") inner (type_key (codes "map")))))

map_type : (inner : Data) (key value : Option ℤ) → type_name (map_data inner key value) ≡ Some (codes "map")
unfolding type_name map_data
map_type inner None None = refl
map_type inner None (Some w) = refl
map_type inner (Some z) None = refl
map_type inner (Some z) (Some w) = refl

map_key : (inner : Data) (key value : Option ℤ) → is_id key ≡ true → id_at (codes "key-id") (map_data inner key value) ≡ key
unfolding id_at map_data
map_key inner None None h = refl
map_key inner None (Some w) h = refl
map_key inner (Some z) None h = narrow_is z h
map_key inner (Some z) (Some w) h = narrow_is z h

map_value : (inner : Data) (key value : Option ℤ) → is_id value ≡ true → id_at (codes "value-id") (map_data inner key value) ≡ value
unfolding id_at map_data
map_value inner None None h = refl
map_value inner None (Some w) h = narrow_is w h
map_value inner (Some z) None h = refl
map_value inner (Some z) (Some w) h = narrow_is w h

mapped : Reader → List ℕ → Data → Option ℤ → Option ℤ → Names → Nodes
mapped reader space inner key value names = reader space inner names >>= λ x. Ok (schema.Map x.0 key value, x.1)

map_is : (reader : Reader) (space : List ℕ) (inner : Data) (key value : Option ℤ) (names : Names)
    → map_node reader space (map_data inner key value) names ≡ mapped reader space inner (id_at (codes "key-id")
    (map_data inner key value)) (id_at (codes "value-id") (map_data inner key value)) (used names)
unfolding map_node map_data mapped
map_is reader space inner None None names = refl
map_is reader space inner None (Some w) names = refl
map_is reader space inner (Some z) None names = refl
map_is reader space inner (Some z) (Some w) names = refl

pub map_read : (s : Schema) (key value : Option ℤ) (i : Data) (depth : ℕ) (space : List ℕ) (f : List Named) (b : List (List ℕ))
    (l : ℕ) (after : Names) → is_id key ≡ true → is_id value ≡ true → schema_at depth space i (names_of f b l) ≡ Ok (s, after)
    → NodeReads depth space (map_data i key value) (names_of f b (suc l)) (roll-Schema (open_schema.Map s key value)) after
unfolding typed mapped map_data
map_read s key value i depth space f b l after key_id value_id inner =
    let d : Data = map_data i key value in
    let names : Names = names_of f b (suc l) in
    single_of (schema_at depth) (suc depth) space d names (codes "map") (map_type i key value)
    ∙ map_is (schema_at depth) space i key value names
    ∙ ap (λ (x : Option ℤ). mapped (schema_at depth) space i x (id_at (codes "value-id") d) (used names)) (map_key i key value key_id)
    ∙ ap (λ (x : Option ℤ). mapped (schema_at depth) space i key x (used names)) (map_value i key value value_id)
    ∙ ap (λ (n : Names). mapped (schema_at depth) space i key value n) (used_is f b l)
    ∙ ap (λ r. r >>= λ x. Ok (schema.Map x.0 key value, x.1)) inner
    ∙ ap (λ (x : Schema). got x after) (sym (schema.rolls-Map s key value))

map_level : (e : Proved Reads) (key value : Option ℤ) → AtLevel (open_schema.Map e.0 key value)
unfolding map_data
map_level e key value depth space f b after l left begun placing =
    let o = when_true (is_id key && is_id value) (once e.0) b after begun in
    let ids = both_true (is_id key) (is_id value) o.0 in
    let inner = e.1 depth space f b after l left o.1 placing in
    (inner.0, inner.1, map_read e.0 key value (written e.0 b).0 depth space f b l (names_of inner.0 after left) ids.0 ids.1 inner.2)

union_is : (reader : Reader) (space : List ℕ) (items : Items) (names : Names)
    → union_node reader space items names ≡ (each (reader space) items (used names) >>= λ inner. Ok (schema.Union inner.0, inner.1))
unfolding union_node
union_is reader space items names = refl

pub union_read : (branches : List Schema) (items : Items) (depth : ℕ) (space : List ℕ) (f : List Named) (b : List (List ℕ))
    (l : ℕ) (after : Names) → each (schema_at depth space) items (names_of f b l) ≡ Ok (branches, after)
    → NodeReads depth space (array items) (names_of f b (suc l)) (roll-Schema (open_schema.Union branches)) after
union_read branches items depth space f b l after inner =
    union_is (schema_at depth) space items (names_of f b (suc l))
    ∙ ap (λ (n : Names). each (schema_at depth space) items n >>= λ x. Ok (schema.Union x.0, x.1)) (used_is f b l)
    ∙ ap (λ r. r >>= λ x. Ok (schema.Union x.0, x.1)) inner
    ∙ ap (λ (x : Schema). got x after) (sym (schema.rolls-Union branches))

union_level : (es : List (Proved Reads)) → AtLevel (open_schema.Union (map (λ e. e.0) es))
union_level es depth space f b after l left begun placing =
    let branches : List Schema = map (λ (e : Proved Reads). e.0) es in
    let inner = each_reads (schema_at depth space) written once placed depth Reads (λ x q. q depth space) es f b after l left begun placing in
    (inner.0, inner.1, union_read branches (items_of (write_each (map written branches) b).0) depth space f b l (names_of inner.0 after left) inner.2)

-- ---- fields

unfoldable pub field_data : List ℕ → Option ℤ → Data → Data
field_data name id inner = object (with_id (codes "field-id") id (put (codes "type") inner (put (codes "name") (string name) no_members)))

field_id : (name : List ℕ) (id : Option ℤ) (inner : Data) → is_id id ≡ true → id_at (codes "field-id") (field_data name id inner) ≡ id
unfolding id_at field_data
field_id name None inner h = refl
field_id name (Some z) inner h = narrow_is z h

fielded : Reader → List ℕ → List ℕ → Option ℤ → Data → Names → Result (Field × Names) SchemaFault
fielded reader space name id inner names = reader space inner names >>= λ x. Ok (record { name = name; id = id; schema = x.0 }, x.1)

field_is : (reader : Reader) (space name : List ℕ) (id : Option ℤ) (inner : Data) (names : Names)
    → field reader space (field_data name id inner) names ≡ fielded reader space name (id_at (codes "field-id")
    (field_data name id inner)) inner names
unfolding field field_data fielded
field_is reader space name None inner names = refl
field_is reader space name (Some z) inner names = refl

field_made : (name : List ℕ) (id : Option ℤ) (s : Schema)
    → (let x : Field = record { name = name; id = id; schema = s } in x) ≡ roll-Field (record { name = name; id = id; schema = s })
field_made name id s = refl

pub field_read : (name : List ℕ) (id : Option ℤ) (s : Schema) (i : Data) (depth : ℕ) (space : List ℕ) (before after : Names)
    → is_utf8 name ≡ true → is_id id ≡ true → schema_at depth space i before ≡ Ok (s, after)
    → field (schema_at depth) space (field_data (utf8_lossy name) id i) before ≡ Ok (roll-Field (record { name = name; id = id; schema = s }), after)
unfolding fielded field_data
field_read name id s i depth space before after text has_id inner =
    ap (λ (n : List ℕ). field (schema_at depth) space (field_data n id i) before) (lossless name text)
    ∙ field_is (schema_at depth) space name id i before
    ∙ ap (λ (k : Option ℤ). fielded (schema_at depth) space name k i before) (field_id name id i has_id)
    ∙ ap (λ r. r >>= λ y. Ok (record { name = name; id = id; schema = y.0 }, y.1)) inner
    ∙ ap (λ (g : Field). got g after) (field_made name id s)

field_reads : (name : List ℕ) (id : Option ℤ) (e : Proved Reads) → ReadsField (roll-Field (record { name = name; id = id; schema = e.0 }))
unfolding field_data
field_reads name id e depth space f b after l left begun placing =
    let x : open_schema.Field-F Schema Field = record { name = name; id = id; schema = e.0 } in
    let o = when_true (is_utf8 name && is_id id) (once e.0) b after (sym (ap (λ (g : Begins). g b) (once_field_roll x)) ∙ begun) in
    let u = both_true (is_utf8 name) (is_id id) o.0 in
    let inner = e.1 depth space f b after l left o.1 (sym (ap (λ (p : Placing). p depth l) (placed_field_roll x)) ∙ placing) in
    let is : written_field (roll-Field x) ≡ field_level (map-Field Schema Field (Writing Data) (Writing Data) written written_field x) = written_field_roll x in
    let names : Names = names_of f b l in (
      inner.0,
      ap (λ (w : Writing Data). (w b).1) is ∙ inner.1,
      ap (λ (w : Writing Data). field (schema_at depth) space (w b).0 names) is ∙ field_read name id e.0 (written e.0 b).0 depth space names (names_of inner.0 after left) u.0 u.1 inner.2,
    )

pub levels : (y : open_schema.Schema-F (Proved Reads) (ProvedField ReadsField))
    → Reads (roll-Schema (map-Schema (Proved Reads) (ProvedField ReadsField) Schema Field (λ e. e.0) (λ e. e.0) y))
levels open_schema.Null = at_level open_schema.Null null_level
levels open_schema.Boolean = at_level open_schema.Boolean boolean_level
levels (open_schema.Int logical) = at_level (open_schema.Int logical) (int_level logical)
levels (open_schema.Long logical) = at_level (open_schema.Long logical) (long_level logical)
levels (open_schema.Bytes logical) = at_level (open_schema.Bytes logical) (bytes_level logical)
levels open_schema.Text = at_level open_schema.Text text_level
levels (open_schema.Record name es) = at_level (open_schema.Record name (map (λ (e : ProvedField ReadsField). e.0) es)) (record_level name es)
levels (open_schema.Enum name ns) = at_level (open_schema.Enum name ns) (enum_level name ns)
levels (open_schema.Array e element map) = at_level (open_schema.Array e.0 element map) (array_level e element map)
levels (open_schema.Map e key value) = at_level (open_schema.Map e.0 key value) (map_level e key value)
levels (open_schema.Union es) = at_level (open_schema.Union (map (λ (e : Proved Reads). e.0) es)) (union_level es)
levels (open_schema.Fixed name size logical) = at_level (open_schema.Fixed name size logical) (fixed_level name size logical)

fields : (y : open_schema.Field-F (Proved Reads) (ProvedField ReadsField))
    → ReadsField (roll-Field (map-Field (Proved Reads) (ProvedField ReadsField) Schema Field (λ e. e.0) (λ e. e.0) y))
fields y = field_reads y.name y.id y.schema

pub schema_reads : (s : Schema) → Reads s
schema_reads s = by_levels Reads ReadsField levels fields s

pub some_of : {A : Type 0} (o : Option A) → is_some o ≡ true → (x : A) × (o ≡ Some x)
some_of None e = absurd cc
some_of (Some x) e = (x, refl)

pub data_read : (s : Schema) → has_text s ≡ true → schema_of (data_of s) ≡ Ok s
unfolding schema_of
data_read s h =
    let parts = both_true (is_some (once s [])) (is_some (placed s 32 100000)) h in
    let o = some_of (once s []) parts.0 in
    let p = some_of (placed s 32 100000) parts.1 in
    let r = schema_reads s 32 [] [] [] o.0 100000 p.0 o.1 p.1 in
    ap (λ x. x >>= λ whole. Ok whole.0) r.2
