-- Induction over schemas, and that the JSON of a schema has no float.
use Rattle.std.proofs.Common.{◌≡◌, ℕ, ◌≤◌, ℤ, pos, negsuc, Bool, true, false, ◌||◌, List, [], ◌∷◌, ◌++◌, map, Option, Some, None, codes, refl, sym, ap, subst, ◌∙◌}
use Rattle.std.specs.Prelude.{if◌then◌else◌}
use Rattle.std.specs.Ordering.{nat_cmp, match_ordering}
use Rattle.std.specs.declared.cmp.Ordering.{Ordering}
use Rattle.std.specs.declared.cmp.Ordering.TheVariants as ordering
use Rattle.std.specs.Cmp.Lexicographic.{slice_cmp}
use Rattle.serde_json.specs.Data.{Data, unsigned, boolean, number, string, array, Members, no_members, member, put, depth}
use Rattle.std.specs.Str.{IsUtf8}
use Rattle.std.proofs.lemmas.Str.{is_utf8-from_IsUtf8}
use Rattle.serde_json.specs.Find.{of_integer}
use Rattle.serde_json.specs.Read.{read, max_depth}
use Rattle.avro_binary.specs.SchemaText.{json_of}
use Rattle.serde_json.specs.View.{items_of}
use Rattle.serde_json.specs.Written.{has_float, items_have_float, members_have_float, compact_text}
use Rattle.avro_binary.specs.declared.schema.Schema.{Schema, roll-Schema}
use Rattle.avro_binary.specs.declared.schema.Schema.TheFolds.{fold-roll-Schema, fold-roll-Field, ind-Schema, map-Schema, map-Field}
use Rattle.avro_binary.specs.declared.schema.Schema.TheOpen as open_schema
use Rattle.avro_binary.specs.declared.schema.Field.{Field, roll-Field}
use Rattle.avro_binary.specs.declared.schema.Logical.{Logical}
use Rattle.avro_binary.specs.declared.schema.Logical.TheVariants.{Plain, Date, TimestampMicros, Decimal, Other}
use Rattle.avro_binary.specs.SchemaData.{Writing, name_data, type_key, with_id, with_logical, with_map, named_keys, symbols, write_each, named, record_written, enum_written, fixed_written, written_level, field_level, written, written_field, data_of, schema_text}
use Rattle.avro_binary.specs.Naming.{has_begun}

-- ---- induction

abbrev pub Proved : (Schema → Type 0) → Type 0
Proved P = (s : Schema) × P s

abbrev pub ProvedField : (Field → Type 0) → Type 0
ProvedField Q = (f : Field) × Q f

-- P holds of each level over parts that it holds of
pub by_levels : (P : Schema → Type 0) (Q : Field → Type 0) → ((y : open_schema.Schema-F (Proved P) (ProvedField Q))
    → P (roll-Schema (map-Schema (Proved P) (ProvedField Q) Schema Field (λ e. e.0) (λ e. e.0) y)))
    → ((y : open_schema.Field-F (Proved P) (ProvedField Q)) → Q (roll-Field (map-Field (Proved P) (ProvedField Q) Schema Field (λ e. e.0) (λ e. e.0) y))) → (s : Schema) → P s
by_levels P Q level field = ind-Schema P Q (λ x y is. subst (λ z. P (roll-Schema z)) is (level y)) (λ x y is. subst (λ z. Q (roll-Field z)) is (field y))

pub written_roll : (x : open_schema.Schema-F Schema Field)
    → written (roll-Schema x) ≡ written_level (map-Schema Schema Field (Writing Data) (Writing Data) written written_field x)
written_roll x = fold-roll-Schema (Writing Data) (Writing Data) written_level field_level x

pub written_field_roll : (x : open_schema.Field-F Schema Field)
    → written_field (roll-Field x) ≡ field_level (map-Field Schema Field (Writing Data) (Writing Data) written written_field x)
written_field_roll x = fold-roll-Field (Writing Data) (Writing Data) written_level field_level x

-- ---- keys

either : (a b : Bool) → a ≡ false → b ≡ false → (a || b) ≡ false
either a b p q = ap (λ c. c || b) p ∙ q

left_of : (a b : Bool) → (a || b) ≡ false → a ≡ false
left_of true b h = absurd cc
left_of false b h = refl

right_of : (a b : Bool) → (a || b) ≡ false → b ≡ false
right_of true b h = absurd cc
right_of false b h = h

placed : (o : Ordering) (k l : List ℕ) (d e : Data) (ms : Members) → has_float d ≡ false → has_float e ≡ false
    → members_have_float ms ≡ false → members_have_float (put k d ms) ≡ false
    → members_have_float (match_ordering o (member k d (member l e ms)) (member l d ms) (member l e (put k d ms))) ≡ false
placed ordering.Less k l d e ms hd he hms hput = either (has_float d) (has_float e || members_have_float ms) hd (either (has_float e) (members_have_float ms) he hms)
placed ordering.Equal k l d e ms hd he hms hput = either (has_float d) (members_have_float ms) hd hms
placed ordering.Greater k l d e ms hd he hms hput = either (has_float e) (members_have_float (put k d ms)) he hput

pub put_no_float : (k : List ℕ) (d : Data) (ms : Members) → has_float d ≡ false → members_have_float ms ≡ false → members_have_float (put k d ms) ≡ false
put_no_float k d no_members hd hms = either (has_float d) false hd refl
put_no_float k d (member l e ms) hd hms =
    let he = left_of (has_float e) (members_have_float ms) hms in
    let rest = right_of (has_float e) (members_have_float ms) hms in
    placed (slice_cmp nat_cmp k l) k l d e ms hd he rest (put_no_float k d ms hd rest)

type_no_float : (word : List ℕ) → members_have_float (type_key word) ≡ false
type_no_float word = refl

integer_no_float : (z : ℤ) → has_float (number (of_integer z)) ≡ false
integer_no_float (pos n) = refl
integer_no_float (negsuc n) = refl

id_no_float : (key : List ℕ) (id : Option ℤ) (ms : Members) → members_have_float ms ≡ false → members_have_float (with_id key id ms) ≡ false
id_no_float key None ms h = h
id_no_float key (Some z) ms h = put_no_float key (number (of_integer z)) ms (integer_no_float z) h

logical_no_float : (logical : Logical) (ms : Members) → members_have_float ms ≡ false → members_have_float (with_logical logical ms) ≡ false
logical_no_float Plain ms h = h
logical_no_float Date ms h = put_no_float (codes "logicalType") (string (codes "date")) ms refl h
logical_no_float (TimestampMicros utc) ms h = put_no_float (codes "adjust-to-utc") (boolean utc) (put (codes "logicalType") (string (codes "timestamp-micros")) ms) refl (put_no_float (codes "logicalType") (string (codes "timestamp-micros")) ms refl h)
logical_no_float (Decimal precision scale) ms h =
    put_no_float (codes "scale") (number (unsigned scale)) (put (codes "precision") (number (unsigned precision)) (put (codes "logicalType") (string (codes "decimal")) ms)) refl
    (put_no_float (codes "precision") (number (unsigned precision)) (put (codes "logicalType") (string (codes "decimal")) ms) refl (put_no_float (codes "logicalType") (string (codes "decimal")) ms refl h))
logical_no_float (Other name) ms h = put_no_float (codes "logicalType") (name_data name) ms refl h

map_no_float : (map : Bool) (ms : Members) → members_have_float ms ≡ false → members_have_float (with_map map ms) ≡ false
map_no_float false ms h = h
map_no_float true ms h = put_no_float (codes "logicalType") (string (codes "map")) ms refl h

keys_no_float : (word name : List ℕ) → members_have_float (named_keys word name) ≡ false
keys_no_float word name = refl

symbols_no_float : (names : List (List ℕ)) → items_have_float (items_of (map name_data names)) ≡ false
symbols_no_float [] = refl
symbols_no_float (n ∷ ns) = symbols_no_float ns

-- ---- nodes

abbrev Free : Writing Data → Type 0
Free w = (begun : List (List ℕ)) → has_float (w begun).0 ≡ false

abbrev NoFloat : Schema → Type 0
NoFloat s = Free (written s)

abbrev FieldNoFloat : Field → Type 0
FieldNoFloat f = Free (written_field f)

branches_no_float : (es : List (Proved NoFloat)) (begun : List (List ℕ))
    → items_have_float (items_of (write_each (map written (map (λ e. e.0) es)) begun).0) ≡ false
branches_no_float [] begun = refl
branches_no_float (e ∷ es) begun = either (has_float (written e.0 begun).0) (items_have_float (items_of (write_each (map written (map (λ e. e.0) es)) (written e.0 begun).1).0)) (e.1 begun) (branches_no_float es (written e.0 begun).1)

fields_no_float : (es : List (ProvedField FieldNoFloat)) (begun : List (List ℕ))
    → items_have_float (items_of (write_each (map written_field (map (λ e. e.0) es)) begun).0) ≡ false
fields_no_float [] begun = refl
fields_no_float (e ∷ es) begun = either (has_float (written_field e.0 begun).0) (items_have_float (items_of (write_each (map written_field (map (λ e. e.0) es)) (written_field e.0 begun).1).0)) (e.1 begun) (fields_no_float es (written_field e.0 begun).1)

named_by : (b : Bool) (name : List ℕ) (written_out : Data × List (List ℕ)) (begun : List (List ℕ))
    → has_float written_out.0 ≡ false → has_float (if b then (let p : Data
    × List (List ℕ) = (name_data name, begun) in p) else written_out).0 ≡ false
named_by true name written_out begun h = refl
named_by false name written_out begun h = h

named_no_float : (name : List ℕ) (w : Writing Data) → Free w → Free (named name w)
unfolding named
named_no_float name w h begun = named_by (has_begun name begun) name (w (begun ++ name ∷ [])) begun (h (begun ++ name ∷ []))

along : (w v : Writing Data) → w ≡ v → Free v → Free w
along w v e h begun = ap (λ (u : Writing Data). has_float (u begun).0) e ∙ h begun

level : (y : open_schema.Schema-F (Proved NoFloat) (ProvedField FieldNoFloat))
    → NoFloat (roll-Schema (map-Schema (Proved NoFloat) (ProvedField FieldNoFloat) Schema Field (λ e. e.0) (λ e. e.0) y))
level open_schema.Null = along (written (roll-Schema open_schema.Null)) _ (written_roll open_schema.Null) (λ begun. refl)
level open_schema.Boolean = along (written (roll-Schema open_schema.Boolean)) _ (written_roll open_schema.Boolean) (λ begun. refl)
level (open_schema.Int logical) = along (written (roll-Schema (open_schema.Int logical))) _ (written_roll (open_schema.Int logical)) (λ begun. logical_no_float logical (type_key (codes "int")) (type_no_float (codes "int")))
level (open_schema.Long logical) = along (written (roll-Schema (open_schema.Long logical))) _ (written_roll (open_schema.Long logical)) (λ begun. logical_no_float logical (type_key (codes "long")) (type_no_float (codes "long")))
level (open_schema.Bytes logical) = along (written (roll-Schema (open_schema.Bytes logical))) _ (written_roll (open_schema.Bytes logical)) (λ begun. logical_no_float logical (type_key (codes "bytes")) (type_no_float (codes "bytes")))
level open_schema.Text = along (written (roll-Schema open_schema.Text)) _ (written_roll open_schema.Text) (λ begun. refl)
level (open_schema.Record name es) =
    let fields : List Field = map (λ (e : ProvedField FieldNoFloat). e.0) es in
    along (written (roll-Schema (open_schema.Record name fields))) _ (written_roll (open_schema.Record name fields))
    (named_no_float name (record_written name (map written_field fields)) (λ begun. put_no_float (codes "fields") (array (items_of (write_each (map written_field fields) begun).0)) (named_keys (codes "record") name) (fields_no_float es begun) (keys_no_float (codes "record") name)))
level (open_schema.Enum name names) =
    along (written (roll-Schema (open_schema.Enum name names))) _ (written_roll (open_schema.Enum name names))
    (named_no_float name (enum_written name names) (λ begun. put_no_float (codes "symbols") (symbols names) (named_keys (codes "enum") name) (symbols_no_float names) (keys_no_float (codes "enum") name)))
level (open_schema.Array items element map) =
    along (written (roll-Schema (open_schema.Array items.0 element map))) _ (written_roll (open_schema.Array items.0 element map))
    (λ begun. map_no_float map _ (id_no_float (codes "element-id") element _ (put_no_float (codes "items") (written items.0 begun).0 (type_key (codes "array")) (items.1 begun) (type_no_float (codes "array")))))
level (open_schema.Map values key_id value_id) =
    along (written (roll-Schema (open_schema.Map values.0 key_id value_id))) _ (written_roll (open_schema.Map values.0 key_id value_id))
    (λ begun. id_no_float (codes "value-id") value_id _ (id_no_float (codes "key-id") key_id _ (put_no_float (codes "values") (written values.0 begun).0 (type_key (codes "map")) (values.1 begun) (type_no_float (codes "map")))))
level (open_schema.Union es) =
    let branches : List Schema = map (λ (e : Proved NoFloat). e.0) es in
    along (written (roll-Schema (open_schema.Union branches))) _ (written_roll (open_schema.Union branches)) (λ begun. branches_no_float es begun)
level (open_schema.Fixed name size logical) =
    along (written (roll-Schema (open_schema.Fixed name size logical))) _ (written_roll (open_schema.Fixed name size logical))
    (named_no_float name (fixed_written name size logical) (λ begun. logical_no_float logical _ (put_no_float (codes "size") (number (unsigned size)) (named_keys (codes "fixed") name) refl (keys_no_float (codes "fixed") name))))

field : (y : open_schema.Field-F (Proved NoFloat) (ProvedField FieldNoFloat))
    → FieldNoFloat (roll-Field (map-Field (Proved NoFloat) (ProvedField FieldNoFloat) Schema Field (λ e. e.0) (λ e. e.0) y))
field y =
    let f : open_schema.Field-F Schema Field = map-Field (Proved NoFloat) (ProvedField FieldNoFloat) Schema Field (λ e. e.0) (λ e. e.0) y in
    along (written_field (roll-Field f)) _ (written_field_roll f)
    (λ begun. id_no_float (codes "field-id") y.id _ (put_no_float (codes "type") (written y.schema.0 begun).0 (put (codes "name") (name_data y.name) no_members) (y.schema.1 begun) refl))

pub no_float : (s : Schema) (begun : List (List ℕ)) → has_float (written s begun).0 ≡ false
no_float s begun = by_levels NoFloat FieldNoFloat level field s begun

-- ---- the text

-- what was written as JSON has the text of the schema
pub is_text : (s : Schema) (d : Data) (begun names : List (List ℕ)) (text : List ℕ) → begun ≡ []
    → (let p : Data × List (List ℕ) = (d, names) in p ≡ written s begun) → (has_float d ≡ false → text ≡ compact_text d)
    → text ≡ schema_text s
is_text s d begun names text none is h =
    let same : d ≡ data_of s = ap (λ (p : Data × List (List ℕ)). p.0) is ∙ ap (λ (b : List (List ℕ)). (written s b).0) none in
    h (ap has_float same ∙ no_float s []) ∙ ap compact_text same

pub reads_text : (s : Schema) (d : Data) (begun names : List (List ℕ)) (text : List ℕ) → begun ≡ []
    → (let p : Data × List (List ℕ) = (d, names) in p ≡ written s begun) → IsUtf8 text
    → (depth d ≤ max_depth → read text ≡ Some d) → depth (data_of s) ≤ max_depth → json_of text ≡ Some (data_of s)
reads_text s d begun names text none is utf8 h shallow =
    let same : d ≡ data_of s = ap (λ (p : Data × List (List ℕ)). p.0) is ∙ ap (λ (b : List (List ℕ)). (written s b).0) none in
    ap (λ (b : Bool). if b then read text else None) (is_utf8-from_IsUtf8 text utf8) ∙ h (subst (λ (e : Data). depth e ≤ max_depth) (sym same) shallow) ∙ ap (λ (e : Data). Some e) same
