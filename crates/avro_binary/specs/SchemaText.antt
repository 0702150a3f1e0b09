-- The schema of a JSON text (Avro 1.11.1, 'Schema Declaration', 'Names' and 'Logical Types'), with its first fault: each node
-- before those inside it, and the fields, branches and symbols in order.
use Rattle.std.specs.Prelude.{ℕ, zero, suc, ◌-◌, ◌^◌, ℤ, pos, negsuc, Bool, false, List, [], ◌∷◌, ◌++◌, Option, Some, None, Result, Ok, Err, option_and_then, unwrap_or, codes, nat_le, ◌&&◌, ◌==◌, if◌then◌else◌}
use Rattle.std.specs.Str.{bytes_eq, is_utf8}
use Rattle.serde_json.specs.Data.{Data, Items, no_items, item}
use Rattle.serde_json.specs.Find.{get, as_str, as_array, as_bool, as_number, as_u64, as_i64}
use Rattle.serde_json.specs.Read.{read}
use Rattle.plain_types.specs.Steps.{◌>>=◌}
use Rattle.avro_binary.specs.declared.schema_fault.SchemaFault.{SchemaFault}
use Rattle.avro_binary.specs.declared.schema_fault.SchemaFault.TheVariants.{Json, TypeName, Shape, Depth}
use Rattle.avro_binary.specs.declared.names.Names.{Names}
use Rattle.avro_binary.specs.declared.schema.Schema.{Schema}
use Rattle.avro_binary.specs.declared.schema.Schema.TheVariants as schema
use Rattle.avro_binary.specs.declared.schema.Field.{Field}
use Rattle.avro_binary.specs.declared.schema.Logical.{Logical}
use Rattle.avro_binary.specs.declared.schema.Logical.TheVariants.{Plain, Date, TimestampMicros, Decimal, Other}
use Rattle.avro_binary.specs.declared.word.Word as words
use Rattle.avro_binary.specs.declared.word.Word.TheVariants as word
use Rattle.avro_binary.specs.Word.{word_of}
use Rattle.avro_binary.specs.Naming.{space_of, full_name, find, has_begun}
use Rattle.avro_binary.specs.Placed.{placed}

-- a key that the node needs
abbrev pub needed : {A : Type 0} → Option A → Result A SchemaFault
needed (Some x) = Ok x
needed None = Err Shape

-- ---- what a node's keys say

abbrev pub text_at : List ℕ → Data → Option (List ℕ)
text_at key d = option_and_then as_str (get key d)

abbrev pub number_at : List ℕ → Data → Option ℕ
number_at key d = option_and_then as_u64 (option_and_then as_number (get key d))

-- 32 bits
abbrev pub narrow : ℤ → Option ℤ
narrow (pos n) = if nat_le n (2 ^ 31 - 1) then Some (pos n) else None
narrow (negsuc n) = if nat_le n (2 ^ 31 - 1) then Some (negsuc n) else None

unfoldable pub id_at : List ℕ → Data → Option ℤ
id_at key d = option_and_then narrow (option_and_then as_i64 (option_and_then as_number (get key d)))

-- a decimal has 1 to 38 digits, and 0 to that many after the point
unfoldable pub decimal : Option ℕ → Option ℕ → Logical
decimal (Some precision) (Some scale) = if nat_le 1 precision && (nat_le precision 38 && nat_le scale precision) then Decimal precision scale else Other (codes "decimal")
decimal (Some precision) None = Other (codes "decimal")
decimal None scale = Other (codes "decimal")

abbrev pub or_zero : Option Data → Option ℕ
or_zero None = Some 0
or_zero (Some d) = option_and_then as_u64 (as_number d)

unfoldable pub logical_named : List ℕ → Data → Logical
logical_named name d = if bytes_eq name (codes "date") then Date
    else (if bytes_eq name (codes "timestamp-micros") then TimestampMicros (unwrap_or (option_and_then as_bool (get (codes "adjust-to-utc") d)) false)
    else (if bytes_eq name (codes "decimal") then decimal (number_at (codes "precision") d) (or_zero (get (codes "scale") d)) else Other name))

abbrev pub logical_by : Option (List ℕ) → Data → Logical
logical_by None d = Plain
logical_by (Some name) d = logical_named name d

unfoldable pub logical_of : Data → Logical
logical_of d = logical_by (text_at (codes "logicalType") d) d

abbrev pub is_word : List ℕ → Option (List ℕ) → Bool
is_word word None = false
is_word word (Some name) = bytes_eq name word

-- an array that stands for a map with keys of any type
unfoldable pub is_map : Data → Bool
is_map d = is_word (codes "map") (text_at (codes "logicalType") d)

-- a type by its name alone, or as a node's `type`
abbrev pub or_type : Option (List ℕ) → Data → Option (List ℕ)
or_type (Some name) d = Some name
or_type None d = text_at (codes "type") d

unfoldable pub type_name : Data → Option (List ℕ)
type_name d = or_type (as_str d) d

-- the full name that a node defines
unfoldable pub defined_name : List ℕ → List ℕ → Data → List ℕ
defined_name space name d = full_name (unwrap_or (text_at (codes "namespace") d) space) name

-- ---- names and nodes

abbrev pub used : Names → Names
used names = record names { left = names.left - 1 }

unfoldable pub begin : List ℕ → Names → Result Names SchemaFault
begin full names = if has_begun full names.begun then Err Shape else Ok (record names { begun = names.begun ++ full ∷ [] })

abbrev pub finish : List ℕ → Schema → Names → Schema × Names
finish full s names = (s, record names { finished = names.finished ++ record { name = full; schema = s } ∷ [] })

abbrev pub Nodes : Type 0
Nodes = Result (Schema × Names) SchemaFault

-- a reader of the nodes inside: takes the namespace around
abbrev pub Reader : Type 0
Reader = List ℕ → Data → Names → Nodes

-- one after the other
unfoldable pub each : {A : Type 0} → (Data → Names → Result (A × Names) SchemaFault) → Items → Names → Result (List A × Names) SchemaFault
each step no_items names = Ok ([], names)
each step (item d ds) names = step d names >>= λ first. each step ds first.1 >>= λ others. Ok (first.0 ∷ others.0, others.1)

unfoldable pub symbol : Data → Names → Result (List ℕ × Names) SchemaFault
symbol d names = do
  text ← needed (as_str d)
  Ok (text, names)

unfoldable pub field : Reader → List ℕ → Data → Names → Result (Field × Names) SchemaFault
field reader space d names = do
  name ← needed (text_at (codes "name") d)
  type ← needed (get (codes "type") d)
  inner ← reader space type names
  Ok (record { name = name; id = id_at (codes "field-id") d; schema = inner.0 }, inner.1)

unfoldable pub record_node : Reader → List ℕ → Data → Names → Nodes
record_node reader space d names = do
  name ← needed (text_at (codes "name") d)
  fields ← needed (option_and_then as_array (get (codes "fields") d))
  begun ← begin (defined_name space name d) (used names)
  inner ← each (field reader (space_of (defined_name space name d))) fields begun
  Ok (finish (defined_name space name d) (schema.Record (defined_name space name d) inner.0) inner.1)

unfoldable pub enum_node : List ℕ → Data → Names → Nodes
enum_node space d names = do
  name ← needed (text_at (codes "name") d)
  symbols ← needed (option_and_then as_array (get (codes "symbols") d))
  begun ← begin (defined_name space name d) (used names)
  inner ← each symbol symbols begun
  Ok (finish (defined_name space name d) (schema.Enum (defined_name space name d) inner.0) inner.1)

unfoldable pub fixed_node : List ℕ → Data → Names → Nodes
fixed_node space d names = do
  name ← needed (text_at (codes "name") d)
  size ← needed (number_at (codes "size") d)
  begun ← begin (defined_name space name d) (used names)
  Ok (finish (defined_name space name d) (schema.Fixed (defined_name space name d) size (logical_of d)) begun)

unfoldable pub array_node : Reader → List ℕ → Data → Names → Nodes
array_node reader space d names = do
  items ← needed (get (codes "items") d)
  inner ← reader space items (used names)
  Ok (schema.Array inner.0 (id_at (codes "element-id") d) (is_map d), inner.1)

unfoldable pub map_node : Reader → List ℕ → Data → Names → Nodes
map_node reader space d names = do
  values ← needed (get (codes "values") d)
  inner ← reader space values (used names)
  Ok (schema.Map inner.0 (id_at (codes "key-id") d) (id_at (codes "value-id") d), inner.1)

unfoldable pub union_node : Reader → List ℕ → Items → Names → Nodes
union_node reader space branches names = do
  inner ← each (reader space) branches (used names)
  Ok (schema.Union inner.0, inner.1)

abbrev pub if_placed : Schema → Option ℕ → Names → Nodes
if_placed s None names = Err Depth
if_placed s (Some left) names = Ok (s, record names { left = left })

abbrev pub referred : ℕ → List ℕ → Option Schema → Names → Nodes
referred depth name None names = Err (TypeName name)
referred depth name (Some s) names = if_placed s (placed s depth names.left) names

-- a named type where it is finished
unfoldable pub name_node : ℕ → List ℕ → List ℕ → Names → Nodes
name_node depth space name names = referred depth name (find (full_name space name) names.finished) names

-- a node by the word of its type; nodes inside are read by `reader`, and this one may nest `depth` deep
unfoldable pub typed : Reader → ℕ → List ℕ → words.Word → List ℕ → Data → Names → Nodes
typed reader depth space word.Null name d names = Ok (schema.Null, used names)
typed reader depth space word.Boolean name d names = Ok (schema.Boolean, used names)
typed reader depth space word.Int name d names = Ok (schema.Int (logical_of d), used names)
typed reader depth space word.Long name d names = Ok (schema.Long (logical_of d), used names)
typed reader depth space word.Bytes name d names = Ok (schema.Bytes (logical_of d), used names)
typed reader depth space word.Text name d names = Ok (schema.Text, used names)
typed reader depth space word.Record name d names = record_node reader space d names
typed reader depth space word.Enum name d names = enum_node space d names
typed reader depth space word.Array name d names = array_node reader space d names
typed reader depth space word.Map name d names = map_node reader space d names
typed reader depth space word.Fixed name d names = fixed_node space d names
typed reader depth space word.Name name d names = name_node depth space name names

unfoldable pub single : Reader → ℕ → List ℕ → Data → Names → Nodes
single reader depth space d names = do
  name ← needed (type_name d)
  typed reader depth space (word_of name) name d names

abbrev pub node : Reader → ℕ → List ℕ → Option Items → Data → Names → Nodes
node reader depth space (Some branches) d names = union_node reader space branches names
node reader depth space None d names = single reader depth space d names

-- a node that may nest `depth` deep
unfoldable pub schema_at : ℕ → Reader
schema_at zero space d names = Err Depth
schema_at (suc depth) space d names = if names.left == 0 then Err Depth else node (schema_at depth) (suc depth) space (as_array d) d names

-- nodes nest at most 32 deep, and are at most 100,000
abbrev pub start : Names
start = record { finished = []; begun = []; left = 100000 }

unfoldable pub schema_of : Data → Result Schema SchemaFault
schema_of d = do
  whole ← schema_at 32 [] d start
  Ok whole.0

abbrev pub json_of : List ℕ → Option Data
json_of bytes = if is_utf8 bytes then read bytes else None

abbrev pub schema_in : Option Data → Result Schema SchemaFault
schema_in None = Err Json
schema_in (Some d) = schema_of d

-- the schema of a text
unfoldable pub schema_from : List ℕ → Result Schema SchemaFault
schema_from bytes = schema_in (json_of bytes)
