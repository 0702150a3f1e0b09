-- A schema that was read is read again of its JSON.
use Rattle.std.proofs.Common.{◌≡◌, ℕ, suc, ℤ, ◌||◌, Bool, List, [], ◌∷◌, ◌++◌, map, length, Some, Result, Ok, nat_eq, nat_lt, codes, refl, ap, subst, sym, ◌∙◌, append_assoc}
use Rattle.std.proofs.lemmas.List.{append-nil}
use Rattle.serde_json.specs.Data.{Data, Items, no_items, item}
use Rattle.serde_json.specs.View.{items_of}
use Rattle.plain_types.specs.Steps.{◌>>=◌, or_fault, fault_if}
use Rattle.plain_types.proofs.CallerLemmas.{two_steps, one_value}
use Rattle.row_values.specs.declared.kind.Kind.{Kind}
use Rattle.row_values.specs.declared.schema.Column.{Column}
use Rattle.row_values.specs.declared.schema.TableSchema.{TableSchema}
use Rattle.iceberg_schema.specs.declared.schema_fault.SchemaJsonFault.{SchemaJsonFault}
use Rattle.iceberg_schema.specs.declared.schema_fault.SchemaJsonFault.TheVariants as fault
use Rattle.iceberg_schema.specs.Keys.{int_at, text_at, bool_at, items_at, item_count}
use Rattle.iceberg_schema.specs.KindText.{kind_of}
use Rattle.iceberg_schema.specs.SchemaData.{kind_text, column_data, schema_data}
use Rattle.row_values.specs.Columns.{has_id, has_name}
use Rattle.iceberg_schema.specs.SchemaJson.{is_reserved, column_of, columns_of, table_schema_of}
use Rattle.iceberg_schema.proofs.WrittenNumbers.{there, int_at_read, int_again}
use Rattle.iceberg_schema.proofs.WrittenKinds.{kind_passes, kind_read}

-- another element with the same values at the keys is the same column
column_again : (earlier : List Column) (d e : Data) (c : Column) (id : ℤ) (name text type : List ℕ) (kind : Kind) (required : Bool)
    → int_at (codes "id") d ≡ Some id → int_at (codes "id") e ≡ Some id
    → text_at (codes "name") d ≡ Some name → text_at (codes "name") e ≡ Some name
    → bool_at (codes "required") d ≡ Some required → bool_at (codes "required") e ≡ Some required
    → text_at (codes "type") d ≡ Some text → text_at (codes "type") e ≡ Some type
    → kind_of text ≡ Some kind → kind_of type ≡ Some kind
    → column_of earlier d ≡ Ok c → column_of earlier e ≡ Ok c
unfolding column_of
column_again earlier d e c id name text type kind required i i2 n n2 r r2 t t2 k k2 h = rw (i2, n2, r2, t2, k2) (rw (i, n, r, t, k) at h)

column_written : (earlier : List Column) (d : Data) (c : Column) → column_of earlier d ≡ Ok c → column_of earlier (column_data c) ≡ Ok c
unfolding column_of
column_written earlier d c h =
    let s1 = two_steps (or_fault (fault.Missing (codes "id")) (int_at (codes "id") d)) _ c h in
    let s2 = two_steps (or_fault (fault.Missing (codes "name")) (text_at (codes "name") d)) _ c s1.2 in
    let s3 = two_steps (or_fault (fault.Missing (codes "required")) (bool_at (codes "required") d)) _ c s2.2 in
    let s4 = two_steps (or_fault (fault.Missing (codes "type")) (text_at (codes "type") d)) _ c s3.2 in
    let s5 = two_steps (or_fault (fault.Kind s4.0) (kind_of s4.0)) _ c s4.2 in
    let s6 = two_steps (fault_if (fault.Duplicate s1.0) (is_reserved s1.0 || has_id s1.0 earlier)) _ c s5.2 in
    let s7 = two_steps (fault_if (fault.Name s2.0) (nat_lt 4096 (length s2.0) || has_name s2.0 earlier)) _ c s6.2 in
    let id = there (fault.Missing (codes "id")) (int_at (codes "id") d) s1.0 s1.1 in
    let kind = there (fault.Kind s4.0) (kind_of s4.0) s5.0 s5.1 in
    let x : Column = record { id = s1.0; name = s2.0; kind = s5.0; required = s3.0 } in
    let same : x ≡ c = one_value x c _ refl s7.2 in
    subst (λ (y : Column). column_of earlier (column_data y) ≡ Ok c) same
    (column_again earlier d (column_data x) c s1.0 s2.0 s4.0 (kind_text s5.0) s5.0 s3.0
    id (int_again s1.0 (int_at_read (codes "id") d s1.0 id))
    (there (fault.Missing (codes "name")) (text_at (codes "name") d) s2.0 s2.1) refl
    (there (fault.Missing (codes "required")) (bool_at (codes "required") d) s3.0 s3.1) refl
    (there (fault.Missing (codes "type")) (text_at (codes "type") d) s4.0 s4.1) refl
    kind (kind_read s5.0 (kind_passes s4.0 s5.0 kind)) h)

-- the columns that are read behind others are read of their JSON
record Written (earlier cs : List Column) (ds : Items) : Type 0 where
  rest : List Column
  all : cs ≡ earlier ++ rest
  count : item_count (items_of (map column_data rest)) ≡ item_count ds
  again : columns_of earlier (items_of (map column_data rest)) ≡ Ok cs

columns_written : (ds : Items) (earlier cs : List Column) → columns_of earlier ds ≡ Ok cs → Written earlier cs ds
unfolding columns_of
columns_written no_items earlier cs h =
    let same : earlier ≡ cs = one_value earlier cs _ refl h in
    record { rest = []; all = sym same ∙ sym (append-nil earlier); count = refl; again = h }
columns_written (item d ds) earlier cs h =
    let s = two_steps (column_of earlier d) _ cs h in
    let behind = columns_written ds (earlier ++ s.0 ∷ []) cs s.2 in
    let after = λ (column : Column). columns_of (earlier ++ column ∷ []) (items_of (map column_data behind.rest)) in
    record {
      rest = s.0 ∷ behind.rest;
      all = behind.all ∙ append_assoc earlier (s.0 ∷ []) behind.rest;
      count = ap suc behind.count;
      again = ap (λ (r : Result Column SchemaJsonFault). r >>= after) (column_written earlier d s.0 s.1) ∙ behind.again;
    }

all_columns_written : (ds : Items) (cs : List Column) → columns_of [] ds ≡ Ok cs
    → (item_count (items_of (map column_data cs)) ≡ item_count ds) × (columns_of [] (items_of (map column_data cs)) ≡ Ok cs)
all_columns_written ds cs h =
    let w = columns_written ds [] cs h in
    let all : w.rest ≡ cs = sym w.all in (
      subst (λ (xs : List Column). item_count (items_of (map column_data xs)) ≡ item_count ds) all w.count,
      subst (λ (xs : List Column). columns_of [] (items_of (map column_data xs)) ≡ Ok cs) all w.again,
    )

-- another object with the same id and as many columns, which are read as the same
schema_again : (d e : Data) (s : TableSchema) (id : ℤ) (fields others : Items) (columns : List Column)
    → int_at (codes "schema-id") d ≡ Some id → int_at (codes "schema-id") e ≡ Some id
    → items_at (codes "fields") d ≡ Some fields → items_at (codes "fields") e ≡ Some others
    → item_count others ≡ item_count fields → columns_of [] fields ≡ Ok columns → columns_of [] others ≡ Ok columns
    → table_schema_of d ≡ Ok s → table_schema_of e ≡ Ok s
unfolding table_schema_of
schema_again d e s id fields others columns i i2 f f2 n c c2 h = rw (i2, f2, n, c2) (rw (i, f, c) at h)

-- what is at the keys of a schema that is read
schema_parts : (d : Data) (s : TableSchema) → table_schema_of d ≡ Ok s
    → (fields : Items) × (int_at (codes "schema-id") d ≡ Some s.id) × (items_at (codes "fields") d ≡ Some fields)
    × (columns_of [] fields ≡ Ok s.columns)
unfolding table_schema_of
schema_parts d s h =
    let s1 = two_steps (or_fault (fault.Missing (codes "schema-id")) (int_at (codes "schema-id") d)) _ s h in
    let s2 = two_steps (or_fault (fault.Missing (codes "fields")) (items_at (codes "fields") d)) _ s s1.2 in
    let n = item_count s2.0 in
    let s3 = two_steps (fault_if (fault.Columns n) (nat_eq n 0 || nat_lt 256 n)) _ s s2.2 in
    let s4 = two_steps (columns_of [] s2.0) _ s s3.2 in
    let P = λ (y : TableSchema). (fields : Items) × (int_at (codes "schema-id") d ≡ Some y.id) × (items_at (codes "fields") d ≡ Some fields)
    × (columns_of [] fields ≡ Ok y.columns) in
    subst P (one_value _ s _ refl s4.2) (
      s2.0,
      there (fault.Missing (codes "schema-id")) (int_at (codes "schema-id") d) s1.0 s1.1,
      there (fault.Missing (codes "fields")) (items_at (codes "fields") d) s2.0 s2.1,
      s4.1,
    )

-- A schema that is read is read again of the JSON that is written of it.
pub a_written_schema_is_read : (d : Data) (schema : TableSchema) → table_schema_of d ≡ Ok schema → table_schema_of (schema_data schema) ≡ Ok schema
a_written_schema_is_read d schema h =
    let p = schema_parts d schema h in
    let again = all_columns_written p.0 schema.columns p.3 in
    schema_again d (schema_data schema) schema schema.id p.0 (items_of (map column_data schema.columns)) schema.columns
    p.1 (int_again schema.id (int_at_read (codes "schema-id") d schema.id p.1)) p.2 refl again.0 p.3 again.1 h
