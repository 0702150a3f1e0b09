-- What a table's form says of its current schema and of its specs.
use Rattle.std.proofs.Common.{◌≡◌, ◌-◌, ◌^◌, ◌==◌, ℕ, suc, ℤ, pos, negsuc, neg_ℤ, Bool, true, false, not, ◌&&◌, ◌||◌, List, [], ◌∷◌, length, Some, None, is_some, refl, ap, subst, ◌∙◌, arith}
use Rattle.std.specs.Prelude.{int_le, int_lt, nat_le, nat_lt, if◌then◌else◌}
use Rattle.std.specs.List.{AllByRecursion, list_all, list_any}
use Rattle.std.specs.Ordering.{int_eq}
use Rattle.std.proofs.lemmas.Bool.Decides.{nat_tests}
use Rattle.std.proofs.lemmas.Cmp.{int_eq_equiv}
use Rattle.std.proofs.lemmas.Int.{ints}
use Rattle.plain_types.specs.Bags.{Apart}
use Rattle.row_values.specs.declared.kind.Kind.{Kind}
use Rattle.row_values.specs.declared.kind.Kind.TheVariants as kind
use Rattle.row_values.specs.declared.schema.Column.{Column}
use Rattle.row_values.specs.declared.schema.TableSchema.{TableSchema}
use Rattle.row_values.specs.declared.partition.Spec.{Spec}
use Rattle.kind_values.specs.Bounds.{is_kind}
use Rattle.avro_binary.specs.SchemaOnce.{is_id}
use Rattle.commit_manifests.proofs.CallerLemmas.{both, first, second}
use Rattle.iceberg_schema.specs.Widths.{IsInt}
use Rattle.row_values.specs.Columns.{has_id}
use Rattle.row_writer.specs.Readable.{AreColumns, are_apart}
use Rattle.table_state.specs.Form.{column_in_form, kind_in_form, schema_in_form, table_in_form, writing_in_form, is_unpartitioned}
use Rattle.table_metadata.specs.Metadata.{Parts}
use Rattle.table_metadata.specs.References.{is_main}
use Rattle.iceberg_schema.specs.SoundSchema.{IsSoundSchema, same_id}
use Rattle.table_metadata.specs.ById.{schema_with, spec_with}

-- ---- the parts of the form

module _ (p : Parts) (form : table_in_form p ≡ true) where
  pub plain_schemas : list_all (schema_in_form p.current_schema) p.schemas ≡ true
  plain_schemas = first (list_all (schema_in_form p.current_schema) p.schemas) (list_all is_unpartitioned p.specs && (writing_in_form p.properties && list_all is_main p.refs)) form

  pub plain_specs : list_all is_unpartitioned p.specs ≡ true
  plain_specs =
      first (list_all is_unpartitioned p.specs) (writing_in_form p.properties && list_all is_main p.refs)
      (second (list_all (schema_in_form p.current_schema) p.schemas) (list_all is_unpartitioned p.specs && (writing_in_form p.properties && list_all is_main p.refs)) form)

-- ---- the current schema

plain_found : (id : ℤ) (schemas : List TableSchema) (s : TableSchema) → list_all (schema_in_form id) schemas ≡ true
    → schema_with id schemas ≡ Some s → list_all column_in_form s.columns ≡ true
unfolding schema_with
plain_found id [] s h e = absurd cc
plain_found id (schema ∷ schemas) s h e = found_by (int_eq schema.id id) refl e (plain_found id schemas s (second (schema_in_form id schema) (list_all (schema_in_form id) schemas) h))
  where
    found_by : (b : Bool) → int_eq schema.id id ≡ b → (if b then Some schema else schema_with id schemas) ≡ Some s
        → (schema_with id schemas ≡ Some s → list_all column_in_form s.columns ≡ true)
        → list_all column_in_form s.columns ≡ true
    found_by true is k others =
        let same : schema ≡ s = cc in
        let own : (if int_eq schema.id id then list_all column_in_form schema.columns else true) ≡ true = first (schema_in_form id schema) (list_all (schema_in_form id) schemas) h in
        subst (λ (x : TableSchema). list_all column_in_form x.columns ≡ true) same (subst (λ (b : Bool). (if b then list_all column_in_form schema.columns else true) ≡ true) is own)
    found_by false is k others = others k

kind_is : (k : Kind) → kind_in_form k ≡ true → is_kind k ≡ true
kind_is kind.Bool h = absurd cc
kind_is kind.Int h = absurd cc
kind_is kind.Long h = refl
kind_is kind.Date h = absurd cc
kind_is (kind.Timestamp utc) h = absurd cc
kind_is (kind.Decimal precision scale) h = absurd cc
kind_is kind.Text h = refl
kind_is kind.Bytes h = absurd cc

kinds_are : (columns : List Column) → list_all column_in_form columns ≡ true → list_all (λ column. is_kind column.kind) columns ≡ true
kinds_are [] h = refl
kinds_are (column ∷ columns) h =
    both (is_kind column.kind) (list_all (λ (c : Column). is_kind c.kind) columns) (kind_is column.kind (first (column_in_form column) (list_all column_in_form columns) h)) (kinds_are columns (second (column_in_form column) (list_all column_in_form columns) h))

pub schema_kinds : (p : Parts) (s : TableSchema) → table_in_form p ≡ true → schema_with p.current_schema p.schemas ≡ Some s
    → list_all (λ column. is_kind column.kind) s.columns ≡ true
schema_kinds p s form e = kinds_are s.columns (plain_found p.current_schema p.schemas s (plain_schemas p form) e)

-- ---- specs

empty : {X : Type 0} (xs : List X) → (length xs == 0) ≡ true → xs ≡ []
empty [] h = refl
empty (x ∷ xs) h = let none : suc (length xs) ≡ 0 = grind (arith, nat_tests, h) in absurd (omega (arith, none))

-- a spec that is found has the id, and no fields
pub spec_is : (id : ℤ) (specs : List Spec) (s : Spec) → list_all is_unpartitioned specs ≡ true → spec_with id specs ≡ Some s
    → (int_eq s.id id ≡ true) × (s.fields ≡ [])
unfolding spec_with
spec_is id [] s h e = absurd cc
spec_is id (spec ∷ specs) s h e = found_by (int_eq spec.id id) refl e (spec_is id specs s (second (is_unpartitioned spec) (list_all is_unpartitioned specs) h))
  where
    found_by : (b : Bool) → int_eq spec.id id ≡ b → (if b then Some spec else spec_with id specs) ≡ Some s
        → (spec_with id specs ≡ Some s → (int_eq s.id id ≡ true) × (s.fields ≡ [])) → (int_eq s.id id ≡ true) × (s.fields ≡ [])
    found_by true is k others =
        let same : spec ≡ s = cc in
        subst (λ (x : Spec). (int_eq x.id id ≡ true) × (x.fields ≡ [])) same (is, empty spec.fields (first (is_unpartitioned spec) (list_all is_unpartitioned specs) h))
    found_by false is k others = others k

-- ---- numbers

in_range : (b : Bool) (n : ℤ) → (if b then Some n else None) ≡ Some n → b ≡ true
in_range true n h = refl
in_range false n h = absurd cc

bounded : (n : ℤ) → IsInt n → (int_le (neg_ℤ (pos (2 ^ 31))) n && int_le n (pos (2 ^ 31 - 1))) ≡ true
bounded n h = in_range (int_le (neg_ℤ (pos (2 ^ 31))) n && int_le n (pos (2 ^ 31 - 1))) n h

has_range : {X : Type 0} (b : Bool) (x : X) → b ≡ true → is_some (if b then Some x else None) ≡ true
has_range true x h = refl
has_range false x h = absurd cc

pub int_is_id : (n : ℤ) → IsInt n → is_id (Some n) ≡ true
int_is_id (pos n) h =
    let below : int_le (pos n) (pos (2 ^ 31 - 1)) ≡ true = second (int_le (neg_ℤ (pos (2 ^ 31))) (pos n)) (int_le (pos n) (pos (2 ^ 31 - 1))) (bounded (pos n) h) in
    let least : nat_le n (2 ^ 31 - 1) ≡ true = grind (arith, ints, nat_tests, below) in
    has_range (nat_le n (2 ^ 31 - 1)) (pos n) least
int_is_id (negsuc n) h =
    let above : int_le (neg_ℤ (pos (2 ^ 31))) (negsuc n) ≡ true = first (int_le (neg_ℤ (pos (2 ^ 31))) (negsuc n)) (int_le (negsuc n) (pos (2 ^ 31 - 1))) (bounded (negsuc n) h) in
    let least : nat_le n (2 ^ 31 - 1) ≡ true = grind (arith, ints, nat_tests, above) in
    has_range (nat_le n (2 ^ 31 - 1)) (negsuc n) least

-- ---- columns whose rows are read again

ids_are : (columns : List Column) → AllByRecursion (λ (column : Column). IsInt column.id) columns → list_all (λ column. is_id (Some column.id)) columns ≡ true
ids_are [] h = refl
ids_are (column ∷ columns) h = both (is_id (Some column.id)) (list_all (λ (c : Column). is_id (Some c.id)) columns) (int_is_id column.id h.0) (ids_are columns h.1)

same_search : (column : Column) (columns : List Column) → has_id column.id columns ≡ list_any (same_id column) columns
same_search column [] = refl
same_search column (other ∷ columns) = ap (λ (b : Bool). b || has_id column.id columns) (int_eq_equiv.symm other.id column.id) ∙ ap (λ (b : Bool). int_eq column.id other.id || b) (same_search column columns)

apart_are : (columns : List Column) → Apart same_id columns → are_apart columns ≡ true
unfolding are_apart
apart_are [] h = refl
apart_are (column ∷ columns) h = both (not (has_id column.id columns)) (are_apart columns) (ap not (same_search column columns ∙ h.0)) (apart_are columns h.1)

pub columns_are : (s : TableSchema) → IsSoundSchema s → AllByRecursion (λ (column : Column). IsInt column.id) s.columns
    → list_all (λ (column : Column). is_kind column.kind) s.columns ≡ true → AreColumns s.columns
columns_are s sound ids kinds = record {
  some = omega (arith, sound.least);
  few = omega (arith, sound.most);
  ids = ids_are s.columns ids;
  apart = apart_are s.columns sound.ids;
  kinds = kinds;
}
