-- A partition spec that was read is read again of its JSON.
use Rattle.std.proofs.Common.{◌≡◌, ℕ, suc, ◌-◌, ◌^◌, ◌<◌, ℤ, ◌&&◌, true, List, [], ◌∷◌, ◌++◌, map, Option, Some, Result, Ok, nat_le, nat_lt, codes, refl, ap, subst, sym, ◌∙◌, arith, append_assoc}
use Rattle.std.specs.Prelude.{decimal, option_and_then}
use Rattle.std.proofs.lemmas.Bool.Decides.{nat_tests}
use Rattle.std.proofs.lemmas.List.{append-nil}
use Rattle.serde_json.specs.Data.{Data, number, Items, no_items, item}
use Rattle.serde_json.specs.Find.{get, as_array, of_integer}
use Rattle.serde_json.specs.View.{items_of}
use Rattle.plain_types.specs.Digits.{after_text}
use Rattle.plain_types.specs.Steps.{◌>>=◌, or_fault, fault_if, fault_as}
use Rattle.plain_types.proofs.CallerLemmas.{two_steps, one_value}
use Rattle.row_values.specs.declared.schema.Column.{Column}
use Rattle.row_values.specs.declared.partition.PartField.{PartField}
use Rattle.row_values.specs.declared.partition.Spec.{Spec}
use Rattle.row_values.specs.declared.partition.Transform.{Transform}
use Rattle.row_values.specs.declared.partition.Transform.TheVariants as transform
use Rattle.iceberg_schema.specs.declared.spec_fault.SpecFault.{SpecFault}
use Rattle.iceberg_schema.specs.declared.spec_fault.SpecFault.TheVariants as fault
use Rattle.iceberg_schema.specs.Keys.{in_int, long_of, int_at, text_at, items_at, item_count}
use Rattle.iceberg_schema.specs.SoundSpec.{is_transform}
use Rattle.iceberg_schema.specs.SpecData.{transform_text, part_data, spec_data}
use Rattle.iceberg_schema.specs.SpecJson.{has_field, source_fits, field_of, fields_of, spec_of}
use Rattle.iceberg_schema.specs.TransformText.{width_of, numbered_of, transform_of}
use Rattle.iceberg_schema.proofs.DecimalTexts.{number_read}
use Rattle.iceberg_schema.proofs.SpecSoundness.{same_value, transform_passes}
use Rattle.iceberg_schema.proofs.WrittenNumbers.{there, int_at_read, int_again}

bracket_read : after_text (codes "]") (codes "]") ≡ Some []
unfolding after_text
bracket_read = refl

narrow : (n : ℕ) → (nat_le 1 n && nat_le n (2 ^ 31 - 1)) ≡ true → n < 2 ^ 64
narrow n h = grind (arith, nat_tests)

width_read : (n : ℕ) → (nat_le 1 n && nat_le n (2 ^ 31 - 1)) ≡ true → width_of (decimal n ++ codes "]") ≡ Ok n
unfolding width_of
width_read n h = rw (number_read n 93 [] (narrow n h) refl, bracket_read, h)

transform_read : (t : Transform) → is_transform t ≡ true → transform_of (transform_text t) ≡ Ok t
unfolding transform_of numbered_of after_text
transform_read transform.Identity h = refl
transform_read (transform.Bucket n) h = rw (width_read n h)
transform_read (transform.Truncate n) h = rw (width_read n h)
transform_read transform.Year h = refl
transform_read transform.Month h = refl
transform_read transform.Day h = refl
transform_read transform.Hour h = refl
transform_read transform.Void h = refl

-- another element with the same values at the keys is the same field
field_again : (columns : List Column) (earlier : List PartField) (d e : Data) (f : PartField)
    (source field : ℤ) (name text other : List ℕ) (t : Transform)
    → int_at (codes "source-id") d ≡ Some source → int_at (codes "source-id") e ≡ Some source
    → int_at (codes "field-id") d ≡ Some field → int_at (codes "field-id") e ≡ Some field
    → text_at (codes "name") d ≡ Some name → text_at (codes "name") e ≡ Some name
    → text_at (codes "transform") d ≡ Some text → text_at (codes "transform") e ≡ Some other
    → transform_of text ≡ Ok t → transform_of other ≡ Ok t
    → field_of columns earlier d ≡ Ok f → field_of columns earlier e ≡ Ok f
unfolding field_of
field_again columns earlier d e f source field name text other t s s2 i i2 n n2 x x2 r r2 h = rw (s2, i2, n2, x2, r2) (rw (s, i, n, x, r) at h)

field_written : (columns : List Column) (earlier : List PartField) (d : Data) (f : PartField)
    → field_of columns earlier d ≡ Ok f → field_of columns earlier (part_data f) ≡ Ok f
unfolding field_of
field_written columns earlier d f h =
    let s1 = two_steps (or_fault (fault.Missing (codes "source-id")) (int_at (codes "source-id") d)) _ f h in
    let s2 = two_steps (or_fault (fault.Missing (codes "field-id")) (int_at (codes "field-id") d)) _ f s1.2 in
    let s3 = two_steps (or_fault (fault.Missing (codes "name")) (text_at (codes "name") d)) _ f s2.2 in
    let s4 = two_steps (or_fault (fault.Missing (codes "transform")) (text_at (codes "transform") d)) _ f s3.2 in
    let s5 = two_steps (fault_as fault.Transform (transform_of s4.0)) _ f s4.2 in
    let s6 = two_steps (source_fits s5.0 s1.0 columns) _ f s5.2 in
    let s7 = two_steps (fault_if (fault.Duplicate s2.0) (has_field s2.0 earlier)) _ f s6.2 in
    let source = there (fault.Missing (codes "source-id")) (int_at (codes "source-id") d) s1.0 s1.1 in
    let field = there (fault.Missing (codes "field-id")) (int_at (codes "field-id") d) s2.0 s2.1 in
    let read = same_value fault.Transform (transform_of s4.0) s5.0 s5.1 in
    let x : PartField = record { source = s1.0; field = s2.0; name = s3.0; transform = s5.0 } in
    let same : x ≡ f = one_value x f _ refl s7.2 in
    subst (λ (y : PartField). field_of columns earlier (part_data y) ≡ Ok f) same
    (field_again columns earlier d (part_data x) f s1.0 s2.0 s3.0 s4.0 (transform_text s5.0) s5.0
    source (int_again s1.0 (int_at_read (codes "source-id") d s1.0 source))
    field (int_again s2.0 (int_at_read (codes "field-id") d s2.0 field))
    (there (fault.Missing (codes "name")) (text_at (codes "name") d) s3.0 s3.1) refl
    (there (fault.Missing (codes "transform")) (text_at (codes "transform") d) s4.0 s4.1) refl
    read (transform_read s5.0 (transform_passes s4.0 s5.0 read)) h)

-- the fields that are read behind others are read of their JSON
record Written (columns : List Column) (earlier fs : List PartField) (ds : Items) : Type 0 where
  rest : List PartField
  all : fs ≡ earlier ++ rest
  count : item_count (items_of (map part_data rest)) ≡ item_count ds
  again : fields_of columns earlier (items_of (map part_data rest)) ≡ Ok fs

fields_written : (columns : List Column) (ds : Items) (earlier fs : List PartField)
    → fields_of columns earlier ds ≡ Ok fs → Written columns earlier fs ds
unfolding fields_of
fields_written columns no_items earlier fs h =
    let same : earlier ≡ fs = one_value earlier fs _ refl h in
    record { rest = []; all = sym same ∙ sym (append-nil earlier); count = refl; again = h }
fields_written columns (item d ds) earlier fs h =
    let s = two_steps (field_of columns earlier d) _ fs h in
    let behind = fields_written columns ds (earlier ++ s.0 ∷ []) fs s.2 in
    let after = λ (field : PartField). fields_of columns (earlier ++ field ∷ []) (items_of (map part_data behind.rest)) in
    record {
      rest = s.0 ∷ behind.rest;
      all = behind.all ∙ append_assoc earlier (s.0 ∷ []) behind.rest;
      count = ap suc behind.count;
      again = ap (λ (r : Result PartField SpecFault). r >>= after) (field_written columns earlier d s.0 s.1) ∙ behind.again;
    }

all_fields_written : (columns : List Column) (ds : Items) (fs : List PartField) → fields_of columns [] ds ≡ Ok fs
    → (item_count (items_of (map part_data fs)) ≡ item_count ds) × (fields_of columns [] (items_of (map part_data fs)) ≡ Ok fs)
all_fields_written columns ds fs h =
    let w = fields_written columns ds [] fs h in
    let all : w.rest ≡ fs = sym w.all in (
      subst (λ (xs : List PartField). item_count (items_of (map part_data xs)) ≡ item_count ds) all w.count,
      subst (λ (xs : List PartField). fields_of columns [] (items_of (map part_data xs)) ≡ Ok fs) all w.again,
    )

-- another object with the same id and as many fields, which are read as the same
spec_again : (columns : List Column) (d e : Data) (s : Spec) (id : ℤ) (items others : Items) (fields : List PartField)
    → int_at (codes "spec-id") d ≡ Some id → int_at (codes "spec-id") e ≡ Some id
    → items_at (codes "fields") d ≡ Some items → items_at (codes "fields") e ≡ Some others
    → item_count others ≡ item_count items → fields_of columns [] items ≡ Ok fields → fields_of columns [] others ≡ Ok fields
    → spec_of columns d ≡ Ok s → spec_of columns e ≡ Ok s
unfolding spec_of
spec_again columns d e s id items others fields i i2 f f2 n c c2 h = rw (i2, f2, n, c2) (rw (i, f, c) at h)

-- what is at the keys of a spec that is read
spec_parts : (columns : List Column) (d : Data) (s : Spec) → spec_of columns d ≡ Ok s
    → (items : Items) × (int_at (codes "spec-id") d ≡ Some s.id) × (items_at (codes "fields") d ≡ Some items)
    × (fields_of columns [] items ≡ Ok s.fields)
unfolding spec_of
spec_parts columns d s h =
    let s1 = two_steps (or_fault (fault.Missing (codes "spec-id")) (int_at (codes "spec-id") d)) _ s h in
    let s2 = two_steps (or_fault (fault.Missing (codes "fields")) (items_at (codes "fields") d)) _ s s1.2 in
    let s3 = two_steps (fault_if (fault.Fields (item_count s2.0)) (nat_lt 16 (item_count s2.0))) _ s s2.2 in
    let s4 = two_steps (fields_of columns [] s2.0) _ s s3.2 in
    let P = λ (y : Spec). (items : Items) × (int_at (codes "spec-id") d ≡ Some y.id) × (items_at (codes "fields") d ≡ Some items)
    × (fields_of columns [] items ≡ Ok y.fields) in
    subst P (one_value _ s _ refl s4.2) (
      s2.0,
      there (fault.Missing (codes "spec-id")) (int_at (codes "spec-id") d) s1.0 s1.1,
      there (fault.Missing (codes "fields")) (items_at (codes "fields") d) s2.0 s2.1,
      s4.1,
    )

-- A spec that is read is read again of each object with its id and the JSON that is written of its fields.
pub a_written_spec_is_read : (columns : List Column) (d : Data) (spec : Spec) (e : Data) → spec_of columns d ≡ Ok spec
    → get (codes "spec-id") e ≡ Some (number (of_integer spec.id)) → get (codes "fields") e ≡ Some (spec_data spec)
    → spec_of columns e ≡ Ok spec
a_written_spec_is_read columns d spec e h k l =
    let p = spec_parts columns d spec h in
    let again = all_fields_written columns p.0 spec.fields p.3 in
    spec_again columns d e spec spec.id p.0 (items_of (map part_data spec.fields)) spec.fields
    p.1 (ap (λ (o : Option Data). option_and_then in_int (option_and_then long_of o)) k
    ∙ int_again spec.id (int_at_read (codes "spec-id") d spec.id p.1))
    p.2 (ap (option_and_then as_array) l) again.0 p.3 again.1 h
