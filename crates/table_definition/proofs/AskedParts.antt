-- What a schema file that was read says of the parts of its JSON.
use Rattle.std.proofs.Common.{◌≡◌, ◌≤◌, ℕ, List, Bool, true, false, not, nat_le, codes, Option, Some, None, Result, Ok, Err, cond, refl, subst, ◌∙◌, arith}
use Rattle.std.specs.Str.{is_utf8}
use Rattle.std.proofs.lemmas.Bool.{not-false}
use Rattle.std.proofs.lemmas.Bool.Decides.{nat_tests}
use Rattle.serde_json.specs.Data.{Data, Members, no_members, object, depth}
use Rattle.serde_json.specs.Find.{get, as_object}
use Rattle.serde_json.specs.Written.{has_float}
use Rattle.row_values.specs.declared.schema.TableSchema.{TableSchema}
use Rattle.plain_types.specs.Steps.{or_fault, fault_if, fault_as, by_option}
use Rattle.table_metadata.specs.declared.properties.Properties.{Properties}
use Rattle.table_metadata.specs.Metadata.{json_of}
use Rattle.table_metadata.specs.Properties.{properties_of, retries_of, least_to_merge_of}
use Rattle.iceberg_schema.specs.SchemaJson.{table_schema_of}
use Rattle.iceberg_schema.specs.SpecJson.{spec_of}
use Rattle.table_metadata.specs.TableKeys.{all_texts, properties_shape}
use Rattle.table_metadata.specs.TableProperties.{table_properties_of}
use Rattle.iceberg_schema.proofs.CallerLemmas.{untested}
use Rattle.plain_types.proofs.CallerLemmas.{one_value, two_steps}
use Rattle.metadata_writer.specs.NewTable.{only_properties, spec_data}
use Rattle.metadata_writer.proofs.CallerLemmas.{found, writable-read}
use Rattle.table_definition.specs.declared.definition.DefinitionFault.TheVariants as fault
use Rattle.table_definition.specs.Definition.{Asked, asked_in, definition_of, fields_in, form_of, has_only_keys, is_struct, nests, no_schema, object_of, properties_in, schema_in, spec_in}
use Rattle.table_definition.specs.FirstText.{properties_json, schema_json}

pub record IsAsked (a : Asked) : Type 0 where
  pub whole : has_float a.json ≡ false
  pub nests : depth a.json ≤ 125
  pub schema : table_schema_of (schema_json a.json) ≡ Ok a.schema
  pub spec : spec_of a.schema.columns (spec_data (fields_in a.json)) ≡ Ok a.spec
  pub are_texts : properties_shape (only_properties (properties_json a.json)) ≡ Ok tt
  pub properties : properties_of (only_properties (properties_json a.json)) ≡ Ok a.properties

same_value : {A E F : Type 0} → (f : E → F) (r : Result A E) (a : A) → fault_as f r ≡ Ok a → r ≡ Ok a
same_value f (Ok b) a h = cc
same_value f (Err e) a h = cc

of_text : {A E : Type 0} → (b : Bool) (e : E) (r : Result A E) (a : A) → cond b r (Err e) ≡ Ok a → r ≡ Ok a
of_text true e r a h = h
of_text false e r a h = cc

-- ---- the properties alone

shape_alone : (o : Option Data) (d : Data) → get (codes "properties") d ≡ o
    → properties_shape (only_properties (by_option o (λ p. p) (object no_members))) ≡ properties_shape d
unfolding properties_shape all_texts
shape_alone (Some p) d h = rw h refl
shape_alone None d h = rw h refl

properties_alone : (o : Option Data) (d : Data) → get (codes "properties") d ≡ o
    → properties_of (only_properties (by_option o (λ p. p) (object no_members))) ≡ properties_of d
unfolding properties_of retries_of least_to_merge_of
properties_alone (Some p) d h = rw h refl
properties_alone None d h = rw h refl

record ArePropertiesOf (d : Data) (p : Properties) : Type 0 where
  are_texts : properties_shape (only_properties (properties_json d)) ≡ Ok tt
  properties : properties_of (only_properties (properties_json d)) ≡ Ok p

properties_read : (d : Data) (p : Properties) → table_properties_of d ≡ Ok p → ArePropertiesOf d p
unfolding table_properties_of
properties_read d p h =
    let s = two_steps (properties_shape d) _ p h in
    record { are_texts = shape_alone _ d refl ∙ s.1; properties = properties_alone _ d refl ∙ s.2 }

-- ---- the whole

within : (n : ℕ) → not (nat_le n 125) ≡ false → n ≤ 125
within n h = let e : nat_le n 125 ≡ true = not-false (nat_le n 125) h in grind (arith, nat_tests)

form_depth : (d : Data) (ms : Members) → form_of d ≡ Ok ms → depth d ≤ 125
unfolding form_of
form_depth d ms h =
    let s1 = two_steps (or_fault fault.Schema (as_object d)) _ ms h in
    let s2 = two_steps (fault_if fault.Schema (not (has_only_keys s1.0))) _ ms s1.2 in
    let s3 = two_steps (fault_if fault.Schema (not (nests d))) _ ms s2.2 in
    within (depth d) (untested fault.Schema _ s3.0 s3.1)

schema_read : (d : Data) (schema : TableSchema) → schema_in d ≡ Ok schema → table_schema_of (schema_json d) ≡ Ok schema
schema_read d schema h =
    let s = two_steps (or_fault fault.Schema (get (codes "schema") d)) _ schema h in
    let typed = two_steps (fault_if fault.Schema (not (is_struct s.0))) _ schema s.2 in
    rw (found fault.Schema (get (codes "schema") d) s.0 s.1) (same_value no_schema _ schema typed.2)

asked_of_data : (d : Data) (a : Asked) → asked_in d ≡ Ok a → has_float d ≡ false → IsAsked a
unfolding asked_in
asked_of_data d a h whole =
    let s1 = two_steps (form_of d) _ a h in
    let s2 = two_steps (schema_in d) _ a s1.2 in
    let s3 = two_steps (spec_in s2.0 d) _ a s2.2 in
    let s4 = two_steps (properties_in d) _ a s3.2 in
    let texts = properties_read d s4.0 (same_value no_schema (table_properties_of d) s4.0 s4.1) in
    subst IsAsked (one_value _ a _ refl s4.2) (record {
      whole = whole;
      nests = form_depth d s1.0 s1.1;
      schema = schema_read d s2.0 s2.1;
      spec = same_value no_schema _ s3.0 s3.1;
      are_texts = texts.are_texts;
      properties = texts.properties;
    })

pub asked_parts : (bytes : List ℕ) (a : Asked) → definition_of bytes ≡ Ok a → IsAsked a
unfolding definition_of
asked_parts bytes a h =
    let s = two_steps (object_of bytes) asked_in a (of_text (is_utf8 bytes) fault.Text _ a h) in
    asked_of_data s.0 a s.2 (writable-read bytes s.0 (same_value no_schema (json_of bytes) s.0 s.1)).whole
