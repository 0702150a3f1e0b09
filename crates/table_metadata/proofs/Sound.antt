-- Metadata that is read is sound.
use Rattle.std.proofs.Common.{◌≡◌, ℕ, ℤ, true, not, codes, List, Some, option_and_then, Result, Ok, refl, ap, subst}
use Rattle.serde_json.specs.Data.{Data, Items}
use Rattle.serde_json.specs.Find.{get}
use Rattle.table_metadata.specs.declared.metadata_fault.MetadataFault.TheVariants as metadata
use Rattle.iceberg_schema.specs.Keys.{has_id, int_at, items_at, long_at, text_at, whole_of}
use Rattle.table_metadata.specs.Metadata.{Parts, json_of, metadata_of, parts_of}
use Rattle.table_metadata.specs.TableKeys.{current_ids_of, distinct_items, is_uuid, listed_id, plain_keys_of, shape_if, shaped}
use Rattle.table_metadata.proofs.Coherence.{coherent_parts}
use Rattle.plain_types.proofs.CallerLemmas.{one_value, two_steps}
use Rattle.table_metadata.proofs.PartsRead.{readings_of}
use Rattle.iceberg_schema.specs.Widths.{IsInt, IsLong}
use Rattle.table_metadata.specs.Sound.{IsSoundMetadata}
use Rattle.table_metadata.proofs.Listed.{distinct_are, listed_is, schema_found, schemas_read, snapshots_have, spec_found, specs_read, there}
use Rattle.table_metadata.proofs.Numbers.{IsRead, json_is_read, long_is}

own_number : {K E : Type 0} (a b : K) (r : Result K E) → r ≡ Ok a → r ≡ Ok b → (number : K → ℤ) → number a ≡ number b
own_number a b r h k number = ap number (one_value a b r h k)

keys_have : (d : Data) (location : List ℕ) (sequence updated column : ℤ) → IsRead d
    → plain_keys_of d ≡ Ok (record { location = location; last_sequence = sequence; last_updated_ms = updated; last_column = column })
    → IsLong sequence × IsLong updated
unfolding plain_keys_of
keys_have d location sequence updated column read h =
    let s1 = two_steps (shaped (codes "format-version") (option_and_then whole_of (get (codes "format-version") d))) _ _ h in
    let s2 = two_steps (shaped (codes "table-uuid") (text_at (codes "table-uuid") d)) _ _ s1.2 in
    let s3 = two_steps (shape_if (codes "table-uuid") (not (is_uuid s2.0))) _ _ s2.2 in
    let s4 = two_steps (shaped (codes "location") (text_at (codes "location") d)) _ _ s3.2 in
    let s5 = two_steps (shaped (codes "last-sequence-number") (long_at (codes "last-sequence-number") d)) _ _ s4.2 in
    let s6 = two_steps (shaped (codes "last-updated-ms") (long_at (codes "last-updated-ms") d)) _ _ s5.2 in
    let s7 = two_steps (shaped (codes "last-column-id") (int_at (codes "last-column-id") d)) _ _ s6.2 in
    let own_sequence : s5.0 ≡ sequence = own_number _ _ _ refl s7.2 (λ keys. keys.last_sequence) in
    let own_updated : s6.0 ≡ updated = own_number _ _ _ refl s7.2 (λ keys. keys.last_updated_ms) in (
      subst IsLong own_sequence (long_is (codes "last-sequence-number") d s5.0 read (there (metadata.Shape (codes "last-sequence-number")) (long_at (codes "last-sequence-number") d) s5.0 s5.1)),
      subst IsLong own_updated (long_is (codes "last-updated-ms") d s6.0 read (there (metadata.Shape (codes "last-updated-ms")) (long_at (codes "last-updated-ms") d) s6.0 s6.1)),
    )

-- the default spec is one that is listed
record AreListed (d : Data) (schema spec : ℤ) : Type 0 where
  number : IsInt schema
  items : Items
  listed : items_at (codes "partition-specs") d ≡ Some items
  has : has_id (codes "spec-id") spec items ≡ true

ids_are : (d : Data) (schema spec partition : ℤ)
    → current_ids_of d ≡ Ok (record { schema = schema; spec = spec; last_partition = partition }) → AreListed d schema spec
unfolding current_ids_of
ids_are d schema spec partition h =
    let s1 = two_steps (distinct_items (codes "schemas") (codes "schema-id") d) _ _ h in
    let s2 = two_steps (listed_id (codes "current-schema-id") (codes "schema-id") s1.0 d) _ _ s1.2 in
    let s3 = two_steps (distinct_items (codes "partition-specs") (codes "spec-id") d) _ _ s2.2 in
    let s4 = two_steps (listed_id (codes "default-spec-id") (codes "spec-id") s3.0 d) _ _ s3.2 in
    let s5 = two_steps (shaped (codes "last-partition-id") (int_at (codes "last-partition-id") d)) _ _ s4.2 in
    let own_schema : s2.0 ≡ schema = own_number _ _ _ refl s5.2 (λ ids. ids.schema) in
    let own_spec : s4.0 ≡ spec = own_number _ _ _ refl s5.2 (λ ids. ids.spec) in
    record {
      number = subst IsInt own_schema (listed_is (codes "current-schema-id") (codes "schema-id") s1.0 d s2.0 s2.1).0;
      items = s3.0;
      listed = distinct_are (codes "partition-specs") (codes "spec-id") d s3.0 s3.1;
      has = subst (λ (id : ℤ). has_id (codes "spec-id") id s3.0 ≡ true) own_spec (listed_is (codes "default-spec-id") (codes "spec-id") s3.0 d s4.0 s4.1).1;
    }

sound_parts : (d : Data) (p : Parts) → IsRead d → parts_of d ≡ Ok p → IsSoundMetadata p
sound_parts d p read h =
    let r = readings_of d p h in
    let keys = keys_have d p.location p.last_sequence p.last_updated_ms p.last_column read r.plain in
    let ids = ids_are d p.current_schema p.default_spec p.last_partition r.ids in
    let found = schema_found p.current_schema p.schemas (coherent_parts d p h).schema (schemas_read d p.schemas r.schemas) in
    record {
      schema = found.0;
      current = record { stands = found.1; sound = found.2.0; ids = found.2.1 };
      spec = spec_found p.default_spec p.current_schema p.schemas d ids.items p.specs ids.listed ids.has r.specs;
      specs = specs_read p.current_schema p.schemas d p.specs found.0 r.specs found.1;
      sequence = keys.0;
      updated = keys.1;
      schema_id = ids.number;
      snapshots = snapshots_have d p.snapshots read r.snapshots;
    }

pub sound : (bytes : List ℕ) (p : Parts) → metadata_of bytes ≡ Ok p → IsSoundMetadata p
unfolding metadata_of
sound bytes p h =
    let s = two_steps (json_of bytes) parts_of p h in
    sound_parts s.0 p (json_is_read bytes s.0 s.1) s.2
