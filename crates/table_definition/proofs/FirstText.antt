-- The first version of a table that is made as a schema file asks can be written, and is read.
use Rattle.std.proofs.Common.{◌≡◌, ◌||◌, ℕ, suc, ℤ, pos, neg_ℤ, ◌^◌, List, Bool, true, false, codes, Option, Some, None, Ok, refl, ap, subst, ◌∙◌, arith}
use Rattle.serde_json.specs.Data.{Data, null, array, object, no_items, no_members}
use Rattle.serde_json.specs.Find.{get}
use Rattle.serde_json.specs.Written.{compact_text, has_float}
use Rattle.plain_types.specs.Steps.{by_option}
use Rattle.row_values.specs.declared.partition.PartField.{PartField}
use Rattle.row_values.specs.declared.schema.Column.{Column}
use Rattle.table_metadata.specs.Metadata.{json_of, metadata_of}
use Rattle.table_metadata.specs.TableKeys.{is_uuid}
use Rattle.iceberg_schema.proofs.CallerLemmas.{sound_schema}
use Rattle.iceberg_schema.specs.Widths.{IsInt, IsLong}
use Rattle.metadata_writer.specs.NewTable.{Made, IsMadeOf, first_version}
use Rattle.metadata_writer.specs.Writable.{IsWritable}
use Rattle.metadata_writer.proofs.CallerLemmas.{sound_schema-fits, text-first_version, writable-first_version, Within, FoundWithin, array-within, empty-within, get-within, no_items-within}
use Rattle.table_definition.specs.Definition.{Asked, definition_of}
use Rattle.table_definition.specs.FirstText.{first_text, made_of, parts_made, schema_json}
use Rattle.table_definition.specs.LastIds.{last_column, last_partition}
use Rattle.table_definition.proofs.AskedParts.{IsAsked, asked_parts}
use Rattle.table_definition.proofs.LastIds.{none_above}

-- what was found, or else another
either_within : (n : ℕ) (o : Option Data) (e : Data) → FoundWithin n o → Within n e → Within n (by_option o (λ d. d) e)
either_within n (Some d) e w v = w
either_within n None e w v = v

null_within : (n : ℕ) → Within n null
null_within n = record { whole = refl; nests = omega arith }

writable : (location : List ℕ) (now : ℤ) (a : Asked) → IsAsked a → IsWritable (first_version (made_of location now a))
writable location now a is =
    let w : Within (suc 124) a.json = record { whole = is.whole; nests = is.nests } in
    let schema = either_within 124 (get (codes "schema") a.json) null (get-within 124 (codes "schema") a.json w) (null_within 124) in
    let fields = either_within 124 (get (codes "partition-spec") a.json) (array no_items) (get-within 124 (codes "partition-spec") a.json w) (array-within 123 no_items (no_items-within 123)) in
    let properties = either_within 124 (get (codes "properties") a.json) (object no_members) (get-within 124 (codes "properties") a.json w) (empty-within 123) in
    writable-first_version _ schema.whole (omega (arith, schema.nests)) fields.whole fields.nests properties.whole (omega (arith, properties.nests))

alone : (b : Bool) → b ≡ false → (b || false) ≡ false
alone b h = rw h refl

-- the identifier and the ids fit their keys
pub record FitsKeys (t : Made) : Type 0 where
  pub uuid : is_uuid t.uuid ≡ true
  pub last_column : IsInt t.last_column
  pub last_partition : IsInt t.last_partition

made : (location : List ℕ) (now : ℤ) (a : Asked) → IsAsked a → FitsKeys (made_of location now a) → IsLong now
    → IsMadeOf a.schema a.spec a.properties (made_of location now a)
made location now a is fits long = record {
  uuid = fits.uuid;
  reads_schema = is.schema;
  id = refl;
  reads_spec = is.spec;
  are_texts = is.are_texts;
  reads_properties = is.properties;
  ids = sound_schema-fits (last_column a.schema.columns) (last_partition a.spec.fields) a.schema a.spec
      (sound_schema (schema_json a.json) a.schema is.schema)
      (alone _ (none_above (λ (column : Column). column.id) (neg_ℤ (pos (2 ^ 31))) a.schema.columns))
      (alone _ (none_above (λ (field : PartField). field.field) (pos 999) a.spec.fields));
  last_column = fits.last_column;
  last_partition = fits.last_partition;
  created = long;
}

pub exact_text : (bytes text location : List ℕ) (now : ℤ) (a : Asked) (t : Made) (json : Data) → definition_of bytes ≡ Ok a
    → t ≡ made_of location now a → json ≡ first_version t → (has_float json ≡ false → text ≡ compact_text json)
    → text ≡ first_text location now a
exact_text bytes text location now a t json h e k written =
    let same = k ∙ ap first_version e in
    let w = writable location now a (asked_parts bytes a h) in
    written (ap has_float same ∙ w.whole) ∙ ap compact_text same

pub read_text : (bytes text location : List ℕ) (now : ℤ) (a : Asked) (t : Made) (json : Data) → definition_of bytes ≡ Ok a
    → t ≡ made_of location now a → json ≡ first_version t → FitsKeys t → IsLong now → (IsWritable json → json_of text ≡ Ok json)
    → metadata_of text ≡ Ok (parts_made location now a)
read_text bytes text location now a t json h e k fits long back =
    let is = asked_parts bytes a h in
    let again : IsWritable (first_version (made_of location now a)) → json_of text ≡ Ok (first_version (made_of location now a)) = subst (λ (d : Data). IsWritable d → json_of text ≡ Ok d) (k ∙ ap first_version e) back in
    text-first_version text a.schema a.spec a.properties _ (made location now a is (subst FitsKeys e fits) long) (again (writable location now a is))
