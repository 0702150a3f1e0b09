-- The metadata of a manifest's file (Iceberg specification, "Manifests", the key-value metadata).
use Rattle.std.specs.Prelude.{ℕ, List, [], ◌∷◌, codes}
use Rattle.std.specs.Fmt.{signed_decimal}
use Rattle.row_values.specs.declared.schema.TableSchema.{TableSchema}
use Rattle.row_values.specs.declared.partition.Spec.{Spec}
use Rattle.iceberg_schema.specs.SchemaData.{schema_text}
use Rattle.iceberg_schema.specs.SpecData.{spec_text}
use Rattle.avro_container.specs.declared.pairs.MetaPair.{MetaPair}
use Rattle.manifest_files.specs.declared.entry.Content.{Content}
use Rattle.manifest_files.specs.declared.entry.Content.TheVariants as content
use Rattle.manifest_files.specs.declared.entry.Entry.{Entry}

abbrev pub content_word : Content → List ℕ
content_word content.Data = codes "data"
content_word content.PositionDeletes = codes "deletes"
content_word content.EqualityDeletes = codes "deletes"

-- A manifest has files of data or delete files, as its first; one without files counts as one of data.
abbrev pub manifest_content : List Entry → List ℕ
manifest_content [] = codes "data"
manifest_content (entry ∷ entries) = content_word entry.content

abbrev pub meta_pair : List ℕ → List ℕ → MetaPair
meta_pair key value = record { key = key; value = value }

abbrev pub manifest_meta : List Entry → Spec → TableSchema → List MetaPair
manifest_meta entries spec schema = meta_pair (codes "schema") (schema_text schema) ∷ meta_pair (codes "schema-id")
    (signed_decimal schema.id) ∷ meta_pair (codes "partition-spec") (spec_text spec) ∷ meta_pair (codes "partition-spec-id")
    (signed_decimal spec.id) ∷ meta_pair (codes "format-version") (codes "2") ∷ meta_pair (codes "content") (manifest_content entries) ∷ []
