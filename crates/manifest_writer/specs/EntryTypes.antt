-- The type of the entries of a manifest (Iceberg specification, "Manifests").
use Rattle.std.specs.Prelude.{ℕ, ℤ, List, [], ◌∷◌, ◌++◌, codes}
use Rattle.avro_binary.specs.declared.schema.Field.{Field}
use Rattle.avro_binary.specs.declared.schema.Schema.{Schema}
use Rattle.avro_binary.specs.declared.schema.Schema.TheVariants as schema
use Rattle.avro_binary.specs.declared.schema.Logical.TheVariants.{Plain}
use Rattle.row_values.specs.declared.schema.TableSchema.{TableSchema}
use Rattle.row_values.specs.declared.partition.Spec.{Spec}
use Rattle.manifest_writer.specs.declared.fact.Fact.TheVariants as fact
use Rattle.manifest_writer.specs.Facts.{fact_field}
use Rattle.manifest_writer.specs.PartTypes.{part_fields}
use Rattle.row_writer.specs.Field.{field, optional_type, items_type, record_type}
use Rattle.manifest_files.specs.FieldIds as id_of

abbrev pub optional_long : ℤ → List ℕ → Field
optional_long id name = field id name (optional_type (schema.Long Plain))

abbrev pub number_fields : List Field
number_fields = field id_of.status (codes "status") (schema.Int Plain) ∷ optional_long id_of.snapshot_id (codes "snapshot_id") ∷ optional_long id_of.sequence_number (codes "sequence_number") ∷ optional_long id_of.file_sequence_number (codes "file_sequence_number") ∷ []

abbrev pub partition_field : List Field → Field
partition_field parts = field id_of.partition (codes "partition") (record_type (codes "r102") parts)

abbrev pub ids_field : Field
ids_field = field id_of.equality_ids (codes "equality_ids") (optional_type (items_type id_of.equality_ids_element (schema.Int Plain)))

abbrev pub referenced_field : Field
referenced_field = field id_of.referenced_data_file (codes "referenced_data_file") (optional_type schema.Text)

abbrev pub file_head_fields : List Field → List Field
file_head_fields parts = field id_of.content (codes "content") (schema.Int Plain) ∷ field id_of.file_path (codes "file_path") schema.Text ∷ field id_of.file_format (codes "file_format") schema.Text ∷ partition_field parts ∷ []

abbrev pub fact_fields : List Field
fact_fields = fact_field fact.Values ∷ fact_field fact.Nulls ∷ fact_field fact.Lower ∷ fact_field fact.Upper ∷ []

abbrev pub file_fields : List Field → List Field
file_fields parts = file_head_fields parts ++ field id_of.record_count (codes "record_count") (schema.Long Plain) ∷ field id_of.file_size_in_bytes (codes "file_size_in_bytes") (schema.Long Plain) ∷ [] ++ fact_fields ++ ids_field ∷ referenced_field ∷ []

abbrev pub file_field : List Field → Field
file_field parts = field id_of.data_file (codes "data_file") (record_type (codes "r2") (file_fields parts))

-- the type, with these fields of the partition
abbrev pub types_with : List Field → Schema
types_with parts = record_type (codes "manifest_entry") (number_fields ++ file_field parts ∷ [])

abbrev pub entry_types : Spec → TableSchema → Schema
entry_types spec schema = types_with (part_fields schema.columns spec.fields)
