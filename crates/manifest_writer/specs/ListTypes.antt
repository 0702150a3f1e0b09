-- The type of the rows of a manifest list (Iceberg specification, "Manifest Lists").
use Rattle.std.specs.Prelude.{ℕ, ℤ, List, [], ◌∷◌, ◌++◌, codes}
use Rattle.avro_binary.specs.declared.schema.Field.{Field}
use Rattle.avro_binary.specs.declared.schema.Schema.{Schema}
use Rattle.avro_binary.specs.declared.schema.Schema.TheVariants as schema
use Rattle.avro_binary.specs.declared.schema.Logical.TheVariants.{Plain}
use Rattle.row_writer.specs.Field.{field, optional_type, items_type, record_type}
use Rattle.manifest_files.specs.FieldIds as id_of

-- what each row has, and the length of its manifest
abbrev pub head_fields : List Field
head_fields = field id_of.manifest_path (codes "manifest_path") schema.Text ∷ field id_of.manifest_length (codes "manifest_length")
    (optional_type (schema.Long Plain)) ∷ field id_of.partition_spec_id (codes "partition_spec_id") (schema.Int Plain) ∷ field id_of.manifest_content
    (codes "content") (schema.Int Plain) ∷ field id_of.manifest_sequence_number (codes "sequence_number")
    (schema.Long Plain) ∷ field id_of.min_sequence_number (codes "min_sequence_number") (schema.Long Plain) ∷ field id_of.added_snapshot_id
    (codes "added_snapshot_id") (schema.Long Plain) ∷ []

abbrev pub file_count : ℤ → List ℕ → Field
file_count id name = field id name (optional_type (schema.Int Plain))

abbrev pub row_count : ℤ → List ℕ → Field
row_count id name = field id name (optional_type (schema.Long Plain))

abbrev pub count_fields : List Field
count_fields = file_count id_of.added_files_count (codes "added_files_count") ∷ file_count id_of.existing_files_count
    (codes "existing_files_count") ∷ file_count id_of.deleted_files_count (codes "deleted_files_count") ∷ row_count id_of.added_rows_count
    (codes "added_rows_count") ∷ row_count id_of.existing_rows_count (codes "existing_rows_count") ∷ row_count id_of.deleted_rows_count
    (codes "deleted_rows_count") ∷ []

abbrev pub summary_fields : List Field
summary_fields = field id_of.contains_null (codes "contains_null") schema.Boolean ∷ field id_of.lower_bound (codes "lower_bound") (optional_type (schema.Bytes Plain)) ∷ field id_of.upper_bound (codes "upper_bound") (optional_type (schema.Bytes Plain)) ∷ []

abbrev pub partitions_field : Field
partitions_field = field id_of.partitions (codes "partitions") (optional_type (items_type id_of.partitions_element (record_type (codes "r508") summary_fields)))

abbrev pub list_types : Schema
list_types = record_type (codes "manifest_file") (head_fields ++ count_fields ++ partitions_field ∷ [])
