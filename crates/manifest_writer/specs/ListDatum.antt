-- How the rows of a manifest list are written (Iceberg specification, "Manifest Lists").
use Rattle.std.specs.Prelude.{ℕ, ℤ, pos, Bool, ◌&&◌, List, [], ◌∷◌, ◌++◌, map}
use Rattle.std.specs.List.{list_all}
use Rattle.std.specs.Str.{IsUtf8}
use Rattle.kind_values.specs.declared.stats.Summary.{Summary}
use Rattle.avro_binary.specs.declared.datum.Datum.{Datum}
use Rattle.avro_binary.specs.declared.datum.Datum.TheVariants as datum
use Rattle.avro_binary.specs.Spelling.{IsSignedOf}
use Rattle.avro_container.specs.ContainerText.{container_text}
use Rattle.manifest_files.specs.declared.manifest_row.ManifestContent.{ManifestContent}
use Rattle.manifest_files.specs.declared.manifest_row.ManifestContent.TheVariants as content
use Rattle.manifest_files.specs.declared.manifest_row.ManifestRow.{ManifestRow}
use Rattle.manifest_writer.specs.ListTypes.{list_types}
use Rattle.manifest_writer.specs.Value.{optional_int, optional_long, optional_bound, AreSignedOf, is_count, is_bound}

abbrev pub content_number : ManifestContent → ℤ
content_number content.Data = pos 0
content_number content.Deletes = pos 1

abbrev pub head_values : ManifestRow → List Datum
head_values row = datum.Text row.manifest_path ∷ optional_long row.manifest_length ∷ datum.Int row.partition_spec_id ∷ datum.Int (content_number row.content) ∷ datum.Long row.sequence_number ∷ datum.Long row.min_sequence_number ∷ datum.Long row.added_snapshot_id ∷ []

abbrev pub count_values : ManifestRow → List Datum
count_values row = optional_int row.added_files_count ∷ optional_int row.existing_files_count ∷ optional_int row.deleted_files_count ∷ optional_long row.added_rows_count ∷ optional_long row.existing_rows_count ∷ optional_long row.deleted_rows_count ∷ []

abbrev pub datum_of_summary : Summary → Datum
datum_of_summary summary = datum.Record (datum.Boolean summary.contains_null ∷ optional_bound summary.lower ∷ optional_bound summary.upper ∷ [])

abbrev pub partitions_value : ManifestRow → Datum
partitions_value row = datum.Union 1 (datum.Array (map datum_of_summary row.partitions))

abbrev pub datum_of_row : ManifestRow → Datum
datum_of_row row = datum.Record (head_values row ++ count_values row ++ partitions_value row ∷ [])

-- the bytes of the list of these rows
abbrev pub list_text : List ManifestRow → List ℕ
list_text rows = container_text (record { schema = list_types; meta = []; datums = map datum_of_row rows })

-- ---- rows that can be written, and rows that are read again

-- the text and the numbers have the ranges of their types
abbrev pub HasHead : ManifestRow → Type 0
HasHead row = IsUtf8 row.manifest_path × AreSignedOf 63 row.manifest_length × IsSignedOf 31 row.partition_spec_id × IsSignedOf 63 row.sequence_number × IsSignedOf 63 row.min_sequence_number × IsSignedOf 63 row.added_snapshot_id

abbrev pub HasCounts : ManifestRow → Type 0
HasCounts row = AreSignedOf 31 row.added_files_count × AreSignedOf 31 row.existing_files_count × AreSignedOf 31 row.deleted_files_count × AreSignedOf 63 row.added_rows_count × AreSignedOf 63 row.existing_rows_count × AreSignedOf 63 row.deleted_rows_count

abbrev pub IsRow : ManifestRow → Type 0
IsRow row = HasHead row × HasCounts row

-- no count is negative
abbrev pub counts : ManifestRow → Bool
counts row = is_count row.added_files_count && (is_count row.existing_files_count && (is_count row.deleted_files_count && (is_count row.added_rows_count && (is_count row.existing_rows_count && is_count row.deleted_rows_count))))

abbrev pub has_bounds : Summary → Bool
has_bounds summary = is_bound summary.lower && is_bound summary.upper

-- no count is negative, and each bound is bytes
abbrev pub is_listed : ManifestRow → Bool
is_listed row = counts row && list_all has_bounds row.partitions
