-- The ids of the fields of manifests and manifest lists (Iceberg specification, "Manifests" and "Manifest Lists"). Both files
-- are read and written by them.
use Rattle.std.specs.Prelude.{ℤ, pos}

-- ---- an entry, `manifest_entry`

abbrev pub status : ℤ
status = pos 0

abbrev pub snapshot_id : ℤ
snapshot_id = pos 1

abbrev pub data_file : ℤ
data_file = pos 2

abbrev pub sequence_number : ℤ
sequence_number = pos 3

abbrev pub file_sequence_number : ℤ
file_sequence_number = pos 4

-- ---- a file, `data_file`, with its maps of statistics: their keys and values

abbrev pub content : ℤ
content = pos 134

abbrev pub file_path : ℤ
file_path = pos 100

abbrev pub file_format : ℤ
file_format = pos 101

abbrev pub partition : ℤ
partition = pos 102

abbrev pub record_count : ℤ
record_count = pos 103

abbrev pub file_size_in_bytes : ℤ
file_size_in_bytes = pos 104

abbrev pub value_counts : ℤ
value_counts = pos 109

abbrev pub value_counts_key : ℤ
value_counts_key = pos 119

abbrev pub value_counts_value : ℤ
value_counts_value = pos 120

abbrev pub null_value_counts : ℤ
null_value_counts = pos 110

abbrev pub null_value_counts_key : ℤ
null_value_counts_key = pos 121

abbrev pub null_value_counts_value : ℤ
null_value_counts_value = pos 122

abbrev pub lower_bounds : ℤ
lower_bounds = pos 125

abbrev pub lower_bounds_key : ℤ
lower_bounds_key = pos 126

abbrev pub lower_bounds_value : ℤ
lower_bounds_value = pos 127

abbrev pub upper_bounds : ℤ
upper_bounds = pos 128

abbrev pub upper_bounds_key : ℤ
upper_bounds_key = pos 129

abbrev pub upper_bounds_value : ℤ
upper_bounds_value = pos 130

abbrev pub key_metadata : ℤ
key_metadata = pos 131

abbrev pub equality_ids : ℤ
equality_ids = pos 135

abbrev pub equality_ids_element : ℤ
equality_ids_element = pos 136

abbrev pub referenced_data_file : ℤ
referenced_data_file = pos 143

-- ---- a row of a list, `manifest_file`, and the summary of a partition field, `field_summary`

abbrev pub manifest_path : ℤ
manifest_path = pos 500

abbrev pub manifest_length : ℤ
manifest_length = pos 501

abbrev pub partition_spec_id : ℤ
partition_spec_id = pos 502

abbrev pub manifest_content : ℤ
manifest_content = pos 517

abbrev pub manifest_sequence_number : ℤ
manifest_sequence_number = pos 515

abbrev pub min_sequence_number : ℤ
min_sequence_number = pos 516

abbrev pub added_snapshot_id : ℤ
added_snapshot_id = pos 503

abbrev pub added_files_count : ℤ
added_files_count = pos 504

abbrev pub existing_files_count : ℤ
existing_files_count = pos 505

abbrev pub deleted_files_count : ℤ
deleted_files_count = pos 506

abbrev pub added_rows_count : ℤ
added_rows_count = pos 512

abbrev pub existing_rows_count : ℤ
existing_rows_count = pos 513

abbrev pub deleted_rows_count : ℤ
deleted_rows_count = pos 514

abbrev pub partitions : ℤ
partitions = pos 507

abbrev pub partitions_element : ℤ
partitions_element = pos 508

abbrev pub contains_null : ℤ
contains_null = pos 509

abbrev pub lower_bound : ℤ
lower_bound = pos 510

abbrev pub upper_bound : ℤ
upper_bound = pos 511

abbrev pub manifest_key_metadata : ℤ
manifest_key_metadata = pos 519
