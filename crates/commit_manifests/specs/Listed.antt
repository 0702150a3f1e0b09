-- Rows that a list can hold and give again: each count is there, each number is in the range of its type, and each
-- bound is bytes (Iceberg specification, "Manifest Lists").
use Rattle.std.specs.Prelude.{ℕ, ◌-◌, ◌^◌, ℤ, pos, neg_ℤ, int_le, int_lt, Bool, true, false, ◌&&◌, List, Option, Some, None, IsTrue}
use Rattle.std.specs.List.{list_all}
use Rattle.plain_types.specs.Steps.{by_option}
use Rattle.row_values.specs.Rows.{is_between}
use Rattle.manifest_files.specs.declared.entry.Entry.{Entry}
use Rattle.manifest_files.specs.declared.manifest_row.ManifestRow.{ManifestRow}
use Rattle.manifest_writer.specs.ListDatum.{has_bounds}

-- a count of so many bits
abbrev pub is_count : ℕ → Option ℤ → Bool
is_count bits None = false
is_count bits (Some number) = int_le (pos 0) number && int_lt number (pos (2 ^ bits))

abbrev pub has_counts : ManifestRow → Bool
has_counts row = is_count 31 row.added_files_count && (is_count 31 row.existing_files_count && (is_count 31 row.deleted_files_count && (is_count 63 row.added_rows_count && (is_count 63 row.existing_rows_count && is_count 63 row.deleted_rows_count))))

-- the length of a file, where it is told
abbrev pub has_length : ManifestRow → Bool
has_length row = by_option row.manifest_length (λ number. is_count 63 (Some number)) true

abbrev pub can_be_listed : ManifestRow → Bool
can_be_listed row = has_length row && (has_counts row && list_all has_bounds row.partitions)

abbrev pub is_int : ℤ → Bool
is_int number = is_between (neg_ℤ (pos (2 ^ 31))) (pos (2 ^ 31 - 1)) number

abbrev pub is_long : ℤ → Bool
is_long number = is_between (neg_ℤ (pos (2 ^ 63))) (pos (2 ^ 63 - 1)) number

abbrev pub has_numbers : ManifestRow → Bool
has_numbers row = is_int row.partition_spec_id && (is_long row.sequence_number && (is_long row.min_sequence_number && is_long row.added_snapshot_id))

abbrev pub HaveNumbers : List Entry → Type 0
HaveNumbers entries = IsTrue (list_all (λ entry. is_long entry.seq) entries)
