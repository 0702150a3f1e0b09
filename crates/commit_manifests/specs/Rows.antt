-- The row of a manifest list that says what a manifest holds (Iceberg specification, "Manifest Lists"). A file is live
-- where its status is 0, existing, or 1, added ("Manifest Entry Fields").
use Rattle.std.specs.Prelude.{ℕ, ◌-◌, ◌^◌, min, nat_eq, nat_lt, ℤ, pos, Bool, true, false, ◌&&◌, if◌then◌else◌, List, [], ◌∷◌, map, length, slice_get, Option, Some, None, option_map, option_and_then, unwrap_or}
use Rattle.std.specs.Int.{int_min}
use Rattle.std.specs.List.{count_by, sum_by, list_any, range_with_len}
use Rattle.std.specs.declared.cmp.Ordering.{Ordering}
use Rattle.std.specs.declared.cmp.Ordering.TheVariants.{Less, Equal, Greater}
use Rattle.plain_types.specs.Steps.{by_option}
use Rattle.row_values.specs.declared.value.Value.{Value}
use Rattle.row_values.specs.declared.value.Value.TheVariants as value
use Rattle.row_values.specs.declared.partition.Spec.{Spec}
use Rattle.row_values.specs.Order.{value_cmp}
use Rattle.row_values.specs.Rows.{is_null}
use Rattle.kind_values.specs.declared.stats.Summary.{Summary}
use Rattle.kind_values.specs.Bounds.{bytes_of}
use Rattle.manifest_files.specs.declared.entry.Entry.{Entry}
use Rattle.manifest_files.specs.declared.manifest_row.ManifestContent.{ManifestContent}
use Rattle.manifest_files.specs.declared.manifest_row.ManifestRow.{ManifestRow}
use Rattle.manifest_files.specs.Entries.{is_live}
use Rattle.commit_manifests.specs.declared.commit_numbers.CommitNumbers.{CommitNumbers}

-- ---- counts

-- the number of entries in the manifest that have the status, at most the greatest int (504 to 506)
abbrev pub files_with : ℕ → List Entry → ℤ
files_with status entries = pos (min (count_by (λ entry. nat_eq entry.status status) entries) (2 ^ 31 - 1))

abbrev pub rows_in : ℕ → Entry → ℕ
rows_in status entry = if nat_eq entry.status status then entry.count else 0

-- the number of rows in all of the files that have the status, at most the greatest long (512 to 514)
abbrev pub rows_with : ℕ → List Entry → ℤ
rows_with status entries = pos (min (sum_by (rows_in status) entries) (2 ^ 63 - 1))

-- ---- the minimum data sequence number of all live files in the manifest (516)

abbrev pub with_number : Option ℤ → Entry → Option ℤ
with_number least entry = if is_live entry.status then Some (by_option least (λ number. int_min number entry.seq) entry.seq) else least

-- the least number of the live entries and of those before them
abbrev pub least_from : Option ℤ → List Entry → Option ℤ
least_from least [] = least
least_from least (entry ∷ entries) = least_from (with_number least entry) entries

-- the commit's own where no entry is live
abbrev pub least_number : ℤ → List Entry → ℤ
least_number seq entries = unwrap_or (least_from None entries) seq

-- ---- summaries of a partition field

abbrev pub not_null : Value → Option Value
not_null v = if is_null v then None else Some v

-- a live entry has NULL at the place; a value that is missing counts as NULL
abbrev pub has_null : ℕ → Entry → Bool
has_null place entry = is_live entry.status && by_option (slice_get entry.partition place) is_null true

-- the value of a live entry at the place, unless it is NULL
abbrev pub part_at : ℕ → Entry → Option Value
part_at place entry = if is_live entry.status then option_and_then not_null (slice_get entry.partition place) else None

-- whether the manifest contains at least one partition with a null value for the field (509)
abbrev pub contains_null : ℕ → List Entry → Bool
contains_null place entries = list_any (has_null place) entries

abbrev pub is_side : Ordering → Ordering → Bool
is_side Less Less = true
is_side Equal Equal = true
is_side Greater Greater = true
is_side _ _ = false

-- the value compares so with the other
abbrev pub is_outside : Ordering → Value → Value → Bool
is_outside side v other = by_option (value_cmp v other) (λ found. is_side found side) false

-- the one that is farther to the side, and the earlier one where neither is
abbrev pub outermost : Ordering → Option Value → Option Value → Option Value
outermost side best None = best
outermost side None (Some v) = Some v
outermost side (Some other) (Some v) = Some (if is_outside side v other then v else other)

-- the outermost value of the live entries and of those before them
abbrev pub outermost_from : Ordering → ℕ → Option Value → List Entry → Option Value
outermost_from side place best [] = best
outermost_from side place best (entry ∷ entries) = outermost_from side place (outermost side best (part_at place entry)) entries

abbrev pub extreme_at : Ordering → ℕ → List Entry → Option Value
extreme_at side place entries = outermost_from side place None entries

-- the least of the values, and the greatest, where there are any
abbrev pub least_at : ℕ → List Entry → Option Value
least_at place entries = extreme_at Less place entries

abbrev pub greatest_at : ℕ → List Entry → Option Value
greatest_at place entries = extreme_at Greater place entries

-- a bound is serialized to bytes (Appendix D, "Binary single-value serialization")
abbrev pub bound_of : Option Value → Option Value
bound_of best = option_map (λ v. value.Bytes (bytes_of v)) best

-- the bounds for the values in the partition field that are not null, or null if all are (510 and 511)
abbrev pub summary_at : ℕ → List Entry → Summary
summary_at place entries = record { contains_null = contains_null place entries; lower = bound_of (least_at place entries); upper = bound_of (greatest_at place entries) }

-- ---- the row

-- the length of the manifest file, where a long can say it (501)
abbrev pub long_of : ℕ → Option ℤ
long_of size = if nat_lt size (2 ^ 63) then Some (pos size) else None

-- each field in the list corresponds to a field in the manifest file's partition spec (507)
abbrev pub row_of : List ℕ → ℕ → Spec → ManifestContent → CommitNumbers → List Entry → ManifestRow
row_of path size spec content numbers entries = record {
  manifest_path = path;
  manifest_length = long_of size;
  partition_spec_id = spec.id;
  content = content;
  sequence_number = numbers.seq;
  min_sequence_number = least_number numbers.seq entries;
  added_snapshot_id = numbers.snapshot;
  added_files_count = Some (files_with 1 entries);
  existing_files_count = Some (files_with 0 entries);
  deleted_files_count = Some (files_with 2 entries);
  added_rows_count = Some (rows_with 1 entries);
  existing_rows_count = Some (rows_with 0 entries);
  deleted_rows_count = Some (rows_with 2 entries);
  partitions = map (λ place. summary_at place entries) (range_with_len 0 (length spec.fields));
}
