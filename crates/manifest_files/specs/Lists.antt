-- The rows of a manifest list, and the first fault in their order (Iceberg specification, "Manifest Lists"): the
-- container's, then those of the fields' types in the order of the fields, then row by row.
use Rattle.std.specs.Prelude.{ℕ, ℤ, pos, List, [], ◌∷◌, ◌++◌, Option, Some, None, is_some, option_map, option_and_then, Result, Ok, Err, if◌then◌else◌}
use Rattle.std.specs.Prelude.{int_le}
use Rattle.std.specs.Ordering.{int_eq}
use Rattle.plain_types.specs.Steps.{◌>>=◌, or_fault, fault_if, fault_as}
use Rattle.row_values.specs.declared.value.Value.{Value}
use Rattle.row_values.specs.declared.value.Value.TheVariants as value
use Rattle.kind_values.specs.declared.stats.Summary.{Summary}
use Rattle.avro_binary.specs.declared.datum.Datum.{Datum}
use Rattle.avro_container.specs.Container.{container_of}
use Rattle.avro_rows.specs.Rows.{values_of}
use Rattle.avro_rows.specs.Sources.{fields_of}
use Rattle.manifest_files.specs.declared.manifest_fault.ManifestFault.{ManifestFault}
use Rattle.manifest_files.specs.declared.manifest_fault.ManifestFault.TheVariants as fault
use Rattle.manifest_files.specs.declared.manifest_row.ManifestContent.{ManifestContent}
use Rattle.manifest_files.specs.declared.manifest_row.ManifestContent.TheVariants as content
use Rattle.manifest_files.specs.declared.manifest_row.ManifestRow.{ManifestRow}
use Rattle.manifest_files.specs.declared.manifest_row.RowHead.{RowHead}
use Rattle.manifest_files.specs.declared.places.SummaryPlaces.{SummaryPlaces}
use Rattle.manifest_files.specs.declared.places.RowPlaces.{RowPlaces}
use Rattle.manifest_files.specs.Datums.{present, present_at, present_in, int_in, long_in, boolean_in, bytes_in, items_at}
use Rattle.manifest_files.specs.Needed.{needed_text, needed_int, needed_long}
use Rattle.manifest_files.specs.Places.{row_places}
use Rattle.manifest_files.specs.FieldIds as id_of

-- the number, unless it is negative
abbrev pub not_negative : ℤ → Option ℤ
not_negative n = if int_le (pos 0) n then Some n else None

abbrev pub file_count : Option ℕ → List Datum → Option ℤ
file_count place values = option_and_then not_negative (option_and_then int_in (present_at values place))

abbrev pub row_count : Option ℕ → List Datum → Option ℤ
row_count place values = option_and_then not_negative (option_and_then long_in (present_at values place))

abbrev pub content_of : ℤ → Result ManifestContent ManifestFault
content_of n = if int_eq n (pos 0) then Ok content.Data else if int_eq n (pos 1) then Ok content.Deletes else Err (fault.Kind id_of.manifest_content)

-- A bound stands as its bytes, since a list says no kinds.
abbrev pub bound_at : Option ℕ → List Datum → Option Value
bound_at place values = option_map value.Bytes (option_and_then bytes_in (present_at values place))

unfoldable pub summary_of : SummaryPlaces → Datum → Result Summary ManifestFault
summary_of places datum = do
  element ← or_fault (fault.Kind id_of.partitions) (present_in datum)
  contains_null ← or_fault (fault.Kind id_of.contains_null) (option_and_then boolean_in (present (values_of element) places.contains_null))
  Ok (record { contains_null = contains_null; lower = bound_at places.lower (values_of element); upper = bound_at places.upper (values_of element) })

-- the summaries, behind those that are read
unfoldable pub summaries_from : SummaryPlaces → List Summary → List Datum → Result (List Summary) ManifestFault
summaries_from places earlier [] = Ok earlier
summaries_from places earlier (datum ∷ datums) = summary_of places datum >>= λ summary. summaries_from places (earlier ++ summary ∷ []) datums

-- what each row has
unfoldable pub row_head : RowPlaces → List Datum → Result RowHead ManifestFault
row_head places values = do
  path ← needed_text id_of.manifest_path places.path values
  spec ← needed_int id_of.partition_spec_id places.spec values
  number ← needed_int id_of.manifest_content places.content values
  content ← content_of number
  seq ← needed_long id_of.manifest_sequence_number places.seq values
  min_seq ← needed_long id_of.min_sequence_number places.min_seq values
  snapshot ← needed_long id_of.added_snapshot_id places.snapshot values
  Ok (record { path = path; spec = spec; content = content; seq = seq; min_seq = min_seq; snapshot = snapshot })

-- the row, with what it may lack
abbrev pub whole_row : RowPlaces → List Datum → RowHead → List Summary → ManifestRow
whole_row places values head partitions = record {
  manifest_path = head.path;
  manifest_length = option_and_then long_in (present_at values places.file_length);
  partition_spec_id = head.spec;
  content = head.content;
  sequence_number = head.seq;
  min_sequence_number = head.min_seq;
  added_snapshot_id = head.snapshot;
  added_files_count = file_count places.added_files values;
  existing_files_count = file_count places.existing_files values;
  deleted_files_count = file_count places.deleted_files values;
  added_rows_count = row_count places.added_rows values;
  existing_rows_count = row_count places.existing_rows values;
  deleted_rows_count = row_count places.deleted_rows values;
  partitions = partitions;
}

unfoldable pub row_of : RowPlaces → List Datum → Result ManifestRow ManifestFault
row_of places values = do
  head ← row_head places values
  partitions ← summaries_from places.summaries [] (items_at values places.summaries.place)
  _ ← fault_if (fault.Key id_of.manifest_key_metadata) (is_some (present_at values places.key))
  Ok (whole_row places values head partitions)

-- the rows that these records are, behind those that are read
unfoldable pub rows_from : RowPlaces → List ManifestRow → List Datum → Result (List ManifestRow) ManifestFault
rows_from places earlier [] = Ok earlier
rows_from places earlier (datum ∷ datums) = row_of places (values_of datum) >>= λ row. rows_from places (earlier ++ row ∷ []) datums

unfoldable pub rows_of_list : List ℕ → Result (List ManifestRow) ManifestFault
rows_of_list bytes = do
  container ← fault_as fault.Container (container_of bytes)
  places ← row_places (fields_of container.schema)
  rows_from places [] container.datums
