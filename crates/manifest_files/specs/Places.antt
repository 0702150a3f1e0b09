-- Where the fields of a manifest stand in its records (Iceberg specification, "Manifests" and "Manifest Lists"). A field
-- is found by its id, never by its name or place; of two with one id the first counts.
use Rattle.std.specs.Prelude.{ℕ, ◌+◌, ℤ, List, [], ◌∷◌, ◌++◌, Option, Some, None, option_map, option_and_then, Result, Ok, Err, if◌then◌else◌}
use Rattle.plain_types.specs.Steps.{◌>>=◌, or_fault, by_option}
use Rattle.row_values.specs.declared.schema.Column.{Column}
use Rattle.row_values.specs.declared.partition.PartField.{PartField}
use Rattle.avro_binary.specs.declared.schema.Field.{Field}
use Rattle.avro_rows.specs.Sources.{has_id}
use Rattle.manifest_files.specs.declared.field_type.FieldType.{FieldType}
use Rattle.manifest_files.specs.declared.field_type.FieldType.TheVariants as type
use Rattle.manifest_files.specs.declared.manifest_fault.ManifestFault.{ManifestFault}
use Rattle.manifest_files.specs.declared.manifest_fault.ManifestFault.TheVariants as fault
use Rattle.manifest_files.specs.declared.places.PairPlaces.{PairPlaces}
use Rattle.manifest_files.specs.declared.places.PartPlace.{PartPlace}
use Rattle.manifest_files.specs.declared.places.FilePlaces.{FilePlaces}
use Rattle.manifest_files.specs.declared.places.EntryPlaces.{EntryPlaces}
use Rattle.manifest_files.specs.declared.places.SummaryPlaces.{SummaryPlaces}
use Rattle.manifest_files.specs.declared.places.RowPlaces.{RowPlaces}
use Rattle.manifest_files.specs.FieldTypes.{has_type, has_items, record_fields, element_fields}
use Rattle.manifest_files.specs.PartitionKinds.{kind_of_field, carries_part}
use Rattle.manifest_files.specs.FieldIds as id_of

-- the first field with the id, and its place
unfoldable pub field_from : ℤ → ℕ → List Field → Option (ℕ × Field)
field_from id place [] = None
field_from id place (field ∷ fields) = if has_id id field then Some (place, field) else field_from id (place + 1) fields

abbrev pub field_at : ℤ → List Field → Option (ℕ × Field)
field_at id fields = field_from id 0 fields

abbrev pub typed : FieldType → ℤ → ℕ × Field → Result ℕ ManifestFault
typed t id found = if has_type t found.1.schema then Ok found.0 else Err (fault.Kind id)

-- the place of a field that every file has
abbrev pub needed : FieldType → ℤ → List Field → Result ℕ ManifestFault
needed t id fields = or_fault (fault.Field id) (field_at id fields) >>= typed t id

-- the place of a field that a file may lack
abbrev pub optional : FieldType → ℤ → List Field → Result (Option ℕ) ManifestFault
optional t id fields = by_option (field_at id fields) (λ found. typed t id found >>= λ place. Ok (Some place)) (Ok None)

-- the place of an array of this type
abbrev pub optional_items : FieldType → ℤ → List Field → Result (Option ℕ) ManifestFault
optional_items t id fields = by_option (field_at id fields) (λ found. if has_items t found.1.schema then Ok (Some found.0) else Err (fault.Kind id)) (Ok None)

-- the fields of the record, or of the array's records, that stand under the id
abbrev pub fields_under : ℤ → List Field → List Field
fields_under id fields = by_option (field_at id fields) (λ found. record_fields found.1.schema) []

abbrev pub fields_of_items : ℤ → List Field → List Field
fields_of_items id fields = by_option (field_at id fields) (λ found. element_fields found.1.schema) []

abbrev pub typed_at : FieldType → ℤ → List Field → Option ℕ
typed_at t id fields = option_and_then (λ found. if has_type t found.1.schema then Some found.0 else None) (field_at id fields)

-- no map
abbrev pub no_pairs : PairPlaces
no_pairs = record { place = None; key = 0; value = 0 }

abbrev pub pairs_in : FieldType → ℤ → ℤ → ℕ → List Field → Option PairPlaces
pairs_in t key value place fields = option_and_then (λ k. option_map (λ v. record { place = Some place; key = k; value = v }) (typed_at t value fields)) (typed_at type.Int key fields)

-- A map with whole numbers as keys is an array of records with a key and a value.
abbrev pub pairs : FieldType → ℤ → ℤ → ℤ → List Field → Result PairPlaces ManifestFault
pairs t id key value fields = by_option (field_at id fields) (λ found. or_fault (fault.Kind id) (pairs_in t key value found.0 (element_fields found.1.schema))) (Ok no_pairs)

-- the place of a partition field, whose type carries its kind
abbrev pub part_place : List Column → List Field → PartField → Result PartPlace ManifestFault
part_place columns fields part = or_fault (fault.Field part.field) (field_at part.field fields) >>= λ found. if carries_part (kind_of_field columns part) found.1.schema then Ok (record { field = part.field; kind = kind_of_field columns part; place = found.0 }) else Err (fault.Kind part.field)

-- the places of the fields of a spec, behind those that are found
unfoldable pub part_places : List Column → List Field → List PartPlace → List PartField → Result (List PartPlace) ManifestFault
part_places columns fields earlier [] = Ok earlier
part_places columns fields earlier (part ∷ parts) = part_place columns fields part >>= λ place. part_places columns fields (earlier ++ place ∷ []) parts

-- the fields of `data_file`
unfoldable pub file_places : List Column → List PartField → List Field → Result FilePlaces ManifestFault
file_places columns parts fields = do
  content ← optional type.Int id_of.content fields
  path ← needed type.Text id_of.file_path fields
  format ← needed type.Text id_of.file_format fields
  partition ← needed type.Record id_of.partition fields
  part_fields ← part_places columns (fields_under id_of.partition fields) [] parts
  count ← needed type.Long id_of.record_count fields
  size ← needed type.Long id_of.file_size_in_bytes fields
  values ← pairs type.Long id_of.value_counts id_of.value_counts_key id_of.value_counts_value fields
  nulls ← pairs type.Long id_of.null_value_counts id_of.null_value_counts_key id_of.null_value_counts_value fields
  lower ← pairs type.Bytes id_of.lower_bounds id_of.lower_bounds_key id_of.lower_bounds_value fields
  upper ← pairs type.Bytes id_of.upper_bounds id_of.upper_bounds_key id_of.upper_bounds_value fields
  key ← optional type.Bytes id_of.key_metadata fields
  equality_ids ← optional_items type.Int id_of.equality_ids fields
  referenced ← optional type.Text id_of.referenced_data_file fields
  Ok (record { content = content; path = path; format = format; partition = partition; part_fields = part_fields; count = count; size = size; values = values; nulls = nulls; lower = lower; upper = upper; key = key; equality_ids = equality_ids; referenced = referenced })

-- the fields of `manifest_entry`
unfoldable pub entry_places : List Column → List PartField → List Field → Result EntryPlaces ManifestFault
entry_places columns parts fields = do
  status ← needed type.Int id_of.status fields
  snapshot ← optional type.Long id_of.snapshot_id fields
  seq ← optional type.Long id_of.sequence_number fields
  file_seq ← optional type.Long id_of.file_sequence_number fields
  data_file ← needed type.Record id_of.data_file fields
  file ← file_places columns parts (fields_under id_of.data_file fields)
  Ok (record { status = status; snapshot = snapshot; seq = seq; file_seq = file_seq; data_file = data_file; file = file })

abbrev pub no_summaries : SummaryPlaces
no_summaries = record { place = None; contains_null = 0; lower = None; upper = None }

-- the fields of `field_summary`
unfoldable pub summary_fields : ℕ → List Field → Result SummaryPlaces ManifestFault
summary_fields place fields = do
  contains_null ← needed type.Boolean id_of.contains_null fields
  lower ← optional type.Bytes id_of.lower_bound fields
  upper ← optional type.Bytes id_of.upper_bound fields
  Ok (record { place = Some place; contains_null = contains_null; lower = lower; upper = upper })

abbrev pub summaries_at : Option ℕ → List Field → Result SummaryPlaces ManifestFault
summaries_at None fields = Ok no_summaries
summaries_at (Some place) fields = summary_fields place fields

unfoldable pub summary_places : List Field → Result SummaryPlaces ManifestFault
summary_places fields = optional_items type.Record id_of.partitions fields >>= λ place. summaries_at place (fields_of_items id_of.partitions fields)

-- the fields of `manifest_file`
unfoldable pub row_places : List Field → Result RowPlaces ManifestFault
row_places fields = do
  path ← needed type.Text id_of.manifest_path fields
  file_length ← optional type.Long id_of.manifest_length fields
  spec ← needed type.Int id_of.partition_spec_id fields
  content ← needed type.Int id_of.manifest_content fields
  seq ← needed type.Long id_of.manifest_sequence_number fields
  min_seq ← needed type.Long id_of.min_sequence_number fields
  snapshot ← needed type.Long id_of.added_snapshot_id fields
  added_files ← optional type.Int id_of.added_files_count fields
  existing_files ← optional type.Int id_of.existing_files_count fields
  deleted_files ← optional type.Int id_of.deleted_files_count fields
  added_rows ← optional type.Long id_of.added_rows_count fields
  existing_rows ← optional type.Long id_of.existing_rows_count fields
  deleted_rows ← optional type.Long id_of.deleted_rows_count fields
  summaries ← summary_places fields
  key ← optional type.Bytes id_of.manifest_key_metadata fields
  Ok (record {
    path = path;
    file_length = file_length;
    spec = spec;
    content = content;
    seq = seq;
    min_seq = min_seq;
    snapshot = snapshot;
    added_files = added_files;
    existing_files = existing_files;
    deleted_files = deleted_files;
    added_rows = added_rows;
    existing_rows = existing_rows;
    deleted_rows = deleted_rows;
    summaries = summaries;
    key = key;
  })
