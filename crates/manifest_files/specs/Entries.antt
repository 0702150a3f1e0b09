-- The entries of a manifest, and the first fault in their order (Iceberg specification, "Manifests"): the container's,
-- then those of the fields' types in the order of the fields, then entry by entry. In an entry its status comes first,
-- then values in the order of the fields, then a live file of another format, key metadata, and a map that has a key
-- twice.
use Rattle.std.specs.Prelude.{ℕ, nat_lt, ℤ, pos, Bool, false, not, ◌&&◌, List, [], ◌∷◌, ◌++◌, Option, is_some, option_map, option_and_then, Result, Ok, Err, ⊤, if◌then◌else◌}
use Rattle.std.specs.Ordering.{int_eq}
use Rattle.std.specs.Char.{eq_ignore_ascii_case}
use Rattle.plain_types.specs.Steps.{◌>>=◌, or_fault, fault_if, fault_as, by_option}
use Rattle.row_values.specs.declared.value.Value.{Value}
use Rattle.row_values.specs.declared.value.Value.TheVariants as value
use Rattle.row_values.specs.declared.schema.TableSchema.{TableSchema}
use Rattle.row_values.specs.declared.partition.Spec.{Spec}
use Rattle.kind_values.specs.declared.stats.Stats.{Stats}
use Rattle.avro_binary.specs.declared.datum.Datum.{Datum}
use Rattle.avro_container.specs.Container.{container_of}
use Rattle.avro_rows.specs.DatumValue.{value_of}
use Rattle.avro_rows.specs.Rows.{values_of}
use Rattle.avro_rows.specs.Sources.{fields_of}
use Rattle.manifest_files.specs.declared.entry.Content.{Content}
use Rattle.manifest_files.specs.declared.entry.Content.TheVariants as content
use Rattle.manifest_files.specs.declared.entry.Entry.{Entry}
use Rattle.manifest_files.specs.declared.entry.FileParts.{FileParts}
use Rattle.manifest_files.specs.declared.known_column.KnownColumn.{KnownColumn}
use Rattle.manifest_files.specs.declared.manifest_fault.ManifestFault.{ManifestFault}
use Rattle.manifest_files.specs.declared.manifest_fault.ManifestFault.TheVariants as fault
use Rattle.manifest_files.specs.declared.manifest_row.ManifestRow.{ManifestRow}
use Rattle.manifest_files.specs.declared.numbers.Numbers.{Numbers}
use Rattle.manifest_files.specs.declared.numbers.RawNumbers.{RawNumbers}
use Rattle.manifest_files.specs.declared.places.PairPlaces.{PairPlaces}
use Rattle.manifest_files.specs.declared.places.PartPlace.{PartPlace}
use Rattle.manifest_files.specs.declared.places.FilePlaces.{FilePlaces}
use Rattle.manifest_files.specs.declared.places.EntryPlaces.{EntryPlaces}
use Rattle.manifest_files.specs.Datums.{present, present_at, present_in, int_in, long_in, text_in, items_at, as_text}
use Rattle.manifest_files.specs.Inheritance.{numbered}
use Rattle.manifest_files.specs.Needed.{needed_text, needed_count}
use Rattle.manifest_files.specs.Places.{entry_places}
use Rattle.manifest_files.specs.Statistics.{known_columns, are_pairs, has_twice, stats_from}
use Rattle.manifest_files.specs.FieldIds as id_of

-- ---- single values

-- 0 is an existing file, 1 an added one, 2 a deleted one
abbrev pub status_of : ℤ → Result ℕ ManifestFault
status_of n = if int_eq n (pos 0) then Ok 0 else if int_eq n (pos 1) then Ok 1 else if int_eq n (pos 2) then Ok 2 else Err (fault.Status n)

abbrev pub status_at : ℕ → List Datum → Result ℕ ManifestFault
status_at place values = or_fault (fault.Kind id_of.status) (option_and_then int_in (present values place)) >>= status_of

-- existing or added
abbrev pub is_live : ℕ → Bool
is_live status = nat_lt status 2

-- what the entry itself says of its numbers
abbrev pub raw_numbers : EntryPlaces → ℕ → List Datum → RawNumbers
raw_numbers places status values = record { status = status; snapshot = option_and_then long_in (present_at values places.snapshot); seq = option_and_then long_in (present_at values places.seq); file_seq = option_and_then long_in (present_at values places.file_seq) }

abbrev pub content_of : ℤ → Result Content ManifestFault
content_of n = if int_eq n (pos 0) then Ok content.Data else if int_eq n (pos 1) then Ok content.PositionDeletes else if int_eq n (pos 2) then Ok content.EqualityDeletes else Err (fault.Kind id_of.content)

-- a file is one of data where nothing is said
abbrev pub content_at : Option ℕ → List Datum → Result Content ManifestFault
content_at place values = by_option (option_and_then int_in (present_at values place)) content_of (Ok content.Data)

-- `AVRO`, in any case
abbrev pub is_avro : List ℕ → Bool
is_avro (a ∷ v ∷ r ∷ o ∷ []) = eq_ignore_ascii_case a 65 && eq_ignore_ascii_case v 86 && eq_ignore_ascii_case r 82 && eq_ignore_ascii_case o 79
is_avro _ = false

abbrev pub format_at : ℕ → List Datum → Result Bool ManifestFault
format_at place values = or_fault (fault.Kind id_of.file_format) (option_map is_avro (option_and_then text_in (present values place)))

-- ---- lists of values

-- a partition value of its field's kind, or NULL
abbrev pub part_value : List Datum → PartPlace → Result Value ManifestFault
part_value values part = by_option (present values part.place) (λ datum. or_fault (fault.Kind part.field) (option_and_then (λ k. value_of k datum) part.kind)) (Ok value.Null)

-- the values of these fields, behind those that are read
unfoldable pub part_values : List Datum → List Value → List PartPlace → Result (List Value) ManifestFault
part_values values earlier [] = Ok earlier
part_values values earlier (part ∷ parts) = part_value values part >>= λ v. part_values values (earlier ++ v ∷ []) parts

unfoldable pub partition_at : FilePlaces → List Datum → Result (List Value) ManifestFault
partition_at places values = or_fault (fault.Kind id_of.partition) (present values places.partition) >>= λ datum. part_values (values_of datum) [] places.part_fields

abbrev pub id_in : Datum → Result ℤ ManifestFault
id_in datum = or_fault (fault.Kind id_of.equality_ids) (option_and_then int_in (present_in datum))

-- whole numbers, behind those that are read
unfoldable pub ids_from : List ℤ → List Datum → Result (List ℤ) ManifestFault
ids_from earlier [] = Ok earlier
ids_from earlier (datum ∷ datums) = id_in datum >>= λ id. ids_from (earlier ++ id ∷ []) datums

abbrev pub whole_map : ℤ → PairPlaces → List Datum → Result ⊤ ManifestFault
whole_map id places values = fault_if (fault.Kind id) (not (are_pairs places (items_at values places.place)))

abbrev pub single_keys : ℤ → PairPlaces → List Datum → Result ⊤ ManifestFault
single_keys id places values = fault_if (fault.Twice id) (has_twice places (items_at values places.place))

-- ---- entries

unfoldable pub whole_maps : FilePlaces → List Datum → Result ⊤ ManifestFault
whole_maps places values = do
  _ ← whole_map id_of.value_counts places.values values
  _ ← whole_map id_of.null_value_counts places.nulls values
  _ ← whole_map id_of.lower_bounds places.lower values
  whole_map id_of.upper_bounds places.upper values

-- what the record of a file says, beside its statistics
unfoldable pub file_parts : FilePlaces → List Datum → Result FileParts ManifestFault
file_parts places values = do
  content ← content_at places.content values
  path ← needed_text id_of.file_path places.path values
  is_avro ← format_at places.format values
  partition ← partition_at places values
  count ← needed_count id_of.record_count places.count values
  size ← needed_count id_of.file_size_in_bytes places.size values
  _ ← whole_maps places values
  equality_ids ← ids_from [] (items_at values places.equality_ids)
  Ok (record { content = content; path = path; is_avro = is_avro; partition = partition; count = count; size = size; equality_ids = equality_ids; referenced = option_and_then as_text (option_and_then text_in (present_at values places.referenced)) })

abbrev pub known_format : ℕ → FileParts → Result ⊤ ManifestFault
known_format status parts = fault_if (fault.Format parts.path) (is_live status && not parts.is_avro)

-- what no entry may have: a live file of another format, an encrypted file, a key twice
unfoldable pub allowed : ℕ → FilePlaces → FileParts → List Datum → Result ⊤ ManifestFault
allowed status places parts values = do
  _ ← known_format status parts
  _ ← fault_if (fault.Key id_of.key_metadata) (is_some (present_at values places.key))
  _ ← single_keys id_of.value_counts places.values values
  _ ← single_keys id_of.null_value_counts places.nulls values
  _ ← single_keys id_of.lower_bounds places.lower values
  single_keys id_of.upper_bounds places.upper values

abbrev pub whole_entry : ℕ → Numbers → ℤ → FileParts → Stats → Entry
whole_entry status numbers spec parts stats = record {
  status = status;
  snapshot = numbers.snapshot;
  seq = numbers.seq;
  file_seq = numbers.file_seq;
  content = parts.content;
  path = parts.path;
  spec = spec;
  partition = parts.partition;
  count = parts.count;
  size = parts.size;
  stats = stats;
  equality_ids = parts.equality_ids;
  referenced = parts.referenced;
}

unfoldable pub entry_of : EntryPlaces → ManifestRow → ℤ → List KnownColumn → Datum → Result Entry ManifestFault
entry_of places row spec columns datum = do
  status ← status_at places.status (values_of datum)
  numbers ← numbered row (raw_numbers places status (values_of datum))
  file ← or_fault (fault.Kind id_of.data_file) (present (values_of datum) places.data_file)
  parts ← file_parts places.file (values_of file)
  _ ← allowed status places.file parts (values_of file)
  Ok (whole_entry status numbers spec parts (record { columns = stats_from places.file (values_of file) [] columns }))

-- the entries that these records are, behind those that are read
unfoldable pub entries_from : EntryPlaces → ManifestRow → ℤ → List KnownColumn → List Entry → List Datum → Result (List Entry) ManifestFault
entries_from places row spec columns earlier [] = Ok earlier
entries_from places row spec columns earlier (datum ∷ datums) = entry_of places row spec columns datum >>= λ entry. entries_from places row spec columns (earlier ++ entry ∷ []) datums

-- the entries of a manifest that has this row in its list
unfoldable pub entries_of : List ℕ → ManifestRow → Spec → TableSchema → Result (List Entry) ManifestFault
entries_of bytes row spec schema = do
  container ← fault_as fault.Container (container_of bytes)
  places ← entry_places schema.columns spec.fields (fields_of container.schema)
  entries_from places row spec.id (known_columns schema.columns) [] container.datums
