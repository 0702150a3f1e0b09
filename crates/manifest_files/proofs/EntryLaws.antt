-- Entries that are read are of their spec.
use Rattle.std.proofs.Common.{◌≡◌, ℕ, ℤ, pos, nat_lt, Bool, true, false, cond, List, [], ◌∷◌, ◌++◌, Option, Some, None, option_and_then, Result, Ok, Err, refl, sym, ap, ◌∙◌, append_assoc, subst}
use Rattle.std.specs.Prelude.{⊤}
use Rattle.std.specs.List.{list_all}
use Rattle.std.specs.Ordering.{int_eq}
use Rattle.std.proofs.lemmas.Cmp.{int_eq_equiv}
use Rattle.std.proofs.lemmas.List.{append-nil}
use Rattle.std.proofs.lemmas.List.Folds.{list_all-append}
use Rattle.plain_types.specs.Steps.{◌>>=◌, or_fault, by_option, fault_as}
use Rattle.row_values.specs.declared.kind.Kind.{Kind}
use Rattle.row_values.specs.declared.schema.Column.{Column}
use Rattle.row_values.specs.declared.schema.TableSchema.{TableSchema}
use Rattle.row_values.specs.declared.partition.PartField.{PartField}
use Rattle.row_values.specs.declared.partition.Spec.{Spec}
use Rattle.row_values.specs.declared.value.Value.{Value}
use Rattle.row_values.specs.declared.value.Value.TheVariants as value
use Rattle.row_values.specs.Rows.{is_value}
use Rattle.avro_binary.specs.declared.datum.Datum.{Datum, out-Datum}
use Rattle.avro_binary.specs.declared.schema.Field.{Field}
use Rattle.kind_values.specs.KindValues.{of_kind}
use Rattle.avro_rows.specs.DatumValue.{content_of, value_of}
use Rattle.avro_container.specs.Container.{container_of}
use Rattle.avro_rows.specs.Rows.{values_of}
use Rattle.avro_rows.specs.Sources.{fields_of}
use Rattle.plain_types.proofs.CallerLemmas.{two_steps, one_value}
use Rattle.manifest_files.specs.declared.entry.Entry.{Entry}
use Rattle.manifest_files.specs.declared.entry.FileParts.{FileParts}
use Rattle.manifest_files.specs.declared.known_column.KnownColumn.{KnownColumn}
use Rattle.manifest_files.specs.declared.manifest_fault.ManifestFault.{ManifestFault}
use Rattle.manifest_files.specs.declared.manifest_fault.ManifestFault.TheVariants as fault
use Rattle.manifest_files.specs.declared.manifest_row.ManifestRow.{ManifestRow}
use Rattle.manifest_files.specs.declared.entry.Content.{Content}
use Rattle.manifest_files.specs.declared.places.PairPlaces.{PairPlaces}
use Rattle.manifest_files.specs.declared.places.PartPlace.{PartPlace}
use Rattle.manifest_files.specs.declared.places.FilePlaces.{FilePlaces}
use Rattle.manifest_files.specs.declared.places.EntryPlaces.{EntryPlaces}
use Rattle.manifest_files.specs.PartitionKinds.{kind_of_field, carries_part}
use Rattle.manifest_files.specs.declared.field_type.FieldType.TheVariants as type
use Rattle.manifest_files.specs.Places.{field_at, needed, optional, optional_items, fields_under, pairs, part_place, part_places, file_places, entry_places}
use Rattle.manifest_files.specs.Datums.{present, present_at, int_in, text_in, items_at, as_text}
use Rattle.manifest_files.specs.Inheritance.{numbered}
use Rattle.manifest_files.specs.Needed.{needed_text, needed_count}
use Rattle.manifest_files.specs.Statistics.{known_columns, tells, stats_from}
use Rattle.manifest_files.specs.Entries.{content_at, format_at, whole_maps, ids_from, part_value, part_values, partition_at, file_parts, status_of, status_at, raw_numbers, allowed, whole_entry, entry_of, entries_from, entries_of}
use Rattle.manifest_files.specs.Sound.{is_part, are_parts, rises, are_stats, is_entry, AreEntries}
use Rattle.manifest_files.proofs.StatisticsLaws.{both, IsRising, known_rise, stats_rise, stats_tell}

-- ---- a place is its field's

placed_by : (columns : List Column) (part : PartField) (place : ℕ) (b : Bool) (found : PartPlace)
    → cond b (Ok (record { field = part.field; kind = kind_of_field columns part; place = place }))
    (Err (fault.Kind part.field)) ≡ Ok found → found.kind ≡ kind_of_field columns part
placed_by columns part place true found h = cc
placed_by columns part place false found h = absurd cc

part_is : (columns : List Column) (fields : List Field) (part : PartField) (found : PartPlace)
    → part_place columns fields part ≡ Ok found → found.kind ≡ kind_of_field columns part
part_is columns fields part found h =
    let s = two_steps (or_fault (fault.Field part.field) (field_at part.field fields)) _ found h in
    placed_by columns part s.0.0 (carries_part (kind_of_field columns part) s.0.1.schema) found s.2

-- the places of the fields, one for each
abbrev pub AreOf : List Column → List PartField → List PartPlace → Type 0
AreOf columns [] [] = Unit {0}
AreOf columns (part ∷ parts) (place ∷ places) = (place.kind ≡ kind_of_field columns part) × AreOf columns parts places
AreOf columns [] (place ∷ places) = ⊥
AreOf columns (part ∷ parts) [] = ⊥

parts_are : (columns : List Column) (fields : List Field) (earlier : List PartPlace) (parts : List PartField)
    (places : List PartPlace) → part_places columns fields earlier parts ≡ Ok places → (found : List PartPlace)
    × (places ≡ earlier ++ found) × AreOf columns parts found
unfolding part_places
parts_are columns fields earlier [] places h = ([], one_value places earlier (Ok earlier) h refl ∙ sym (append-nil earlier), tt)
parts_are columns fields earlier (part ∷ parts) places h =
    let s = two_steps (part_place columns fields part) (λ place. part_places columns fields (earlier ++ place ∷ []) parts) places h in
    let rest = parts_are columns fields (earlier ++ s.0 ∷ []) parts places s.2 in
    (s.0 ∷ rest.0, rest.1 ∙ append_assoc earlier (s.0 ∷ []) rest.0, (part_is columns fields part s.0 s.1, rest.2))

-- ---- partition values

of_kind_by : (k : Kind) (w v : Value) (b : Bool) → is_value k w ≡ b → cond b (Some w) None ≡ Some v → is_value k v ≡ true
of_kind_by k w v true e h =
    let same : v ≡ w = cc in
    rw same e
of_kind_by k w v false e h = absurd cc

value_by : (k : Kind) (o : Option Value) (v : Value) → option_and_then (of_kind k) o ≡ Some v → is_value k v ≡ true
value_by k (Some w) v h = of_kind_by k w v (is_value k w) refl h
value_by k None v h = absurd cc

some_value : (k : Kind) (v : Value) → is_value k v ≡ true → is_part (Some k) v ≡ true
some_value k value.Null h = refl
some_value k (value.Bool b) h = h
some_value k (value.Int n) h = h
some_value k (value.Long n) h = h
some_value k (value.Date n) h = h
some_value k (value.Timestamp n) h = h
some_value k (value.Decimal n s) h = h
some_value k (value.Text bytes) h = h
some_value k (value.Bytes bytes) h = h

known_by : (k : Kind) (e : ManifestFault) (o : Option Value) (v : Value) → ((w : Value) → o ≡ Some w → is_value k w ≡ true)
    → or_fault e o ≡ Ok v → is_part (Some k) v ≡ true
known_by k e (Some w) v h g =
    let same : v ≡ w = cc in
    rw same (some_value k w (h w refl))
known_by k e None v h g = absurd cc

present_by : (k : Option Kind) (field : ℤ) (datum : Datum) (v : Value)
    → or_fault (fault.Kind field) (option_and_then (λ given. value_of given datum) k) ≡ Ok v → is_part k v ≡ true
present_by (Some k) field datum v h = known_by k (fault.Kind field) (value_of k datum) v (λ w. value_by k (content_of k (out-Datum datum)) w) h
present_by None field datum v h = absurd cc

value_at_by : (k : Option Kind) (field : ℤ) (o : Option Datum) (v : Value)
    → by_option o (λ datum. or_fault (fault.Kind field) (option_and_then (λ given. value_of given datum) k))
    (Ok value.Null) ≡ Ok v → is_part k v ≡ true
value_at_by k field (Some datum) v h = present_by k field datum v h
value_at_by k field None v h =
    let same : v ≡ value.Null = cc in
    rw same refl

value_is : (columns : List Column) (part : PartField) (place : PartPlace) (values : List Datum) (v : Value)
    → place.kind ≡ kind_of_field columns part → part_value values place ≡ Ok v → is_part (kind_of_field columns part) v ≡ true
value_is columns part place values v is h = ap (λ k. is_part k v) (sym is) ∙ value_at_by place.kind place.field (present values place.place) v h

partition_is : (columns : List Column) (values : List Datum) (earlier : List Value) (parts : List PartField)
    (places : List PartPlace) (all : List Value) → AreOf columns parts places → part_values values earlier places ≡ Ok all
    → (more : List Value) × (all ≡ earlier ++ more) × (are_parts columns parts more ≡ true)
unfolding part_values
partition_is columns values earlier [] [] all are h = ([], one_value all earlier (Ok earlier) h refl ∙ sym (append-nil earlier), refl)
partition_is columns values earlier [] (place ∷ places) all are h = absurd are
partition_is columns values earlier (part ∷ parts) [] all are h = absurd are
partition_is columns values earlier (part ∷ parts) (place ∷ places) all are h =
    let s = two_steps (part_value values place) (λ v. part_values values (earlier ++ v ∷ []) places) all h in
    let rest = partition_is columns values (earlier ++ s.0 ∷ []) parts places all are.1 s.2 in
    (s.0 ∷ rest.0, rest.1 ∙ append_assoc earlier (s.0 ∷ []) rest.0, both (is_part (kind_of_field columns part) s.0) (are_parts columns parts rest.0) (value_is columns part place values s.0 are.0 s.1) rest.2)

pub partition_of : (columns : List Column) (parts : List PartField) (places : FilePlaces) (values : List Datum) (all : List Value)
    → AreOf columns parts places.part_fields → partition_at places values ≡ Ok all → are_parts columns parts all ≡ true
unfolding partition_at
partition_of columns parts places values all are h =
    let s = two_steps (or_fault (fault.Kind (pos 102)) (present values places.partition)) _ all h in
    let p = partition_is columns _ [] parts places.part_fields all are s.2 in
    ap (are_parts columns parts) p.1 ∙ p.2

-- ---- files

-- the partition is that of the step that reads it
file_rest : (partitions : Result (List Value) ManifestFault) (counts sizes : Result ℕ ManifestFault)
    (whole : Result ⊤ ManifestFault) (all_ids : Result (List ℤ) ManifestFault) (content : Content) (path : List ℕ)
    (is_avro : Bool) (referenced : Option (List ℕ)) (parts : FileParts)
    → (partitions >>= λ partition. counts >>= λ count. sizes >>= λ size. whole >>= λ done. all_ids >>= λ equality_ids. Ok
    (record { content = content; path = path; is_avro = is_avro; partition = partition; count = count; size = size; equality_ids = equality_ids; referenced = referenced })) ≡ Ok parts
    → partitions ≡ Ok parts.partition
file_rest (Ok partition) (Ok count) (Ok size) (Ok done) (Ok ids) content path is_avro referenced parts h = cc
file_rest (Err e) counts sizes whole all_ids content path is_avro referenced parts h = absurd cc
file_rest (Ok partition) (Err e) sizes whole all_ids content path is_avro referenced parts h = absurd cc
file_rest (Ok partition) (Ok count) (Err e) whole all_ids content path is_avro referenced parts h = absurd cc
file_rest (Ok partition) (Ok count) (Ok size) (Err e) all_ids content path is_avro referenced parts h = absurd cc
file_rest (Ok partition) (Ok count) (Ok size) (Ok done) (Err e) content path is_avro referenced parts h = absurd cc

file_partition : (places : FilePlaces) (values : List Datum) (parts : FileParts) → file_parts places values ≡ Ok parts
    → partition_at places values ≡ Ok parts.partition
unfolding file_parts
file_partition places values parts h =
    let content = two_steps (content_at places.content values) _ parts h in
    let path = two_steps (needed_text (pos 100) places.path values) _ parts content.2 in
    let format = two_steps (format_at places.format values) _ parts path.2 in
    file_rest (partition_at places values) (needed_count (pos 103) places.count values) (needed_count (pos 104) places.size values)
    (whole_maps places values) (ids_from [] (items_at values places.equality_ids)) content.0 path.0 format.0
    (option_and_then as_text (option_and_then text_in (present_at values places.referenced))) parts format.2

fields_rest : (founds : Result (List PartPlace) ManifestFault) (counts sizes : Result ℕ ManifestFault)
    (all_values all_nulls lowers uppers : Result PairPlaces ManifestFault)
    (keys all_ids references : Result (Option ℕ) ManifestFault) (content : Option ℕ) (path format partition : ℕ)
    (places : FilePlaces)
    → (founds >>= λ part_fields. counts >>= λ count. sizes >>= λ size. all_values >>= λ values. all_nulls >>= λ nulls. lowers >>= λ lower. uppers >>= λ upper. keys >>= λ key. all_ids >>= λ equality_ids. references >>= λ referenced. Ok
    (record { content = content; path = path; format = format; partition = partition; part_fields = part_fields; count = count; size = size; values = values; nulls = nulls; lower = lower; upper = upper; key = key; equality_ids = equality_ids; referenced = referenced })) ≡ Ok places
    → founds ≡ Ok places.part_fields
fields_rest (Ok found) (Ok count) (Ok size) (Ok values) (Ok nulls) (Ok lower) (Ok upper) (Ok key) (Ok ids) (Ok referenced) content path format partition places h = cc
fields_rest (Err e) counts sizes all_values all_nulls lowers uppers keys all_ids references content path format partition places h = absurd cc
fields_rest (Ok found) (Err e) sizes all_values all_nulls lowers uppers keys all_ids references content path format partition places h = absurd cc
fields_rest (Ok found) (Ok count) (Err e) all_values all_nulls lowers uppers keys all_ids references content path format partition places h = absurd cc
fields_rest (Ok found) (Ok count) (Ok size) (Err e) all_nulls lowers uppers keys all_ids references content path format partition places h = absurd cc
fields_rest (Ok found) (Ok count) (Ok size) (Ok values) (Err e) lowers uppers keys all_ids references content path format partition places h = absurd cc
fields_rest (Ok found) (Ok count) (Ok size) (Ok values) (Ok nulls) (Err e) uppers keys all_ids references content path format partition places h = absurd cc
fields_rest (Ok found) (Ok count) (Ok size) (Ok values) (Ok nulls) (Ok lower) (Err e) keys all_ids references content path format partition places h = absurd cc
fields_rest (Ok found) (Ok count) (Ok size) (Ok values) (Ok nulls) (Ok lower) (Ok upper) (Err e) all_ids references content path format partition places h = absurd cc
fields_rest (Ok found) (Ok count) (Ok size) (Ok values) (Ok nulls) (Ok lower) (Ok upper) (Ok key) (Err e) references content path format partition places h = absurd cc
fields_rest (Ok found) (Ok count) (Ok size) (Ok values) (Ok nulls) (Ok lower) (Ok upper) (Ok key) (Ok ids) (Err e) content path format partition places h = absurd cc

file_fields : (columns : List Column) (parts : List PartField) (fields : List Field) (places : FilePlaces)
    → file_places columns parts fields ≡ Ok places → AreOf columns parts places.part_fields
unfolding file_places
file_fields columns parts fields places h =
    let content = two_steps (optional type.Int (pos 134) fields) _ places h in
    let path = two_steps (needed type.Text (pos 100) fields) _ places content.2 in
    let format = two_steps (needed type.Text (pos 101) fields) _ places path.2 in
    let partition = two_steps (needed type.Record (pos 102) fields) _ places format.2 in
    let found = fields_rest (part_places columns (fields_under (pos 102) fields) [] parts) (needed type.Long (pos 103) fields)
    (needed type.Long (pos 104) fields) (pairs type.Long (pos 109) (pos 119) (pos 120) fields)
    (pairs type.Long (pos 110) (pos 121) (pos 122) fields) (pairs type.Bytes (pos 125) (pos 126) (pos 127) fields)
    (pairs type.Bytes (pos 128) (pos 129) (pos 130) fields) (optional type.Bytes (pos 131) fields) (optional_items type.Int (pos 135) fields)
    (optional type.Text (pos 143) fields) content.0 path.0 format.0 partition.0 places partition.2 in
    let are = parts_are columns (fields_under (pos 102) fields) [] parts places.part_fields found in
    subst (λ (ps : List PartPlace). AreOf columns parts ps) (sym are.1) are.2

entry_rest : (files : Result FilePlaces ManifestFault) (status data_file : ℕ) (snapshot seq file_seq : Option ℕ)
    (places : EntryPlaces)
    → (files >>= λ file. Ok (record { status = status; snapshot = snapshot; seq = seq; file_seq = file_seq; data_file = data_file; file = file })) ≡ Ok places
    → files ≡ Ok places.file
entry_rest (Ok file) status data_file snapshot seq file_seq places h = cc
entry_rest (Err e) status data_file snapshot seq file_seq places h = absurd cc

entry_fields : (columns : List Column) (parts : List PartField) (fields : List Field) (places : EntryPlaces)
    → entry_places columns parts fields ≡ Ok places → AreOf columns parts places.file.part_fields
unfolding entry_places
entry_fields columns parts fields places h =
    let status = two_steps (needed type.Int (pos 0) fields) _ places h in
    let snapshot = two_steps (optional type.Long (pos 1) fields) _ places status.2 in
    let seq = two_steps (optional type.Long (pos 3) fields) _ places snapshot.2 in
    let file_seq = two_steps (optional type.Long (pos 4) fields) _ places seq.2 in
    let data_file = two_steps (needed type.Record (pos 2) fields) _ places file_seq.2 in
    file_fields columns parts (fields_under (pos 2) fields) places.file (entry_rest (file_places columns parts (fields_under (pos 2) fields)) status.0 data_file.0 snapshot.0 seq.0 file_seq.0 places data_file.2)

-- ---- entries

status_by : (a b c : Bool) (n : ℤ) (status : ℕ) → cond a (Ok 0) (cond b (Ok 1) (cond c (Ok 2) (Err (fault.Status n)))) ≡ Ok status → nat_lt status 3 ≡ true
status_by true b c n status h =
    let same : status ≡ 0 = cc in
    rw same refl
status_by false true c n status h =
    let same : status ≡ 1 = cc in
    rw same refl
status_by false false true n status h =
    let same : status ≡ 2 = cc in
    rw same refl
status_by false false false n status h = absurd cc

status_is : (place : ℕ) (values : List Datum) (status : ℕ) → status_at place values ≡ Ok status → nat_lt status 3 ≡ true
status_is place values status h =
    let s = two_steps (or_fault (fault.Kind (pos 0)) (option_and_then int_in (present values place))) status_of status h in
    status_by (int_eq s.0 (pos 0)) (int_eq s.0 (pos 1)) (int_eq s.0 (pos 2)) s.0 status s.2

written_by : (allow : Result ⊤ ManifestFault) (written entry : Entry) → (allow >>= λ done. Ok written) ≡ Ok entry → entry ≡ written
written_by (Ok done) written entry h = cc
written_by (Err e) written entry h = absurd cc

entry_is : (spec : Spec) (schema : TableSchema) (places : EntryPlaces) (row : ManifestRow) (columns : List KnownColumn)
    (datum : Datum) (entry : Entry) → IsRising columns → AreOf schema.columns spec.fields places.file.part_fields
    → entry_of places row spec.id columns datum ≡ Ok entry → is_entry spec schema entry ≡ true
unfolding entry_of
entry_is spec schema places row columns datum entry up are h =
    let status = two_steps (status_at places.status (values_of datum)) _ entry h in
    let numbers = two_steps (numbered row (raw_numbers places status.0 (values_of datum))) _ entry status.2 in
    let file = two_steps (or_fault (fault.Kind (pos 2)) (present (values_of datum) places.data_file)) _ entry numbers.2 in
    let parts = two_steps (file_parts places.file (values_of file.0)) _ entry file.2 in
    let same = written_by (allowed status.0 places.file parts.0 (values_of file.0)) (whole_entry status.0 numbers.0 spec.id parts.0 (record { columns = stats_from places.file (values_of file.0) [] columns })) entry parts.2 in
    let partition : are_parts schema.columns spec.fields parts.0.partition ≡ true = partition_of schema.columns spec.fields places.file (values_of file.0) parts.0.partition are (file_partition places.file (values_of file.0) parts.0 parts.1) in
    let told = stats_from places.file (values_of file.0) [] columns in
    let stats : are_stats told ≡ true = both (rises told) (list_all tells told) (stats_rise places.file (values_of file.0) columns up) (stats_tell places.file (values_of file.0) columns) in
    ap (is_entry spec schema) same ∙ both (nat_lt status.0 3) _ (status_is places.status (values_of datum) status.0 status.1) (both (int_eq spec.id spec.id) _ (int_eq_equiv.refl spec.id) (both _ _ partition stats))

entries_stand : (spec : Spec) (schema : TableSchema) (places : EntryPlaces) (row : ManifestRow) (columns : List KnownColumn)
    (earlier : List Entry) (datums : List Datum) (entries : List Entry) → IsRising columns
    → AreOf schema.columns spec.fields places.file.part_fields → list_all (is_entry spec schema) earlier ≡ true
    → entries_from places row spec.id columns earlier datums ≡ Ok entries → list_all (is_entry spec schema) entries ≡ true
unfolding entries_from
entries_stand spec schema places row columns earlier [] entries up are so_far h = rw (one_value entries earlier (Ok earlier) h refl) so_far
entries_stand spec schema places row columns earlier (datum ∷ datums) entries up are so_far h =
    let s = two_steps (entry_of places row spec.id columns datum) (λ entry. entries_from places row spec.id columns (earlier ++ entry ∷ []) datums) entries h in
    let one : is_entry spec schema s.0 ≡ true = entry_is spec schema places row columns datum s.0 up are s.1 in
    let more : list_all (is_entry spec schema) (earlier ++ s.0 ∷ []) ≡ true = list_all-append (is_entry spec schema) earlier (s.0 ∷ []) ∙ both _ _ so_far (both _ _ one refl) in
    entries_stand spec schema places row columns (earlier ++ s.0 ∷ []) datums entries up are more s.2

pub entries_are : (bytes : List ℕ) (row : ManifestRow) (spec : Spec) (schema : TableSchema) (entries : List Entry)
    → entries_of bytes row spec schema ≡ Ok entries → AreEntries spec schema entries
unfolding entries_of
entries_are bytes row spec schema entries h =
    let container = two_steps (fault_as fault.Container (container_of bytes)) _ entries h in
    let places = two_steps (entry_places schema.columns spec.fields (fields_of container.0.schema)) _ entries container.2 in
    entries_stand spec schema places.0 row (known_columns schema.columns) [] container.0.datums entries (known_rise schema.columns) (entry_fields schema.columns spec.fields (fields_of container.0.schema) places.0 places.1) refl places.2
