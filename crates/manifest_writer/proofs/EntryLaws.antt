-- The entries of a manifest that is written are read again.
use Rattle.std.proofs.Common.{◌≡◌, ℕ, ◌-◌, ◌^◌, ◌<◌, ℤ, pos, List, [], ◌∷◌, ◌++◌, map, length, Bool, true, false, cond, not, ◌&&◌, nat_lt, nat_eq, Option, Some, None, option_map, option_and_then, Result, Ok, refl, sym, ap, ◌∙◌, append_assoc, arith}
use Rattle.std.specs.Prelude.{codes}
use Rattle.std.specs.Ordering.{int_eq}
use Rattle.std.specs.List.{AllByRecursion, list_all}
use Rattle.std.proofs.lemmas.List.{append-nil}
use Rattle.std.proofs.lemmas.Int.{ints}
use Rattle.std.proofs.lemmas.Str.{is_utf8-from_IsUtf8}
use Rattle.std.proofs.lemmas.Bool.Decides.{nat_tests}
use Rattle.plain_types.specs.Steps.{◌>>=◌, or_fault, fault_if, fault_as, by_option}
use Rattle.row_values.specs.declared.schema.TableSchema.{TableSchema}
use Rattle.row_values.specs.declared.partition.Spec.{Spec}
use Rattle.kind_values.specs.declared.stats.ColumnStats.{ColumnStats}
use Rattle.avro_binary.specs.declared.datum.Datum.{Datum, out-Datum}
use Rattle.avro_binary.specs.declared.datum.Datum.TheVariants as datum
use Rattle.avro_binary.specs.declared.schema.Schema.{Schema}
use Rattle.avro_binary.proofs.CallerLemmas.{schema_read}
use Rattle.avro_container.specs.declared.container.Container.{Container}
use Rattle.avro_container.specs.Container.{container_of}
use Rattle.avro_container.proofs.CallerLemmas.{text_read_again}
use Rattle.avro_rows.specs.Rows.{values_of}
use Rattle.avro_rows.specs.Sources.{fields_of}
use Rattle.manifest_files.specs.declared.entry.Content.{Content}
use Rattle.manifest_files.specs.declared.entry.Content.TheVariants as content
use Rattle.manifest_files.specs.declared.entry.Entry.{Entry}
use Rattle.manifest_files.specs.declared.entry.FileParts.{FileParts}
use Rattle.manifest_files.specs.declared.manifest_fault.ManifestFault.{ManifestFault}
use Rattle.manifest_files.specs.declared.manifest_fault.ManifestFault.TheVariants as fault
use Rattle.manifest_files.specs.declared.manifest_row.ManifestRow.{ManifestRow}
use Rattle.manifest_files.specs.declared.numbers.Numbers.{Numbers}
use Rattle.manifest_files.specs.declared.numbers.RawNumbers.{RawNumbers}
use Rattle.manifest_files.specs.declared.places.PartPlace.{PartPlace}
use Rattle.manifest_files.specs.Datums.{present, present_in, long_in, text_in, items_level, items_at, as_text, natural_of}
use Rattle.manifest_files.specs.Entries.{status_of, status_at, is_live, raw_numbers, content_of, content_at, is_avro, format_at, part_values, partition_at, id_in, ids_from, whole_map, single_keys, whole_maps, file_parts, known_format, allowed, whole_entry, entry_of, entries_from, entries_of}
use Rattle.manifest_files.specs.Inheritance.{kept, numbered}
use Rattle.manifest_files.specs.Needed.{needed_text, needed_count}
use Rattle.manifest_files.specs.Places.{entry_places}
use Rattle.manifest_files.specs.Sound.{are_parts, rises, are_stats, is_entry}
use Rattle.manifest_files.specs.Statistics.{known_columns, are_pairs, has_twice, tells, stats_from}
use Rattle.manifest_files.proofs.CallerLemmas.{known_rising}
use Rattle.manifest_writer.specs.declared.fact.Fact.{Fact}
use Rattle.manifest_writer.specs.declared.fact.Fact.TheVariants as fact
use Rattle.manifest_writer.specs.EntryTypes.{entry_types}
use Rattle.manifest_writer.specs.EntryDatum.{status_number, content_number, own_number, id_datum, ids_value, number_values, file_values, datum_of_entry, manifest_text, HasFile, IsEntry}
use Rattle.manifest_writer.specs.Facts.{pairs_of}
use Rattle.manifest_writer.specs.PartDatum.{part_datums}
use Rattle.manifest_writer.specs.PartNames.{are_names}
use Rattle.manifest_writer.specs.Readable.{is_written, IsWritableSpec, CanBeWritten, as_read}
use Rattle.manifest_writer.specs.Value.{optional_text, AreUtf8, count_number}
use Rattle.manifest_writer.proofs.PlanTypes.{goes}
use Rattle.manifest_writer.proofs.FactLaws.{pair_places, pairs_are, keys_once, map_items, HasFacts, under_there, stats_again}
use Rattle.row_writer.proofs.CallerLemmas.{first, second, values_is, array_out, text_out}
use Rattle.manifest_writer.proofs.PartLaws.{placed, are_kinds, kinds_sound, parts_again, all_found}
use Rattle.manifest_writer.proofs.EntryFits.{spec_plans, entry_types_is, entries_fit}
use Rattle.manifest_writer.proofs.EntryPlaces.{file_found, entry_found, entry_places_is}
use Rattle.manifest_writer.proofs.EntryText.{entry_has_text, entry_takes_bytes, entry_items_take_bytes}
use Rattle.manifest_writer.proofs.KnownKinds.{known_kinds}
use Rattle.manifest_writer.specs.ManifestMeta.{manifest_meta}
use Rattle.manifest_writer.proofs.ManifestMetas.{are_meta}
use Rattle.manifest_writer.proofs.ValueLaws.{record_there, array_there, null_absent, branch, text_again, int_again, long_again, optional_long_again}
use Rattle.avro_binary.specs.declared.datum.Datum.TheOpen as open_datum

-- ---- the numbers

status_by : (s : ℕ) → nat_lt s 3 ≡ true → (a b : Bool) → nat_eq s 0 ≡ a → nat_eq s 1 ≡ b → status_of (cond a (pos 0) (cond b (pos 1) (pos 2))) ≡ Ok s
status_by s h true b e f = let zero_is : 0 ≡ s = grind (arith, nat_tests) in ap (λ (n : ℕ). (let r : Result ℕ ManifestFault = Ok n in r)) zero_is
status_by s h false true e f = let one_is : 1 ≡ s = grind (arith, nat_tests) in ap (λ (n : ℕ). (let r : Result ℕ ManifestFault = Ok n in r)) one_is
status_by s h false false e f = let two_is : 2 ≡ s = grind (arith, nat_tests) in ap (λ (n : ℕ). (let r : Result ℕ ManifestFault = Ok n in r)) two_is

status_again : (s : ℕ) → nat_lt s 3 ≡ true → status_of (status_number s) ≡ Ok s
status_again s h = status_by s h (nat_eq s 0) (nat_eq s 1) refl refl

-- the numbers that are read
abbrev numbers_by : Bool → ManifestRow → Entry → Numbers
numbers_by b row entry = record { snapshot = entry.snapshot; seq = cond b row.sequence_number entry.seq; file_seq = cond b row.sequence_number entry.file_seq }

abbrev raw_by : ℕ → Option ℤ → Option ℤ → Option ℤ → RawNumbers
raw_by s snapshot seq file_seq = record { status = s; snapshot = snapshot; seq = seq; file_seq = file_seq }

numbers_so : (row : ManifestRow) (entry : Entry) (b : Bool) → nat_eq entry.status 1 ≡ b
    → numbered row (raw_by entry.status (Some entry.snapshot) (cond b None (Some entry.seq))
    (cond b None (Some entry.file_seq))) ≡ Ok (numbers_by b row entry)
unfolding kept
numbers_so row entry true e = ap (λ (b : Bool). cond b (let r : Result Numbers ManifestFault = Ok (numbers_by true row entry) in r) (kept (raw_by entry.status (Some entry.snapshot) None None))) e
numbers_so row entry false e = ap
    (λ (b : Bool). cond b (let r : Result Numbers ManifestFault = Ok
    (Rattle.manifest_files.specs.Inheritance.inherited row (raw_by entry.status (Some entry.snapshot) (Some entry.seq) (Some entry.file_seq))) in r)
    (kept (raw_by entry.status (Some entry.snapshot) (Some entry.seq) (Some entry.file_seq)))) e

numbers_from : (row : ManifestRow) (entry : Entry) (a b c : Option ℤ) → a ≡ Some entry.snapshot
    → b ≡ own_number entry.status entry.seq → c ≡ own_number entry.status entry.file_seq
    → numbered row (raw_by entry.status a b c) ≡ Ok (numbers_by (nat_eq entry.status 1) row entry)
numbers_from row entry a b c ha hb hc =
    ap (λ (x : Option ℤ). numbered row (raw_by entry.status x b c)) ha ∙ ap (λ (x : Option ℤ). numbered row (raw_by entry.status (Some entry.snapshot) x c)) hb ∙ ap (λ (x : Option ℤ). numbered row (raw_by entry.status (Some entry.snapshot) (own_number entry.status entry.seq) x)) hc
    ∙ numbers_so row entry (nat_eq entry.status 1) refl

-- ---- the file

content_again : (c : Content) → content_of (content_number c) ≡ Ok c
content_again content.Data = refl
content_again content.PositionDeletes = refl
content_again content.EqualityDeletes = refl

count_read : (id : ℤ) (n : ℕ) (b : Bool) → nat_lt n (2 ^ 63) ≡ b → b ≡ true → or_fault (fault.Kind id) (natural_of (cond b (pos n) (pos (2 ^ 63 - 1)))) ≡ Ok n
count_read id n true e h = refl
count_read id n false e h = absurd cc

count_again : (id : ℤ) (n : ℕ) → nat_lt n (2 ^ 63) ≡ true → or_fault (fault.Kind id)
    (option_and_then natural_of (option_and_then long_in (present_in (datum.Long (count_number n))))) ≡ Ok n
count_again id n h = ap (λ (o : Option ℤ). or_fault (fault.Kind id) (option_and_then natural_of o)) (long_again (count_number n)) ∙ count_read id n (nat_lt n (2 ^ 63)) refl h

ids_again : (earlier ids : List ℤ) → ids_from earlier (map id_datum ids) ≡ Ok (earlier ++ ids)
unfolding ids_from
ids_again earlier [] = ap (λ (xs : List ℤ). (let r : Result (List ℤ) ManifestFault = Ok xs in r)) (sym (append-nil earlier))
ids_again earlier (id ∷ ids) =
    goes (id_in (datum.Int id)) _ id _ (ap (or_fault (fault.Kind (pos 135))) (int_again id))
    (ids_again (earlier ++ id ∷ []) ids ∙ ap (λ (xs : List ℤ). (let r : Result (List ℤ) ManifestFault = Ok xs in r)) (append_assoc earlier (id ∷ []) ids))

ids_there : (ids : List ℤ) → by_option (present_in (ids_value ids)) (λ d. items_level (out-Datum d)) [] ≡ map id_datum ids
ids_there [] = ap (λ (o : Option Datum). by_option o (λ d. items_level (out-Datum d)) []) null_absent
ids_there (id ∷ ids) = ap (λ (o : Option Datum). by_option o (λ d. items_level (out-Datum d)) []) (array_there (map id_datum (id ∷ ids))) ∙ ap items_level (array_out (map id_datum (id ∷ ids)))

referenced_again : (text : Option (List ℕ)) → AreUtf8 text → option_and_then as_text (option_and_then text_in (present_in (optional_text text))) ≡ text
referenced_again None h = ap (λ (o : Option Datum). option_and_then as_text (option_and_then text_in o)) null_absent
referenced_again (Some bytes) h =
    ap (λ (o : Option Datum). option_and_then as_text (option_and_then text_in o)) (branch (datum.Text bytes) (open_datum.Text bytes) (text_out bytes) refl)
    ∙ ap (λ x. option_and_then as_text (Rattle.manifest_files.specs.Datums.text_level x)) (text_out bytes) ∙ ap (λ (b : Bool). (let o : Option (List ℕ) = cond b (Some bytes) None in o)) (is_utf8-from_IsUtf8 bytes h)

abbrev found_parts : Spec → TableSchema → List PartPlace
found_parts spec schema = placed schema.columns 0 spec.fields

abbrev parts_of : Entry → FileParts
parts_of entry = record { content = entry.content; path = entry.path; is_avro = true; partition = entry.partition; count = entry.count; size = entry.size; equality_ids = entry.equality_ids; referenced = entry.referenced }

same_parts : (entry : Entry) (referenced : Option (List ℕ)) → referenced ≡ entry.referenced
    → (let r : Result FileParts ManifestFault = Ok (record { content = entry.content; path = entry.path; is_avro = true; partition = entry.partition; count = entry.count; size = entry.size; equality_ids = entry.equality_ids; referenced = referenced }) in r) ≡ Ok (parts_of entry)
same_parts entry referenced h = rw h refl

partition_again : (spec : Spec) (schema : TableSchema) (entry : Entry) → are_kinds schema.columns ≡ true
    → are_parts schema.columns spec.fields entry.partition ≡ true
    → partition_at (file_found (found_parts spec schema)) (file_values spec schema entry) ≡ Ok entry.partition
unfolding partition_at
partition_again spec schema entry kinds h =
    let values : List Datum = part_datums schema.columns spec.fields entry.partition in
    goes (or_fault (fault.Kind (pos 102)) (present_in (datum.Record values))) _ (datum.Record values) _ (ap (or_fault (fault.Kind (pos 102))) (record_there values))
    (ap (λ (xs : List Datum). part_values xs [] (found_parts spec schema)) (values_is values) ∙ parts_again schema.columns values [] 0 [] spec.fields entry.partition refl refl (kinds_sound schema.columns spec.fields kinds) h)

map_whole : (id : ℤ) (f : Fact) (place : ℕ) (stats : List ColumnStats) (items : List Datum) → items ≡ pairs_of f stats
    → fault_if (fault.Kind id) (not (are_pairs (pair_places place) items)) ≡ Ok tt
map_whole id f place stats items is = ap (λ (xs : List Datum). fault_if (fault.Kind id) (not (are_pairs (pair_places place) xs))) is ∙ ap (λ (b : Bool). fault_if (fault.Kind id) (not b)) (pairs_are f place stats)

map_once : (id : ℤ) (f : Fact) (place : ℕ) (stats : List ColumnStats) (items : List Datum) → rises stats ≡ true
    → items ≡ pairs_of f stats → fault_if (fault.Twice id) (has_twice (pair_places place) items) ≡ Ok tt
map_once id f place stats items rise is = ap (λ (xs : List Datum). fault_if (fault.Twice id) (has_twice (pair_places place) xs)) is ∙ ap (fault_if (fault.Twice id)) (keys_once f place stats rise)

maps_whole : (spec : Spec) (schema : TableSchema) (entry : Entry) → whole_maps (file_found (found_parts spec schema)) (file_values spec schema entry) ≡ Ok tt
unfolding whole_maps
maps_whole spec schema entry =
    let stats : List ColumnStats = entry.stats.columns in
    let places = file_found (found_parts spec schema) in
    let values : List Datum = file_values spec schema entry in
    goes (whole_map (pos 109) places.values values) _ tt _ (map_whole (pos 109) fact.Values 6 stats _ (map_items (pairs_of fact.Values stats)))
    (goes (whole_map (pos 110) places.nulls values) _ tt _ (map_whole (pos 110) fact.Nulls 7 stats _ (map_items (pairs_of fact.Nulls stats)))
    (goes (whole_map (pos 125) places.lower values) _ tt _ (map_whole (pos 125) fact.Lower 8 stats _ (map_items (pairs_of fact.Lower stats)))
    (map_whole (pos 128) fact.Upper 9 stats _ (map_items (pairs_of fact.Upper stats)))))

file_again : (spec : Spec) (schema : TableSchema) (entry : Entry) → HasFile entry → are_kinds schema.columns ≡ true
    → are_parts schema.columns spec.fields entry.partition ≡ true → nat_lt entry.count (2 ^ 63) ≡ true
    → nat_lt entry.size (2 ^ 63) ≡ true → file_parts (file_found (found_parts spec schema))
    (file_values spec schema entry) ≡ Ok (parts_of entry)
unfolding file_parts
file_again spec schema entry file kinds parts count size =
    let places = file_found (found_parts spec schema) in
    let values : List Datum = file_values spec schema entry in
    goes (content_at places.content values) _ entry.content _ (ap (λ (o : Option ℤ). by_option o content_of (Ok content.Data)) (int_again (content_number entry.content)) ∙ content_again entry.content)
    (goes (needed_text (pos 100) places.path values) _ entry.path _ (text_again (fault.Kind (pos 100)) entry.path (is_utf8-from_IsUtf8 entry.path file.0))
    (goes (format_at places.format values) _ true _ (ap (λ (o : Option (List ℕ)). or_fault (fault.Kind (pos 101)) (option_map is_avro o)) (Rattle.manifest_writer.proofs.ValueLaws.text_value (codes "AVRO")))
    (goes (partition_at places values) _ entry.partition _ (partition_again spec schema entry kinds parts)
    (goes (needed_count (pos 103) places.count values) _ entry.count _ (count_again (pos 103) entry.count count)
    (goes (needed_count (pos 104) places.size values) _ entry.size _ (count_again (pos 104) entry.size size)
    (goes (whole_maps places values) _ tt _ (maps_whole spec schema entry)
    (goes (ids_from [] (items_at values places.equality_ids)) _ entry.equality_ids _ (ap (ids_from []) (ids_there entry.equality_ids) ∙ ids_again [] entry.equality_ids)
    (same_parts entry _ (referenced_again entry.referenced file.3)))))))))

-- ---- entries

live_avro : (b : Bool) (f : ManifestFault) → fault_if f (b && not true) ≡ Ok tt
live_avro true f = refl
live_avro false f = refl

entry_allowed : (spec : Spec) (schema : TableSchema) (entry : Entry) → rises entry.stats.columns ≡ true
    → allowed entry.status (file_found (found_parts spec schema)) (parts_of entry) (file_values spec schema entry) ≡ Ok tt
unfolding allowed
entry_allowed spec schema entry rise =
    let stats : List ColumnStats = entry.stats.columns in
    let places = file_found (found_parts spec schema) in
    let values : List Datum = file_values spec schema entry in
    goes (known_format entry.status (parts_of entry)) _ tt _ (live_avro (is_live entry.status) (fault.Format entry.path))
    (goes (single_keys (pos 109) places.values values) _ tt _ (map_once (pos 109) fact.Values 6 stats _ rise (map_items (pairs_of fact.Values stats)))
    (goes (single_keys (pos 110) places.nulls values) _ tt _ (map_once (pos 110) fact.Nulls 7 stats _ rise (map_items (pairs_of fact.Nulls stats)))
    (goes (single_keys (pos 125) places.lower values) _ tt _ (map_once (pos 125) fact.Lower 8 stats _ rise (map_items (pairs_of fact.Lower stats)))
    (map_once (pos 128) fact.Upper 9 stats _ rise (map_items (pairs_of fact.Upper stats))))))

has_facts : (spec : Spec) (schema : TableSchema) (entry : Entry) → rises entry.stats.columns ≡ true
    → HasFacts (file_found (found_parts spec schema)) (file_values spec schema entry) entry.stats.columns
has_facts spec schema entry rise =
    let stats : List ColumnStats = entry.stats.columns in
    record {
      values = λ id. under_there fact.Values 6 id stats _ rise (map_items (pairs_of fact.Values stats));
      nulls = λ id. under_there fact.Nulls 7 id stats _ rise (map_items (pairs_of fact.Nulls stats));
      lower = λ id. under_there fact.Lower 8 id stats _ rise (map_items (pairs_of fact.Lower stats));
      upper = λ id. under_there fact.Upper 9 id stats _ rise (map_items (pairs_of fact.Upper stats));
    }

same_entry_by : (row : ManifestRow) (entry : Entry) (b : Bool) (id : ℤ) (stats : List ColumnStats) → id ≡ entry.spec
    → stats ≡ entry.stats.columns
    → (let r : Result Entry ManifestFault = Ok (whole_entry entry.status (numbers_by b row entry) id (parts_of entry)
    (record { columns = stats })) in r) ≡ Ok (cond b (record entry { seq = row.sequence_number; file_seq = row.sequence_number }) entry)
same_entry_by row entry true id stats h k = rw (h, k) refl
same_entry_by row entry false id stats h k = rw (h, k) refl

same_id : (a b : ℤ) → int_eq a b ≡ true → b ≡ a
same_id a b h = grind (arith, ints, nat_tests)

entry_again : (row : ManifestRow) (spec : Spec) (schema : TableSchema) (entry : Entry) → IsEntry entry
    → are_kinds schema.columns ≡ true → is_written spec schema entry ≡ true
    → entry_of (entry_found (found_parts spec schema)) row spec.id (known_columns schema.columns)
    (datum_of_entry spec schema entry) ≡ Ok (as_read row entry)
unfolding entry_of
entry_again row spec schema entry (numbers, file) kinds h =
    let counts = second (is_entry spec schema entry) _ h in
    let sizes = second (nat_lt entry.count (2 ^ 63)) _ counts in
    let is = first (is_entry spec schema entry) _ h in
    let of_spec = second (nat_lt entry.status 3) _ is in
    let rest = second (int_eq entry.spec spec.id) _ of_spec in
    let parts = first (are_parts schema.columns spec.fields entry.partition) (are_stats entry.stats.columns) rest in
    let stats = second (are_parts schema.columns spec.fields entry.partition) (are_stats entry.stats.columns) rest in
    let rise = first (rises entry.stats.columns) (list_all tells entry.stats.columns) stats in
    let values : List Datum = number_values entry ++ datum.Record (file_values spec schema entry) ∷ [] in
    let places = entry_found (found_parts spec schema) in
    goes (status_at places.status (values_of (datum.Record values))) _ entry.status _
    (ap (status_at places.status) (values_is values) ∙ ap (λ (o : Option ℤ). or_fault (fault.Kind (pos 0)) o >>= status_of)
    (int_again (status_number entry.status)) ∙ status_again entry.status (first (nat_lt entry.status 3) _ is))
    (goes (numbered row (raw_numbers places entry.status (values_of (datum.Record values)))) _ (numbers_by (nat_eq entry.status 1) row entry) _
    (ap (λ (xs : List Datum). numbered row (raw_numbers places entry.status xs)) (values_is values)
    ∙ numbers_from row entry _ _ _ (optional_long_again (Some entry.snapshot)) (optional_long_again (own_number entry.status entry.seq))
    (optional_long_again (own_number entry.status entry.file_seq)))
    (goes (or_fault (fault.Kind (pos 2)) (present (values_of (datum.Record values)) places.data_file)) _
    (datum.Record (file_values spec schema entry)) _ (ap (λ (xs : List Datum). or_fault (fault.Kind (pos 2)) (present xs 4)) (values_is values)
    ∙ ap (or_fault (fault.Kind (pos 2))) (record_there (file_values spec schema entry)))
    (goes (file_parts places.file (values_of (datum.Record (file_values spec schema entry)))) _ (parts_of entry) _
    (ap (file_parts places.file) (values_is (file_values spec schema entry))
    ∙ file_again spec schema entry file kinds parts (first (nat_lt entry.count (2 ^ 63)) _ counts) (first (nat_lt entry.size (2 ^ 63)) _ sizes))
    (goes (allowed entry.status places.file (parts_of entry) (values_of (datum.Record (file_values spec schema entry)))) _ tt _ (ap (allowed entry.status places.file (parts_of entry)) (values_is (file_values spec schema entry)) ∙ entry_allowed spec schema entry rise)
    (same_entry_by row entry (nat_eq entry.status 1) spec.id _ (same_id entry.spec spec.id (first (int_eq entry.spec spec.id) _ of_spec)) (ap (λ (xs : List Datum). stats_from places.file xs [] (known_columns schema.columns)) (values_is (file_values spec schema entry))
    ∙ stats_again places.file (file_values spec schema entry) (known_columns schema.columns) entry.stats.columns (has_facts spec schema entry rise)
    (known_kinds schema.columns kinds) (known_rising schema.columns) rise
    (second (rises entry.stats.columns) (list_all tells entry.stats.columns) stats) (second (nat_lt entry.size (2 ^ 63)) _ sizes)))))))

entries_again : (row : ManifestRow) (spec : Spec) (schema : TableSchema) (earlier entries : List Entry)
    → AllByRecursion IsEntry entries → are_kinds schema.columns ≡ true → list_all (is_written spec schema) entries ≡ true
    → entries_from (entry_found (found_parts spec schema)) row spec.id (known_columns schema.columns) earlier (map (datum_of_entry spec schema) entries) ≡ Ok (earlier ++ map (as_read row) entries)
unfolding entries_from
entries_again row spec schema earlier [] fits kinds h = ap (λ (xs : List Entry). (let r : Result (List Entry) ManifestFault = Ok xs in r)) (sym (append-nil earlier))
entries_again row spec schema earlier (entry ∷ entries) (fits, others) kinds h =
    goes (entry_of (entry_found (found_parts spec schema)) row spec.id (known_columns schema.columns) (datum_of_entry spec schema entry)) _ (as_read row entry) _ (entry_again row spec schema entry fits kinds (first (is_written spec schema entry) (list_all (is_written spec schema) entries) h))
    (entries_again row spec schema (earlier ++ as_read row entry ∷ []) entries others kinds (second (is_written spec schema entry) (list_all (is_written spec schema) entries) h)
    ∙ ap (λ (xs : List Entry). (let r : Result (List Entry) ManifestFault = Ok xs in r)) (append_assoc earlier (as_read row entry ∷ []) (map (as_read row) entries)))

-- ---- the manifest

abbrev file : List Entry → Spec → TableSchema → Container
file entries spec schema = record { schema = entry_types spec schema; meta = manifest_meta entries spec schema; datums = map (datum_of_entry spec schema) entries }

places_found : (spec : Spec) (schema : TableSchema) → IsWritableSpec spec
    → entry_places schema.columns spec.fields (fields_of (entry_types spec schema)) ≡ Ok (entry_found (found_parts spec schema))
places_found spec schema writable = ap (λ (s : Schema). entry_places schema.columns spec.fields (fields_of s)) (sym (entry_types_is spec schema))
    ∙ entry_places_is schema.columns spec.fields (spec_plans spec schema) (found_parts spec schema)
    (all_found schema.columns (are_names spec.fields) spec.fields writable.apart)

pub manifest_again : (entries : List Entry) (spec : Spec) (schema : TableSchema) (row : ManifestRow)
    → AllByRecursion IsEntry entries → CanBeWritten entries spec schema → length (manifest_text entries spec schema) < 2 ^ 63
    → entries_of (manifest_text entries spec schema) row spec schema ≡ Ok (map (as_read row) entries)
unfolding entries_of
manifest_again entries spec schema row fits can short =
    let read : container_of (manifest_text entries spec schema) ≡ Ok (file entries spec schema) = text_read_again (file entries spec schema)
    (entries_fit spec schema entries fits) (are_meta entries spec schema)
    (schema_read (entry_types spec schema) (entry_has_text spec schema can.kinds can.fields)) (entry_takes_bytes spec schema)
    (entry_items_take_bytes spec schema) short in
    goes (fault_as fault.Container (container_of (manifest_text entries spec schema))) _ (file entries spec schema) _ (ap (fault_as fault.Container) read)
    (goes (entry_places schema.columns spec.fields (fields_of (entry_types spec schema))) _ (entry_found (found_parts spec schema)) _ (places_found spec schema can.fields) (entries_again row spec schema [] entries fits can.kinds can.each))
