-- The rows of a list that is written are read again.
use Rattle.std.proofs.Common.{◌≡◌, ◌^◌, ◌<◌, ℤ, pos, List, [], ◌∷◌, ◌++◌, map, length, true, Option, Some, option_and_then, Result, Ok, refl, sym, ap, ◌∙◌, append_assoc}
use Rattle.std.proofs.lemmas.List.{append-nil}
use Rattle.std.proofs.lemmas.Str.{is_utf8-from_IsUtf8}
use Rattle.std.specs.List.{AllByRecursion, list_all}
use Rattle.plain_types.specs.Steps.{◌>>=◌, or_fault, fault_as}
use Rattle.row_values.specs.declared.value.Value.{Value}
use Rattle.kind_values.specs.declared.stats.Summary.{Summary}
use Rattle.avro_binary.specs.declared.datum.Datum.{Datum, out-Datum}
use Rattle.avro_binary.specs.declared.datum.Datum.TheVariants as datum
use Rattle.avro_binary.proofs.CallerLemmas.{schema_read}
use Rattle.avro_container.specs.declared.container.Container.{Container}
use Rattle.avro_container.specs.Container.{container_of}
use Rattle.avro_container.specs.ContainerText.{AreMeta}
use Rattle.avro_container.proofs.CallerLemmas.{text_read_again}
use Rattle.avro_rows.specs.Rows.{values_of}
use Rattle.avro_rows.specs.Sources.{fields_of}
use Rattle.manifest_files.specs.declared.manifest_fault.ManifestFault.{ManifestFault}
use Rattle.manifest_files.specs.declared.manifest_fault.ManifestFault.TheVariants as fault
use Rattle.manifest_files.specs.declared.manifest_row.ManifestContent.{ManifestContent}
use Rattle.manifest_files.specs.declared.manifest_row.ManifestContent.TheVariants as content
use Rattle.manifest_files.specs.declared.manifest_row.ManifestRow.{ManifestRow}
use Rattle.manifest_files.specs.declared.manifest_row.RowHead.{RowHead}
use Rattle.manifest_files.specs.Datums.{present, present_in, boolean_in, items_level, items_at}
use Rattle.manifest_files.specs.Needed.{needed_text, needed_int, needed_long}
use Rattle.manifest_files.specs.Lists.{content_of, summary_of, summaries_from, row_head, whole_row, row_of, rows_from, rows_of_list}
use Rattle.manifest_files.specs.Places.{row_places}
use Rattle.manifest_writer.specs.ListTypes.{list_types}
use Rattle.manifest_writer.specs.ListDatum.{content_number, head_values, count_values, partitions_value, datum_of_summary, datum_of_row, list_text, IsRow, counts, has_bounds, is_listed}
use Rattle.manifest_writer.specs.Value.{is_count, is_bound}
use Rattle.manifest_writer.proofs.PlanTypes.{goes}
use Rattle.manifest_writer.proofs.ListFits.{rows_fit, list_has_text, list_takes_bytes, list_items_take_bytes}
use Rattle.manifest_writer.proofs.ListPlaces.{summaries, list_places, list_places_is}
use Rattle.manifest_writer.proofs.ValueLaws.{record_there, array_there, text_again, int_again, long_again, boolean_again, optional_long_again, file_count_again, row_count_again, bound_again}
use Rattle.row_writer.proofs.CallerLemmas.{first, second, values_is, array_out}

-- ---- summaries

abbrev summary_values : Summary → List Datum
summary_values s = datum.Boolean s.contains_null ∷ Rattle.manifest_writer.specs.Value.optional_bound s.lower ∷ Rattle.manifest_writer.specs.Value.optional_bound s.upper ∷ []

same_summary : (s : Summary) (lower upper : Option Value) → lower ≡ s.lower → upper ≡ s.upper
    → (let r : Result Summary ManifestFault = Ok (record { contains_null = s.contains_null; lower = lower; upper = upper }) in r) ≡ Ok s
same_summary s lower upper a b = rw (a, b) refl

summary_again : (s : Summary) → has_bounds s ≡ true → summary_of summaries (datum_of_summary s) ≡ Ok s
unfolding summary_of
summary_again s h =
    goes (or_fault (fault.Kind (pos 507)) (present_in (datum_of_summary s))) _ (datum_of_summary s) _ (ap (or_fault (fault.Kind (pos 507))) (record_there (summary_values s)))
    (ap (λ (values : List Datum). or_fault (fault.Kind (pos 509)) (option_and_then boolean_in (present values 0)) >>= λ contains_null. Ok
    (record {
      contains_null = contains_null;
      lower = Rattle.manifest_files.specs.Lists.bound_at (Some 1) values;
      upper = Rattle.manifest_files.specs.Lists.bound_at (Some 2) values;
    })) (values_is (summary_values s))
    ∙ goes (or_fault (fault.Kind (pos 509)) (option_and_then boolean_in (present_in (datum.Boolean s.contains_null)))) _ s.contains_null _ (ap (or_fault (fault.Kind (pos 509))) (boolean_again s.contains_null))
    (same_summary s _ _ (bound_again s.lower (first (is_bound s.lower) (is_bound s.upper) h)) (bound_again s.upper (second (is_bound s.lower) (is_bound s.upper) h))))

summaries_again : (earlier all : List Summary) → list_all has_bounds all ≡ true
    → summaries_from summaries earlier (map datum_of_summary all) ≡ Ok (earlier ++ all)
unfolding summaries_from
summaries_again earlier [] h = ap (λ (xs : List Summary). (let r : Result (List Summary) ManifestFault = Ok xs in r)) (sym (append-nil earlier))
summaries_again earlier (s ∷ all) h =
    goes (summary_of summaries (datum_of_summary s)) _ s _ (summary_again s (first (has_bounds s) (list_all has_bounds all) h))
    (summaries_again (earlier ++ s ∷ []) all (second (has_bounds s) (list_all has_bounds all) h) ∙ ap (λ (xs : List Summary). (let r : Result (List Summary) ManifestFault = Ok xs in r)) (append_assoc earlier (s ∷ []) all))

-- ---- rows

abbrev values : ManifestRow → List Datum
values row = head_values row ++ count_values row ++ partitions_value row ∷ []

abbrev head_of : ManifestRow → RowHead
head_of row = record { path = row.manifest_path; spec = row.partition_spec_id; content = row.content; seq = row.sequence_number; min_seq = row.min_sequence_number; snapshot = row.added_snapshot_id }

content_again : (c : ManifestContent) → content_of (content_number c) ≡ Ok c
content_again content.Data = refl
content_again content.Deletes = refl

head_again : (row : ManifestRow) → IsRow row → row_head list_places (values row) ≡ Ok (head_of row)
unfolding row_head
head_again row fits =
    goes (needed_text (pos 500) 0 (values row)) _ row.manifest_path _ (text_again (fault.Kind (pos 500)) row.manifest_path (is_utf8-from_IsUtf8 row.manifest_path fits.0.0))
    (goes (needed_int (pos 502) 2 (values row)) _ row.partition_spec_id _ (ap (or_fault (fault.Kind (pos 502))) (int_again row.partition_spec_id))
    (goes (needed_int (pos 517) 3 (values row)) _ (content_number row.content) _ (ap (or_fault (fault.Kind (pos 517))) (int_again (content_number row.content)))
    (goes (content_of (content_number row.content)) _ row.content _ (content_again row.content)
    (goes (needed_long (pos 515) 4 (values row)) _ row.sequence_number _ (ap (or_fault (fault.Kind (pos 515))) (long_again row.sequence_number))
    (goes (needed_long (pos 516) 5 (values row)) _ row.min_sequence_number _ (ap (or_fault (fault.Kind (pos 516))) (long_again row.min_sequence_number))
    (goes (needed_long (pos 503) 6 (values row)) _ row.added_snapshot_id _ (ap (or_fault (fault.Kind (pos 503))) (long_again row.added_snapshot_id)) refl))))))

same_row : (row : ManifestRow) (a b c d e f g : Option ℤ) → a ≡ row.manifest_length → b ≡ row.added_files_count
    → c ≡ row.existing_files_count → d ≡ row.deleted_files_count → e ≡ row.added_rows_count → f ≡ row.existing_rows_count
    → g ≡ row.deleted_rows_count
    → (let r : Result ManifestRow ManifestFault = Ok
    (record {
      manifest_path = row.manifest_path;
      manifest_length = a;
      partition_spec_id = row.partition_spec_id;
      content = row.content;
      sequence_number = row.sequence_number;
      min_sequence_number = row.min_sequence_number;
      added_snapshot_id = row.added_snapshot_id;
      added_files_count = b;
      existing_files_count = c;
      deleted_files_count = d;
      added_rows_count = e;
      existing_rows_count = f;
      deleted_rows_count = g;
      partitions = row.partitions;
    }) in r) ≡ Ok row
same_row row a b c d e f g ha hb hc hd he hf hg = rw (ha, hb, hc, hd, he, hf, hg) refl

partitions_there : (row : ManifestRow) → items_at (values row) (Some 13) ≡ map datum_of_summary row.partitions
partitions_there row = ap (λ (o : Option Datum). Rattle.plain_types.specs.Steps.by_option o (λ d. items_level (out-Datum d)) []) (array_there (map datum_of_summary row.partitions)) ∙ ap items_level (array_out (map datum_of_summary row.partitions))

whole_again : (row : ManifestRow) → counts row ≡ true
    → (let r : Result ManifestRow ManifestFault = Ok (whole_row list_places (values row)
    (head_of row) row.partitions) in r) ≡ Ok row
whole_again row h =
    let h2 = second (is_count row.added_files_count) _ h in
    let h3 = second (is_count row.existing_files_count) _ h2 in
    let h4 = second (is_count row.deleted_files_count) _ h3 in
    let h5 = second (is_count row.added_rows_count) _ h4 in
    same_row row _ _ _ _ _ _ _ (optional_long_again row.manifest_length) (file_count_again row.added_files_count (first (is_count row.added_files_count) _ h)) (file_count_again row.existing_files_count (first (is_count row.existing_files_count) _ h2))
    (file_count_again row.deleted_files_count (first (is_count row.deleted_files_count) _ h3)) (row_count_again row.added_rows_count (first (is_count row.added_rows_count) _ h4))
    (row_count_again row.existing_rows_count (first (is_count row.existing_rows_count) _ h5)) (row_count_again row.deleted_rows_count (second (is_count row.existing_rows_count) (is_count row.deleted_rows_count) h5))

row_again : (row : ManifestRow) → IsRow row → is_listed row ≡ true → row_of list_places (values row) ≡ Ok row
unfolding row_of
row_again row fits listed =
    goes (row_head list_places (values row)) _ (head_of row) _ (head_again row fits)
    (goes (summaries_from summaries [] (items_at (values row) (Some 13))) _ row.partitions _ (ap (summaries_from summaries []) (partitions_there row) ∙ summaries_again [] row.partitions (second (counts row) (list_all has_bounds row.partitions) listed))
    (whole_again row (first (counts row) (list_all has_bounds row.partitions) listed)))

rows_again : (earlier rows : List ManifestRow) → AllByRecursion IsRow rows → list_all is_listed rows ≡ true
    → rows_from list_places earlier (map datum_of_row rows) ≡ Ok (earlier ++ rows)
unfolding rows_from
rows_again earlier [] fits h = ap (λ (xs : List ManifestRow). (let r : Result (List ManifestRow) ManifestFault = Ok xs in r)) (sym (append-nil earlier))
rows_again earlier (row ∷ rows) (fits, others) h =
    goes (row_of list_places (values_of (datum_of_row row))) _ row _ (ap (row_of list_places) (values_is (values row)) ∙ row_again row fits (first (is_listed row) (list_all is_listed rows) h))
    (rows_again (earlier ++ row ∷ []) rows others (second (is_listed row) (list_all is_listed rows) h) ∙ ap (λ (xs : List ManifestRow). (let r : Result (List ManifestRow) ManifestFault = Ok xs in r)) (append_assoc earlier (row ∷ []) rows))

-- ---- the list

abbrev file : List ManifestRow → Container
file rows = record { schema = list_types; meta = []; datums = map datum_of_row rows }

pub no_meta : AreMeta []
no_meta = record { texts = tt; distinct = tt; no_schema = tt; no_codec = tt }

pub list_again : (rows : List ManifestRow) → AllByRecursion IsRow rows → list_all is_listed rows ≡ true
    → length (list_text rows) < 2 ^ 63 → rows_of_list (list_text rows) ≡ Ok rows
unfolding rows_of_list
list_again rows fits listed short =
    let read : container_of (list_text rows) ≡ Ok (file rows) = text_read_again (file rows) (rows_fit rows fits) no_meta (schema_read list_types list_has_text) list_takes_bytes list_items_take_bytes short in
    goes (fault_as fault.Container (container_of (list_text rows))) _ (file rows) _ (ap (fault_as fault.Container) read)
    (goes (row_places (fields_of list_types)) _ list_places _ list_places_is (rows_again [] rows fits listed))
