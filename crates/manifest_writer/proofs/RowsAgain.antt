-- The rows that are read of a manifest list can be listed again.
use Rattle.std.proofs.Common.{◌≡◌, ℕ, ℤ, pos, Bool, true, false, List, [], ◌∷◌, ◌++◌, Option, Some, None, option_map, option_and_then, Result, Ok, refl, sym, ap, ◌∙◌}
use Rattle.std.specs.Prelude.{int_le, is_some, if◌then◌else◌}
use Rattle.std.specs.List.{list_all}
use Rattle.std.proofs.lemmas.List.Folds.{list_all-append}
use Rattle.plain_types.specs.Steps.{fault_as, fault_if, or_fault}
use Rattle.row_values.specs.declared.value.Value.TheVariants as value
use Rattle.kind_values.specs.declared.stats.Summary.{Summary}
use Rattle.avro_binary.specs.declared.datum.Datum.{Datum}
use Rattle.avro_container.specs.Container.{container_of}
use Rattle.plain_types.proofs.CallerLemmas.{two_steps}
use Rattle.avro_rows.specs.Rows.{values_of}
use Rattle.avro_rows.specs.Sources.{fields_of}
use Rattle.manifest_files.specs.declared.manifest_fault.ManifestFault.{ManifestFault}
use Rattle.manifest_files.specs.declared.manifest_fault.ManifestFault.TheVariants as fault
use Rattle.manifest_files.specs.declared.manifest_row.ManifestRow.{ManifestRow}
use Rattle.manifest_files.specs.declared.manifest_row.RowHead.{RowHead}
use Rattle.manifest_files.specs.declared.places.RowPlaces.{RowPlaces}
use Rattle.manifest_files.specs.declared.places.SummaryPlaces.{SummaryPlaces}
use Rattle.manifest_files.specs.Datums.{boolean_in, bytes_in, int_in, items_at, long_in, present, present_at, present_in}
use Rattle.manifest_files.specs.Lists.{bound_at, not_negative, row_head, row_of, rows_from, rows_of_list, summaries_from, summary_of, whole_row}
use Rattle.manifest_files.specs.Places.{row_places}
use Rattle.row_writer.proofs.CallerLemmas.{both}
use Rattle.manifest_writer.specs.ListDatum.{counts, has_bounds, is_listed}
use Rattle.manifest_writer.specs.Value.{is_bound, is_count}

one_value : {X : Type 0} (a b : X) → (let r : Result X ManifestFault = Ok a in r) ≡ Ok b → a ≡ b
one_value a b h = cc

-- ---- counts and bounds

unless_negative : (b : Bool) (n : ℤ) → int_le (pos 0) n ≡ b → is_count (if b then Some n else None) ≡ true
unless_negative true n is = is
unless_negative false n is = refl

count_is : (o : Option ℤ) → is_count (option_and_then not_negative o) ≡ true
count_is None = refl
count_is (Some n) = unless_negative (int_le (pos 0) n) n refl

bound_is : (o : Option (List ℕ)) → is_bound (option_map value.Bytes o) ≡ true
bound_is None = refl
bound_is (Some bytes) = refl

-- ---- summaries

summary_is : (places : SummaryPlaces) (datum : Datum) (summary : Summary) → summary_of places datum ≡ Ok summary → has_bounds summary ≡ true
unfolding summary_of
summary_is places datum summary e =
    let element = two_steps (or_fault (fault.Kind (pos 507)) (present_in datum)) _ summary e in
    let null = two_steps (or_fault (fault.Kind (pos 509)) (option_and_then boolean_in (present (values_of element.0) places.contains_null))) _ summary element.2 in
    let same = one_value (record { contains_null = null.0; lower = bound_at places.lower (values_of element.0); upper = bound_at places.upper (values_of element.0) }) summary null.2 in
    ap has_bounds (sym same) ∙ both _ _ (bound_is (option_and_then bytes_in (present_at (values_of element.0) places.lower))) (bound_is (option_and_then bytes_in (present_at (values_of element.0) places.upper)))

summaries_stand : (places : SummaryPlaces) (earlier : List Summary) (datums : List Datum) (summaries : List Summary)
    → list_all has_bounds earlier ≡ true → summaries_from places earlier datums ≡ Ok summaries
    → list_all has_bounds summaries ≡ true
unfolding summaries_from
summaries_stand places earlier [] summaries so_far e = ap (list_all has_bounds) (sym (one_value earlier summaries e)) ∙ so_far
summaries_stand places earlier (datum ∷ datums) summaries so_far e =
    let s = two_steps (summary_of places datum) (λ summary. summaries_from places (earlier ++ summary ∷ []) datums) summaries e in
    let more : list_all has_bounds (earlier ++ s.0 ∷ []) ≡ true = list_all-append has_bounds earlier (s.0 ∷ []) ∙ both _ _ so_far (both _ _ (summary_is places datum s.0 s.1) refl) in
    summaries_stand places (earlier ++ s.0 ∷ []) datums summaries more s.2

-- ---- rows

counts_are : (places : RowPlaces) (values : List Datum) (head : RowHead) (partitions : List Summary) → counts (whole_row places values head partitions) ≡ true
counts_are places values head partitions =
    both _ _ (count_is (option_and_then int_in (present_at values places.added_files))) (both _ _ (count_is (option_and_then int_in (present_at values places.existing_files))) (both _ _ (count_is (option_and_then int_in (present_at values places.deleted_files)))
    (both _ _ (count_is (option_and_then long_in (present_at values places.added_rows))) (both _ _ (count_is (option_and_then long_in (present_at values places.existing_rows))) (count_is (option_and_then long_in (present_at values places.deleted_rows)))))))

row_is : (places : RowPlaces) (values : List Datum) (row : ManifestRow) → row_of places values ≡ Ok row → is_listed row ≡ true
unfolding row_of
row_is places values row e =
    let head = two_steps (row_head places values) _ row e in
    let partitions = two_steps (summaries_from places.summaries [] (items_at values places.summaries.place)) _ row head.2 in
    let allowed = two_steps (fault_if (fault.Key (pos 519)) (is_some (present_at values places.key))) (λ done. Ok (whole_row places values head.0 partitions.0)) row partitions.2 in
    let same = one_value (whole_row places values head.0 partitions.0) row allowed.2 in
    ap is_listed (sym same) ∙ both _ _ (counts_are places values head.0 partitions.0) (summaries_stand places.summaries [] (items_at values places.summaries.place) partitions.0 refl partitions.1)

rows_stand : (places : RowPlaces) (earlier : List ManifestRow) (datums : List Datum) (rows : List ManifestRow)
    → list_all is_listed earlier ≡ true → rows_from places earlier datums ≡ Ok rows → list_all is_listed rows ≡ true
unfolding rows_from
rows_stand places earlier [] rows so_far e = ap (list_all is_listed) (sym (one_value earlier rows e)) ∙ so_far
rows_stand places earlier (datum ∷ datums) rows so_far e =
    let s = two_steps (row_of places (values_of datum)) (λ row. rows_from places (earlier ++ row ∷ []) datums) rows e in
    let more : list_all is_listed (earlier ++ s.0 ∷ []) ≡ true = list_all-append is_listed earlier (s.0 ∷ []) ∙ both _ _ so_far (both _ _ (row_is places (values_of datum) s.0 s.1) refl) in
    rows_stand places (earlier ++ s.0 ∷ []) datums rows more s.2

pub rows_are_listed : (bytes : List ℕ) (rows : List ManifestRow) → rows_of_list bytes ≡ Ok rows → list_all is_listed rows ≡ true
unfolding rows_of_list
rows_are_listed bytes rows e =
    let container = two_steps (fault_as fault.Container (container_of bytes)) _ rows e in
    let places = two_steps (row_places (fields_of container.0.schema)) _ rows container.2 in
    rows_stand places.0 [] container.0.datums rows refl places.2
