-- The rows of a list fit its type.
use Rattle.std.proofs.Common.{◌≡◌, ℕ, List, [], ◌∷◌, map, pos, Bool, true, ◌&&◌, is_some, Option, refl, sym, ap, subst, ◌∙◌, arith}
use Rattle.std.specs.Prelude.{codes}
use Rattle.std.specs.List.{AllByRecursion}
use Rattle.kind_values.specs.declared.stats.Summary.{Summary}
use Rattle.avro_binary.specs.declared.datum.Datum.TheVariants as datum
use Rattle.avro_binary.specs.SchemaOnce.{has_text, Begins, once, once_level, once_field_level}
use Rattle.avro_binary.specs.Placed.{Placing, placed, place_each, place_level, place_field}
use Rattle.avro_binary.specs.Naming.{has_begun}
use Rattle.avro_binary.specs.Shape.{Shape, boolean_shape, int_shape, long_shape, bytes_shape, text_shape, record_shape, array_shape, no_shapes, more_shapes, shape, level, field_level}
use Rattle.avro_binary.specs.Spelling.{Fits, takes_bytes, items_take_bytes}
use Rattle.manifest_files.specs.declared.manifest_row.ManifestContent.{ManifestContent}
use Rattle.manifest_files.specs.declared.manifest_row.ManifestContent.TheVariants as content
use Rattle.manifest_files.specs.declared.manifest_row.ManifestRow.{ManifestRow}
use Rattle.manifest_writer.specs.ListTypes.{list_types}
use Rattle.manifest_writer.specs.ListDatum.{content_number, datum_of_summary, partitions_value, datum_of_row, IsRow}
use Rattle.row_writer.proofs.CallerLemmas.{Plan, boolean_plan, int_plan, long_plan, bytes_plan, text_plan, optional_plan, items_plan, record_plan, Plans, no_plans, more_plans, type_of, fold_plan, plan_folds, named_is, option_shape, text_fits, boolean_fits, int_fits, long_fits, some_fits, no_field, more_fields, record_fits, array_fits}
use Rattle.manifest_writer.proofs.FieldLaws.{optional_int_fits, optional_long_fits, optional_bound_fits}

abbrev pub summary_shape : Shape
summary_shape = record_shape (more_shapes boolean_shape (more_shapes (option_shape bytes_shape) (more_shapes (option_shape bytes_shape) no_shapes)))

abbrev pub list_shape : Shape
list_shape = record_shape (more_shapes text_shape (more_shapes (option_shape long_shape) (more_shapes int_shape (more_shapes int_shape (more_shapes long_shape (more_shapes long_shape (more_shapes long_shape
    (more_shapes (option_shape int_shape) (more_shapes (option_shape int_shape) (more_shapes (option_shape int_shape) (more_shapes (option_shape long_shape) (more_shapes (option_shape long_shape) (more_shapes (option_shape long_shape)
    (more_shapes (option_shape (array_shape summary_shape)) no_shapes))))))))))))))

abbrev pub summary_plans : Plans
summary_plans = more_plans (pos 509) (codes "contains_null") boolean_plan (more_plans (pos 510) (codes "lower_bound") (optional_plan bytes_plan) (more_plans (pos 511) (codes "upper_bound") (optional_plan bytes_plan) no_plans))

abbrev pub list_plans : Plans
list_plans =
    more_plans (pos 500) (codes "manifest_path") text_plan (more_plans (pos 501) (codes "manifest_length") (optional_plan long_plan) (more_plans (pos 502) (codes "partition_spec_id") int_plan (more_plans (pos 517) (codes "content") int_plan
    (more_plans (pos 515) (codes "sequence_number") long_plan (more_plans (pos 516) (codes "min_sequence_number") long_plan (more_plans (pos 503) (codes "added_snapshot_id") long_plan
    (more_plans (pos 504) (codes "added_files_count") (optional_plan int_plan) (more_plans (pos 505) (codes "existing_files_count") (optional_plan int_plan) (more_plans (pos 506) (codes "deleted_files_count") (optional_plan int_plan)
    (more_plans (pos 512) (codes "added_rows_count") (optional_plan long_plan) (more_plans (pos 513) (codes "existing_rows_count") (optional_plan long_plan) (more_plans (pos 514) (codes "deleted_rows_count") (optional_plan long_plan)
    (more_plans (pos 507) (codes "partitions") (optional_plan (items_plan (pos 508) (record_plan (codes "r508") summary_plans))) no_plans)))))))))))))

abbrev pub list_plan : Plan
list_plan = record_plan (codes "manifest_file") list_plans

-- the type is the one of the plan
list_types_is : type_of list_plan ≡ list_types
list_types_is = refl

pub list_shape_is : shape list_types ≡ list_shape
list_shape_is = plan_folds Shape Shape level field_level list_plan

once_is : once list_types ≡ fold_plan Begins Begins once_level once_field_level list_plan
once_is = plan_folds Begins Begins once_level once_field_level list_plan

placed_is : placed list_types ≡ fold_plan Placing Placing place_level place_field list_plan
placed_is = plan_folds Placing Placing place_level place_field list_plan

each_name_once : is_some (fold_plan Begins Begins once_level once_field_level list_plan []) ≡ true
unfolding has_begun
each_name_once = ap (λ (o : Option (List (List ℕ))). is_some o) (named_is list_plan [] refl)

has_room : is_some (fold_plan Placing Placing place_level place_field list_plan 32 100000) ≡ true
unfolding place_each
has_room = refl

pub list_has_text : has_text list_types ≡ true
list_has_text = ap (λ (f : Begins). is_some (f []) && is_some (placed list_types 32 100000)) once_is ∙ ap (λ (b : Bool). b && is_some (placed list_types 32 100000)) each_name_once ∙ ap (λ (f : Placing). is_some (f 32 100000)) placed_is ∙ has_room

pub list_takes_bytes : takes_bytes (shape list_types) ≡ true
list_takes_bytes = ap takes_bytes list_shape_is

pub list_items_take_bytes : items_take_bytes (shape list_types) ≡ true
list_items_take_bytes = ap items_take_bytes list_shape_is

summary_fits : (summary : Summary) → Fits summary_shape (datum_of_summary summary)
summary_fits summary = record_fits _ _ (more_fields _ _ _ _ (boolean_fits summary.contains_null) (more_fields _ _ _ _ (optional_bound_fits summary.lower) (more_fields _ _ _ _ (optional_bound_fits summary.upper) no_field)))

summaries_fit : (summaries : List Summary) → AllByRecursion (Fits summary_shape) (map datum_of_summary summaries)
summaries_fit [] = tt
summaries_fit (summary ∷ summaries) = (summary_fits summary, summaries_fit summaries)

content_fits : (c : ManifestContent) → Fits int_shape (datum.Int (content_number c))
content_fits content.Data = int_fits (pos 0) (omega arith)
content_fits content.Deletes = int_fits (pos 1) (omega arith)

partitions_fit : (row : ManifestRow) → Fits (option_shape (array_shape summary_shape)) (partitions_value row)
partitions_fit row = some_fits (array_shape summary_shape) (datum.Array (map datum_of_summary row.partitions)) (array_fits summary_shape (map datum_of_summary row.partitions) (summaries_fit row.partitions))

pub row_fits : (row : ManifestRow) → IsRow row → Fits list_shape (datum_of_row row)
row_fits row ((path, length, spec, seq, min_seq, snapshot), (added_files, existing_files, deleted_files, added_rows, existing_rows, deleted_rows)) = record_fits _ _
    (more_fields _ _ _ _ (text_fits row.manifest_path path) (more_fields _ _ _ _ (optional_long_fits row.manifest_length length) (more_fields _ _ _ _ (int_fits row.partition_spec_id spec)
    (more_fields _ _ _ _ (content_fits row.content) (more_fields _ _ _ _ (long_fits row.sequence_number seq) (more_fields _ _ _ _ (long_fits row.min_sequence_number min_seq) (more_fields _ _ _ _ (long_fits row.added_snapshot_id snapshot)
    (more_fields _ _ _ _ (optional_int_fits row.added_files_count added_files) (more_fields _ _ _ _ (optional_int_fits row.existing_files_count existing_files) (more_fields _ _ _ _ (optional_int_fits row.deleted_files_count deleted_files)
    (more_fields _ _ _ _ (optional_long_fits row.added_rows_count added_rows) (more_fields _ _ _ _ (optional_long_fits row.existing_rows_count existing_rows) (more_fields _ _ _ _ (optional_long_fits row.deleted_rows_count deleted_rows)
    (more_fields _ _ _ _ (partitions_fit row) no_field))))))))))))))

all_fit : (rows : List ManifestRow) → AllByRecursion IsRow rows → AllByRecursion (Fits list_shape) (map datum_of_row rows)
all_fit [] h = tt
all_fit (row ∷ rows) (first, others) = (row_fits row first, all_fit rows others)

pub rows_fit : (rows : List ManifestRow) → AllByRecursion IsRow rows → AllByRecursion (Fits (shape list_types)) (map datum_of_row rows)
rows_fit rows h = subst (λ (s : Shape). AllByRecursion (Fits s) (map datum_of_row rows)) (sym list_shape_is) (all_fit rows h)
