-- Where the fields of a written list stand.
use Rattle.std.proofs.Common.{◌≡◌, pos, List, [], Option, Some, None, Ok, refl, ap, ◌∙◌}
use Rattle.std.specs.Prelude.{codes}
use Rattle.avro_binary.specs.declared.schema.Field.{Field}
use Rattle.avro_binary.specs.declared.schema.Schema.{Schema}
use Rattle.avro_rows.specs.Sources.{fields_level, fields_of}
use Rattle.plain_types.specs.Steps.{by_option}
use Rattle.manifest_files.specs.declared.field_type.FieldType.TheVariants as type
use Rattle.manifest_files.specs.declared.places.SummaryPlaces.{SummaryPlaces}
use Rattle.manifest_files.specs.declared.places.RowPlaces.{RowPlaces}
use Rattle.manifest_files.specs.FieldTypes.{record_fields}
use Rattle.manifest_files.specs.Places.{field_from, needed, optional, optional_items, fields_of_items, summary_fields, summary_places, row_places}
use Rattle.manifest_writer.specs.ListTypes.{list_types}
use Rattle.row_writer.proofs.CallerLemmas.{Plan, boolean_plan, int_plan, long_plan, bytes_plan, text_plan, optional_plan, items_plan, record_plan, types_of, plan_out}
use Rattle.manifest_writer.proofs.PlanTypes.{items_is, fields_is, goes, needed_is, optional_is, optional_items_is}
use Rattle.manifest_writer.proofs.ListFits.{summary_plans, list_plans, list_plan}

abbrev pub summaries : SummaryPlaces
summaries = record { place = Some 13; contains_null = 0; lower = Some 1; upper = Some 2 }

abbrev pub list_places : RowPlaces
list_places = record { path = 0; file_length = Some 1; spec = 2; content = 3; seq = 4; min_seq = 5; snapshot = 6; added_files = Some 7; existing_files = Some 8; deleted_files = Some 9; added_rows = Some 10; existing_rows = Some 11; deleted_rows = Some 12; summaries = summaries; key = None }

abbrev fields : List Field
fields = types_of list_plans

abbrev summary : Plan
summary = record_plan (codes "r508") summary_plans

inner_fields : fields_of_items (pos 507) fields ≡ types_of summary_plans
unfolding field_from
inner_fields = ap (λ (o : Option Schema). by_option o record_fields []) (items_is (optional_plan (items_plan (pos 508) summary))) ∙ fields_is summary

summary_found : summary_fields 13 (types_of summary_plans) ≡ Ok summaries
unfolding summary_fields field_from
summary_found =
    goes (needed type.Boolean (pos 509) (types_of summary_plans)) _ 0 _ (needed_is type.Boolean (pos 509) (types_of summary_plans) (codes "contains_null") 0 boolean_plan refl refl)
    (goes (optional type.Bytes (pos 510) (types_of summary_plans)) _ (Some 1) _ (optional_is type.Bytes (pos 510) (types_of summary_plans) (codes "lower_bound") 1 (optional_plan bytes_plan) refl refl)
    (goes (optional type.Bytes (pos 511) (types_of summary_plans)) _ (Some 2) _ (optional_is type.Bytes (pos 511) (types_of summary_plans) (codes "upper_bound") 2 (optional_plan bytes_plan) refl refl) refl))

summaries_found : summary_places fields ≡ Ok summaries
unfolding summary_places field_from
summaries_found =
    goes (optional_items type.Record (pos 507) fields) _ (Some 13) _ (optional_items_is type.Record (pos 507) fields (codes "partitions") 13 (pos 508) summary refl refl)
    (ap (summary_fields 13) inner_fields ∙ summary_found)

places_found : row_places fields ≡ Ok list_places
unfolding row_places field_from
places_found =
    goes (needed type.Text (pos 500) fields) _ 0 _ (needed_is type.Text (pos 500) fields (codes "manifest_path") 0 text_plan refl refl)
    (goes (optional type.Long (pos 501) fields) _ (Some 1) _ (optional_is type.Long (pos 501) fields (codes "manifest_length") 1 (optional_plan long_plan) refl refl)
    (goes (needed type.Int (pos 502) fields) _ 2 _ (needed_is type.Int (pos 502) fields (codes "partition_spec_id") 2 int_plan refl refl)
    (goes (needed type.Int (pos 517) fields) _ 3 _ (needed_is type.Int (pos 517) fields (codes "content") 3 int_plan refl refl)
    (goes (needed type.Long (pos 515) fields) _ 4 _ (needed_is type.Long (pos 515) fields (codes "sequence_number") 4 long_plan refl refl)
    (goes (needed type.Long (pos 516) fields) _ 5 _ (needed_is type.Long (pos 516) fields (codes "min_sequence_number") 5 long_plan refl refl)
    (goes (needed type.Long (pos 503) fields) _ 6 _ (needed_is type.Long (pos 503) fields (codes "added_snapshot_id") 6 long_plan refl refl)
    (goes (optional type.Int (pos 504) fields) _ (Some 7) _ (optional_is type.Int (pos 504) fields (codes "added_files_count") 7 (optional_plan int_plan) refl refl)
    (goes (optional type.Int (pos 505) fields) _ (Some 8) _ (optional_is type.Int (pos 505) fields (codes "existing_files_count") 8 (optional_plan int_plan) refl refl)
    (goes (optional type.Int (pos 506) fields) _ (Some 9) _ (optional_is type.Int (pos 506) fields (codes "deleted_files_count") 9 (optional_plan int_plan) refl refl)
    (goes (optional type.Long (pos 512) fields) _ (Some 10) _ (optional_is type.Long (pos 512) fields (codes "added_rows_count") 10 (optional_plan long_plan) refl refl)
    (goes (optional type.Long (pos 513) fields) _ (Some 11) _ (optional_is type.Long (pos 513) fields (codes "existing_rows_count") 11 (optional_plan long_plan) refl refl)
    (goes (optional type.Long (pos 514) fields) _ (Some 12) _ (optional_is type.Long (pos 514) fields (codes "deleted_rows_count") 12 (optional_plan long_plan) refl refl)
    (goes (summary_places fields) _ summaries _ summaries_found refl)))))))))))))

pub list_places_is : row_places (fields_of list_types) ≡ Ok list_places
list_places_is = ap (λ x. row_places (fields_level x)) (plan_out list_plan) ∙ places_found
