-- Where the fields of a written manifest stand.
use Rattle.std.proofs.Common.{◌≡◌, ℕ, ℤ, pos, List, [], Option, Some, None, Ok, refl, ap, ◌∙◌}
use Rattle.std.specs.Prelude.{codes}
use Rattle.plain_types.specs.Steps.{◌>>=◌}
use Rattle.row_values.specs.declared.schema.Column.{Column}
use Rattle.row_values.specs.declared.partition.PartField.{PartField}
use Rattle.avro_binary.specs.declared.schema.Field.{Field}
use Rattle.avro_rows.specs.Sources.{fields_level, fields_of}
use Rattle.manifest_files.specs.declared.field_type.FieldType.TheVariants as type
use Rattle.manifest_files.specs.declared.places.PartPlace.{PartPlace}
use Rattle.manifest_files.specs.declared.places.FilePlaces.{FilePlaces}
use Rattle.manifest_files.specs.declared.places.EntryPlaces.{EntryPlaces}
use Rattle.manifest_files.specs.Places.{field_from, needed, optional, optional_items, pairs, fields_under, part_places, file_places, entry_places}
use Rattle.row_writer.proofs.CallerLemmas.{int_plan, long_plan, bytes_plan, text_plan, optional_plan, record_plan, Plans, no_plans, more_plans, type_of, types_of, plan_out}
use Rattle.manifest_writer.proofs.PlanTypes.{fields_is, goes, needed_is, optional_is, optional_items_is, typed_at_is, pairs_is}
use Rattle.manifest_writer.proofs.FactLaws.{pair_places}
use Rattle.manifest_writer.proofs.EntryFits.{file_plans, entry_plans, entry_plan}

abbrev file_with : List PartPlace → Option ℕ → Option ℕ → Option ℕ → FilePlaces
file_with parts key ids referenced = record { content = Some 0; path = 1; format = 2; partition = 3; part_fields = parts; count = 4; size = 5; values = pair_places 6; nulls = pair_places 7; lower = pair_places 8; upper = pair_places 9; key = key; equality_ids = ids; referenced = referenced }

abbrev pub file_found : List PartPlace → FilePlaces
file_found parts = file_with parts None (Some 10) (Some 11)

abbrev pub entry_found : List PartPlace → EntryPlaces
entry_found parts = record { status = 0; snapshot = Some 1; seq = Some 2; file_seq = Some 3; data_file = 4; file = file_found parts }

abbrev counts_in : ℤ → ℤ → Plans
counts_in key value = more_plans key (codes "key") int_plan (more_plans value (codes "value") long_plan no_plans)

abbrev bounds_in : ℤ → ℤ → Plans
bounds_in key value = more_plans key (codes "key") int_plan (more_plans value (codes "value") bytes_plan no_plans)

files_found : (columns : List Column) (parts : List PartField) (ps : Plans) (found : List PartPlace)
    → part_places columns (types_of ps) [] parts ≡ Ok found
    → file_places columns parts (types_of (file_plans ps)) ≡ Ok (file_found found)
unfolding file_places field_from
files_found columns parts ps found h =
    let fields : List Field = types_of (file_plans ps) in
    goes (optional type.Int (pos 134) fields) _ (Some 0) _ (optional_is type.Int (pos 134) fields (codes "content") 0 int_plan refl refl)
    (goes (needed type.Text (pos 100) fields) _ 1 _ (needed_is type.Text (pos 100) fields (codes "file_path") 1 text_plan refl refl)
    (goes (needed type.Text (pos 101) fields) _ 2 _ (needed_is type.Text (pos 101) fields (codes "file_format") 2 text_plan refl refl)
    (goes (needed type.Record (pos 102) fields) _ 3 _ (needed_is type.Record (pos 102) fields (codes "partition") 3 (record_plan (codes "r102") ps) refl refl)
    (goes (part_places columns (fields_under (pos 102) fields) [] parts) _ found _ (ap (λ (fs : List Field). part_places columns fs [] parts) (fields_is (record_plan (codes "r102") ps)) ∙ h)
    (goes (needed type.Long (pos 103) fields) _ 4 _ (needed_is type.Long (pos 103) fields (codes "record_count") 4 long_plan refl refl)
    (goes (needed type.Long (pos 104) fields) _ 5 _ (needed_is type.Long (pos 104) fields (codes "file_size_in_bytes") 5 long_plan refl refl)
    (goes (pairs type.Long (pos 109) (pos 119) (pos 120) fields) _ (pair_places 6) _ (pairs_is type.Long (pos 109) (pos 119) (pos 120) fields (codes "value_counts") 6 (codes "k119_v120") (counts_in (pos 119) (pos 120)) refl
    (typed_at_is type.Int (pos 119) (types_of (counts_in (pos 119) (pos 120))) (codes "key") 0 int_plan refl refl) (typed_at_is type.Long (pos 120) (types_of (counts_in (pos 119) (pos 120))) (codes "value") 1 long_plan refl refl))
    (goes (pairs type.Long (pos 110) (pos 121) (pos 122) fields) _ (pair_places 7) _ (pairs_is type.Long (pos 110) (pos 121) (pos 122) fields (codes "null_value_counts") 7 (codes "k121_v122") (counts_in (pos 121) (pos 122)) refl
    (typed_at_is type.Int (pos 121) (types_of (counts_in (pos 121) (pos 122))) (codes "key") 0 int_plan refl refl) (typed_at_is type.Long (pos 122) (types_of (counts_in (pos 121) (pos 122))) (codes "value") 1 long_plan refl refl))
    (goes (pairs type.Bytes (pos 125) (pos 126) (pos 127) fields) _ (pair_places 8) _ (pairs_is type.Bytes (pos 125) (pos 126) (pos 127) fields (codes "lower_bounds") 8 (codes "k126_v127") (bounds_in (pos 126) (pos 127)) refl
    (typed_at_is type.Int (pos 126) (types_of (bounds_in (pos 126) (pos 127))) (codes "key") 0 int_plan refl refl) (typed_at_is type.Bytes (pos 127) (types_of (bounds_in (pos 126) (pos 127))) (codes "value") 1 bytes_plan refl refl))
    (goes (pairs type.Bytes (pos 128) (pos 129) (pos 130) fields) _ (pair_places 9) _ (pairs_is type.Bytes (pos 128) (pos 129) (pos 130) fields (codes "upper_bounds") 9 (codes "k129_v130") (bounds_in (pos 129) (pos 130)) refl
    (typed_at_is type.Int (pos 129) (types_of (bounds_in (pos 129) (pos 130))) (codes "key") 0 int_plan refl refl) (typed_at_is type.Bytes (pos 130) (types_of (bounds_in (pos 129) (pos 130))) (codes "value") 1 bytes_plan refl refl))
    (goes (optional type.Bytes (pos 131) fields) (λ key. optional_items type.Int (pos 135) fields >>= λ ids. optional type.Text (pos 143) fields >>= λ referenced. Ok (file_with found key ids referenced)) None (Ok (file_found found)) refl
    (goes (optional_items type.Int (pos 135) fields) (λ ids. optional type.Text (pos 143) fields >>= λ referenced. Ok (file_with found None ids referenced)) (Some 10) (Ok (file_found found)) (optional_items_is type.Int (pos 135) fields (codes "equality_ids") 10 (pos 136) int_plan refl refl)
    (goes (optional type.Text (pos 143) fields) (λ referenced. Ok (file_with found None (Some 10) referenced)) (Some 11) (Ok (file_found found)) (optional_is type.Text (pos 143) fields (codes "referenced_data_file") 11 (optional_plan text_plan) refl refl) refl)))))))))))))

entries_found : (columns : List Column) (parts : List PartField) (ps : Plans) (found : List PartPlace)
    → part_places columns (types_of ps) [] parts ≡ Ok found
    → entry_places columns parts (types_of (entry_plans ps)) ≡ Ok (entry_found found)
unfolding entry_places field_from
entries_found columns parts ps found h =
    let fields : List Field = types_of (entry_plans ps) in
    goes (needed type.Int (pos 0) fields) _ 0 _ (needed_is type.Int (pos 0) fields (codes "status") 0 int_plan refl refl)
    (goes (optional type.Long (pos 1) fields) _ (Some 1) _ (optional_is type.Long (pos 1) fields (codes "snapshot_id") 1 (optional_plan long_plan) refl refl)
    (goes (optional type.Long (pos 3) fields) _ (Some 2) _ (optional_is type.Long (pos 3) fields (codes "sequence_number") 2 (optional_plan long_plan) refl refl)
    (goes (optional type.Long (pos 4) fields) _ (Some 3) _ (optional_is type.Long (pos 4) fields (codes "file_sequence_number") 3 (optional_plan long_plan) refl refl)
    (goes (needed type.Record (pos 2) fields) _ 4 _ (needed_is type.Record (pos 2) fields (codes "data_file") 4 (record_plan (codes "r2") (file_plans ps)) refl refl)
    (goes (file_places columns parts (fields_under (pos 2) fields)) _ (file_found found) _ (ap (file_places columns parts) (fields_is (record_plan (codes "r2") (file_plans ps))) ∙ files_found columns parts ps found h) refl)))))

pub entry_places_is : (columns : List Column) (parts : List PartField) (ps : Plans) (found : List PartPlace)
    → part_places columns (types_of ps) [] parts ≡ Ok found
    → entry_places columns parts (fields_of (type_of (entry_plan ps))) ≡ Ok (entry_found found)
entry_places_is columns parts ps found h = ap (λ x. entry_places columns parts (fields_level x)) (plan_out (entry_plan ps)) ∙ entries_found columns parts ps found h
