-- The entries of a manifest fit its type.
use Rattle.std.proofs.Common.{◌≡◌, ℕ, ◌^◌, ℤ, pos, List, [], ◌∷◌, map, Bool, true, false, nat_eq, nat_lt, Option, Some, None, refl, sym, ap, subst, ◌∙◌, arith}
use Rattle.std.specs.Prelude.{codes, if◌then◌else◌}
use Rattle.std.specs.List.{AllByRecursion}
use Rattle.row_values.specs.declared.schema.TableSchema.{TableSchema}
use Rattle.row_values.specs.declared.partition.Spec.{Spec}
use Rattle.avro_binary.specs.declared.datum.Datum.TheVariants as datum
use Rattle.avro_binary.specs.Shape.{Shape, int_shape, long_shape, bytes_shape, text_shape, record_shape, array_shape, Shapes, no_shapes, more_shapes, shape, level, field_level}
use Rattle.avro_binary.specs.Spelling.{IsSignedOf, Fits}
use Rattle.avro_binary.proofs.CallerLemmas.{is_text}
use Rattle.manifest_files.specs.declared.entry.Content.{Content}
use Rattle.manifest_files.specs.declared.entry.Content.TheVariants as content
use Rattle.manifest_files.specs.declared.entry.Entry.{Entry}
use Rattle.manifest_writer.specs.declared.fact.Fact.TheVariants as fact
use Rattle.manifest_writer.specs.EntryTypes.{types_with, entry_types}
use Rattle.manifest_writer.specs.EntryDatum.{content_number, own_number, id_datum, ids_value, file_values, datum_of_entry, HasFile, IsEntry}
use Rattle.manifest_writer.specs.PartDatum.{part_datums}
use Rattle.manifest_writer.specs.PartNames.{are_names}
use Rattle.manifest_writer.specs.Value.{optional_text, AreUtf8}
use Rattle.row_writer.proofs.CallerLemmas.{Plan, int_plan, long_plan, bytes_plan, text_plan, pairs_plan, optional_plan, items_plan, record_plan, Plans, no_plans, more_plans, type_of, types_of, plan_folds, plan_shapes, option_shape, text_fits, int_fits, none_fits, some_fits, no_field, more_fields, record_fits, array_fits}
use Rattle.manifest_writer.proofs.PartPlans.{part_plans, parts_are}
use Rattle.manifest_writer.proofs.PartFits.{parts_fit}
use Rattle.manifest_writer.proofs.FactFits.{count_by, pair_shape, fact_value_fits}
use Rattle.manifest_writer.proofs.FieldLaws.{optional_long_fits}

-- a map of a fact
abbrev pub pairs_of_plan : List ℕ → ℤ → ℤ → Plan → Plan
pairs_of_plan name key value p = pairs_plan (record_plan name (more_plans key (codes "key") int_plan (more_plans value (codes "value") p no_plans)))

abbrev pub file_plans : Plans → Plans
file_plans parts = more_plans (pos 134) (codes "content") int_plan (more_plans (pos 100) (codes "file_path") text_plan (more_plans (pos 101) (codes "file_format") text_plan (more_plans (pos 102) (codes "partition") (record_plan (codes "r102") parts)
    (more_plans (pos 103) (codes "record_count") long_plan (more_plans (pos 104) (codes "file_size_in_bytes") long_plan
    (more_plans (pos 109) (codes "value_counts") (optional_plan (pairs_of_plan (codes "k119_v120") (pos 119) (pos 120) long_plan)) (more_plans (pos 110) (codes "null_value_counts") (optional_plan (pairs_of_plan (codes "k121_v122") (pos 121) (pos 122) long_plan))
    (more_plans (pos 125) (codes "lower_bounds") (optional_plan (pairs_of_plan (codes "k126_v127") (pos 126) (pos 127) bytes_plan)) (more_plans (pos 128) (codes "upper_bounds") (optional_plan (pairs_of_plan (codes "k129_v130") (pos 129) (pos 130) bytes_plan))
    (more_plans (pos 135) (codes "equality_ids") (optional_plan (items_plan (pos 136) int_plan)) (more_plans (pos 143) (codes "referenced_data_file") (optional_plan text_plan) no_plans)))))))))))

abbrev pub entry_plans : Plans → Plans
entry_plans parts = more_plans (pos 0) (codes "status") int_plan (more_plans (pos 1) (codes "snapshot_id") (optional_plan long_plan) (more_plans (pos 3) (codes "sequence_number") (optional_plan long_plan) (more_plans (pos 4) (codes "file_sequence_number") (optional_plan long_plan)
    (more_plans (pos 2) (codes "data_file") (record_plan (codes "r2") (file_plans parts)) no_plans))))

-- the plan, with these fields of the partition
abbrev pub entry_plan : Plans → Plan
entry_plan parts = record_plan (codes "manifest_entry") (entry_plans parts)

abbrev pub spec_plans : Spec → TableSchema → Plans
spec_plans spec schema = part_plans schema.columns (are_names spec.fields) spec.fields

with_plans : (parts : Plans) → type_of (entry_plan parts) ≡ types_with (types_of parts)
with_plans parts = refl

pub entry_types_is : (spec : Spec) (schema : TableSchema) → type_of (entry_plan (spec_plans spec schema)) ≡ entry_types spec schema
entry_types_is spec schema = with_plans (spec_plans spec schema) ∙ ap types_with (parts_are schema.columns (are_names spec.fields) spec.fields)

abbrev file_shape : Shapes → Shape
file_shape parts = record_shape (more_shapes int_shape (more_shapes text_shape (more_shapes text_shape (more_shapes (record_shape parts) (more_shapes long_shape (more_shapes long_shape
    (more_shapes (option_shape (array_shape (pair_shape long_shape))) (more_shapes (option_shape (array_shape (pair_shape long_shape))) (more_shapes (option_shape (array_shape (pair_shape bytes_shape))) (more_shapes (option_shape (array_shape (pair_shape bytes_shape)))
    (more_shapes (option_shape (array_shape int_shape)) (more_shapes (option_shape text_shape) no_shapes))))))))))))

abbrev pub entry_shape : Shapes → Shape
entry_shape parts = record_shape (more_shapes int_shape (more_shapes (option_shape long_shape) (more_shapes (option_shape long_shape) (more_shapes (option_shape long_shape) (more_shapes (file_shape parts) no_shapes)))))

pub entry_shape_is : (parts : Plans) → shape (type_of (entry_plan parts)) ≡ entry_shape (plan_shapes parts)
entry_shape_is parts = plan_folds Shape Shape level field_level (entry_plan parts)

status_by : (a b : Bool) → Fits int_shape (datum.Int (if a then pos 0 else if b then pos 1 else pos 2))
status_by true b = int_fits (pos 0) (omega arith)
status_by false true = int_fits (pos 1) (omega arith)
status_by false false = int_fits (pos 2) (omega arith)

content_fits : (c : Content) → Fits int_shape (datum.Int (content_number c))
content_fits content.Data = int_fits (pos 0) (omega arith)
content_fits content.PositionDeletes = int_fits (pos 1) (omega arith)
content_fits content.EqualityDeletes = int_fits (pos 2) (omega arith)

ids_fit : (ids : List ℤ) → AllByRecursion (IsSignedOf 31) ids → AllByRecursion (Fits int_shape) (map id_datum ids)
ids_fit [] h = tt
ids_fit (id ∷ ids) (first, others) = (int_fits id first, ids_fit ids others)

ids_value_fits : (ids : List ℤ) → AllByRecursion (IsSignedOf 31) ids → Fits (option_shape (array_shape int_shape)) (ids_value ids)
ids_value_fits [] h = none_fits (array_shape int_shape)
ids_value_fits (id ∷ ids) h = some_fits (array_shape int_shape) (datum.Array (map id_datum (id ∷ ids))) (array_fits int_shape (map id_datum (id ∷ ids)) (ids_fit (id ∷ ids) h))

referenced_fits : (text : Option (List ℕ)) → AreUtf8 text → Fits (option_shape text_shape) (optional_text text)
referenced_fits None h = none_fits text_shape
referenced_fits (Some text) h = some_fits text_shape (datum.Text text) (text_fits text h)

file_fits : (spec : Spec) (schema : TableSchema) (entry : Entry) → HasFile entry
    → Fits (file_shape (plan_shapes (spec_plans spec schema))) (datum.Record (file_values spec schema entry))
file_fits spec schema entry (path, stats, ids, referenced) = record_fits _ _
    (more_fields _ _ _ _ (content_fits entry.content)
    (more_fields _ _ _ _ (text_fits entry.path path)
    (more_fields _ _ _ _ (text_fits (codes "AVRO") (is_text (codes "AVRO") refl))
    (more_fields _ _ _ _ (record_fits (plan_shapes (spec_plans spec schema)) (part_datums schema.columns spec.fields entry.partition)
    (parts_fit schema.columns (are_names spec.fields) spec.fields entry.partition))
    (more_fields _ _ _ _ (count_by (nat_lt entry.count (2 ^ 63)) entry.count refl) (more_fields _ _ _ _ (count_by (nat_lt entry.size (2 ^ 63)) entry.size refl)
    (more_fields _ _ _ _ (fact_value_fits fact.Values entry.stats.columns stats)
    (more_fields _ _ _ _ (fact_value_fits fact.Nulls entry.stats.columns stats)
    (more_fields _ _ _ _ (fact_value_fits fact.Lower entry.stats.columns stats)
    (more_fields _ _ _ _ (fact_value_fits fact.Upper entry.stats.columns stats)
    (more_fields _ _ _ _ (ids_value_fits entry.equality_ids ids) (more_fields _ _ _ _ (referenced_fits entry.referenced referenced) no_field))))))))))))

entry_fits : (spec : Spec) (schema : TableSchema) (entry : Entry) → IsEntry entry
    → Fits (entry_shape (plan_shapes (spec_plans spec schema))) (datum_of_entry spec schema entry)
entry_fits spec schema entry ((snapshot, seq, file_seq), file) = record_fits _ _
    (more_fields _ _ _ _ (status_by (nat_eq entry.status 0) (nat_eq entry.status 1)) (more_fields _ _ _ _ (optional_long_fits (Some entry.snapshot) snapshot) (more_fields _ _ _ _ (optional_long_fits (own_number entry.status entry.seq) seq)
    (more_fields _ _ _ _ (optional_long_fits (own_number entry.status entry.file_seq) file_seq) (more_fields _ _ _ _ (file_fits spec schema entry file) no_field)))))

all_fit : (spec : Spec) (schema : TableSchema) (entries : List Entry) → AllByRecursion IsEntry entries
    → AllByRecursion (Fits (entry_shape (plan_shapes (spec_plans spec schema)))) (map (datum_of_entry spec schema) entries)
all_fit spec schema [] h = tt
all_fit spec schema (entry ∷ entries) (first, others) = (entry_fits spec schema entry first, all_fit spec schema entries others)

pub entries_fit : (spec : Spec) (schema : TableSchema) (entries : List Entry) → AllByRecursion IsEntry entries
    → AllByRecursion (Fits (shape (entry_types spec schema))) (map (datum_of_entry spec schema) entries)
entries_fit spec schema entries h = subst (λ (s : Shape). AllByRecursion (Fits s) (map (datum_of_entry spec schema) entries)) (sym (entry_shape_is (spec_plans spec schema)) ∙ ap shape (entry_types_is spec schema)) (all_fit spec schema entries h)
