-- The type of a manifest's entries has a text.
use Rattle.std.proofs.Common.{◌≡◌, ℕ, suc, ◌+◌, ◌*◌, ◌≤◌, ℤ, pos, List, [], ◌∷◌, ◌++◌, length, Bool, true, false, cond, not, ◌&&◌, is_some, Option, Some, None, option_and_then, refl, sym, ap, ◌∙◌, arith}
use Rattle.std.specs.Prelude.{codes}
use Rattle.std.specs.List.{list_all}
use Rattle.std.specs.Ordering.{int_eq}
use Rattle.std.specs.Str.{bytes_eq}
use Rattle.row_values.specs.declared.kind.Kind.{Kind}
use Rattle.row_values.specs.declared.kind.Kind.TheVariants as kind
use Rattle.row_values.specs.declared.schema.Column.{Column}
use Rattle.row_values.specs.declared.schema.TableSchema.{TableSchema}
use Rattle.row_values.specs.declared.partition.PartField.{PartField}
use Rattle.row_values.specs.declared.partition.Spec.{Spec}
use Rattle.avro_binary.specs.Naming.{has_begun}
use Rattle.avro_binary.specs.SchemaOnce.{has_text, is_id, each_once}
use Rattle.avro_binary.specs.Shape.{shape}
use Rattle.avro_binary.specs.Spelling.{takes_bytes, items_take_bytes, all_items_take_bytes}
use Rattle.avro_binary.proofs.CallerLemmas.{are_ascii}
use Rattle.manifest_files.specs.PartitionKinds.{kind_of_field}
use Rattle.manifest_writer.specs.EntryTypes.{entry_types}
use Rattle.manifest_writer.specs.PartNames.{has_name, are_names, part_name}
use Rattle.row_writer.specs.Names.{is_name, decimal_name}
use Rattle.manifest_writer.specs.Readable.{has_field, are_apart, IsWritableSpec}
use Rattle.row_writer.proofs.CallerLemmas.{plan_shape, plan_has_text, kind_plain, after_kind, kind_named, kind_items, kind_nodes, kind_within, name_ascii, id_ascii, decimal_name_ascii, begun_append, one_is, names_differ, no_column_here, turned, not_false, first, second, Plan, int_plan, long_plan, bytes_plan, text_plan, optional_plan, items_plan, Plans, no_plans, more_plans, named, named_each, plain_names, plain_fields, nodes, nodes_of, within, all_within, plan_shapes}
use Rattle.manifest_writer.proofs.PartPlans.{part_plan, part_plans}
use Rattle.manifest_writer.proofs.PartLaws.{is_sound, are_sound, are_kinds, kinds_sound}
use Rattle.manifest_writer.proofs.EntryFits.{pairs_of_plan, entry_plan, spec_plans, entry_types_is, entry_shape, entry_shape_is}

-- ---- plain names

part_name_ascii : (keeps : Bool) (part : PartField) → (keeps ≡ true → is_name part.name ≡ true) → is_id (Some part.field) ≡ true
    → are_ascii (part_name keeps part) ≡ true
part_name_ascii true part h id = name_ascii part.name (h refl)
part_name_ascii false part h id = id_ascii part.field id

part_plain : (name : List ℕ) (k : Option Kind) → are_ascii name ≡ true → is_sound k ≡ true → plain_names (part_plan name k) ≡ true
part_plain name None text h = refl
part_plain name (Some k) text h = kind_plain name k text h

abbrev are_ids : List PartField → Bool
are_ids parts = list_all (λ part. is_id (Some part.field)) parts

parts_plain : (columns : List Column) (keeps : Bool) (parts : List PartField) → (keeps ≡ true → are_names parts ≡ true)
    → are_ids parts ≡ true → are_sound columns parts ≡ true → plain_fields (part_plans columns keeps parts) ≡ true
unfolding are_names
parts_plain columns keeps [] names ids sound = refl
parts_plain columns keeps (part ∷ parts) names ids sound =
    let k : Option Kind = kind_of_field columns part in
    let rest : Bool = not (has_name part.name parts) && are_names parts in
    let id = first (is_id (Some part.field)) (are_ids parts) ids in
    let name = part_name_ascii keeps part (λ h. first (is_name part.name) rest (names h)) id in
    let plan : Plan = part_plan (decimal_name part.field) k in
    ap (λ (b : Bool). b && (is_id (Some part.field) && (plain_names plan && plain_fields (part_plans columns keeps parts)))) name
    ∙ ap (λ (b : Bool). b && (plain_names plan && plain_fields (part_plans columns keeps parts))) id
    ∙ ap (λ (b : Bool). b && plain_fields (part_plans columns keeps parts)) (part_plain (decimal_name part.field) k (decimal_name_ascii part.field id) (first (is_sound k) (are_sound columns parts) sound))
    ∙ parts_plain columns keeps parts (λ h. second (not (has_name part.name parts)) (are_names parts) (second (is_name part.name) rest (names h))) (second (is_id (Some part.field)) (are_ids parts) ids) (second (is_sound k) (are_sound columns parts) sound)

-- ---- each name once

abbrev Names : Type 0
Names = List (List ℕ)

-- the names after a field's type
abbrev after_part : ℤ → Option Kind → Names → Names
after_part id None begun = begun
after_part id (Some k) begun = after_kind (decimal_name id) k begun

part_named : (id : ℤ) (k : Option Kind) (begun : Names) → has_begun (decimal_name id) begun ≡ false
    → named (part_plan (decimal_name id) k) begun ≡ Some (after_part id k begun)
part_named id None begun h = refl
part_named id (Some k) begun h = ap (option_and_then (each_once [])) (kind_named (decimal_name id) k begun h)

-- the fields whose decimals' names didn't stand yet
abbrev are_free : Names → List PartField → Bool
are_free begun parts = list_all (λ part. not (has_begun (decimal_name part.field) begun)) parts

free_more : (begun : Names) (id : ℤ) (parts : List PartField) → is_id (Some id) ≡ true → are_ids parts ≡ true
    → not (has_field id parts) ≡ true → are_free begun parts ≡ true → are_free (begun ++ decimal_name id ∷ []) parts ≡ true
unfolding has_begun
free_more begun id [] h ids new free = refl
free_more begun id (part ∷ parts) h ids new free =
    let name : List ℕ = decimal_name part.field in
    let here = no_column_here (int_eq part.field id) (has_field id parts) new in
    let other = names_differ id part.field h (first (is_id (Some part.field)) (are_ids parts) ids) (turned part.field id here.0) in
    let one : has_begun name (decimal_name id ∷ []) ≡ false = ap (λ (b : Bool). cond b true false) other in
    let before : has_begun name begun ≡ false = not_false (has_begun name begun) (first (not (has_begun name begun)) (are_free begun parts) free) in
    ap (λ (b : Bool). not b && are_free (begun ++ decimal_name id ∷ []) parts) (begun_append name begun (decimal_name id ∷ []) before one)
    ∙ free_more begun id parts h (second (is_id (Some part.field)) (are_ids parts) ids) here.1 (second (not (has_begun name begun)) (are_free begun parts) free)

-- the type adds no name, or that of the field's decimals
after_is : (P : Names → Type 0) (id : ℤ) (k : Option Kind) (begun : Names) → P begun → P (begun ++ decimal_name id ∷ []) → P (after_part id k begun)
after_is P id None begun same more = same
after_is P id (Some kind.Bool) begun same more = same
after_is P id (Some kind.Int) begun same more = same
after_is P id (Some kind.Long) begun same more = same
after_is P id (Some kind.Date) begun same more = same
after_is P id (Some (kind.Timestamp utc)) begun same more = same
after_is P id (Some (kind.Decimal precision scale)) begun same more = more
after_is P id (Some kind.Text) begun same more = same
after_is P id (Some kind.Bytes) begun same more = same

-- the names after the fields' types
abbrev after_parts : List Column → List PartField → Names → Names
after_parts columns [] begun = begun
after_parts columns (part ∷ parts) begun = after_parts columns parts (after_part part.field (kind_of_field columns part) begun)

parts_named : (columns : List Column) (keeps : Bool) (parts : List PartField) (begun : Names) → are_ids parts ≡ true → are_apart parts ≡ true
    → are_free begun parts ≡ true → named_each (part_plans columns keeps parts) begun ≡ Some (after_parts columns parts begun)
unfolding are_apart
parts_named columns keeps [] begun ids apart free = refl
parts_named columns keeps (part ∷ parts) begun ids apart free =
    let name : List ℕ = decimal_name part.field in
    let k : Option Kind = kind_of_field columns part in
    let new : has_begun name begun ≡ false = not_false (has_begun name begun) (first (not (has_begun name begun)) (are_free begun parts) free) in
    let later : are_free begun parts ≡ true = second (not (has_begun name begun)) (are_free begun parts) free in
    let others : are_ids parts ≡ true = second (is_id (Some part.field)) (are_ids parts) ids in
    let more = free_more begun part.field parts (first (is_id (Some part.field)) (are_ids parts) ids) others (first (not (has_field part.field parts)) (are_apart parts) apart) later in
    ap (λ (o : Option Names). option_and_then (named_each (part_plans columns keeps parts)) o) (part_named part.field k begun new)
    ∙ parts_named columns keeps parts (after_part part.field k begun) others (second (not (has_field part.field parts)) (are_apart parts) apart) (after_is (λ (xs : Names). are_free xs parts ≡ true) part.field k begun later more)

-- a name that no type of decimals has
abbrev IsOther : List ℕ → Type 0
IsOther name = (id : ℤ) → bytes_eq (decimal_name id) name ≡ false

no_other : (name : List ℕ) (columns : List Column) (parts : List PartField) (begun : Names) → IsOther name → has_begun name begun ≡ false
    → has_begun name (after_parts columns parts begun) ≡ false
unfolding has_begun
no_other name columns [] begun other h = h
no_other name columns (part ∷ parts) begun other h =
    let one : has_begun name (decimal_name part.field ∷ []) ≡ false = ap (λ (b : Bool). cond b true false) (other part.field) in
    no_other name columns parts (after_part part.field (kind_of_field columns part) begun) other
    (after_is (λ (xs : Names). has_begun name xs ≡ false) part.field (kind_of_field columns part) begun h (begun_append name begun (decimal_name part.field ∷ []) h one))

-- the types before the partition's
abbrev base : Names
base = codes "manifest_entry" ∷ codes "r2" ∷ codes "r102" ∷ []

all_free : (parts : List PartField) → are_free base parts ≡ true
unfolding has_begun
all_free [] = refl
all_free (part ∷ parts) = all_free parts

abbrev counts_of : List ℕ → ℤ → ℤ → Plan
counts_of name key value = optional_plan (pairs_of_plan name key value long_plan)

abbrev bounds_of : List ℕ → ℤ → ℤ → Plan
bounds_of name key value = optional_plan (pairs_of_plan name key value bytes_plan)

counts_named : (name : List ℕ) (key value : ℤ) (begun : Names) → has_begun name begun ≡ false
    → named (counts_of name key value) begun ≡ Some (begun ++ name ∷ [])
counts_named name key value begun h = ap (λ (o : Option Names). option_and_then (each_once []) (option_and_then (named_each (more_plans key (codes "key") int_plan (more_plans value (codes "value") long_plan no_plans))) o)) (one_is name begun h)

bounds_named : (name : List ℕ) (key value : ℤ) (begun : Names) → has_begun name begun ≡ false
    → named (bounds_of name key value) begun ≡ Some (begun ++ name ∷ [])
bounds_named name key value begun h = ap (λ (o : Option Names). option_and_then (each_once []) (option_and_then (named_each (more_plans key (codes "key") int_plan (more_plans value (codes "value") bytes_plan no_plans))) o)) (one_is name begun h)

-- the fields behind the partition
abbrev upper_plans : Plans
upper_plans = more_plans (pos 128) (codes "upper_bounds") (bounds_of (codes "k129_v130") (pos 129) (pos 130)) (more_plans (pos 135) (codes "equality_ids") (optional_plan (items_plan (pos 136) int_plan)) (more_plans (pos 143) (codes "referenced_data_file") (optional_plan text_plan) no_plans))

abbrev lower_plans : Plans
lower_plans = more_plans (pos 125) (codes "lower_bounds") (bounds_of (codes "k126_v127") (pos 126) (pos 127)) upper_plans

abbrev null_plans : Plans
null_plans = more_plans (pos 110) (codes "null_value_counts") (counts_of (codes "k121_v122") (pos 121) (pos 122)) lower_plans

abbrev value_plans : Plans
value_plans = more_plans (pos 109) (codes "value_counts") (counts_of (codes "k119_v120") (pos 119) (pos 120)) null_plans

abbrev later_plans : Plans
later_plans = more_plans (pos 103) (codes "record_count") long_plan (more_plans (pos 104) (codes "file_size_in_bytes") long_plan value_plans)

later_named : (begun : Names) → has_begun (codes "k119_v120") begun ≡ false → has_begun (codes "k121_v122") begun ≡ false
    → has_begun (codes "k126_v127") begun ≡ false → has_begun (codes "k129_v130") begun ≡ false
    → is_some (named_each later_plans begun) ≡ true
unfolding has_begun
later_named begun a b c d =
    let one : Names = begun ++ codes "k119_v120" ∷ [] in
    let two : Names = one ++ codes "k121_v122" ∷ [] in
    let three : Names = two ++ codes "k126_v127" ∷ [] in
    let b1 = begun_append (codes "k121_v122") begun (codes "k119_v120" ∷ []) b refl in
    let c1 = begun_append (codes "k126_v127") begun (codes "k119_v120" ∷ []) c refl in
    let d1 = begun_append (codes "k129_v130") begun (codes "k119_v120" ∷ []) d refl in
    let c2 = begun_append (codes "k126_v127") one (codes "k121_v122" ∷ []) c1 refl in
    let d2 = begun_append (codes "k129_v130") one (codes "k121_v122" ∷ []) d1 refl in
    let d3 = begun_append (codes "k129_v130") two (codes "k126_v127" ∷ []) d2 refl in
    ap (λ (o : Option Names). is_some (option_and_then (named_each null_plans) o)) (counts_named (codes "k119_v120") (pos 119) (pos 120) begun a)
    ∙ ap (λ (o : Option Names). is_some (option_and_then (named_each lower_plans) o)) (counts_named (codes "k121_v122") (pos 121) (pos 122) one b1)
    ∙ ap (λ (o : Option Names). is_some (option_and_then (named_each upper_plans) o)) (bounds_named (codes "k126_v127") (pos 126) (pos 127) two c2)
    ∙ ap (λ (o : Option Names). is_some
    (option_and_then (named_each
    (more_plans (pos 135) (codes "equality_ids") (optional_plan (items_plan (pos 136) int_plan))
    (more_plans (pos 143) (codes "referenced_data_file") (optional_plan text_plan) no_plans))) o))
    (bounds_named (codes "k129_v130") (pos 129) (pos 130) three d3)

whole_some : (o : Option Names) → is_some o ≡ true → is_some (option_and_then (named_each no_plans) o) ≡ true
whole_some None h = h
whole_some (Some xs) h = refl

each_name_once : (columns : List Column) (keeps : Bool) (parts : List PartField) → are_ids parts ≡ true → are_apart parts ≡ true
    → is_some (named (entry_plan (part_plans columns keeps parts)) []) ≡ true
unfolding has_begun
each_name_once columns keeps parts ids apart =
    whole_some (option_and_then (named_each later_plans) (named_each (part_plans columns keeps parts) base))
    (ap (λ (o : Option Names). is_some (option_and_then (named_each later_plans) o)) (parts_named columns keeps parts base ids apart (all_free parts))
    ∙ later_named (after_parts columns parts base) (no_other (codes "k119_v120") columns parts base (λ id. refl) refl)
    (no_other (codes "k121_v122") columns parts base (λ id. refl) refl) (no_other (codes "k126_v127") columns parts base (λ id. refl) refl)
    (no_other (codes "k129_v130") columns parts base (λ id. refl) refl))

-- ---- room

part_nodes : (name : List ℕ) (k : Option Kind) → nodes (part_plan name k) ≡ 3
part_nodes name None = refl
part_nodes name (Some k) = ap (λ (n : ℕ). 2 + n) (kind_nodes name k)

part_within : (name : List ℕ) (k : Option Kind) (d : ℕ) → within (part_plan name k) (suc (suc d)) ≡ true
part_within name None d = refl
part_within name (Some k) d = kind_within name k d

parts_nodes : (columns : List Column) (keeps : Bool) (parts : List PartField) → nodes_of (part_plans columns keeps parts) ≡ 3 * length parts
parts_nodes columns keeps [] = refl
parts_nodes columns keeps (part ∷ parts) =
    let here : nodes (part_plan (decimal_name part.field) (kind_of_field columns part)) ≡ 3 = part_nodes (decimal_name part.field) (kind_of_field columns part) in
    let later : nodes_of (part_plans columns keeps parts) ≡ 3 * length parts = parts_nodes columns keeps parts in
    omega arith

parts_within : (columns : List Column) (keeps : Bool) (parts : List PartField) (d : ℕ) → all_within (part_plans columns keeps parts) (suc (suc d)) ≡ true
parts_within columns keeps [] d = refl
parts_within columns keeps (part ∷ parts) d = ap (λ (b : Bool). b && all_within (part_plans columns keeps parts) (suc (suc d))) (part_within (decimal_name part.field) (kind_of_field columns part) d) ∙ parts_within columns keeps parts d

whole_within : (ps : Plans) → all_within ps 29 ≡ true → within (entry_plan ps) 32 ≡ true
whole_within ps h = ap (λ (b : Bool). b && true && true) h

-- ---- the type

entry_plain : (ps : Plans) → plain_fields ps ≡ true → plain_names (entry_plan ps) ≡ true
entry_plain ps h = ap (λ (b : Bool). b && true && true) h

pub entry_has_text : (spec : Spec) (schema : TableSchema) → are_kinds schema.columns ≡ true → IsWritableSpec spec
    → has_text (entry_types spec schema) ≡ true
entry_has_text spec schema kinds writable =
    let keeps : Bool = are_names spec.fields in
    let ps : Plans = part_plans schema.columns keeps spec.fields in
    let nodes_is : nodes_of ps ≡ 3 * length spec.fields = parts_nodes schema.columns keeps spec.fields in
    let few_fields : length spec.fields ≤ 1000 = writable.few in
    ap has_text (sym (entry_types_is spec schema))
    ∙ plan_has_text (entry_plan ps)
    (entry_plain ps (parts_plain schema.columns keeps spec.fields (λ h. h) writable.ids (kinds_sound schema.columns spec.fields kinds)))
    (each_name_once schema.columns keeps spec.fields writable.ids writable.apart)
    (whole_within ps (parts_within schema.columns keeps spec.fields 27)) (omega arith)

-- ---- bytes

part_items : (name : List ℕ) (k : Option Kind) → items_take_bytes (plan_shape (part_plan name k)) ≡ true
part_items name None = refl
part_items name (Some k) = ap (λ (b : Bool). b && true) (kind_items name k)

parts_items : (columns : List Column) (keeps : Bool) (parts : List PartField) → all_items_take_bytes (plan_shapes (part_plans columns keeps parts)) ≡ true
parts_items columns keeps [] = refl
parts_items columns keeps (part ∷ parts) = ap (λ (b : Bool). b && all_items_take_bytes (plan_shapes (part_plans columns keeps parts))) (part_items (decimal_name part.field) (kind_of_field columns part)) ∙ parts_items columns keeps parts

pub entry_takes_bytes : (spec : Spec) (schema : TableSchema) → takes_bytes (shape (entry_types spec schema)) ≡ true
entry_takes_bytes spec schema = ap (λ s. takes_bytes (shape s)) (sym (entry_types_is spec schema)) ∙ ap takes_bytes (entry_shape_is (spec_plans spec schema))

shape_items : (spec : Spec) (schema : TableSchema) → items_take_bytes (entry_shape (plan_shapes (spec_plans spec schema))) ≡ true
shape_items spec schema = ap (λ (b : Bool). b && true && true) (parts_items schema.columns (are_names spec.fields) spec.fields)

pub entry_items_take_bytes : (spec : Spec) (schema : TableSchema) → items_take_bytes (shape (entry_types spec schema)) ≡ true
entry_items_take_bytes spec schema = ap (λ s. items_take_bytes (shape s)) (sym (entry_types_is spec schema)) ∙ ap items_take_bytes (entry_shape_is (spec_plans spec schema)) ∙ shape_items spec schema
