-- The type of the rows has a text, and each row takes a byte.
use Rattle.std.proofs.Common.{◌≡◌, ℕ, suc, ◌*◌, ◌<◌, ◌≤◌, ℤ, List, [], ◌∷◌, ◌++◌, length, Bool, true, false, cond, not, ◌&&◌, ◌||◌, is_some, Option, Some, option_and_then, refl, sym, ap, ◌∙◌, arith}
use Rattle.std.specs.Prelude.{codes}
use Rattle.std.specs.List.{list_all}
use Rattle.std.specs.Ordering.{int_eq}
use Rattle.row_values.specs.declared.kind.Kind.{Kind}
use Rattle.row_values.specs.declared.kind.Kind.TheVariants as kind
use Rattle.row_values.specs.declared.schema.Column.{Column}
use Rattle.kind_values.specs.Bounds.{is_kind}
use Rattle.avro_binary.specs.Naming.{has_begun}
use Rattle.avro_binary.specs.SchemaOnce.{has_text, is_id, each_once}
use Rattle.avro_binary.specs.Shape.{shape}
use Rattle.avro_binary.specs.Spelling.{takes_bytes, some_takes_bytes, items_take_bytes, all_items_take_bytes}
use Rattle.avro_binary.proofs.CallerLemmas.{are_ascii}
use Rattle.row_writer.specs.Names.{is_name, decimal_name}
use Rattle.row_writer.proofs.Tests.{first, second, not_false}
use Rattle.row_writer.proofs.Begun.{begun_append}
use Rattle.row_writer.proofs.Ascii.{name_ascii, id_ascii, decimal_name_ascii}
use Rattle.row_writer.proofs.PlanNames.{named, named_each, plain_names, plain_fields}
use Rattle.row_writer.proofs.PlanRoom.{nodes, nodes_of, within, all_within}
use Rattle.row_writer.proofs.PlanText.{plan_has_text}
use Rattle.row_writer.proofs.KindPlans.{kind_plan, kind_nodes, kind_within, plan_shape, plan_shapes}
use Rattle.row_writer.proofs.KindText.{kind_plain, after_kind, kind_named, kind_takes_bytes, kind_items}
use Rattle.row_values.specs.Columns.{has_name}
use Rattle.row_writer.specs.RowTypes.{are_names, column_name, row_type}
use Rattle.row_values.specs.Columns.{has_id}
use Rattle.row_writer.specs.Readable.{are_apart, AreColumns}
use Rattle.row_writer.proofs.ColumnNames.{names_differ}
use Rattle.row_writer.proofs.Apart.{no_column_here, turned}
use Rattle.row_writer.proofs.RowPlans.{if_required, column_plan, column_plans, row_plan, row_type_is, row_shape_is}

abbrev are_ids : List Column → Bool
are_ids columns = list_all (λ column. is_id (Some column.id)) columns

abbrev are_kinds : List Column → Bool
are_kinds columns = list_all (λ column. is_kind column.kind) columns

-- ---- plain names

plain_by : (b : Bool) (name : List ℕ) (k : Kind) → are_ascii name ≡ true → is_kind k ≡ true → plain_names (if_required b (kind_plan name k)) ≡ true
plain_by true name k text h = kind_plain name k text h
plain_by false name k text h = kind_plain name k text h

column_ascii : (keeps : Bool) (column : Column) → (keeps ≡ true → is_name column.name ≡ true) → is_id (Some column.id) ≡ true
    → are_ascii (column_name keeps column) ≡ true
column_ascii true column h id = name_ascii column.name (h refl)
column_ascii false column h id = id_ascii column.id id

columns_plain : (keeps : Bool) (columns : List Column) → (keeps ≡ true → are_names columns ≡ true) → are_ids columns ≡ true
    → are_kinds columns ≡ true → plain_fields (column_plans keeps columns) ≡ true
unfolding are_names
columns_plain keeps [] names ids kinds = refl
columns_plain keeps (column ∷ columns) names ids kinds =
    let rest : Bool = not (has_name column.name columns) && are_names columns in
    let id = first (is_id (Some column.id)) (are_ids columns) ids in
    let name = column_ascii keeps column (λ h. first (is_name column.name) rest (names h)) id in
    ap (λ (b : Bool). b && (is_id (Some column.id) && (plain_names (column_plan column) && plain_fields (column_plans keeps columns)))) name
    ∙ ap (λ (b : Bool). b && (plain_names (column_plan column) && plain_fields (column_plans keeps columns))) id
    ∙ ap (λ (b : Bool). b && plain_fields (column_plans keeps columns)) (plain_by column.required (decimal_name column.id) column.kind (decimal_name_ascii column.id id) (first (is_kind column.kind) (are_kinds columns) kinds))
    ∙ columns_plain keeps columns (λ h. second (not (has_name column.name columns)) (are_names columns) (second (is_name column.name) rest (names h))) (second (is_id (Some column.id)) (are_ids columns) ids) (second (is_kind column.kind) (are_kinds columns) kinds)

-- ---- each named type once

abbrev Names : Type 0
Names = List (List ℕ)

named_by : (b : Bool) (name : List ℕ) (k : Kind) (begun : Names) → has_begun name begun ≡ false
    → named (if_required b (kind_plan name k)) begun ≡ Some (after_kind name k begun)
named_by true name k begun h = kind_named name k begun h
named_by false name k begun h = ap (option_and_then (each_once [])) (kind_named name k begun h)

-- the columns whose decimals' names didn't stand yet
abbrev are_free : Names → List Column → Bool
are_free begun columns = list_all (λ column. not (has_begun (decimal_name column.id) begun)) columns

free_more : (begun : Names) (id : ℤ) (columns : List Column) → is_id (Some id) ≡ true → are_ids columns ≡ true
    → not (has_id id columns) ≡ true → are_free begun columns ≡ true → are_free (begun ++ decimal_name id ∷ []) columns ≡ true
unfolding has_begun
free_more begun id [] h ids new free = refl
free_more begun id (column ∷ columns) h ids new free =
    let name : List ℕ = decimal_name column.id in
    let here = no_column_here (int_eq column.id id) (has_id id columns) new in
    let other = names_differ id column.id h (first (is_id (Some column.id)) (are_ids columns) ids) (turned column.id id here.0) in
    let one : has_begun name (decimal_name id ∷ []) ≡ false = ap (λ (b : Bool). cond b true false) other in
    let before : has_begun name begun ≡ false = not_false (has_begun name begun) (first (not (has_begun name begun)) (are_free begun columns) free) in
    ap (λ (b : Bool). not b && are_free (begun ++ decimal_name id ∷ []) columns) (begun_append name begun (decimal_name id ∷ []) before one)
    ∙ free_more begun id columns h (second (is_id (Some column.id)) (are_ids columns) ids) here.1 (second (not (has_begun name begun)) (are_free begun columns) free)

free_after : (k : Kind) (begun : Names) (id : ℤ) (columns : List Column) → is_id (Some id) ≡ true → are_ids columns ≡ true
    → not (has_id id columns) ≡ true → are_free begun columns ≡ true
    → are_free (after_kind (decimal_name id) k begun) columns ≡ true
free_after kind.Bool begun id columns h ids new free = free
free_after kind.Int begun id columns h ids new free = free
free_after kind.Long begun id columns h ids new free = free
free_after kind.Date begun id columns h ids new free = free
free_after (kind.Timestamp utc) begun id columns h ids new free = free
free_after (kind.Decimal precision scale) begun id columns h ids new free = free_more begun id columns h ids new free
free_after kind.Text begun id columns h ids new free = free
free_after kind.Bytes begun id columns h ids new free = free

columns_named : (keeps : Bool) (columns : List Column) (begun : Names) → are_ids columns ≡ true → are_apart columns ≡ true
    → are_free begun columns ≡ true → is_some (named_each (column_plans keeps columns) begun) ≡ true
unfolding are_apart
columns_named keeps [] begun ids apart free = refl
columns_named keeps (column ∷ columns) begun ids apart free =
    let name : List ℕ = decimal_name column.id in
    let new : has_begun name begun ≡ false = not_false (has_begun name begun) (first (not (has_begun name begun)) (are_free begun columns) free) in
    let others = second (is_id (Some column.id)) (are_ids columns) ids in
    ap (λ (o : Option Names). is_some (option_and_then (named_each (column_plans keeps columns)) o)) (named_by column.required name column.kind begun new)
    ∙ columns_named keeps columns (after_kind name column.kind begun) others (second (not (has_id column.id columns)) (are_apart columns) apart)
    (free_after column.kind begun column.id columns (first (is_id (Some column.id)) (are_ids columns) ids) others (first (not (has_id column.id columns)) (are_apart columns) apart) (second (not (has_begun name begun)) (are_free begun columns) free))

all_free : (columns : List Column) → are_free (codes "table" ∷ []) columns ≡ true
unfolding has_begun
all_free [] = refl
all_free (column ∷ columns) = all_free columns

row_named : (columns : List Column) → are_ids columns ≡ true → are_apart columns ≡ true → is_some (named (row_plan columns) []) ≡ true
unfolding has_begun
row_named columns ids apart = columns_named (are_names columns) columns (codes "table" ∷ []) ids apart (all_free columns)

-- ---- room

nodes_by : (b : Bool) (name : List ℕ) (k : Kind) → nodes (if_required b (kind_plan name k)) ≤ 3
nodes_by true name k = let one : nodes (kind_plan name k) ≡ 1 = kind_nodes name k in omega arith
nodes_by false name k = let one : nodes (kind_plan name k) ≡ 1 = kind_nodes name k in omega arith

within_by : (b : Bool) (name : List ℕ) (k : Kind) (d : ℕ) → within (if_required b (kind_plan name k)) (suc (suc d)) ≡ true
within_by true name k d = kind_within name k (suc d)
within_by false name k d = kind_within name k d

columns_nodes : (keeps : Bool) (columns : List Column) → nodes_of (column_plans keeps columns) ≤ 3 * length columns
columns_nodes keeps [] = omega arith
columns_nodes keeps (column ∷ columns) =
    let here : nodes (column_plan column) ≤ 3 = nodes_by column.required (decimal_name column.id) column.kind in
    let later : nodes_of (column_plans keeps columns) ≤ 3 * length columns = columns_nodes keeps columns in
    omega arith

columns_within : (keeps : Bool) (columns : List Column) (d : ℕ) → all_within (column_plans keeps columns) (suc (suc d)) ≡ true
columns_within keeps [] d = refl
columns_within keeps (column ∷ columns) d = ap (λ (b : Bool). b && all_within (column_plans keeps columns) (suc (suc d))) (within_by column.required (decimal_name column.id) column.kind d) ∙ columns_within keeps columns d

row_plain : (columns : List Column) → plain_fields (column_plans (are_names columns) columns) ≡ true → plain_names (row_plan columns) ≡ true
row_plain columns h = h

pub row_has_text : (columns : List Column) → AreColumns columns → has_text (row_type columns) ≡ true
row_has_text columns are =
    let keeps : Bool = are_names columns in
    let few : length columns ≤ 1000 = are.few in
    let nodes_are : nodes_of (column_plans keeps columns) ≤ 3 * length columns = columns_nodes keeps columns in
    ap has_text (sym (row_type_is columns))
    ∙ plan_has_text (row_plan columns) (row_plain columns (columns_plain keeps columns (λ h. h) are.ids are.kinds)) (row_named columns are.ids are.apart) (columns_within keeps columns 29) (omega arith)

-- ---- bytes

takes_by : (b : Bool) (name : List ℕ) (k : Kind) → takes_bytes (plan_shape (if_required b (kind_plan name k))) ≡ true
takes_by true name k = kind_takes_bytes name k
takes_by false name k = refl

items_by : (b : Bool) (name : List ℕ) (k : Kind) → items_take_bytes (plan_shape (if_required b (kind_plan name k))) ≡ true
items_by true name k = kind_items name k
items_by false name k = ap (λ (b : Bool). b && true) (kind_items name k)

some_take : (keeps : Bool) (columns : List Column) → 0 < length columns → some_takes_bytes (plan_shapes (column_plans keeps columns)) ≡ true
some_take keeps [] some = absurd (omega arith)
some_take keeps (column ∷ columns) some = ap (λ (b : Bool). b || some_takes_bytes (plan_shapes (column_plans keeps columns))) (takes_by column.required (decimal_name column.id) column.kind)

all_items : (keeps : Bool) (columns : List Column) → all_items_take_bytes (plan_shapes (column_plans keeps columns)) ≡ true
all_items keeps [] = refl
all_items keeps (column ∷ columns) = ap (λ (b : Bool). b && all_items_take_bytes (plan_shapes (column_plans keeps columns))) (items_by column.required (decimal_name column.id) column.kind) ∙ all_items keeps columns

pub row_takes_bytes : (columns : List Column) → 0 < length columns → takes_bytes (shape (row_type columns)) ≡ true
row_takes_bytes columns some = ap (λ s. takes_bytes (shape s)) (sym (row_type_is columns)) ∙ ap takes_bytes (row_shape_is columns) ∙ some_take (are_names columns) columns some

pub row_items_take_bytes : (columns : List Column) → items_take_bytes (shape (row_type columns)) ≡ true
row_items_take_bytes columns = ap (λ s. items_take_bytes (shape s)) (sym (row_type_is columns)) ∙ ap items_take_bytes (row_shape_is columns) ∙ all_items (are_names columns) columns
