-- Where the columns stand in the rows that are written.
use Rattle.std.proofs.Common.{◌≡◌, ℕ, suc, ◌+◌, ℤ, List, [], ◌∷◌, ◌++◌, length, Bool, true, false, cond, not, ◌&&◌, Some, Result, Ok, Err, refl, sym, ap, ◌∙◌, append_assoc, arith}
use Rattle.std.specs.Ordering.{int_eq}
use Rattle.std.specs.List.{list_all}
use Rattle.std.proofs.lemmas.Bool.Decides.{nat_tests}
use Rattle.std.proofs.lemmas.Int.{ints}
use Rattle.std.proofs.lemmas.List.{append-nil, length-append}
use Rattle.plain_types.specs.Steps.{◌>>=◌}
use Rattle.row_values.specs.declared.kind.Kind.{Kind}
use Rattle.row_values.specs.declared.schema.Column.{Column}
use Rattle.avro_binary.specs.declared.schema.Field.{Field}
use Rattle.avro_rows.specs.declared.row_fault.RowFault.{RowFault}
use Rattle.avro_rows.specs.declared.row_fault.RowFault.TheVariants as fault
use Rattle.avro_rows.specs.declared.source.Source.{Source}
use Rattle.avro_rows.specs.Carrier.{carries}
use Rattle.avro_rows.specs.Sources.{carried, source_from, sources_from}
use Rattle.row_writer.specs.Field.{field}
use Rattle.row_writer.proofs.Tests.{first, second, not_false}
use Rattle.row_writer.proofs.Plans.{type_of, types_of}
use Rattle.row_writer.proofs.KindPlans.{kind_plan}
use Rattle.row_writer.proofs.KindLaws.{kind_carried, optional_carried}
use Rattle.row_writer.specs.Names.{decimal_name}
use Rattle.row_writer.specs.RowTypes.{column_name}
use Rattle.row_values.specs.Columns.{has_id}
use Rattle.row_writer.specs.Readable.{are_apart}
use Rattle.row_writer.proofs.Apart.{no_column_here, turned}
use Rattle.row_writer.proofs.RowPlans.{if_required, column_plan, column_plans}

pub goes : {A B E : Type 0} (r : Result A E) (f : A → Result B E) (a : A) (out : Result B E) → r ≡ Ok a → f a ≡ out → (r >>= f) ≡ out
goes r f a out h more = ap (λ x. x >>= f) h ∙ more

-- the column's values stand there
abbrev pub source_at : Column → ℕ → Source
source_at column n = record { id = column.id; kind = column.kind; required = column.required; place = Some n }

-- where the columns stand, the first of which stands there
abbrev pub placed : ℕ → List Column → List Source
placed n [] = []
placed n (column ∷ columns) = source_at column n ∷ placed (suc n) columns

-- ---- one column

carries_by : (b : Bool) (name : List ℕ) (k : Kind) → carries k (type_of (if_required b (kind_plan name k))) ≡ true
carries_by true name k = kind_carried name k
carries_by false name k = optional_carried name k

abbrev field_for : Bool → Column → Field
field_for keeps column = field column.id (column_name keeps column) (type_of (column_plan column))

abbrev here_at : Column → ℕ → Result Source RowFault
here_at column n = Ok (source_at column n)

column_carried : (keeps : Bool) (column : Column) (n : ℕ) → carried column n (field_for keeps column) ≡ here_at column n
column_carried keeps column n = ap (λ (b : Bool). cond b (here_at column n) (Err (fault.Kind column.id))) (carries_by column.required (decimal_name column.id) column.kind)

same_id : (n : ℤ) → int_eq n n ≡ true
same_id n = grind (arith, ints, nat_tests)

-- none of these columns has the id
abbrev lack : ℤ → List Column → Bool
lack id columns = list_all (λ other. not (int_eq other.id id)) columns

abbrev found_by : Bool → Result Source RowFault → Result Source RowFault → Result Source RowFault
found_by b here later = cond b here later

source_found : (keeps : Bool) (front : List Column) (column : Column) (columns : List Column) (n : ℕ)
    → lack column.id front ≡ true
    → source_from column n (types_of (column_plans keeps (front ++ column ∷ columns))) ≡ here_at column (n + length front)
unfolding source_from
source_found keeps [] column columns n h =
    ap (λ (b : Bool). found_by b (carried column n (field_for keeps column)) (source_from column (n + 1) (types_of (column_plans keeps columns)))) (same_id column.id) ∙ column_carried keeps column n ∙ ap (here_at column) (omega arith)
source_found keeps (other ∷ front) column columns n h =
    ap (λ (b : Bool). found_by b (carried column n (field_for keeps other)) (source_from column (n + 1) (types_of (column_plans keeps (front ++ column ∷ columns))))) (not_false (int_eq other.id column.id) (first (not (int_eq other.id column.id)) (lack column.id front) h))
    ∙ source_found keeps front column columns (n + 1) (second (not (int_eq other.id column.id)) (lack column.id front) h) ∙ ap (here_at column) (omega arith)

-- ---- all columns

-- no column of the second list has the id of one of the first
abbrev apart_from : List Column → List Column → Bool
apart_from front columns = list_all (λ column. lack column.id front) columns

lack_more : (id : ℤ) (front : List Column) (column : Column) → lack id front ≡ true → int_eq column.id id ≡ false → lack id (front ++ column ∷ []) ≡ true
lack_more id [] column h e = ap (λ (b : Bool). not b && true) e
lack_more id (other ∷ front) column h e = ap (λ (b : Bool). b && lack id (front ++ column ∷ [])) (first (not (int_eq other.id id)) (lack id front) h) ∙ lack_more id front column (second (not (int_eq other.id id)) (lack id front) h) e

apart_more : (front : List Column) (column : Column) (columns : List Column) → apart_from front columns ≡ true
    → not (has_id column.id columns) ≡ true → apart_from (front ++ column ∷ []) columns ≡ true
apart_more front column [] h new = refl
apart_more front column (other ∷ columns) h new =
    let here = no_column_here (int_eq other.id column.id) (has_id column.id columns) new in
    ap (λ (b : Bool). b && apart_from (front ++ column ∷ []) columns)
    (lack_more other.id front column (first (lack other.id front) (apart_from front columns) h) (turned other.id column.id here.0))
    ∙ apart_more front column columns (second (lack other.id front) (apart_from front columns) h) here.1

one_more : (front : List Column) (column : Column) → length (front ++ column ∷ []) ≡ suc (length front)
one_more front column = length-append front (column ∷ []) ∙ omega arith

columns_found : (keeps : Bool) (whole front : List Column) (n : ℕ) (earlier : List Source) (columns : List Column)
    → whole ≡ front ++ columns → length front ≡ n → apart_from front columns ≡ true → are_apart columns ≡ true
    → sources_from (types_of (column_plans keeps whole)) earlier columns ≡ Ok (earlier ++ placed n columns)
unfolding sources_from are_apart
columns_found keeps whole front n earlier [] is at new h = ap (λ (xs : List Source). (let r : Result (List Source) RowFault = Ok xs in r)) (sym (append-nil earlier))
columns_found keeps whole front n earlier (column ∷ columns) is at new h =
    let here : Source = source_at column n in
    goes (source_from column 0 (types_of (column_plans keeps whole))) _ here _
    (ap (λ (xs : List Column). source_from column 0 (types_of (column_plans keeps xs))) is ∙ source_found keeps front column columns 0 (first (lack column.id front) (apart_from front columns) new) ∙ ap (here_at column) (let same : 0 + length front ≡ n = omega arith in same))
    (columns_found keeps whole (front ++ column ∷ []) (suc n) (earlier ++ here ∷ []) columns (is ∙ sym (append_assoc front (column ∷ []) columns)) (one_more front column ∙ ap suc at)
    (apart_more front column columns (second (lack column.id front) (apart_from front columns) new) (first (not (has_id column.id columns)) (are_apart columns) h)) (second (not (has_id column.id columns)) (are_apart columns) h)
    ∙ ap (λ (xs : List Source). (let r : Result (List Source) RowFault = Ok xs in r)) (append_assoc earlier (here ∷ []) (placed (suc n) columns)))

none_before : (columns : List Column) → apart_from [] columns ≡ true
none_before [] = refl
none_before (column ∷ columns) = none_before columns

pub all_found : (keeps : Bool) (columns : List Column) → are_apart columns ≡ true
    → sources_from (types_of (column_plans keeps columns)) [] columns ≡ Ok (placed 0 columns)
all_found keeps columns h = columns_found keeps columns [] 0 [] columns refl refl (none_before columns) h
