-- Rows that are written are read again.
use Rattle.std.proofs.Common.{◌≡◌, ℕ, suc, ◌+◌, ℤ, List, [], ◌∷◌, ◌++◌, map, length, Bool, true, false, cond, not, Option, Some, None, Result, Ok, refl, sym, ap, ◌∙◌, append_assoc, arith}
use Rattle.std.specs.Prelude.{slice_get}
use Rattle.std.specs.List.{list_all}
use Rattle.std.proofs.lemmas.List.{append-nil, length-append}
use Rattle.std.proofs.lemmas.Option.{slice_get-get_or}
use Rattle.std.proofs.Math.Seq.{get_or-append_seam}
use Rattle.plain_types.specs.Steps.{or_fault, by_option}
use Rattle.row_values.specs.declared.kind.Kind.{Kind}
use Rattle.row_values.specs.declared.value.Value.{Value}
use Rattle.row_values.specs.declared.value.Value.TheVariants as value
use Rattle.row_values.specs.declared.schema.Column.{Column}
use Rattle.row_values.specs.Rows.{is_value, is_null, is_held, is_row}
use Rattle.kind_values.specs.Bounds.{is_kind}
use Rattle.avro_binary.specs.declared.datum.Datum.{Datum}
use Rattle.avro_binary.specs.declared.datum.Datum.TheVariants as datum
use Rattle.avro_binary.specs.declared.schema.Field.{Field}
use Rattle.avro_rows.specs.declared.row_fault.RowFault.{RowFault}
use Rattle.avro_rows.specs.declared.row_fault.RowFault.TheVariants as fault
use Rattle.avro_rows.specs.declared.source.Source.{Source}
use Rattle.avro_rows.specs.DatumValue.{value_of, inside_level, inside, is_null_datum}
use Rattle.avro_rows.specs.Rows.{values_of, null_at, held_at, value_at, row_from, rows_from, rows_of}
use Rattle.avro_rows.specs.Sources.{fields_level, fields_of, sources_from}
use Rattle.row_writer.specs.KindDatum.{value_datum, optional}
use Rattle.row_writer.proofs.Tests.{first, second}
use Rattle.row_writer.proofs.DatumOut.{null_out, union_out, values_is}
use Rattle.row_writer.proofs.KindLaws.{IsRead, value_read}
use Rattle.row_writer.proofs.Plans.{types_of}
use Rattle.row_writer.proofs.PlanOut.{plan_out}
use Rattle.row_writer.specs.Readable.{AreColumns}
use Rattle.row_writer.specs.RowTypes.{are_names, row_type}
use Rattle.row_writer.specs.RowDatum.{column_datum, column_datums, row_datum}
use Rattle.row_writer.specs.RowsText.{rows_container}
use Rattle.row_writer.proofs.RowPlans.{column_plans, row_plan, row_type_is}
use Rattle.row_writer.proofs.Sources.{goes, source_at, placed, all_found}

-- ---- a value

abbrev source_of : ℤ → Kind → Bool → ℕ → Source
source_of id k required n = record { id = id; kind = k; required = required; place = Some n }

-- the value of a datum in no union, of which is known whether it is null
abbrev held_by : Source → ℕ → Datum → Bool → Result Value RowFault
held_by source row d null = cond null (null_at source row) (or_fault (fault.Range source.id row) (value_of source.kind d))

value_held : (id : ℤ) (k : Kind) (required : Bool) (n row : ℕ) (v : Value) (whole d : Datum) → inside whole ≡ d → IsRead k v d
    → held_at (source_of id k required n) row (inside whole) ≡ Ok v
value_held id k required n row v whole d within r =
    ap (held_at (source_of id k required n) row) within ∙ ap (held_by (source_of id k required n) row d) r.some ∙ ap (or_fault (fault.Range id row)) r.has

null_held : (id : ℤ) (k : Kind) (n row : ℕ) → held_at (source_of id k false n) row (inside (optional None)) ≡ Ok value.Null
null_held id k n row =
    ap (held_at (source_of id k false n) row) (ap (inside_level (datum.Union 0 datum.Null)) (union_out 0 datum.Null))
    ∙ ap (λ y. held_by (source_of id k false n) row datum.Null (is_null_datum y)) null_out

is_null_value : (v : Value) → is_null v ≡ true → v ≡ value.Null
is_null_value value.Null h = refl
is_null_value v h = absurd cc

held_again : (required null : Bool) (id : ℤ) (k : Kind) (n row : ℕ) (v : Value) → is_null v ≡ null → is_kind k ≡ true
    → cond null (not required) (is_value k v) ≡ true
    → held_at (source_of id k required n) row (inside (cond required (value_datum k v) (cond null (optional None) (optional (Some (value_datum k v)))))) ≡ Ok v
held_again true true id k n row v e sound h = absurd cc
held_again true false id k n row v e sound h =
    let r = value_read k v sound h in
    value_held id k true n row v (value_datum k v) (value_datum k v) r.alone r
held_again false true id k n row v e sound h = null_held id k n row ∙ ap (λ (x : Value). (let r : Result Value RowFault = Ok x in r)) (sym (is_null_value v e))
held_again false false id k n row v e sound h =
    let d : Datum = value_datum k v in
    value_held id k false n row v (optional (Some d)) d (ap (inside_level (datum.Union 1 d)) (union_out 1 d)) (value_read k v sound h)

-- ---- a row

there : (front after : List Datum) (d : Datum) → slice_get (front ++ d ∷ after) (length front) ≡ Some d
there front after d =
    let size : length (front ++ d ∷ after) ≡ length front + length (d ∷ after) = length-append front (d ∷ after) in
    slice_get-get_or (front ++ d ∷ after) (length front) d (omega arith) ∙ ap (λ (x : Datum). (let o : Option Datum = Some x in o)) (get_or-append_seam front d after d)

one_more : (front : List Datum) (d : Datum) → length (front ++ d ∷ []) ≡ suc (length front)
one_more front d = length-append front (d ∷ []) ∙ omega arith

abbrev are_kinds : List Column → Bool
are_kinds columns = list_all (λ column. is_kind column.kind) columns

value_again : (column : Column) (v : Value) (whole : List Datum) (n row : ℕ) → slice_get whole n ≡ Some (column_datum column v)
    → is_kind column.kind ≡ true → is_held column v ≡ true → value_at (source_at column n) row whole ≡ Ok v
value_again column v whole n row found sound h =
    ap (λ (o : Option Datum). by_option o (λ d. held_at (source_at column n) row (inside d)) (null_at (source_at column n) row)) found
    ∙ held_again column.required (is_null v) column.id column.kind n row v refl sound h

row_again : (row : ℕ) (whole front : List Datum) (n : ℕ) (earlier : List Value) (columns : List Column) (vs : List Value)
    → whole ≡ front ++ column_datums columns vs → length front ≡ n → are_kinds columns ≡ true → is_row columns vs ≡ true
    → row_from row whole earlier (placed n columns) ≡ Ok (earlier ++ vs)
unfolding row_from column_datums
row_again row whole front n earlier [] [] is at sound h = ap (λ (xs : List Value). (let r : Result (List Value) RowFault = Ok xs in r)) (sym (append-nil earlier))
row_again row whole front n earlier [] (v ∷ vs) is at sound h = absurd cc
row_again row whole front n earlier (column ∷ columns) [] is at sound h = absurd cc
row_again row whole front n earlier (column ∷ columns) (v ∷ vs) is at sound h =
    let d : Datum = column_datum column v in
    let after : List Datum = column_datums columns vs in
    let found : slice_get whole n ≡ Some d = ap (λ (m : ℕ). slice_get whole m) (sym at) ∙ ap (λ (xs : List Datum). slice_get xs (length front)) is ∙ there front after d in
    goes (value_at (source_at column n) row whole) _ v _
    (value_again column v whole n row found (first (is_kind column.kind) (are_kinds columns) sound) (first (is_held column v) (is_row columns vs) h))
    (row_again row whole (front ++ d ∷ []) (suc n) (earlier ++ v ∷ []) columns vs (is ∙ sym (append_assoc front (d ∷ []) after)) (one_more front d ∙ ap suc at) (second (is_kind column.kind) (are_kinds columns) sound) (second (is_held column v) (is_row columns vs) h)
    ∙ ap (λ (xs : List Value). (let r : Result (List Value) RowFault = Ok xs in r)) (append_assoc earlier (v ∷ []) vs))

-- ---- all rows

rows_from_again : (columns : List Column) (earlier rows : List (List Value)) → are_kinds columns ≡ true
    → list_all (is_row columns) rows ≡ true
    → rows_from (placed 0 columns) earlier (map (row_datum columns) rows) ≡ Ok (earlier ++ rows)
unfolding rows_from
rows_from_again columns earlier [] sound h = ap (λ (xs : List (List Value)). (let r : Result (List (List Value)) RowFault = Ok xs in r)) (sym (append-nil earlier))
rows_from_again columns earlier (row ∷ rows) sound h =
    let ds : List Datum = column_datums columns row in
    goes (row_from (length earlier) (values_of (row_datum columns row)) [] (placed 0 columns)) _ row _
    (ap (λ (xs : List Datum). row_from (length earlier) xs [] (placed 0 columns)) (values_is ds) ∙ row_again (length earlier) ds [] 0 [] columns row refl refl sound (first (is_row columns row) (list_all (is_row columns) rows) h))
    (rows_from_again columns (earlier ++ row ∷ []) rows sound (second (is_row columns row) (list_all (is_row columns) rows) h)
    ∙ ap (λ (xs : List (List Value)). (let r : Result (List (List Value)) RowFault = Ok xs in r)) (append_assoc earlier (row ∷ []) rows))

fields_are : (columns : List Column) → fields_of (row_type columns) ≡ types_of (column_plans (are_names columns) columns)
fields_are columns = ap fields_of (sym (row_type_is columns)) ∙ ap fields_level (plan_out (row_plan columns))

pub rows_again : (columns : List Column) (rows : List (List Value)) → AreColumns columns → list_all (is_row columns) rows ≡ true
    → rows_of (rows_container columns rows) columns ≡ Ok rows
unfolding rows_of
rows_again columns rows are h =
    goes (sources_from (fields_of (row_type columns)) [] columns) _ (placed 0 columns) _ (ap (λ (fs : List Field). sources_from fs [] columns) (fields_are columns) ∙ all_found (are_names columns) columns are.apart)
    (rows_from_again columns [] rows are.kinds h)
