-- A row that is read is a row of the columns.
use Rattle.std.proofs.Common.{◌≡◌, ℕ, ◌+◌, ◌&&◌, Bool, true, false, not, cond, List, [], ◌∷◌, ◌++◌, length, slice_get, Option, Some, None, option_and_then, Result, Ok, Err, refl, sym, ap, ◌∙◌, append_assoc, length-append, arith}
use Rattle.std.specs.List.{list_all}
use Rattle.std.specs.Result.{IfOk}
use Rattle.std.proofs.lemmas.List.{append-nil}
use Rattle.std.proofs.lemmas.List.Folds.{list_all-append}
use Rattle.plain_types.specs.Steps.{or_fault, by_option}
use Rattle.row_values.specs.declared.schema.Column.{Column}
use Rattle.row_values.specs.declared.kind.Kind.{Kind}
use Rattle.row_values.specs.declared.kind.Kind.TheVariants as kind
use Rattle.row_values.specs.declared.value.Value.{Value}
use Rattle.row_values.specs.declared.value.Value.TheVariants as value
use Rattle.row_values.specs.Rows.{is_value, is_null, is_held, is_row, AreRows}
use Rattle.avro_binary.specs.declared.datum.Datum.{Datum, out-Datum}
use Rattle.avro_binary.specs.declared.schema.Field.{Field}
use Rattle.avro_container.specs.declared.container.Container.{Container}
use Rattle.avro_rows.specs.declared.row_fault.RowFault.{RowFault}
use Rattle.avro_rows.specs.declared.row_fault.RowFault.TheVariants as fault
use Rattle.avro_rows.specs.declared.source.Source.{Source}
use Rattle.avro_rows.specs.Carrier.{carries}
use Rattle.kind_values.specs.KindValues.{of_kind}
use Rattle.avro_rows.specs.DatumValue.{content_of, value_of, inside, is_null_datum}
use Rattle.avro_rows.specs.Sources.{has_id, carried, source_from, sources_from, fields_of}
use Rattle.avro_rows.specs.Rows.{values_of, null_at, held_at, value_at, row_from, rows_from, rows_of}
use Rattle.plain_types.proofs.CallerLemmas.{two_steps, one_value}

-- ---- a source is its column's

pub record IsOf (column : Column) (source : Source) : Type 0 where
  pub kind : source.kind ≡ column.kind
  pub required : source.required ≡ column.required

carried_by : (column : Column) (place : ℕ) (b : Bool) (source : Source)
    → cond b (Ok (record { id = column.id; kind = column.kind; required = column.required; place = Some place }))
    (Err (fault.Kind column.id)) ≡ Ok source → IsOf column source
carried_by column place true source h = record { kind = cc; required = cc }
carried_by column place false source h = absurd cc

absent_by : (column : Column) (b : Bool) (source : Source) → cond b (Err (fault.NoColumn column.id))
    (Ok (record { id = column.id; kind = column.kind; required = column.required; place = None })) ≡ Ok source
    → IsOf column source
absent_by column true source h = absurd cc
absent_by column false source h = record { kind = cc; required = cc }

found_by : (column : Column) (b : Bool) (first rest : Result Source RowFault) (source : Source)
    → (first ≡ Ok source → IsOf column source) → (rest ≡ Ok source → IsOf column source) → cond b first rest ≡ Ok source
    → IsOf column source
found_by column true first rest source one two h = one h
found_by column false first rest source one two h = two h

pub source_is : (column : Column) (place : ℕ) (fields : List Field) (source : Source) → source_from column place fields ≡ Ok source → IsOf column source
unfolding source_from
source_is column place [] source h = absent_by column column.required source h
source_is column place (field ∷ fields) source h = found_by column (has_id column.id field) (carried column place field) (source_from column (place + 1) fields) source (carried_by column place (carries column.kind field.schema) source) (source_is column (place + 1) fields source) h

-- the sources of the columns, one for each
abbrev AreOf : List Column → List Source → Type 0
AreOf [] [] = Unit {0}
AreOf (column ∷ columns) (source ∷ sources) = IsOf column source × AreOf columns sources
AreOf [] (source ∷ sources) = ⊥
AreOf (column ∷ columns) [] = ⊥

-- the sources that are found stand behind the earlier ones
pub sources_are : (fields : List Field) (earlier : List Source) (columns : List Column) (sources : List Source)
    → sources_from fields earlier columns ≡ Ok sources → (found : List Source) × (sources ≡ earlier ++ found)
    × AreOf columns found
unfolding sources_from
sources_are fields earlier [] sources h = ([], one_value sources earlier (Ok earlier) h refl ∙ sym (append-nil earlier), tt)
sources_are fields earlier (column ∷ columns) sources h =
    let s = two_steps (source_from column 0 fields) (λ source. sources_from fields (earlier ++ source ∷ []) columns) sources h in
    let rest = sources_are fields (earlier ++ s.0 ∷ []) columns sources s.2 in
    (s.0 ∷ rest.0, rest.1 ∙ append_assoc earlier (s.0 ∷ []) rest.0, (source_is column 0 fields s.0 s.1, rest.2))

-- ---- a value is one that its column may hold

no_null : (k : Kind) → is_value k value.Null ≡ false
no_null kind.Bool = refl
no_null kind.Int = refl
no_null kind.Long = refl
no_null kind.Date = refl
no_null (kind.Timestamp utc) = refl
no_null (kind.Decimal precision scale) = refl
no_null kind.Text = refl
no_null kind.Bytes = refl

-- what a source's column may hold
abbrev held : Kind → Bool → Value → Bool
held k required v = cond (is_null v) (not required) (is_value k v)

held_value : (k : Kind) (required : Bool) (v : Value) → is_value k v ≡ true → held k required v ≡ true
held_value k required value.Null h = absurd (let e = no_null k in cc)
held_value k required (value.Bool b) h = h
held_value k required (value.Int n) h = h
held_value k required (value.Long n) h = h
held_value k required (value.Date n) h = h
held_value k required (value.Timestamp n) h = h
held_value k required (value.Decimal n s) h = h
held_value k required (value.Text bytes) h = h
held_value k required (value.Bytes bytes) h = h

null_by : (source : Source) (row : ℕ) (b : Bool) (v : Value) → source.required ≡ b
    → cond b (Err (fault.Null source.id row)) (Ok value.Null) ≡ Ok v → held source.kind source.required v ≡ true
null_by source row true v e h = absurd cc
null_by source row false v e h =
    let is : v ≡ value.Null = cc in
    rw (is, e) refl

of_kind_by : (k : Kind) (w v : Value) (b : Bool) → is_value k w ≡ b → cond b (Some w) None ≡ Some v → is_value k v ≡ true
of_kind_by k w v true e h =
    let same : v ≡ w = cc in
    rw same e
of_kind_by k w v false e h = absurd cc

value_by : (k : Kind) (o : Option Value) (v : Value) → option_and_then (of_kind k) o ≡ Some v → is_value k v ≡ true
value_by k (Some w) v h = of_kind_by k w v (is_value k w) refl h
value_by k None v h = absurd cc

or_fault_by : (k : Kind) (required : Bool) (e : RowFault) (o : Option Value) (v : Value)
    → ((w : Value) → o ≡ Some w → is_value k w ≡ true) → or_fault e o ≡ Ok v → held k required v ≡ true
or_fault_by k required e (Some w) v h g =
    let same : v ≡ w = cc in
    rw same (held_value k required w (h w refl))
or_fault_by k required e None v h g = absurd cc

held_by : (source : Source) (row : ℕ) (datum : Datum) (b : Bool) (v : Value)
    → cond b (null_at source row) (or_fault (fault.Range source.id row) (value_of source.kind datum)) ≡ Ok v
    → held source.kind source.required v ≡ true
held_by source row datum true v h = null_by source row source.required v refl h
held_by source row datum false v h = or_fault_by source.kind source.required (fault.Range source.id row) (value_of source.kind datum) v (λ w. value_by source.kind (content_of source.kind (out-Datum datum)) w) h

value_at_by : (source : Source) (row : ℕ) (o : Option Datum) (v : Value)
    → by_option o (λ datum. held_at source row (inside datum)) (null_at source row) ≡ Ok v
    → held source.kind source.required v ≡ true
value_at_by source row (Some datum) v h = held_by source row (inside datum) (is_null_datum (out-Datum (inside datum))) v h
value_at_by source row None v h = null_by source row source.required v refl h

value_is : (column : Column) (source : Source) (row : ℕ) (values : List Datum) (v : Value) → IsOf column source
    → value_at source row values ≡ Ok v → is_held column v ≡ true
value_is column source row values v is h =
    let e = value_at_by source row (option_and_then (slice_get values) source.place) v h in
    ap (λ k. held k column.required v) (sym is.kind) ∙ ap (λ b. held source.kind b v) (sym is.required) ∙ e

-- ---- rows

both : (a b : Bool) → a ≡ true → b ≡ true → (a && b) ≡ true
both true b h k = k
both false b h k = absurd cc

row_is : (row : ℕ) (values : List Datum) (earlier : List Value) (columns : List Column) (sources : List Source) (all : List Value)
    → AreOf columns sources → row_from row values earlier sources ≡ Ok all → (more : List Value) × (all ≡ earlier ++ more)
    × (is_row columns more ≡ true)
unfolding row_from
row_is row values earlier [] [] all are h = ([], one_value all earlier (Ok earlier) h refl ∙ sym (append-nil earlier), refl)
row_is row values earlier [] (source ∷ sources) all are h = absurd are
row_is row values earlier (column ∷ columns) [] all are h = absurd are
row_is row values earlier (column ∷ columns) (source ∷ sources) all are h =
    let s = two_steps (value_at source row values) (λ v. row_from row values (earlier ++ v ∷ []) sources) all h in
    let rest = row_is row values (earlier ++ s.0 ∷ []) columns sources all are.1 s.2 in
    (s.0 ∷ rest.0, rest.1 ∙ append_assoc earlier (s.0 ∷ []) rest.0, both (is_held column s.0) (is_row columns rest.0) (value_is column source row values s.0 are.0 s.1) rest.2)

rows_are : (columns : List Column) (sources : List Source) (earlier : List (List Value)) (datums : List Datum)
    (rows : List (List Value)) → AreOf columns sources → list_all (is_row columns) earlier ≡ true
    → rows_from sources earlier datums ≡ Ok rows → list_all (is_row columns) rows ≡ true
unfolding rows_from
rows_are columns sources earlier [] rows are so_far h = rw (one_value rows earlier (Ok earlier) h refl) so_far
rows_are columns sources earlier (datum ∷ datums) rows are so_far h =
    let s = two_steps (row_from (length earlier) (values_of datum) [] sources) (λ row. rows_from sources (earlier ++ row ∷ []) datums) rows h in
    let r = row_is (length earlier) (values_of datum) [] columns sources s.0 are s.1 in
    let one : is_row columns s.0 ≡ true = ap (is_row columns) r.1 ∙ r.2 in
    let more : list_all (is_row columns) (earlier ++ s.0 ∷ []) ≡ true = list_all-append (is_row columns) earlier (s.0 ∷ []) ∙ both _ _ so_far (both _ _ one refl) in
    rows_are columns sources (earlier ++ s.0 ∷ []) datums rows are more s.2

pub rows_of_columns : (container : Container) (columns : List Column) (rows : List (List Value)) → rows_of container columns ≡ Ok rows → AreRows columns rows
unfolding rows_of
rows_of_columns container columns rows h =
    let s = two_steps (sources_from (fields_of container.schema) [] columns) (λ sources. rows_from sources [] container.datums) rows h in
    let found = sources_are (fields_of container.schema) [] columns s.0 s.1 in
    rows_are columns found.0 [] container.datums rows found.2 refl (ap (λ sources. rows_from sources [] container.datums) (sym found.1) ∙ s.2)

pub rows_by : (container : Container) (columns : List Column) (r : Result (List (List Value)) RowFault)
    → IfOk r (λ rows. rows_of container columns ≡ Ok rows) → IfOk r (λ rows. AreRows columns rows)
rows_by container columns (Ok rows) h = rows_of_columns container columns rows h
rows_by container columns (Err e) h = tt

-- ---- a row for each datum

counted : (sources : List Source) (earlier : List (List Value)) (datums : List Datum) (rows : List (List Value))
    → rows_from sources earlier datums ≡ Ok rows → length rows ≡ length earlier + length datums
unfolding rows_from
counted sources earlier [] rows h =
    let same : length rows ≡ length earlier = ap length (one_value rows earlier (Ok earlier) h refl) in
    omega arith
counted sources earlier (datum ∷ datums) rows h =
    let s = two_steps (row_from (length earlier) (values_of datum) [] sources) (λ row. rows_from sources (earlier ++ row ∷ []) datums) rows h in
    let rest : length rows ≡ length (earlier ++ s.0 ∷ []) + length datums = counted sources (earlier ++ s.0 ∷ []) datums rows s.2 in
    omega (arith, length-append earlier (s.0 ∷ []))

pub rows_of_count : (container : Container) (columns : List Column) (rows : List (List Value))
    → rows_of container columns ≡ Ok rows → length rows ≡ length container.datums
unfolding rows_of
rows_of_count container columns rows h =
    let s = two_steps (sources_from (fields_of container.schema) [] columns) (λ sources. rows_from sources [] container.datums) rows h in
    let count : length rows ≡ 0 + length container.datums = counted s.0 [] container.datums rows s.2 in
    omega arith
