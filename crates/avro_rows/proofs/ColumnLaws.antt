-- Columns are read each for itself.
use Rattle.std.proofs.Common.{◌≡◌, ℕ, suc, ◌&&◌, Bool, true, false, List, [], ◌∷◌, ◌++◌, length, Option, Some, None, Result, Ok, Err, refl, sym, ap, ◌∙◌, append_assoc, length-append, arith}
use Rattle.std.specs.Result.{is_ok}
use Rattle.std.specs.List.{list_all}
use Rattle.plain_types.specs.Steps.{◌>>=◌}
use Rattle.row_values.specs.declared.schema.Column.{Column}
use Rattle.row_values.specs.declared.value.Value.{Value}
use Rattle.avro_binary.specs.declared.datum.Datum.{Datum}
use Rattle.avro_binary.specs.declared.schema.Field.{Field}
use Rattle.avro_container.specs.declared.container.Container.{Container}
use Rattle.avro_rows.specs.declared.row_fault.RowFault.{RowFault}
use Rattle.avro_rows.specs.declared.source.Source.{Source}
use Rattle.avro_rows.specs.Columns.{beside, read_of, both_read}
use Rattle.avro_rows.specs.Sources.{source_from, sources_from, fields_of}
use Rattle.avro_rows.specs.Rows.{values_of, value_at, row_from, rows_from, rows_of}

-- ---- what is read behind others

abbrev behind : {A : Type 0} → List A → Result (List A) RowFault → Result (List A) RowFault
behind front read = read >>= λ xs. Ok (front ++ xs)

step_behind : {A B : Type 0} (front : List A) (first : Result B RowFault) (f g : B → Result (List A) RowFault)
    → ((b : B) → f b ≡ behind front (g b)) → (first >>= f) ≡ behind front (first >>= g)
step_behind front (Ok b) f g h = h b
step_behind front (Err e) f g h = refl

row_behind : (row : ℕ) (values : List Datum) (front earlier : List Value) (sources : List Source)
    → row_from row values (front ++ earlier) sources ≡ behind front (row_from row values earlier sources)
unfolding row_from
row_behind row values front earlier [] = refl
row_behind row values front earlier (source ∷ sources) =
    step_behind front (value_at source row values) (λ v. row_from row values ((front ++ earlier) ++ v ∷ []) sources) (λ v. row_from row values (earlier ++ v ∷ []) sources)
    (λ v. ap (λ (xs : List Value). row_from row values xs sources) (append_assoc front earlier (v ∷ [])) ∙ row_behind row values front (earlier ++ v ∷ []) sources)

sources_behind : (fields : List Field) (front earlier : List Source) (columns : List Column)
    → sources_from fields (front ++ earlier) columns ≡ behind front (sources_from fields earlier columns)
unfolding sources_from
sources_behind fields front earlier [] = refl
sources_behind fields front earlier (column ∷ columns) =
    step_behind front (source_from column 0 fields) (λ s. sources_from fields ((front ++ earlier) ++ s ∷ []) columns) (λ s. sources_from fields (earlier ++ s ∷ []) columns)
    (λ s. ap (λ (xs : List Source). sources_from fields xs columns) (append_assoc front earlier (s ∷ [])) ∙ sources_behind fields front (earlier ++ s ∷ []) columns)

-- ---- rows beside others

beside_more : (rows others : List (List Value)) (row other : List Value) → length rows ≡ length others
    → beside rows others ++ (row ++ other) ∷ [] ≡ beside (rows ++ row ∷ []) (others ++ other ∷ [])
beside_more [] [] row other e = refl
beside_more [] (y ∷ ys) row other e = absurd (omega arith)
beside_more (x ∷ xs) [] row other e = absurd (omega arith)
beside_more (x ∷ xs) (y ∷ ys) row other e = ap (λ (rest : List (List Value)). (x ++ y) ∷ rest) (beside_more xs ys row other (omega arith))

beside_length : (rows others : List (List Value)) → length rows ≡ length others → length (beside rows others) ≡ length rows
beside_length [] others e = refl
beside_length (x ∷ xs) [] e = absurd (omega arith)
beside_length (x ∷ xs) (y ∷ ys) e = ap suc (beside_length xs ys (omega arith))

none_after : (o : Option (List (List Value))) → None ≡ both_read o None
none_after None = refl
none_after (Some rows) = refl

-- a source beside others, record by record
record_beside : (source : Source) (sources : List Source) (rows others : List (List Value)) (datums : List Datum)
    (first : Result Value RowFault) (rest : Result (List Value) RowFault)
    → length rows ≡ length others
    → ((row other : List Value) → read_of (rows_from (source ∷ sources) (beside (rows ++ row ∷ []) (others ++ other ∷ [])) datums) ≡ both_read (read_of (rows_from (source ∷ []) (rows ++ row ∷ []) datums)) (read_of (rows_from sources (others ++ other ∷ []) datums)))
    → read_of ((first >>= λ v. behind (v ∷ []) rest) >>= λ row. rows_from (source ∷ sources) (beside rows others ++ row ∷ []) datums) ≡ both_read
    (read_of ((first >>= λ v. Ok (v ∷ [])) >>= λ row. rows_from (source ∷ []) (rows ++ row ∷ []) datums))
    (read_of (rest >>= λ row. rows_from sources (others ++ row ∷ []) datums))
record_beside source sources rows others datums (Err e) rest same step = refl
record_beside source sources rows others datums (Ok v) (Err e) same step = none_after (read_of (rows_from (source ∷ []) (rows ++ (v ∷ []) ∷ []) datums))
record_beside source sources rows others datums (Ok v) (Ok row) same step = ap (λ (xs : List (List Value)). read_of (rows_from (source ∷ sources) xs datums)) (beside_more rows others (v ∷ []) row same) ∙ step (v ∷ []) row

row_splits : (row : ℕ) (values : List Datum) (source : Source) (sources : List Source)
    → row_from row values [] (source ∷ sources) ≡ (value_at source row values >>= λ v. behind (v ∷ [])
    (row_from row values [] sources))
unfolding row_from
row_splits row values source sources = same_steps (value_at source row values) where
  same_steps : (first : Result Value RowFault)
      → (first >>= λ v. row_from row values (v ∷ []) sources) ≡ (first >>= λ v. behind (v ∷ []) (row_from row values [] sources))
  same_steps (Ok v) = row_behind row values (v ∷ []) [] sources
  same_steps (Err e) = refl

row_alone : (row : ℕ) (values : List Datum) (source : Source) → row_from row values [] (source ∷ []) ≡ (value_at source row values >>= λ v. Ok (v ∷ []))
unfolding row_from
row_alone row values source = refl

rows_split : (source : Source) (sources : List Source) (rows others : List (List Value)) (datums : List Datum)
    → length rows ≡ length others → read_of (rows_from (source ∷ sources)
    (beside rows others) datums) ≡ both_read (read_of (rows_from (source ∷ []) rows datums))
    (read_of (rows_from sources others datums))
unfolding rows_from
rows_split source sources rows others [] e = refl
rows_split source sources rows others (datum ∷ datums) e =
    let n = length rows in
    let values = values_of datum in
    let count : length (beside rows others) ≡ length rows = beside_length rows others e in
    let step = record_beside source sources rows others datums (value_at source n values) (row_from n values [] sources) e
    (λ row other. rows_split source sources (rows ++ row ∷ []) (others ++ other ∷ []) datums
    (omega (arith, length-append rows (row ∷ []), length-append others (other ∷ [])))) in
    rw (count, sym e, row_splits (length rows) (values_of datum) source sources, row_alone (length rows) (values_of datum) source) step

-- ---- columns

sources_splits : (fields : List Field) (column : Column) (columns : List Column)
    → sources_from fields [] (column ∷ columns) ≡ (source_from column 0 fields >>= λ s. behind (s ∷ [])
    (sources_from fields [] columns))
unfolding sources_from
sources_splits fields column columns = same_steps (source_from column 0 fields) where
  same_steps : (first : Result Source RowFault)
      → (first >>= λ s. sources_from fields (s ∷ []) columns) ≡ (first >>= λ s. behind (s ∷ []) (sources_from fields [] columns))
  same_steps (Ok s) = sources_behind fields (s ∷ []) [] columns
  same_steps (Err e) = refl

sources_alone : (fields : List Field) (column : Column) → sources_from fields [] (column ∷ []) ≡ (source_from column 0 fields >>= λ s. Ok (s ∷ []))
unfolding sources_from
sources_alone fields column = refl

split_by : (datums : List Datum) (first : Result Source RowFault) (rest : Result (List Source) RowFault)
    → read_of ((first >>= λ s. behind (s ∷ []) rest) >>= λ sources. rows_from sources [] datums) ≡ both_read (read_of ((first >>= λ s. Ok (s ∷ [])) >>= λ sources. rows_from sources [] datums))
    (read_of (rest >>= λ sources. rows_from sources [] datums))
split_by datums (Err e) rest = refl
split_by datums (Ok s) (Err e) = none_after (read_of (rows_from (s ∷ []) [] datums))
split_by datums (Ok s) (Ok sources) = rows_split s sources [] [] datums refl

-- a column is read beside others as it is read alone
pub columns_split : (container : Container) (column : Column) (columns : List Column)
    → read_of (rows_of container (column ∷ columns)) ≡ both_read (read_of (rows_of container (column ∷ [])))
    (read_of (rows_of container columns))
unfolding rows_of
columns_split container column columns =
    let fields = fields_of container.schema in
    rw (sources_splits (fields_of container.schema) column columns, sources_alone (fields_of container.schema) column) (split_by container.datums (source_from column 0 fields) (sources_from fields [] columns))

-- ---- success

is_some_of : Option (List (List Value)) → Bool
is_some_of (Some rows) = true
is_some_of None = false

ok_is : (r : Result (List (List Value)) RowFault) → is_ok r ≡ is_some_of (read_of r)
unfolding is_some_of
ok_is (Ok rows) = refl
ok_is (Err e) = refl

both_some : (o p : Option (List (List Value))) → is_some_of (both_read o p) ≡ (is_some_of o && is_some_of p)
unfolding is_some_of
both_some (Some a) (Some b) = refl
both_some (Some a) None = refl
both_some None p = refl

none_read : (container : Container) (sources : List (List Value)) (datums : List Datum) → is_ok (rows_from [] sources datums) ≡ true
unfolding rows_from row_from
none_read container sources [] = refl
none_read container sources (datum ∷ datums) = none_read container (sources ++ [] ∷ []) datums

no_columns : (container : Container) → is_ok (rows_of container []) ≡ true
unfolding rows_of sources_from
no_columns container = none_read container [] container.datums

-- a list of columns is read exactly where each of them is read alone
pub read_where_each_is : (container : Container) (columns : List Column)
    → is_ok (rows_of container columns) ≡ list_all (λ column. is_ok (rows_of container (column ∷ []))) columns
read_where_each_is container [] = no_columns container
read_where_each_is container (column ∷ columns) =
    let one = read_of (rows_of container (column ∷ [])) in
    let rest = read_of (rows_of container columns) in
    ok_is (rows_of container (column ∷ columns)) ∙ ap is_some_of (columns_split container column columns) ∙ both_some one rest
    ∙ ap (λ b. b && is_some_of rest) (sym (ok_is (rows_of container (column ∷ [])))) ∙ ap (λ b. is_ok (rows_of container (column ∷ [])) && b) (sym (ok_is (rows_of container columns)) ∙ read_where_each_is container columns)
