-- How many bytes a short row takes at most.
use Rattle.std.proofs.Common.{◌≡◌, ℕ, zero, suc, ◌+◌, ◌*◌, ◌/◌, ◌<◌, ◌≤◌, ℤ, List, [], ◌∷◌, map, length, Bool, true, false, cond, nat_le, Some, None, ap, ◌∙◌, inl, inr, arith}
use Rattle.std.specs.List.{concat}
use Rattle.std.proofs.lemmas.Bool.{cases_lt, lt-ltb, le-ltb}
use Rattle.std.proofs.lemmas.Bool.Decides.{nat_tests}
use Rattle.std.proofs.lemmas.List.{length-append}
use Rattle.row_values.specs.declared.kind.Kind.{Kind}
use Rattle.row_values.specs.declared.kind.Kind.TheVariants as kind
use Rattle.row_values.specs.declared.value.Value.{Value}
use Rattle.row_values.specs.declared.value.Value.TheVariants as value
use Rattle.row_values.specs.declared.schema.Column.{Column}
use Rattle.row_values.specs.Rows.{is_null}
use Rattle.kind_values.specs.BigEndian.{bytes_in, is_negative, size_of}
use Rattle.kind_values.proofs.CallerLemmas.{digits_length}
use Rattle.avro_binary.specs.declared.datum.Datum.TheVariants as datum
use Rattle.avro_binary.specs.Spelling.{groups_up_to, zigzag, natural, counted, spelling}
use Rattle.avro_binary.proofs.CallerLemmas.{groups_few, spells_null, spells_boolean, spells_int, spells_long, spells_bytes, spells_text, spells_record, spells_union, spells_fixed}
use Rattle.row_writer.specs.KindDatum.{amount_size, value_datum, optional}
use Rattle.row_writer.proofs.Tests.{first, second}
use Rattle.row_writer.proofs.KindLaws.{size_is}
use Rattle.row_writer.specs.RowDatum.{column_datum, column_datums, row_size}
use Rattle.row_writer.specs.Short.{is_short, is_short_row}

-- ---- numbers

one_group : (more n : ℕ) → n < 128 → length (groups_up_to more n) ≤ 1
unfolding groups_up_to
one_group zero n h = omega arith
one_group (suc more) n h = rw (lt-ltb n 128 h) omega arith

two_groups : (more n : ℕ) → n < 16384 → length (groups_up_to more n) ≤ 2
unfolding groups_up_to
two_groups zero n h = omega arith
two_groups (suc more) n h = elim (cases_lt n 128) [
  | inl one ↦ (let few : length (groups_up_to (suc more) n) ≤ 1 = one_group (suc more) n one in omega arith)
  | inr le ↦ (let later : length (groups_up_to more (n / 128)) ≤ 1 = one_group more (n / 128) (omega arith) in rw (le-ltb n 128 le) omega arith)
]

three_groups : (more n : ℕ) → n < 2097152 → length (groups_up_to more n) ≤ 3
unfolding groups_up_to
three_groups zero n h = omega arith
three_groups (suc more) n h = elim (cases_lt n 128) [
  | inl one ↦ (let few : length (groups_up_to (suc more) n) ≤ 1 = one_group (suc more) n one in omega arith)
  | inr le ↦ (let later : length (groups_up_to more (n / 128)) ≤ 2 = two_groups more (n / 128) (omega arith) in rw (le-ltb n 128 le) omega arith)
]

-- ---- values

counted_small : (bytes : List ℕ) → nat_le (length bytes) 131072 ≡ true → length (counted bytes) ≤ 131075
counted_small bytes h =
    let short : length bytes ≤ 131072 = grind (arith, nat_tests) in
    let count : length (natural (length bytes)) ≤ 3 = three_groups 9 (2 * length bytes) (omega arith) in
    let whole : length (counted bytes) ≡ length (natural (length bytes)) + length bytes = length-append (natural (length bytes)) bytes in
    omega arith

amount_few : (k : Kind) → amount_size k ≤ 16
amount_few kind.Bool = omega arith
amount_few kind.Int = omega arith
amount_few kind.Long = omega arith
amount_few kind.Date = omega arith
amount_few (kind.Timestamp utc) = omega arith
amount_few (kind.Decimal precision scale) =
    let s = size_is precision in
    let size : amount_size (kind.Decimal precision scale) ≡ suc s.0 = s.1 in
    let few : s.0 ≤ 15 = s.2 in
    omega arith
amount_few kind.Text = omega arith
amount_few kind.Bytes = omega arith

-- at most so many bytes
at_most : (bytes other : List ℕ) (most : ℕ) → bytes ≡ other → length other ≤ most → length bytes ≤ most
at_most bytes other most e h = let same : length bytes ≡ length other = ap length e in omega arith

number_small : (z : ℤ) → length (groups_up_to 9 (zigzag z)) ≤ 131075
number_small z = let few : length (groups_up_to 9 (zigzag z)) ≤ 10 = groups_few 9 (zigzag z) in omega arith

value_small : (k : Kind) (v : Value) → is_short v ≡ true → length (spelling (value_datum k v)) ≤ 131075
value_small k value.Null h = at_most _ [] 131075 spells_null (omega arith)
value_small k (value.Bool b) h = at_most _ ((cond b 1 0) ∷ []) 131075 (spells_boolean b) (omega arith)
value_small k (value.Int n) h = at_most _ _ 131075 (spells_int n) (number_small n)
value_small k (value.Long n) h = at_most _ _ 131075 (spells_long n) (number_small n)
value_small k (value.Date n) h = at_most _ _ 131075 (spells_int n) (number_small n)
value_small k (value.Timestamp n) h = at_most _ _ 131075 (spells_long n) (number_small n)
value_small k (value.Decimal n scale) h =
    let size : length (bytes_in (amount_size k) n) ≡ amount_size k = digits_length (is_negative n) (amount_size k) (size_of n) in
    let few : amount_size k ≤ 16 = amount_few k in
    at_most _ (bytes_in (amount_size k) n) 131075 (spells_fixed (bytes_in (amount_size k) n)) (omega arith)
value_small k (value.Text bytes) h = at_most _ _ 131075 (spells_text bytes) (counted_small bytes h)
value_small k (value.Bytes bytes) h = at_most _ _ 131075 (spells_bytes bytes) (counted_small bytes h)

-- ---- rows

column_by : (required null : Bool) (k : Kind) (v : Value) → is_short v ≡ true
    → length (spelling (cond required (value_datum k v) (cond null (optional None) (optional (Some (value_datum k v)))))) ≤ 131076
column_by true null k v h = let small : length (spelling (value_datum k v)) ≤ 131075 = value_small k v h in omega arith
column_by false true k v h =
    let branch : length (natural 0) ≤ 1 = one_group 9 0 (omega arith) in
    let none : length (spelling datum.Null) ≡ 0 = ap length spells_null in
    let whole : length (spelling (datum.Union 0 datum.Null)) ≡ length (natural 0) + length (spelling datum.Null) = ap length (spells_union 0 datum.Null) ∙ length-append (natural 0) (spelling datum.Null) in
    omega arith
column_by false false k v h =
    let branch : length (natural 1) ≤ 1 = one_group 9 2 (omega arith) in
    let small : length (spelling (value_datum k v)) ≤ 131075 = value_small k v h in
    let whole : length (spelling (datum.Union 1 (value_datum k v))) ≡ length (natural 1) + length (spelling (value_datum k v)) = ap length (spells_union 1 (value_datum k v)) ∙ length-append (natural 1) (spelling (value_datum k v)) in
    omega arith

columns_small : (columns : List Column) (vs : List Value) → is_short_row vs ≡ true
    → length (concat (map spelling (column_datums columns vs))) ≤ 131076 * length columns
unfolding column_datums
columns_small [] vs h = omega arith
columns_small (column ∷ columns) [] h = omega arith
columns_small (column ∷ columns) (v ∷ vs) h =
    let here : length (spelling (column_datum column v)) ≤ 131076 = column_by column.required (is_null v) column.kind v (first (is_short v) (is_short_row vs) h) in
    let later : length (concat (map spelling (column_datums columns vs))) ≤ 131076 * length columns = columns_small columns vs (second (is_short v) (is_short_row vs) h) in
    let whole = length-append (spelling (column_datum column v)) (concat (map spelling (column_datums columns vs))) in
    omega arith

pub row_small : (columns : List Column) (row : List Value) → is_short_row row ≡ true → row_size columns row ≤ 131076 * length columns
row_small columns row h = at_most _ _ (131076 * length columns) (spells_record (column_datums columns row)) (columns_small columns row h)
