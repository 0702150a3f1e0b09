-- A value that is written in its kind's type is read again.
use Rattle.std.proofs.Common.{◌≡◌, ℕ, zero, suc, ◌-◌, ◌*◌, ◌^◌, ◌<◌, ◌≤◌, ℤ, pos, negsuc, neg_ℤ, List, Bool, true, false, cond, ◌&&◌, nat_lt, nat_le, nat_eq, min, Option, Some, None, option_and_then, refl, sym, ap, ◌∙◌, arith}
use Rattle.std.specs.Prelude.{◌==◌}
use Rattle.std.proofs.lemmas.Bool.Decides.{nat_tests}
use Rattle.std.proofs.Math.Nat.{pow-le-pow_right}
use Rattle.row_values.specs.declared.kind.Kind.{Kind}
use Rattle.row_values.specs.declared.kind.Kind.TheVariants as kind
use Rattle.row_values.specs.declared.value.Value.{Value}
use Rattle.row_values.specs.declared.value.Value.TheVariants as value
use Rattle.row_values.specs.Rows.{is_between, has_digits, is_value}
use Rattle.kind_values.specs.BigEndian.{signed_of, is_negative, size_of, bytes_in}
use Rattle.kind_values.proofs.CallerLemmas.{digits_length, enough, in_again}
use Rattle.kind_values.specs.Bounds.{is_kind}
use Rattle.kind_values.specs.KindValues.{of_kind, is_decimal_size, decimal_of}
use Rattle.avro_binary.specs.declared.datum.Datum.{Datum, out-Datum}
use Rattle.avro_binary.specs.declared.datum.MapPair.{MapPair}
use Rattle.avro_binary.specs.declared.datum.Datum.TheOpen as open_datum
use Rattle.avro_binary.specs.declared.datum.Datum.TheVariants as datum
use Rattle.avro_binary.specs.declared.schema.Field.{Field}
use Rattle.avro_binary.specs.declared.schema.Schema.{Schema, out-Schema}
use Rattle.avro_binary.specs.declared.schema.Schema.TheOpen as open_schema
use Rattle.avro_rows.specs.Carrier.{is_null_type, carries_bare, carries_level, carries}
use Rattle.avro_rows.specs.DatumValue.{content_of, value_of, inside_level, inside, is_null_datum}
use Rattle.row_writer.specs.KindTypes.{decimal_size}
use Rattle.row_writer.specs.KindDatum.{value_datum}
use Rattle.row_writer.proofs.Tests.{first, second}
use Rattle.row_writer.proofs.Plans.{optional_plan, type_of}
use Rattle.row_writer.proofs.PlanOut.{out_plan, plan_out, null_type_out}
use Rattle.row_writer.proofs.KindPlans.{kind_plan}
use Rattle.row_writer.proofs.DatumOut.{boolean_out, int_out, long_out, bytes_out, text_out, fixed_out}

-- ---- sizes of decimals

digits_kept : (precision : ℕ) → precision ≤ 38 → min precision 38 ≡ precision
digits_kept precision few = omega arith

pub few_digits : (precision scale : ℕ) → is_kind (kind.Decimal precision scale) ≡ true → precision ≤ 38
few_digits precision scale sound =
    let test : nat_le precision 38 ≡ true = first (nat_le precision 38) (nat_le scale precision) (second (nat_le 1 precision) (nat_le precision 38 && nat_le scale precision) sound) in
    grind (arith, nat_tests)

most_digits : (precision : ℕ) → 10 ^ min precision 38 ≤ 10 ^ 38
most_digits precision = let le : min precision 38 ≤ 38 = omega arith in pow-le-pow_right (omega arith) le

-- a size of 1 to 16 bytes, which hold the digits
pub size_is : (precision : ℕ) → (k : ℕ) × (decimal_size precision ≡ suc k) × (k ≤ 15) × (10 ^ min precision 38 - 1 < 128 * 256 ^ k)
size_is precision =
    let most : 10 ^ min precision 38 ≤ 10 ^ 38 = most_digits precision in
    enough 15 (10 ^ min precision 38 - 1) (omega arith)

pub size_holds : (precision : ℕ) → is_decimal_size (decimal_size precision) ≡ true
size_holds precision =
    let s = size_is precision in
    let k : ℕ = s.0 in
    let is : decimal_size precision ≡ suc k = s.1 in
    let few : k ≤ 15 = s.2 in
    let some : nat_lt 0 (suc k) ≡ true = grind (arith, nat_tests) in
    let less : nat_lt (suc k) 17 ≡ true = grind (arith, nat_tests) in
    ap is_decimal_size is ∙ ap (λ (b : Bool). b && nat_lt (suc k) 17) some ∙ less

between_size : (bound : ℕ) (n : ℤ) → is_between (neg_ℤ (pos bound)) (pos bound) n ≡ true → size_of n ≤ bound
between_size zero (pos n) h = grind (arith, nat_tests)
between_size (suc bound) (pos n) h = grind (arith, nat_tests)
between_size zero (negsuc n) h = absurd cc
between_size (suc bound) (negsuc n) h = grind (arith, nat_tests)

sized_by : (size k : ℕ) (n : ℤ) → size ≡ suc k → size_of n < 128 * 256 ^ k → signed_of (bytes_in size n) ≡ n
sized_by size k n is lt = ap (λ (m : ℕ). signed_of (bytes_in m n)) is ∙ in_again k n lt

amount_read : (precision : ℕ) (n : ℤ) → precision ≤ 38 → has_digits precision n ≡ true → signed_of (bytes_in (decimal_size precision) n) ≡ n
amount_read precision n few h =
    let s = size_is precision in
    let kept : min precision 38 ≡ precision = digits_kept precision few in
    let bound : 10 ^ min precision 38 ≡ 10 ^ precision = ap (λ (m : ℕ). 10 ^ m) kept in
    let size : size_of n ≤ 10 ^ precision - 1 = between_size (10 ^ precision - 1) n h in
    let k : ℕ = s.0 in
    let lt : 10 ^ min precision 38 - 1 < 128 * 256 ^ k = s.3 in
    sized_by (decimal_size precision) k n s.1 (omega arith)

same_scale : (s scale : ℕ) → (s == scale) ≡ true → s ≡ scale
same_scale s scale h = grind (arith, nat_tests)

abbrev amount : List ℕ → ℕ → Option Value
amount bytes scale = Some (value.Decimal (signed_of bytes) scale)

amount_again : (precision scale : ℕ) (n : ℤ) (s : ℕ) → precision ≤ 38 → has_digits precision n ≡ true → (s == scale) ≡ true
    → decimal_of scale (bytes_in (decimal_size precision) n) ≡ Some (value.Decimal n s)
amount_again precision scale n s few digits same =
    ap (λ (size : ℕ). cond (is_decimal_size size) (amount (bytes_in (decimal_size precision) n) scale) None) (digits_length (is_negative n) (decimal_size precision) (size_of n))
    ∙ ap (λ (b : Bool). cond b (amount (bytes_in (decimal_size precision) n) scale) None) (size_holds precision)
    ∙ ap (λ (m : ℤ). (let o : Option Value = Some (value.Decimal m scale) in o)) (amount_read precision n few digits) ∙ ap (λ (m : ℕ). (let o : Option Value = Some (value.Decimal n m) in o)) (sym (same_scale s scale same))

-- ---- a value

-- a datum in no union that isn't null and has the value
pub record IsRead (k : Kind) (v : Value) (d : Datum) : Type 0 where
  pub alone : inside d ≡ d
  pub some : is_null_datum (out-Datum d) ≡ false
  pub has : value_of k d ≡ Some v

kept : (k : Kind) (v : Value) → is_value k v ≡ true → of_kind k v ≡ Some v
kept k v h = ap (λ (b : Bool). (let o : Option Value = cond b (Some v) None in o)) h

read_by : (k : Kind) (v : Value) (d : Datum) (x : open_datum.Datum-F Datum MapPair) → out-Datum d ≡ x → inside_level d x ≡ d
    → is_null_datum x ≡ false → content_of k x ≡ Some v → is_value k v ≡ true → IsRead k v d
read_by k v d x out alone some content h = record {
  alone = ap (inside_level d) out ∙ alone;
  some = ap is_null_datum out ∙ some;
  has = ap (λ (y : open_datum.Datum-F Datum MapPair). option_and_then (of_kind k) (content_of k y)) out ∙ ap (option_and_then (of_kind k)) content ∙ kept k v h;
}

pub value_read : (k : Kind) (v : Value) → is_kind k ≡ true → is_value k v ≡ true → IsRead k v (value_datum k v)
value_read kind.Bool (value.Bool b) sound h = read_by kind.Bool (value.Bool b) (datum.Boolean b) (open_datum.Boolean b) (boolean_out b) refl refl refl h
value_read kind.Bool v sound h = absurd cc
value_read kind.Int (value.Int n) sound h = read_by kind.Int (value.Int n) (datum.Int n) (open_datum.Int n) (int_out n) refl refl refl h
value_read kind.Int v sound h = absurd cc
value_read kind.Long (value.Long n) sound h = read_by kind.Long (value.Long n) (datum.Long n) (open_datum.Long n) (long_out n) refl refl refl h
value_read kind.Long v sound h = absurd cc
value_read kind.Date (value.Date n) sound h = read_by kind.Date (value.Date n) (datum.Int n) (open_datum.Int n) (int_out n) refl refl refl h
value_read kind.Date v sound h = absurd cc
value_read (kind.Timestamp utc) (value.Timestamp n) sound h = read_by (kind.Timestamp utc) (value.Timestamp n) (datum.Long n) (open_datum.Long n) (long_out n) refl refl refl h
value_read (kind.Timestamp utc) v sound h = absurd cc
value_read (kind.Decimal precision scale) (value.Decimal n s) sound h =
    let bytes : List ℕ = bytes_in (decimal_size precision) n in
    read_by (kind.Decimal precision scale) (value.Decimal n s) (datum.Fixed bytes) (open_datum.Fixed bytes) (fixed_out bytes) refl refl
    (amount_again precision scale n s (few_digits precision scale sound) (second (s == scale) (has_digits precision n) h) (first (s == scale) (has_digits precision n) h)) h
value_read (kind.Decimal precision scale) v sound h = absurd cc
value_read kind.Text (value.Text bytes) sound h = read_by kind.Text (value.Text bytes) (datum.Text bytes) (open_datum.Text bytes) (text_out bytes) refl refl refl h
value_read kind.Text v sound h = absurd cc
value_read kind.Bytes (value.Bytes bytes) sound h = read_by kind.Bytes (value.Bytes bytes) (datum.Bytes bytes) (open_datum.Bytes bytes) (bytes_out bytes) refl refl refl h
value_read kind.Bytes v sound h = absurd cc

-- ---- its type

same_test : (n : ℕ) → nat_eq n n ≡ true
same_test n = grind (arith, nat_tests)

bare : (name : List ℕ) (k : Kind) → carries_bare k (out_plan (kind_plan name k)) ≡ true
bare name kind.Bool = refl
bare name kind.Int = refl
bare name kind.Long = refl
bare name kind.Date = refl
bare name (kind.Timestamp utc) = refl
bare name (kind.Decimal precision scale) = ap (λ (b : Bool). b && nat_eq scale scale) (size_holds precision) ∙ same_test scale
bare name kind.Text = refl
bare name kind.Bytes = refl

level_is_bare : (name : List ℕ) (k : Kind) → carries_level k (out_plan (kind_plan name k)) ≡ carries_bare k (out_plan (kind_plan name k))
level_is_bare name kind.Bool = refl
level_is_bare name kind.Int = refl
level_is_bare name kind.Long = refl
level_is_bare name kind.Date = refl
level_is_bare name (kind.Timestamp utc) = refl
level_is_bare name (kind.Decimal precision scale) = refl
level_is_bare name kind.Text = refl
level_is_bare name kind.Bytes = refl

pub kind_carried : (name : List ℕ) (k : Kind) → carries k (type_of (kind_plan name k)) ≡ true
kind_carried name k = ap (carries_level k) (plan_out (kind_plan name k)) ∙ level_is_bare name k ∙ bare name k

abbrev branch_by : Kind → open_schema.Schema-F Schema Field → open_schema.Schema-F Schema Field → Bool
branch_by k a b = cond (is_null_type a) (carries_bare k b) (cond (is_null_type b) (carries_bare k a) false)

pub optional_carried : (name : List ℕ) (k : Kind) → carries k (type_of (optional_plan (kind_plan name k))) ≡ true
optional_carried name k = ap (carries_level k) (plan_out (optional_plan (kind_plan name k))) ∙ ap (λ (a : open_schema.Schema-F Schema Field). branch_by k a (out-Schema (type_of (kind_plan name k)))) null_type_out
    ∙ ap (carries_bare k) (plan_out (kind_plan name k)) ∙ bare name k
