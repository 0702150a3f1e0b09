-- A value of a kind fits the kind's type.
use Rattle.std.proofs.Common.{◌≡◌, ℕ, ℤ, pos, negsuc, List, true, arith}
use Rattle.std.proofs.lemmas.Bool.Decides.{nat_tests}
use Rattle.std.proofs.lemmas.Str.{IsUtf8-from_is_utf8}
use Rattle.row_values.specs.declared.kind.Kind.{Kind}
use Rattle.row_values.specs.declared.kind.Kind.TheVariants as kind
use Rattle.row_values.specs.declared.value.Value.{Value}
use Rattle.row_values.specs.declared.value.Value.TheVariants as value
use Rattle.row_values.specs.Rows.{is_value, is_day, is_instant}
use Rattle.kind_values.specs.BigEndian.{bytes_in, is_negative, size_of}
use Rattle.kind_values.proofs.CallerLemmas.{digits_length}
use Rattle.avro_binary.specs.Spelling.{IsSignedOf, Fits}
use Rattle.row_writer.specs.KindTypes.{decimal_size}
use Rattle.row_writer.specs.KindDatum.{value_datum}
use Rattle.row_writer.proofs.KindPlans.{kind_plan, plan_shape}
use Rattle.row_writer.proofs.FieldLaws.{text_fits, boolean_fits, int_fits, long_fits, bytes_fits, fixed_fits}

int_range : (n : ℤ) → is_value kind.Int (value.Int n) ≡ true → IsSignedOf 31 n
int_range (pos n) h = grind (arith, nat_tests)
int_range (negsuc n) h = grind (arith, nat_tests)

long_range : (n : ℤ) → is_value kind.Long (value.Long n) ≡ true → IsSignedOf 63 n
long_range (pos n) h = grind (arith, nat_tests)
long_range (negsuc n) h = grind (arith, nat_tests)

day_range : (n : ℤ) → is_day n ≡ true → IsSignedOf 31 n
day_range (pos n) h = grind (arith, nat_tests)
day_range (negsuc n) h = grind (arith, nat_tests)

instant_range : (n : ℤ) → is_instant n ≡ true → IsSignedOf 63 n
instant_range (pos n) h = grind (arith, nat_tests)
instant_range (negsuc n) h = grind (arith, nat_tests)

pub value_fits : (name : List ℕ) (k : Kind) (v : Value) → is_value k v ≡ true → Fits (plan_shape (kind_plan name k)) (value_datum k v)
value_fits name kind.Bool (value.Bool b) h = boolean_fits b
value_fits name kind.Bool v h = absurd cc
value_fits name kind.Int (value.Int n) h = int_fits n (int_range n h)
value_fits name kind.Int v h = absurd cc
value_fits name kind.Long (value.Long n) h = long_fits n (long_range n h)
value_fits name kind.Long v h = absurd cc
value_fits name kind.Date (value.Date n) h = int_fits n (day_range n h)
value_fits name kind.Date v h = absurd cc
value_fits name (kind.Timestamp utc) (value.Timestamp n) h = long_fits n (instant_range n h)
value_fits name (kind.Timestamp utc) v h = absurd cc
value_fits name (kind.Decimal precision scale) (value.Decimal n s) h = fixed_fits (decimal_size precision) (bytes_in (decimal_size precision) n) (digits_length (is_negative n) (decimal_size precision) (size_of n))
value_fits name (kind.Decimal precision scale) v h = absurd cc
value_fits name kind.Text (value.Text bytes) h = text_fits bytes (IsUtf8-from_is_utf8 bytes h)
value_fits name kind.Text v h = absurd cc
value_fits name kind.Bytes (value.Bytes bytes) h = bytes_fits bytes
value_fits name kind.Bytes v h = absurd cc
