-- Bounds that are written are read again.
use Rattle.std.proofs.Common.{◌≡◌, ℕ, zero, suc, ◌-◌, ◌^◌, ◌<◌, ◌≤◌, ℤ, pos, negsuc, neg_ℤ, Bool, true, false, ◌&&◌, nat_lt, nat_le, cond, length, Option, Some, None, option_map, option_and_then, refl, sym, ap, ◌∙◌, arith, FitsSigned}
use Rattle.std.specs.Prelude.{◌==◌}
use Rattle.std.specs.Int.{w32, w64, w128}
use Rattle.std.proofs.lemmas.Int.{ints}
use Rattle.std.proofs.lemmas.Bool.Decides.{nat_tests}
use Rattle.std.proofs.Math.Nat.{pow-le-pow_right}
use Rattle.row_values.specs.declared.kind.Kind.{Kind}
use Rattle.row_values.specs.declared.kind.Kind.TheVariants as kind
use Rattle.row_values.specs.declared.value.Value.{Value}
use Rattle.row_values.specs.declared.value.Value.TheVariants as value
use Rattle.row_values.specs.Rows.{is_between, is_day, is_instant, has_digits, is_value}
use Rattle.plain_types.specs.Steps.{by_option}
use Rattle.kind_values.specs.KindValues.{of_kind, is_decimal_size, decimal_of}
use Rattle.kind_values.specs.BigEndian.{signed_of, signed_bytes}
use Rattle.kind_values.specs.LittleEndian.{int_of, long_of, int_bytes, long_bytes}
use Rattle.kind_values.proofs.Written.{int_again, long_again, signed_again, some_bytes}
use Rattle.kind_values.specs.Bounds.{bound_of, bytes_of, is_kind}

first : (a b : Bool) → (a && b) ≡ true → a ≡ true
first true b h = refl
first false b h = absurd cc

second : (a b : Bool) → (a && b) ≡ true → b ≡ true
second true b h = h
second false b h = absurd cc

kept : (k : Kind) (v : Value) (content : Option Value) → content ≡ Some v → is_value k v ≡ true → option_and_then (of_kind k) content ≡ Some v
kept k v content is h = ap (option_and_then (of_kind k)) is ∙ ap (λ (b : Bool). (let o : Option Value = cond b (Some v) None in o)) h

int_fits : (n : ℤ) → is_value kind.Int (value.Int n) ≡ true → FitsSigned w32 n
int_fits (pos n) h = let most : n < 2 ^ 31 = grind (arith, nat_tests) in omega (arith, ints)
int_fits (negsuc n) h = let most : n < 2 ^ 31 = grind (arith, nat_tests) in omega (arith, ints)

long_fits : (n : ℤ) → is_value kind.Long (value.Long n) ≡ true → FitsSigned w64 n
long_fits (pos n) h = let most : n < 2 ^ 63 = grind (arith, nat_tests) in omega (arith, ints)
long_fits (negsuc n) h = let most : n < 2 ^ 63 = grind (arith, nat_tests) in omega (arith, ints)

day_fits : (n : ℤ) → is_day n ≡ true → FitsSigned w32 n
day_fits (pos n) h = let most : n < 2 ^ 31 = grind (arith, nat_tests) in omega (arith, ints)
day_fits (negsuc n) h = let most : n < 2 ^ 31 = grind (arith, nat_tests) in omega (arith, ints)

instant_fits : (n : ℤ) → is_instant n ≡ true → FitsSigned w64 n
instant_fits (pos n) h = let most : n < 2 ^ 63 = grind (arith, nat_tests) in omega (arith, ints)
instant_fits (negsuc n) h = let most : n < 2 ^ 63 = grind (arith, nat_tests) in omega (arith, ints)

between_fits : (bound : ℕ) (n : ℤ) → bound < 2 ^ 127 → is_between (neg_ℤ (pos bound)) (pos bound) n ≡ true → FitsSigned w128 n
between_fits zero (pos n) lt h = let most : n < 2 ^ 127 = grind (arith, nat_tests) in omega (arith, ints)
between_fits (suc bound) (pos n) lt h = let most : n < 2 ^ 127 = grind (arith, nat_tests) in omega (arith, ints)
between_fits zero (negsuc n) lt h = absurd cc
between_fits (suc bound) (negsuc n) lt h = let most : n < 2 ^ 127 = grind (arith, nat_tests) in omega (arith, ints)

pub amount_fits : (precision : ℕ) (n : ℤ) → precision ≤ 38 → has_digits precision n ≡ true → FitsSigned w128 n
amount_fits precision n few h =
    let power : 10 ^ precision ≤ 10 ^ 38 = pow-le-pow_right (omega arith) few in
    between_fits (10 ^ precision - 1) n (omega arith) h

few_digits : (precision scale : ℕ) → is_kind (kind.Decimal precision scale) ≡ true → precision ≤ 38
few_digits precision scale sound =
    let rest : (nat_le precision 38 && nat_le scale precision) ≡ true = second (nat_le 1 precision) (nat_le precision 38 && nat_le scale precision) sound in
    let test : nat_le precision 38 ≡ true = first (nat_le precision 38) (nat_le scale precision) rest in
    grind (arith, nat_tests)

some_size : (size : ℕ) → 1 ≤ size → size ≤ 16 → is_decimal_size size ≡ true
some_size size least most =
    let some : nat_lt 0 size ≡ true = grind (arith, nat_tests) in
    let few : nat_lt size 17 ≡ true = grind (arith, nat_tests) in
    ap (λ (b : Bool). b && nat_lt size 17) some ∙ few

same_scale : (s scale : ℕ) → (s == scale) ≡ true → s ≡ scale
same_scale s scale h = grind (arith, nat_tests)

decimal_again : (scale : ℕ) (n : ℤ) (s : ℕ) → FitsSigned w128 n → (s == scale) ≡ true → decimal_of scale (signed_bytes n) ≡ Some (value.Decimal n s)
decimal_again scale n s fits h =
    let size = some_bytes n fits in
    ap (λ (b : Bool). (let o : Option Value = cond b (Some (value.Decimal (signed_of (signed_bytes n)) scale)) None in o)) (some_size (length (signed_bytes n)) size.0 size.1)
    ∙ ap (λ (m : ℤ). (let o : Option Value = Some (value.Decimal m scale) in o)) (signed_again n fits) ∙ ap (λ (m : ℕ). (let o : Option Value = Some (value.Decimal n m) in o)) (sym (same_scale s scale h))

pub bound_again : (k : Kind) (v : Value) → is_kind k ≡ true → is_value k v ≡ true → bound_of k (bytes_of v) ≡ Some v
bound_again kind.Bool (value.Bool true) sound h = refl
bound_again kind.Bool (value.Bool false) sound h = refl
bound_again kind.Bool v sound h = absurd cc
bound_again kind.Int (value.Int n) sound h = kept kind.Int (value.Int n) (option_map value.Int (int_of (int_bytes n))) (ap (option_map value.Int) (int_again n (int_fits n h))) h
bound_again kind.Int v sound h = absurd cc
bound_again kind.Long (value.Long n) sound h = kept kind.Long (value.Long n) _ (ap (λ (o : Option ℤ). by_option o (λ m. Some (value.Long m)) (option_map value.Long (int_of (long_bytes n)))) (long_again n (long_fits n h))) h
bound_again kind.Long v sound h = absurd cc
bound_again kind.Date (value.Date n) sound h = kept kind.Date (value.Date n) (option_map value.Date (int_of (int_bytes n))) (ap (option_map value.Date) (int_again n (day_fits n h))) h
bound_again kind.Date v sound h = absurd cc
bound_again (kind.Timestamp utc) (value.Timestamp n) sound h = kept (kind.Timestamp utc) (value.Timestamp n) (option_map value.Timestamp (long_of (long_bytes n))) (ap (option_map value.Timestamp) (long_again n (instant_fits n h))) h
bound_again (kind.Timestamp utc) v sound h = absurd cc
bound_again (kind.Decimal precision scale) (value.Decimal n s) sound h =
    let fits : FitsSigned w128 n = amount_fits precision n (few_digits precision scale sound) (second (s == scale) (has_digits precision n) h) in
    kept (kind.Decimal precision scale) (value.Decimal n s) (decimal_of scale (signed_bytes n)) (decimal_again scale n s fits (first (s == scale) (has_digits precision n) h)) h
bound_again (kind.Decimal precision scale) v sound h = absurd cc
bound_again kind.Text (value.Text bytes) sound h = kept kind.Text (value.Text bytes) (Some (value.Text bytes)) refl h
bound_again kind.Text v sound h = absurd cc
bound_again kind.Bytes (value.Bytes bytes) sound h = kept kind.Bytes (value.Bytes bytes) (Some (value.Bytes bytes)) refl h
bound_again kind.Bytes v sound h = absurd cc
