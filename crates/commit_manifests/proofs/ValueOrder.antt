-- Values of one kind stand in a total order.
use Rattle.std.proofs.Common.{◌≡◌, ℕ, ℤ, pos, Bool, true, false, cond, List, [], ◌∷◌, Option, Some, None, refl, ap, arith}
use Rattle.std.specs.Prelude.{◌==◌}
use Rattle.std.specs.declared.cmp.Ordering.{Ordering}
use Rattle.std.specs.Cmp.{IsTotalOrder}
use Rattle.std.specs.Cmp.Lexicographic.{slice_cmp}
use Rattle.std.specs.Ordering.{nat_cmp, int_cmp}
use Rattle.std.proofs.lemmas.Bool.Decides.{nat_tests}
use Rattle.std.proofs.lemmas.Cmp.{on_total, int_cmp_total, nat_list_cmp_total}
use Rattle.row_values.specs.declared.kind.Kind.{Kind}
use Rattle.row_values.specs.declared.kind.Kind.TheVariants as kind
use Rattle.row_values.specs.declared.value.Value.{Value}
use Rattle.row_values.specs.declared.value.Value.TheVariants as value
use Rattle.row_values.specs.Order.{value_cmp}
use Rattle.row_values.specs.Rows.{is_value, has_digits}
use Rattle.commit_manifests.proofs.Conjunction.{first}

abbrev number_of : Value → ℤ
number_of (value.Int n) = n
number_of (value.Long n) = n
number_of (value.Date n) = n
number_of (value.Timestamp n) = n
number_of (value.Decimal n scale) = n
number_of _ = pos 0

abbrev text_of : Value → List ℕ
text_of (value.Bool b) = cond b 1 0 ∷ []
text_of (value.Text bytes) = bytes
text_of (value.Bytes bytes) = bytes
text_of _ = []

abbrev pub kind_cmp : Kind → Value → Value → Ordering
kind_cmp kind.Bool v w = slice_cmp nat_cmp (text_of v) (text_of w)
kind_cmp kind.Text v w = slice_cmp nat_cmp (text_of v) (text_of w)
kind_cmp kind.Bytes v w = slice_cmp nat_cmp (text_of v) (text_of w)
kind_cmp _ v w = int_cmp (number_of v) (number_of w)

pub kind_total : (k : Kind) → IsTotalOrder (kind_cmp k)
kind_total kind.Bool = on_total text_of nat_list_cmp_total
kind_total kind.Int = on_total number_of int_cmp_total
kind_total kind.Long = on_total number_of int_cmp_total
kind_total kind.Date = on_total number_of int_cmp_total
kind_total (kind.Timestamp utc) = on_total number_of int_cmp_total
kind_total (kind.Decimal precision scale) = on_total number_of int_cmp_total
kind_total kind.Text = on_total text_of nat_list_cmp_total
kind_total kind.Bytes = on_total text_of nat_list_cmp_total

same_scale : (s t scale : ℕ) → (s == scale) ≡ true → (t == scale) ≡ true → (s == t) ≡ true
same_scale s t scale h i = grind (arith, nat_tests)

pub compares : (k : Kind) (v w : Value) → is_value k v ≡ true → is_value k w ≡ true → value_cmp v w ≡ Some (kind_cmp k v w)
compares kind.Bool (value.Bool true) (value.Bool true) hv hw = refl
compares kind.Bool (value.Bool true) (value.Bool false) hv hw = refl
compares kind.Bool (value.Bool false) (value.Bool true) hv hw = refl
compares kind.Bool (value.Bool false) (value.Bool false) hv hw = refl
compares kind.Bool (value.Bool a) w hv hw = absurd cc
compares kind.Bool v w hv hw = absurd cc
compares kind.Int (value.Int a) (value.Int b) hv hw = refl
compares kind.Int (value.Int a) w hv hw = absurd cc
compares kind.Int v w hv hw = absurd cc
compares kind.Long (value.Long a) (value.Long b) hv hw = refl
compares kind.Long (value.Long a) w hv hw = absurd cc
compares kind.Long v w hv hw = absurd cc
compares kind.Date (value.Date a) (value.Date b) hv hw = refl
compares kind.Date (value.Date a) w hv hw = absurd cc
compares kind.Date v w hv hw = absurd cc
compares (kind.Timestamp utc) (value.Timestamp a) (value.Timestamp b) hv hw = refl
compares (kind.Timestamp utc) (value.Timestamp a) w hv hw = absurd cc
compares (kind.Timestamp utc) v w hv hw = absurd cc
compares (kind.Decimal precision scale) (value.Decimal a s) (value.Decimal b t) hv hw =
    ap (λ (same : Bool). (let o : Option Ordering = cond same (Some (int_cmp a b)) None in o)) (same_scale s t scale (first (s == scale) (has_digits precision a) hv) (first (t == scale) (has_digits precision b) hw))
compares (kind.Decimal precision scale) (value.Decimal a s) w hv hw = absurd cc
compares (kind.Decimal precision scale) v w hv hw = absurd cc
compares kind.Text (value.Text a) (value.Text b) hv hw = refl
compares kind.Text (value.Text a) w hv hw = absurd cc
compares kind.Text v w hv hw = absurd cc
compares kind.Bytes (value.Bytes a) (value.Bytes b) hv hw = refl
compares kind.Bytes (value.Bytes a) w hv hw = absurd cc
compares kind.Bytes v w hv hw = absurd cc
