-- A number of 32 bits is read of its JSON.
use Rattle.std.proofs.Common.{◌≡◌, ℕ, ◌^◌, ℤ, pos, negsuc, Bool, true, false, List, Option, Some, None, Ok, nat_lt, ap, subst, ◌∙◌, arith}
use Rattle.std.specs.Prelude.{option_and_then, int_lt, if◌then◌else◌}
use Rattle.std.proofs.lemmas.Bool.Decides.{nat_tests}
use Rattle.std.proofs.lemmas.Int.{ints}
use Rattle.serde_json.specs.Data.{Data, number}
use Rattle.serde_json.specs.Find.{of_integer}
use Rattle.plain_types.specs.Steps.{or_fault}
use Rattle.iceberg_schema.specs.Keys.{in_int, long_of, long_at, int_at}
use Rattle.iceberg_schema.specs.Widths.{IsInt}
use Rattle.iceberg_schema.proofs.WidthLaws.{long_below, long_of_int}

-- what was there, where no fault was
pub there : {A E : Type 0} → (e : E) (o : Option A) (a : A) → or_fault e o ≡ Ok a → o ≡ Some a
there e (Some b) a h = cc
there e None a h = cc

same_number : (b : Bool) (z n : ℤ) → (if b then Some z else None) ≡ Some n → z ≡ n
same_number true z n h = cc
same_number false z n h = cc

int_read : (o : Option ℤ) (n : ℤ) → option_and_then in_int o ≡ Some n → IsInt n
int_read (Some z) n h = subst (λ (m : ℤ). in_int m ≡ Some n) (same_number _ z n h) h
int_read None n h = cc

-- a number that is read has 32 bits
pub int_at_read : (key : List ℕ) (d : Data) (n : ℤ) → int_at key d ≡ Some n → IsInt n
int_at_read key d n h = int_read (long_at key d) n h

below : (m : ℕ) → int_lt (pos m) (pos (2 ^ 63)) ≡ true → nat_lt m (2 ^ 63) ≡ true
below m h = grind (arith, ints, nat_tests, h)

-- a number of 32 bits is read of its JSON
pub int_again : (n : ℤ) → IsInt n → option_and_then in_int (long_of (number (of_integer n))) ≡ Some n
int_again (pos m) h =
    ap (λ (b : Bool). option_and_then in_int (if b then Some (pos m) else None)) (below m (long_below (pos m) (long_of_int (pos m) h))) ∙ h
int_again (negsuc m) h = h
