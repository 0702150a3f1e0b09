-- Types of decimals of different columns have different names.
use Rattle.std.proofs.Common.{◌≡◌, ℕ, suc, ◌-◌, ◌^◌, ◌<◌, ℤ, pos, negsuc, Bool, true, false, cond, nat_le, is_some, ◌++◌, Some, None, refl, sym, ap, subst, ◌∙◌, arith}
use Rattle.std.specs.Prelude.{codes}
use Rattle.std.specs.Fmt.{decimal}
use Rattle.std.specs.Ordering.{int_eq}
use Rattle.std.specs.Str.{bytes_eq}
use Rattle.std.specs.Str.Parse.{AllDigits}
use Rattle.std.proofs.lemmas.Bool.Decides.{nat_tests}
use Rattle.std.proofs.lemmas.Fmt.{decimal_injective, decimal_is_IsNumeral}
use Rattle.std.proofs.lemmas.Int.{ints}
use Rattle.std.proofs.lemmas.List.{append_cancel_left}
use Rattle.std.proofs.lemmas.Slice.Eq.{bytes_eq-Decides}
use Rattle.std.proofs.lemmas.Str.Parse.{digit_from_value}
use Rattle.avro_binary.specs.SchemaOnce.{is_id}
use Rattle.row_writer.specs.Names.{id_name, decimal_name}

small_by : (n : ℕ) (b : Bool) (z : ℤ) → nat_le n (2 ^ 31 - 1) ≡ b → is_some (cond b (Some z) None) ≡ true → n < 2 ^ 63
small_by n true z e h = grind (arith, nat_tests)
small_by n false z e h = absurd cc

small : (n : ℕ) (z : ℤ) → is_some (cond (nat_le n (2 ^ 31 - 1)) (Some z) None) ≡ true → n < 2 ^ 63
small n z h = small_by n (nat_le n (2 ^ 31 - 1)) z refl h

-- no decimal begins with `m`
no_letter : (n m : ℕ) → n < 2 ^ 63 → decimal n ≡ codes "m" ++ decimal m → ⊥
no_letter n m h e = omega (arith, digit_from_value 109 (subst (AllDigits 10) e (decimal_is_IsNumeral n (omega arith)).0.1).0)

same_id : (a b : ℤ) → is_id (Some a) ≡ true → is_id (Some b) ≡ true → id_name a ≡ id_name b → a ≡ b
same_id (pos n) (pos m) h k e =
    let hn : n < 2 ^ 63 = small n (pos n) h in
    let hm : m < 2 ^ 63 = small m (pos m) k in
    ap pos (decimal_injective n m (omega arith) (omega arith) (append_cancel_left (codes "c") (decimal n) (decimal m) e))
same_id (pos n) (negsuc m) h k e = absurd (no_letter n (suc m) (small n (pos n) h) (append_cancel_left (codes "c") (decimal n) (codes "m" ++ decimal (suc m)) e))
same_id (negsuc n) (pos m) h k e = absurd (no_letter m (suc n) (small m (pos m) k) (append_cancel_left (codes "c") (decimal m) (codes "m" ++ decimal (suc n)) (sym e)))
same_id (negsuc n) (negsuc m) h k e =
    let hn : n < 2 ^ 63 = small n (negsuc n) h in
    let hm : m < 2 ^ 63 = small m (negsuc m) k in
    let same : suc n ≡ suc m = decimal_injective (suc n) (suc m) (omega arith) (omega arith) (append_cancel_left (codes "cm") (decimal (suc n)) (decimal (suc m)) e) in
    ap negsuc (omega arith)

same_test : (a b : ℤ) → a ≡ b → int_eq a b ≡ true
same_test a b e = grind (arith, ints, nat_tests)

differ_by : (c : Bool) (a b : ℤ) → is_id (Some a) ≡ true → is_id (Some b) ≡ true → int_eq a b ≡ false
    → bytes_eq (decimal_name a) (decimal_name b) ≡ c → c ≡ false
differ_by true a b h k d e =
    let name : id_name a ≡ id_name b = append_cancel_left (codes "decimal_") (id_name a) (id_name b) ((bytes_eq-Decides (decimal_name a) (decimal_name b)).0 e) in
    let t : int_eq a b ≡ true = same_test a b (same_id a b h k name) in
    absurd (let x : true ≡ false = sym t ∙ d in cc)
differ_by false a b h k d e = refl

pub names_differ : (a b : ℤ) → is_id (Some a) ≡ true → is_id (Some b) ≡ true → int_eq a b ≡ false → bytes_eq (decimal_name a) (decimal_name b) ≡ false
names_differ a b h k d = differ_by (bytes_eq (decimal_name a) (decimal_name b)) a b h k d refl
