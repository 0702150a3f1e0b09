-- Names of ASCII.
use Rattle.std.proofs.Common.{◌≡◌, ℕ, suc, ◌-◌, ◌^◌, ◌<◌, ℤ, pos, negsuc, List, [], ◌∷◌, ◌++◌, Bool, true, false, cond, ◌&&◌, nat_le, ltb, is_some, Some, None, refl, ap, ◌∙◌, arith}
use Rattle.std.specs.Prelude.{codes}
use Rattle.std.specs.Fmt.{decimal}
use Rattle.std.specs.List.{list_all}
use Rattle.std.specs.Str.{IsAscii}
use Rattle.std.proofs.lemmas.Fmt.{IsAscii-decimal}
use Rattle.std.proofs.lemmas.Bool.Decides.{nat_tests}
use Rattle.avro_binary.specs.SchemaOnce.{is_id}
use Rattle.avro_binary.proofs.CallerLemmas.{are_ascii}
use Rattle.row_writer.specs.Names.{is_letter, is_name_byte, is_name, id_name, decimal_name}
use Rattle.row_writer.proofs.Tests.{first, second}

pub ascii_append : (xs ys : List ℕ) → are_ascii xs ≡ true → are_ascii ys ≡ true → are_ascii (xs ++ ys) ≡ true
ascii_append [] ys h k = k
ascii_append (x ∷ xs) ys h k = ap (λ (b : Bool). b && are_ascii (xs ++ ys)) (first (ltb x 128) (are_ascii xs) h) ∙ ascii_append xs ys (second (ltb x 128) (are_ascii xs) h) k

below_128 : (b : ℕ) → b < 128 → ltb b 128 ≡ true
below_128 b h = grind (arith, nat_tests)

ascii_list : (xs : List ℕ) → IsAscii xs → are_ascii xs ≡ true
ascii_list [] h = refl
ascii_list (x ∷ xs) h = ap (λ (b : Bool). b && are_ascii xs) (below_128 x (h 0)) ∙ ascii_list xs (λ i. h (suc i))

pub decimal_ascii : (n : ℕ) → n < 2 ^ 64 → are_ascii (decimal n) ≡ true
decimal_ascii n h = ascii_list (decimal n) (IsAscii-decimal n h)

letter_below : (b : ℕ) → is_letter b ≡ true → ltb b 128 ≡ true
letter_below b h = grind (arith, nat_tests)

name_byte_below : (b : ℕ) → is_name_byte b ≡ true → ltb b 128 ≡ true
name_byte_below b h = grind (arith, nat_tests)

name_bytes_ascii : (bs : List ℕ) → list_all is_name_byte bs ≡ true → are_ascii bs ≡ true
name_bytes_ascii [] h = refl
name_bytes_ascii (b ∷ bs) h = ap (λ (x : Bool). x && are_ascii bs) (name_byte_below b (first (is_name_byte b) (list_all is_name_byte bs) h)) ∙ name_bytes_ascii bs (second (is_name_byte b) (list_all is_name_byte bs) h)

pub name_ascii : (name : List ℕ) → is_name name ≡ true → are_ascii name ≡ true
name_ascii [] h = absurd cc
name_ascii (b ∷ bs) h = ap (λ (x : Bool). x && are_ascii bs) (letter_below b (first (is_letter b) (list_all is_name_byte bs) h)) ∙ name_bytes_ascii bs (second (is_letter b) (list_all is_name_byte bs) h)

small_by : (n : ℕ) (b : Bool) (z : ℤ) → nat_le n (2 ^ 31 - 1) ≡ b → is_some (cond b (Some z) None) ≡ true → n < 2 ^ 63
small_by n true z e h = grind (arith, nat_tests)
small_by n false z e h = absurd cc

pub id_ascii : (id : ℤ) → is_id (Some id) ≡ true → are_ascii (id_name id) ≡ true
id_ascii (pos n) h =
    let small : n < 2 ^ 63 = small_by n (nat_le n (2 ^ 31 - 1)) (pos n) refl h in
    decimal_ascii n (omega arith)
id_ascii (negsuc n) h =
    let small : n < 2 ^ 63 = small_by n (nat_le n (2 ^ 31 - 1)) (negsuc n) refl h in
    decimal_ascii (suc n) (omega arith)

pub decimal_name_ascii : (id : ℤ) → is_id (Some id) ≡ true → are_ascii (decimal_name id) ≡ true
decimal_name_ascii id h = ascii_append (codes "decimal_") (id_name id) refl (id_ascii id h)
