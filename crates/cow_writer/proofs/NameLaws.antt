-- The path of a new data file names its file in the table's folder.
use Rattle.std.proofs.Common.{◌≡◌, ◌<◌, ◌^◌, ◌&&◌, ◌==◌, ℕ, nat_eq, nat_lt, eq-eqb, not, cond, codes, Bool, true, false, List, [], ◌∷◌, ◌++◌, length, Some, None, option_map, refl, ap, ◌∙◌, subst, arith}
use Rattle.std.specs.Prelude.{if◌then◌else◌, option_and_then}
use Rattle.std.specs.Char.{digit_value}
use Rattle.std.specs.Cmp.Lexicographic.{pointwise}
use Rattle.std.specs.Fmt.{decimal}
use Rattle.std.specs.List.{list_all, slice_split, onto_first}
use Rattle.std.specs.Str.{IsAscii, IsUtf8}
use Rattle.std.specs.Str.Parse.{AllDigits}
use Rattle.std.proofs.lemmas.Bool.{and_parts, eqb-true}
use Rattle.std.proofs.lemmas.Bool.Decides.{nat_tests}
use Rattle.std.proofs.lemmas.Fmt.{IsAscii-decimal_wide, decimal_is_IsNumeral_wide}
use Rattle.std.proofs.lemmas.List.Folds.{list_all-append}
use Rattle.std.proofs.lemmas.Str.{IsUtf8-append, IsUtf8-from_ascii, is_utf8-from_IsUtf8}
use Rattle.std.proofs.lemmas.Str.Ascii.{IsAscii-cons, IsAscii-nil}
use Rattle.plain_types.specs.Digits.{after_text}
use Rattle.plain_types.specs.Paths.{is_part, is_path}
use Rattle.table_names.specs.FileNames.{data_name, named}
use Rattle.table_names.specs.Paths.{folder_of, name_in, name_of, parts_behind, parts_of, plain_parts}
use Rattle.cow_writer.specs.Reading.{has_no_slash}

skips : (front rest : List ℕ) → after_text front (front ++ rest) ≡ Some rest
unfolding after_text
skips [] rest = refl
skips (p ∷ ps) rest = ap (λ b. cond b (after_text ps (ps ++ rest)) None) (eq-eqb p p refl) ∙ skips ps rest

-- ---- no slash

both : (a b : Bool) → a ≡ true → b ≡ true → (a && b) ≡ true
both a b h k = rw (h, k) refl

joined : (front rest : List ℕ) → has_no_slash front ≡ true → has_no_slash rest ≡ true → has_no_slash (front ++ rest) ≡ true
joined front rest h k = list_all-append (λ b. not (b == 47)) front rest ∙ both (has_no_slash front) (has_no_slash rest) h k

digit_is_no_slash : (c : ℕ) (b : Bool) → (c == 47) ≡ b → digit_value c < 10 → not (c == 47) ≡ true
digit_is_no_slash c true e small =
    let is : c ≡ 47 = eqb-true c 47 e in
    let below : digit_value 47 < 10 = subst (λ n. digit_value n < 10) is small in
    absurd (omega arith)
digit_is_no_slash c false e small = ap not e

digits_have_no_slash : (ds : List ℕ) → AllDigits 10 ds → has_no_slash ds ≡ true
digits_have_no_slash [] all = refl
digits_have_no_slash (d ∷ ds) (one, all) = both (not (d == 47)) (has_no_slash ds) (digit_is_no_slash d (d == 47) refl one) (digits_have_no_slash ds all)

number_has_no_slash : (n : ℕ) → n < 2 ^ 128 → has_no_slash (decimal n) ≡ true
number_has_no_slash n small = digits_have_no_slash (decimal n) (decimal_is_IsNumeral_wide n (omega arith)).0.1

part_by : (b : ℕ) (bytes : List ℕ) (slash : Bool) → (b == 47) ≡ slash → not (b == 47) ≡ true
    → slice_split (λ c. c == 47) bytes ≡ bytes ∷ [] → cond slash ([] ∷ slice_split (λ c. c == 47) bytes)
    (onto_first b (slice_split (λ c. c == 47) bytes)) ≡ (b ∷ bytes) ∷ []
part_by b bytes true e h rest = absurd cc
part_by b bytes false e h rest = ap (onto_first b) rest

whole_part : (bytes : List ℕ) → has_no_slash bytes ≡ true → slice_split (λ b. b == 47) bytes ≡ bytes ∷ []
whole_part [] h = refl
whole_part (b ∷ bytes) h =
    let parted = and_parts (not (b == 47)) (has_no_slash bytes) h in
    part_by b bytes (b == 47) refl parted.0 (whole_part bytes parted.1)

below_by : (b : ℕ) → nat_lt b 128 ≡ true → b < 128
below_by b h = grind (arith, nat_tests)

ascii : (bytes : List ℕ) → list_all (λ b. nat_lt b 128) bytes ≡ true → IsAscii bytes
ascii [] h = IsAscii-nil
ascii (b ∷ bytes) h =
    let parted = and_parts (nat_lt b 128) (list_all (λ c. nat_lt c 128) bytes) h in
    let below : b < 128 = below_by b parted.0 in
    IsAscii-cons b bytes below (ascii bytes parted.1)

not_empty : (b : ℕ) (bytes : List ℕ) → (length (b ∷ bytes) == 0) ≡ false
not_empty b bytes = grind (arith, nat_tests)

-- a text that begins with a letter
part_is : (bytes : List ℕ) → is_part (114 ∷ bytes) ≡ true
part_is bytes = ap (λ empty. not empty && not (pointwise nat_eq (114 ∷ bytes) (codes ".")) && not (pointwise nat_eq (114 ∷ bytes) (codes ".."))) (not_empty 114 bytes)

-- ---- the parts

abbrev name_after : ℕ → List ℕ → ℕ → List ℕ
name_after run session n = named run session n (codes ".avro")

module _ (run n : ℕ) (session : List ℕ) (plain : has_no_slash session ≡ true) (text : IsUtf8 session) (run_fits : run < 2 ^ 64) (n_fits : n < 2 ^ 128) where
  name_has_no_slash : has_no_slash (name_after run session n) ≡ true
  name_has_no_slash =
      joined (decimal run) (codes "-" ++ (session ++ (codes "-" ++ (decimal n ++ codes ".avro")))) (number_has_no_slash run (omega arith))
      (joined (codes "-") (session ++ (codes "-" ++ (decimal n ++ codes ".avro"))) refl
      (joined session (codes "-" ++ (decimal n ++ codes ".avro")) plain
      (joined (codes "-") (decimal n ++ codes ".avro") refl
      (joined (decimal n) (codes ".avro") (number_has_no_slash n n_fits) refl))))

  known : (bytes : List ℕ) → list_all (λ b. nat_lt b 128) bytes ≡ true → IsUtf8 bytes
  known bytes h = IsUtf8-from_ascii bytes (ascii bytes h)

  number_is_text : (m : ℕ) → m < 2 ^ 128 → IsUtf8 (decimal m)
  number_is_text m small = IsUtf8-from_ascii (decimal m) (IsAscii-decimal_wide m (omega arith))

  name_is_text : IsUtf8 (codes "data/r" ++ name_after run session n)
  name_is_text =
      IsUtf8-append (codes "data/r") (name_after run session n) (known (codes "data/r") refl)
      (IsUtf8-append (decimal run) (codes "-" ++ (session ++ (codes "-" ++ (decimal n ++ codes ".avro")))) (number_is_text run (omega arith))
      (IsUtf8-append (codes "-") (session ++ (codes "-" ++ (decimal n ++ codes ".avro"))) (known (codes "-") refl)
      (IsUtf8-append session (codes "-" ++ (decimal n ++ codes ".avro")) text
      (IsUtf8-append (codes "-") (decimal n ++ codes ".avro") (known (codes "-") refl)
      (IsUtf8-append (decimal n) (codes ".avro") (number_is_text n n_fits) (known (codes ".avro") refl))))))

  split_name : slice_split (λ b. b == 47) (codes "data/r" ++ name_after run session n) ≡ codes "data" ∷ (114 ∷ name_after run session n) ∷ []
  split_name = ap (λ parts. onto_first 100 (onto_first 97 (onto_first 116 (onto_first 97 ([] ∷ parts))))) (whole_part (114 ∷ name_after run session n) (both true (has_no_slash (name_after run session n)) refl name_has_no_slash))

  name_is_path : is_path (codes "data/r" ++ name_after run session n) ≡ true
  name_is_path = ap (list_all is_part) split_name ∙ ap (λ b. b && true) (part_is (name_after run session n))

  parts_are : parts_behind (codes "/data/r" ++ name_after run session n) ≡ Some (codes "data/r" ++ name_after run session n)
  parts_are =
      ap (λ b. if b then plain_parts (codes "data/r" ++ name_after run session n) else None) (is_utf8-from_IsUtf8 (codes "data/r" ++ name_after run session n) name_is_text)
      ∙ ap (λ b. if b then Some (codes "data/r" ++ name_after run session n) else None) name_is_path

  pub name_is : (table location : List ℕ) → name_of table location (data_name (folder_of location) run session n) ≡ Some (data_name table run session n)
  unfolding parts_of
  name_is table location =
      ap (λ found. option_map (name_in table) (option_and_then parts_behind found)) (skips (folder_of location) (codes "/data/r" ++ name_after run session n))
      ∙ ap (option_map (name_in table)) parts_are
