-- A path below a table's location, of a folder and a name in it.
use Rattle.std.proofs.Common.{◌≡◌, ◌≢◌, ◌<◌, ◌^◌, ℕ, List, [], ◌∷◌, ◌++◌, length, codes, true, false, not, ◌&&◌, Option, Some, None, option_map, option_and_then, refl, ap, ◌∙◌, arith}
use Rattle.std.specs.Prelude.{if◌then◌else◌, nat_eq, ◌==◌}
use Rattle.std.specs.Cmp.Lexicographic.{pointwise}
use Rattle.std.specs.Fmt.{decimal}
use Rattle.std.specs.List.{All, list_all, slice_split}
use Rattle.std.specs.Str.{IsUtf8, is_utf8}
use Rattle.std.proofs.lemmas.Bool.{eq-eqb, ne_eqb}
use Rattle.std.proofs.lemmas.Fmt.{IsAscii-decimal_wide, decimal_is_IsNumeral_wide}
use Rattle.std.proofs.lemmas.List.Elements.{All-append, All-cons, All-from_get_or, All-from_recursion, All-weaker}
use Rattle.std.proofs.lemmas.List.Splits.{slice_split_at, slice_split_none}
use Rattle.std.proofs.lemmas.Str.{IsUtf8-append, IsUtf8-from_ascii, is_utf8-from_IsUtf8}
use Rattle.std.proofs.lemmas.Str.Parse.{digit_at}
use Rattle.plain_types.specs.Digits.{after_text}
use Rattle.plain_types.specs.Paths.{is_part, is_path}
use Rattle.table_names.specs.FileNames.{data_name, metadata_name, named}
use Rattle.table_names.specs.Paths.{folder_of, name_in, name_of, parts_behind, parts_of, plain_parts}
use Rattle.table_names.specs.Sessions.{HasNoSlash}

-- ---- no slash

abbrev Plain : ℕ → Type 0
Plain byte = byte ≢ 47

plain_decimal : (n : ℕ) → n < 2 ^ 128 → All Plain (decimal n)
plain_decimal n fits =
    let numeral = decimal_is_IsNumeral_wide n (omega arith) in
    All-from_get_or Plain (decimal n) 0 (λ i inside is.
    let range = digit_at (decimal n) i numeral.0.1 inside in
    omega (arith, range.0))

plain_hyphen : All Plain (codes "-")
plain_hyphen = All-from_recursion Plain (codes "-") (λ e. omega arith, tt)

plain_ending : All Plain (codes ".avro")
plain_ending = All-from_recursion Plain (codes ".avro") (λ e. omega arith, (λ e. omega arith, (λ e. omega arith, (λ e. omega arith, (λ e. omega arith, tt)))))

unequal : (bytes : List ℕ) → All Plain bytes → All (λ b. (b == 47) ≡ false) bytes
unequal bytes plain = All-weaker Plain (λ b. (b == 47) ≡ false) (λ b other. ne_eqb b 47 other) bytes plain

-- ---- texts

text_hyphen : IsUtf8 (codes "-")
unfolding lib.Utf8.encode
text_hyphen = (codes "-", (refl, refl))

text_ending : IsUtf8 (codes ".avro")
unfolding lib.Utf8.encode
text_ending = (codes ".avro", (refl, refl))

text_r : IsUtf8 (codes "/r")
unfolding lib.Utf8.encode
text_r = (codes "/r", (refl, refl))

text_data : IsUtf8 (codes "data")
unfolding lib.Utf8.encode
text_data = (codes "data", (refl, refl))

text_metadata : IsUtf8 (codes "metadata")
unfolding lib.Utf8.encode
text_metadata = (codes "metadata", (refl, refl))

-- ---- the front

eqb-same : (b : ℕ) → nat_eq b b ≡ true
eqb-same b = eq-eqb b b refl

after_front : (front rest : List ℕ) → after_text front (front ++ rest) ≡ Some rest
unfolding after_text
after_front [] rest = refl
after_front (b ∷ bs) rest = ap (λ t. if t then after_text bs (bs ++ rest) else None) (eqb-same b) ∙ after_front bs rest

-- ---- the paths

module _ (session : List ℕ) (run n : ℕ) (text : IsUtf8 session) (plain : HasNoSlash session) (run_fits : run < 2 ^ 64) (n_fits : n < 2 ^ 128) where
  ending : List ℕ
  ending = named run session n (codes ".avro")

  plain_ending_of : All Plain (named run session n (codes ".avro"))
  plain_ending_of =
      All-append Plain (decimal run) (codes "-" ++ (session ++ (codes "-" ++ (decimal n ++ codes ".avro")))) (plain_decimal run (omega arith))
      (All-append Plain (codes "-") (session ++ (codes "-" ++ (decimal n ++ codes ".avro"))) plain_hyphen
      (All-append Plain session (codes "-" ++ (decimal n ++ codes ".avro")) (All-from_recursion Plain session plain)
      (All-append Plain (codes "-") (decimal n ++ codes ".avro") plain_hyphen
      (All-append Plain (decimal n) (codes ".avro") (plain_decimal n n_fits) plain_ending))))

  text_of : IsUtf8 (named run session n (codes ".avro"))
  text_of =
      IsUtf8-append (decimal run) (codes "-" ++ (session ++ (codes "-" ++ (decimal n ++ codes ".avro")))) (IsUtf8-from_ascii (decimal run) (IsAscii-decimal_wide run (omega arith)))
      (IsUtf8-append (codes "-") (session ++ (codes "-" ++ (decimal n ++ codes ".avro"))) text_hyphen
      (IsUtf8-append session (codes "-" ++ (decimal n ++ codes ".avro")) text
      (IsUtf8-append (codes "-") (decimal n ++ codes ".avro") text_hyphen
      (IsUtf8-append (decimal n) (codes ".avro") (IsUtf8-from_ascii (decimal n) (IsAscii-decimal_wide n (omega arith))) text_ending))))

  named_part : is_part (114 ∷ named run session n (codes ".avro")) ≡ true
  named_part = ap (λ t. not t && not (pointwise nat_eq (114 ∷ named run session n (codes ".avro")) (codes ".")) && not (pointwise nat_eq (114 ∷ named run session n (codes ".avro")) (codes ".."))) (ne_eqb (length (114 ∷ named run session n (codes ".avro"))) 0 (λ e. omega arith))

  -- a folder of this name, and in it a name that begins with `r`
  below : (folder : List ℕ) → All Plain folder → IsUtf8 folder → is_part folder ≡ true
      → parts_behind (47 ∷ (folder ++ 47 ∷ 114 ∷ named run session n (codes ".avro"))) ≡ Some (folder ++ 47 ∷ 114 ∷ named run session n (codes ".avro"))
  below folder folder_plain folder_text part =
      let split : slice_split (λ b. b == 47) (folder ++ 47 ∷ 114 ∷ named run session n (codes ".avro")) ≡ folder ∷ (114 ∷ named run session n (codes ".avro")) ∷ [] =
      slice_split_at (λ b. b == 47) folder 47 (114 ∷ named run session n (codes ".avro")) (unequal folder folder_plain) refl
      ∙ ap (λ parts. folder ∷ parts) (slice_split_none (λ b. b == 47) (114 ∷ named run session n (codes ".avro")) (unequal (114 ∷ named run session n (codes ".avro")) (All-cons Plain 114 (named run session n (codes ".avro")) (λ e. omega arith) plain_ending_of))) in
      let both : list_all is_part (folder ∷ (114 ∷ named run session n (codes ".avro")) ∷ []) ≡ true = rw (part, named_part) refl in
      let path : is_path (folder ++ 47 ∷ 114 ∷ named run session n (codes ".avro")) ≡ true = ap (list_all is_part) split ∙ both in
      let utf8 : is_utf8 (folder ++ 47 ∷ 114 ∷ named run session n (codes ".avro")) ≡ true =
      is_utf8-from_IsUtf8 (folder ++ 47 ∷ 114 ∷ named run session n (codes ".avro")) (IsUtf8-append folder (47 ∷ 114 ∷ named run session n (codes ".avro")) folder_text (IsUtf8-append (codes "/r") (named run session n (codes ".avro")) text_r text_of)) in
      ap (λ t. if t then plain_parts (folder ++ 47 ∷ 114 ∷ named run session n (codes ".avro")) else None) utf8
      ∙ ap (λ t. if t then Some (folder ++ 47 ∷ 114 ∷ named run session n (codes ".avro")) else None) path

  pub named_in : (table location folder : List ℕ) → All Plain folder → IsUtf8 folder → is_part folder ≡ true
      → name_of table location (folder_of location ++ 47 ∷ (folder ++ 47 ∷ 114 ∷ named run session n (codes ".avro"))) ≡ Some (table ++ 47 ∷ (folder ++ 47 ∷ 114 ∷ named run session n (codes ".avro")))
  unfolding parts_of
  named_in table location folder folder_plain folder_text part =
      ap (λ (o : Option (List ℕ)). option_map (name_in table) (option_and_then parts_behind o)) (after_front (folder_of location) (47 ∷ (folder ++ 47 ∷ 114 ∷ named run session n (codes ".avro"))))
      ∙ ap (λ (o : Option (List ℕ)). option_map (name_in table) o) (below folder folder_plain folder_text part)

  pub data_is : (table location : List ℕ) → name_of table location (data_name (folder_of location) run session n) ≡ Some (data_name table run session n)
  data_is table location = named_in table location (codes "data") (All-from_recursion Plain (codes "data") (λ e. omega arith, (λ e. omega arith, (λ e. omega arith, (λ e. omega arith, tt))))) text_data refl

  pub metadata_is : (table location : List ℕ)
      → name_of table location (metadata_name (folder_of location) run session n) ≡ Some (metadata_name table run session n)
  metadata_is table location = named_in table location (codes "metadata")
      (All-from_recursion Plain (codes "metadata") (
        λ e. omega arith,
        (
          λ e. omega arith,
          (
            λ e. omega arith,
            (
              λ e. omega arith,
              (λ e. omega arith, (λ e. omega arith, (λ e. omega arith, (λ e. omega arith, tt)))),
            ),
          ),
        ),
      )) text_metadata refl
