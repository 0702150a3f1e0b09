-- JSON is read from its own text.
use Rattle.std.proofs.Common.{◌≡◌, ℕ, zero, suc, max, ◌^◌, ◌<◌, ◌≤◌, ltb, ℤ, negsuc, Bool, true, false, ◌&&◌, List, [], ◌∷◌, ◌++◌, Option, Some, None, refl, sym, ap, subst, ◌∙◌, arith}
use Rattle.std.specs.Prelude.{option_map, option_and_then, decimal, if◌then◌else◌}
use Rattle.std.specs.Fmt.{signed_decimal}
use Rattle.std.specs.List.{list_all}
use Rattle.std.specs.Str.{IsUtf8, IsAscii}
use Rattle.std.proofs.lemmas.Bool.{ltb-true}
use Rattle.std.proofs.lemmas.Str.{is_utf8-from_IsUtf8, IsUtf8-from_ascii, IsUtf8-append}
use Rattle.json.specs.Token as tokens
use Rattle.json.specs.Json as json
use Rattle.json.specs.Tree as tree
use Rattle.json.specs.Print.{quoted, token_text}
use Rattle.json.proofs.Printed.Utf8.{IsUtf8-quoted, IsUtf8-boolean}
use Rattle.json.proofs.Printed.Trees.{ArePrintable-json_tokens, value-json_tokens}
use Rattle.json.proofs.Printed.Tokens.{tokens-print}
use Rattle.json.specs.Lex as lex
use Rattle.std.proofs.lemmas.Fmt.{IsAscii-decimal, IsAscii-signed}
use Rattle.std.proofs.lemmas.List.{append-nil}
use Rattle.json.proofs.Printed.Decimals.{IsNumber-decimal, IsNumber-signed_decimal}
use Rattle.serde_json.specs.Data.{Num, unsigned, negative, float, Data, null, boolean, number, string, array, object, Items, no_items, item, Members, no_members, member, put, depth, items_depth, members_depth}
use Rattle.serde_json.specs.Read.{number_of, of_json, of_items, of_members, read, max_depth}
use Rattle.serde_json.specs.Written.{outline, items_outline, members_outline, compact_text, items_text, members_text, comma_if}
use Rattle.serde_json.proofs.Numbers.{number_of-decimal, number_of-negative}
use Rattle.serde_json.proofs.Texts.{print-outline}
use Rattle.avro_binary.specs.SchemaText.{json_of}

-- the members put one after another
abbrev pub rebuilt : Members → Members → Members
rebuilt no_members found = found
rebuilt (member k d ms) found = rebuilt ms (put k d found)

abbrev pub are_ascii : List ℕ → Bool
are_ascii bytes = list_all (λ b. ltb b 128) bytes

abbrev pub GoodNumber : Num → Type 0
GoodNumber (unsigned n) = n < 2 ^ 64
GoodNumber (negative z) = (n : ℕ) × (z ≡ negsuc n) × (n < 2 ^ 63)
GoodNumber (float x) = ⊥

-- what is read from its own text: whole numbers, texts of UTF-8 under keys of ASCII, and each key once
abbrev mutual
  pub Good : Data → Type 0
  Good null = Unit {0}
  Good (boolean b) = Unit {0}
  Good (number n) = GoodNumber n
  Good (string s) = IsUtf8 s
  Good (array ds) = GoodItems ds
  Good (object ms) = (rebuilt ms no_members ≡ ms) × GoodMembers ms

  pub GoodItems : Items → Type 0
  GoodItems no_items = Unit {0}
  GoodItems (item d ds) = Good d × GoodItems ds

  pub GoodMembers : Members → Type 0
  GoodMembers no_members = Unit {0}
  GoodMembers (member k d ms) = (are_ascii k ≡ true) × Good d × GoodMembers ms

mutual
  read_outline : (d : Data) → Good d → of_json (outline d) ≡ Some d
  read_outline null h = refl
  read_outline (boolean b) h = refl
  read_outline (number (unsigned n)) h = ap (option_map number) (number_of-decimal n h)
  read_outline (number (negative z)) h = ap (λ (w : ℤ). option_map number (number_of (signed_decimal w))) h.1 ∙ ap (option_map number) (number_of-negative h.0 h.2) ∙ ap (λ (w : ℤ). let o : Option Data = Some (number (negative w)) in o) (sym h.1)
  read_outline (number (float x)) h = absurd h
  read_outline (string s) h = refl
  read_outline (array ds) h = ap (option_map array) (read_items ds h)
  read_outline (object ms) h = ap (option_map object) (read_members ms no_members h.1 ∙ ap (λ (m : Members). let o : Option Members = Some m in o) h.0)

  read_items : (ds : Items) → GoodItems ds → of_items (items_outline ds) ≡ Some ds
  read_items no_items h = refl
  read_items (item d ds) h = ap (option_and_then (λ x. option_map (item x) (of_items (items_outline ds)))) (read_outline d h.0) ∙ ap (option_map (item d)) (read_items ds h.1)

  read_members : (ms found : Members) → GoodMembers ms → of_members (members_outline ms) found ≡ Some (rebuilt ms found)
  read_members no_members found h = refl
  read_members (member k d ms) found h = ap (option_and_then (λ x. of_members (members_outline ms) (put k x found))) (read_outline d h.1) ∙ read_members ms (put k d found) h.2

mutual
  numbers : (d : Data) → Good d → tree.HasNumbers (outline d)
  numbers null h = tt
  numbers (boolean b) h = tt
  numbers (number (unsigned n)) h = IsNumber-decimal n h
  numbers (number (negative z)) h = subst (λ (w : ℤ). tree.HasNumbers (json.number (signed_decimal w))) (sym h.1) (IsNumber-signed_decimal (negsuc h.0) h.2)
  numbers (number (float x)) h = absurd h
  numbers (string s) h = tt
  numbers (array ds) h = items_numbers ds h
  numbers (object ms) h = members_numbers ms h.1

  items_numbers : (ds : Items) → GoodItems ds → tree.ItemsHaveNumbers (items_outline ds)
  items_numbers no_items h = tt
  items_numbers (item d ds) h = (numbers d h.0, items_numbers ds h.1)

  members_numbers : (ms : Members) → GoodMembers ms → tree.MembersHaveNumbers (members_outline ms)
  members_numbers no_members h = tt
  members_numbers (member k d ms) h = (numbers d h.1, members_numbers ms h.2)

both_max : (a b c d : ℕ) → a ≡ c → b ≡ d → max a b ≡ max c d
both_max a b c d p q = ap (λ (x : ℕ). max x b) p ∙ ap (max c) q

mutual
  same_depth : (d : Data) → tree.depth (outline d) ≡ depth d
  same_depth null = refl
  same_depth (boolean b) = refl
  same_depth (number n) = refl
  same_depth (string s) = refl
  same_depth (array ds) = ap suc (items_same_depth ds)
  same_depth (object ms) = ap suc (members_same_depth ms)

  items_same_depth : (ds : Items) → tree.items_depth (items_outline ds) ≡ items_depth ds
  items_same_depth no_items = refl
  items_same_depth (item d ds) = both_max (tree.depth (outline d)) (tree.items_depth (items_outline ds)) (depth d) (items_depth ds) (same_depth d) (items_same_depth ds)

  members_same_depth : (ms : Members) → tree.members_depth (members_outline ms) ≡ members_depth ms
  members_same_depth no_members = refl
  members_same_depth (member k d ms) = both_max (tree.depth (outline d)) (tree.members_depth (members_outline ms)) (depth d) (members_depth ms) (same_depth d) (members_same_depth ms)

-- ---- the text is UTF-8

both : (a b : Bool) → (a && b) ≡ true → (a ≡ true) × (b ≡ true)
both true b e = (refl, e)
both false b e = absurd cc

ascii_below : (bs : List ℕ) → are_ascii bs ≡ true → IsAscii bs
ascii_below [] h i = omega arith
ascii_below (b ∷ bs) h zero = ltb-true b 128 (both (ltb b 128) (are_ascii bs) h).0
ascii_below (b ∷ bs) h (suc i) = ascii_below bs (both (ltb b 128) (are_ascii bs) h).1 i

pub is_text : (bs : List ℕ) → are_ascii bs ≡ true → IsUtf8 bs
is_text bs h = IsUtf8-from_ascii bs (ascii_below bs h)

pub ascii_before : (b : ℕ) (bs : List ℕ) → are_ascii (b ∷ []) ≡ true → IsUtf8 bs → IsUtf8 (b ∷ bs)
ascii_before b bs h u = IsUtf8-append (b ∷ []) bs (is_text (b ∷ []) h) u

comma_text : (later : Bool) → IsUtf8 (comma_if later)
comma_text true = is_text (44 ∷ []) refl
comma_text false = is_text [] refl

mutual
  utf8_text : (d : Data) → Good d → IsUtf8 (compact_text d)
  utf8_text null h = is_text (token_text tokens.null) refl
  utf8_text (boolean b) h = IsUtf8-boolean b
  utf8_text (number (unsigned n)) h = IsUtf8-from_ascii (decimal n) (IsAscii-decimal n h)
  utf8_text (number (negative z)) h = subst (λ (w : ℤ). IsUtf8 (signed_decimal w)) (sym h.1) (IsUtf8-from_ascii (signed_decimal (negsuc h.0)) (IsAscii-signed (negsuc h.0) h.2))
  utf8_text (number (float x)) h = absurd h
  utf8_text (string s) h = IsUtf8-quoted s h
  utf8_text (array ds) h = ascii_before 91 (items_text false ds) refl (utf8_items false ds h)
  utf8_text (object ms) h = ascii_before 123 (members_text false ms) refl (utf8_members false ms h.1)

  utf8_items : (later : Bool) (ds : Items) → GoodItems ds → IsUtf8 (items_text later ds)
  utf8_items later no_items h = is_text (93 ∷ []) refl
  utf8_items later (item d ds) h = IsUtf8-append (comma_if later) (compact_text d ++ items_text true ds) (comma_text later) (IsUtf8-append (compact_text d) (items_text true ds) (utf8_text d h.0) (utf8_items true ds h.1))

  utf8_members : (later : Bool) (ms : Members) → GoodMembers ms → IsUtf8 (members_text later ms)
  utf8_members later no_members h = is_text (125 ∷ []) refl
  utf8_members later (member k d ms) h =
      IsUtf8-append (comma_if later) (quoted k ++ 58 ∷ (compact_text d ++ members_text true ms)) (comma_text later)
      (IsUtf8-append (quoted k) (58 ∷ (compact_text d ++ members_text true ms)) (IsUtf8-quoted k (is_text k h.0))
      (ascii_before 58 (compact_text d ++ members_text true ms) refl (IsUtf8-append (compact_text d) (members_text true ms) (utf8_text d h.1) (utf8_members true ms h.2))))

pub read_text : (d : Data) → Good d → depth d ≤ max_depth → json_of (compact_text d) ≡ Some d
read_text d good shallow =
    let ts : List tokens.Token = tree.json_tokens (outline d) in
    let same : lex.tokens (compact_text d) ≡ ts = ap lex.tokens (sym (print-outline d)) ∙ tokens-print ts (ArePrintable-json_tokens (outline d) (numbers d good)) in
    let fits : tree.depth (outline d) ≤ max_depth = subst (λ (n : ℕ). n ≤ max_depth) (sym (same_depth d)) shallow in
    let value : json.value max_depth (lex.tokens (compact_text d)) ≡ Some (outline d, []) = ap (json.value max_depth) (same ∙ sym (append-nil ts)) ∙ value-json_tokens (outline d) max_depth [] fits in
    let reads : read (compact_text d) ≡ Some d = ap (λ o. option_and_then of_json (option_and_then (λ p. json.if_last p.0 p.1) o)) value ∙ read_outline d good in
    ap (λ (b : Bool). if b then read (compact_text d) else None) (is_utf8-from_IsUtf8 (compact_text d) (utf8_text d good)) ∙ reads
