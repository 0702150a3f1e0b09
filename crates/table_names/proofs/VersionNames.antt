-- The name of a version is read as its number, so no version that is there is above the current one.
use Rattle.std.proofs.Common.{◌≡◌, ℕ, ◌+◌, ◌*◌, ◌^◌, ◌<◌, ◌≤◌, List, [], ◌∷◌, ◌++◌, length, get_or, codes, filter, take, Bool, true, false, cond, ◌||◌, ◌==◌, nat_eq}
use Rattle.std.proofs.Common.{Option, Some, None, is_some, refl, sym, ap, ◌∙◌, arith}
use Rattle.std.specs.FinMap as map
use Rattle.std.specs.FinMap.{contains_key-keys, slice_cmp-IsAntisymmetric, nat_cmp-IsAntisymmetric}
use Rattle.std.specs.Fmt.{decimal}
use Rattle.std.specs.Char.{digit_value}
use Rattle.std.specs.List.{starts_with, list_any}
use Rattle.std.specs.Ordering.{nat_cmp, is_eq, eq_by_cmp}
use Rattle.std.specs.declared.cmp.Ordering.{Ordering}
use Rattle.std.specs.declared.cmp.Ordering.TheVariants.{Less, Equal, Greater}
use Rattle.std.specs.Cmp.Lexicographic.{slice_cmp, pointwise}
use Rattle.std.specs.Str.Parse.{AllDigits, digits_value, digits_value_after}
use Rattle.std.proofs.lemmas.Bool.{lt-ltb, eq-eqb, eqb-true, ne_eqb}
use Rattle.std.proofs.lemmas.Fmt.{decimal_is_IsNumeral, first_decimal}
use Rattle.std.proofs.lemmas.Str.{digit_value_digit}
use Rattle.std.proofs.lemmas.Str.Parse.{digit_from_value}
use Rattle.std.proofs.lemmas.Bool.Decides.{nat_tests}
use Rattle.plain_types.specs.Digits.{is_digit, with_digit, digits_from, number_at, after_text, has_leading_zero}
use Rattle.plain_types.proofs.CallerLemmas.{Tells-texts}
use Rattle.plain_types.specs.Steps.{by_option}
use Rattle.store_core.specs.Files.{Files, names_with}
use Rattle.table_names.specs.Versions.{version_prefix, version_name, version_from, version_behind, version_of_name, greatest_version, version_of}

-- ---- digits

abbrev ending : List ℕ
ending = codes ".metadata.json"

grows : (n : ℕ) (ds : List ℕ) → n ≤ digits_value_after 10 n ds
grows n [] = omega arith
grows n (d ∷ ds) =
    let more = grows (n * 10 + digit_value d) ds in
    omega arith

is_digit_by : (c : ℕ) → digit_value c < 10 → is_digit c ≡ true
is_digit_by c small =
    let range = digit_from_value c small in
    grind (arith, nat_tests)

with_digit_by : (n c : ℕ) → digit_value c < 10 → n * 10 + digit_value c < 2 ^ 64 → with_digit n c ≡ n * 10 + digit_value c
with_digit_by n c small fits =
    let range = digit_from_value c small in
    let value = digit_value_digit c range in
    omega arith

reads : (n : ℕ) (ds : List ℕ) → AllDigits 10 ds → digits_value_after 10 n ds < 2 ^ 64 → digits_from n (ds ++ ending) ≡ (digits_value_after 10 n ds, ending)
unfolding digits_from
reads n [] digits small = refl
reads n (d ∷ ds) digits small =
    let next : n * 10 + digit_value d < 2 ^ 64 = let more = grows (n * 10 + digit_value d) ds in omega arith in
    ap (λ b. cond b (digits_from (with_digit n d) (ds ++ ending)) (n, d ∷ ds ++ ending)) (is_digit_by d digits.0)
    ∙ ap (λ m. digits_from m (ds ++ ending)) (with_digit_by n d digits.0 next)
    ∙ reads (n * 10 + digit_value d) ds digits.1 small

no_zero : (c : ℕ) (cs : List ℕ) → 48 < c → has_leading_zero (c ∷ cs) ≡ false
no_zero c [] above = refl
no_zero c (d ∷ ds) above = ne_eqb c 48 (λ e. omega arith)

is_behind : (n : ℕ) (ds : List ℕ) → AllDigits 10 ds → 0 < length ds → 48 < get_or ds 0 0 → digits_value 10 ds ≡ n → n < 2 ^ 32
    → version_behind (ds ++ ending) ≡ n
unfolding version_behind number_at
is_behind n [] digits some first is small = absurd (omega arith)
is_behind n (d ∷ ds) digits some first is small =
    let at : number_at (d ∷ ds ++ ending) ≡ Some (n, ending) =
    ap (λ b. cond b (Some (digits_from 0 (d ∷ ds ++ ending))) None) (is_digit_by d digits.0)
    ∙ ap (λ (p : ℕ × List ℕ). Some p) (reads 0 (d ∷ ds) digits (omega arith) ∙ ap (λ m. (m, ending)) is) in
    ap (λ b. cond b 0 (by_option (number_at (d ∷ ds ++ ending)) version_from 0)) (no_zero d (ds ++ ending) first)
    ∙ ap (λ o. by_option o version_from 0) at
    ∙ ap (λ b. cond b n 0) (lt-ltb n (2 ^ 32) small)

pub behind_prefix : (n : ℕ) → 0 < n → n < 2 ^ 32 → version_behind (decimal n ++ ending) ≡ n
behind_prefix n above small =
    let numeral = decimal_is_IsNumeral n (omega arith) in
    is_behind n (decimal n) numeral.0.1 numeral.0.0 (first_decimal n above (omega arith)) numeral.1 small

-- ---- names

skips : (prefix rest : List ℕ) → after_text prefix (prefix ++ rest) ≡ Some rest
unfolding after_text
skips [] rest = refl
skips (p ∷ ps) rest = ap (λ b. cond b (after_text ps (ps ++ rest)) None) (eq-eqb p p refl) ∙ skips ps rest

append_twice : (xs ys zs : List ℕ) → xs ++ (ys ++ zs) ≡ (xs ++ ys) ++ zs
append_twice [] ys zs = refl
append_twice (x ∷ xs) ys zs = ap (λ ws. x ∷ ws) (append_twice xs ys zs)

-- a version's name goes on from what the names of all versions begin with
named : (table : List ℕ) (n : ℕ) → version_name table n ≡ version_prefix table ++ (decimal n ++ ending)
named table n = append_twice table (codes "/metadata/v") (decimal n ++ ending)

pub is_of : (table : List ℕ) (n : ℕ) → 0 < n → n < 2 ^ 32 → version_of_name (version_prefix table) (version_name table n) ≡ n
unfolding version_of_name
is_of table n above small =
    ap (λ name. by_option (after_text (version_prefix table) name) version_behind 0) (named table n)
    ∙ ap (λ o. by_option o version_behind 0) (skips (version_prefix table) (decimal n ++ ending))
    ∙ behind_prefix n above small

front : (prefix rest : List ℕ) → take (length prefix) (prefix ++ rest) ≡ prefix
front [] rest = refl
front (p ∷ ps) rest = ap (λ xs. p ∷ xs) (front ps rest)

begins : (prefix rest : List ℕ) → starts_with nat_eq (prefix ++ rest) prefix ≡ true
begins prefix rest = ap (pointwise nat_eq prefix) (front prefix rest) ∙ Tells-texts.itself prefix

begins_named : (table : List ℕ) (n : ℕ) → starts_with nat_eq (version_name table n) (version_prefix table) ≡ true
begins_named table n = ap (λ name. starts_with nat_eq name (version_prefix table)) (named table n) ∙ begins (version_prefix table) (decimal n ++ ending)

-- ---- the greatest

abbrev pub starting : List ℕ → List ℕ → Bool
starting prefix name = starts_with nat_eq name prefix

same_name : (q name : List ℕ) (o : Ordering) → slice_cmp nat_cmp q name ≡ o → is_eq o ≡ true → q ≡ name
same_name q name Equal is e = slice_cmp-IsAntisymmetric nat_cmp-IsAntisymmetric q name is
same_name q name Less is e = absurd cc
same_name q name Greater is e = absurd cc

grown : (prefix name : List ℕ) (names : List (List ℕ)) (b : Bool) (n : ℕ) → n ≤ greatest_version prefix names
    → n ≤ greatest_version prefix (cond b (name ∷ names) names)
unfolding greatest_version
grown prefix name names true n below = omega arith
grown prefix name names false n below = below

first_of : (prefix name : List ℕ) (names : List (List ℕ)) (b : Bool) (n : ℕ) → b ≡ true → version_of_name prefix name ≡ n
    → n ≤ greatest_version prefix (cond b (name ∷ names) names)
unfolding greatest_version
first_of prefix name names true n e is = omega arith
first_of prefix name names false n e is = absurd cc

found_by : (prefix q : List ℕ) (n : ℕ) → starting prefix q ≡ true → version_of_name prefix q ≡ n
    → (name : List ℕ) (names : List (List ℕ)) (b : Bool) → is_eq (slice_cmp nat_cmp q name) ≡ b
    → (b ≡ false → n ≤ greatest_version prefix (filter (starting prefix) names))
    → n ≤ greatest_version prefix (cond (starting prefix name) (name ∷ filter (starting prefix) names)
    (filter (starting prefix) names))
found_by prefix q n starts is name names true here later =
    let same : q ≡ name = same_name q name (slice_cmp nat_cmp q name) refl here in
    first_of prefix name (filter (starting prefix) names) (starting prefix name) n (ap (starting prefix) (sym same) ∙ starts) (ap (version_of_name prefix) (sym same) ∙ is)
found_by prefix q n starts is name names false here later = grown prefix name (filter (starting prefix) names) (starting prefix name) n (later refl)

any_later : (b c : Bool) → b || c ≡ true → b ≡ false → c ≡ true
any_later true c some not_here = absurd cc
any_later false c some not_here = some

pub at_least : (prefix q : List ℕ) (n : ℕ) → starting prefix q ≡ true → version_of_name prefix q ≡ n → (names : List (List ℕ))
    → list_any (eq_by_cmp (slice_cmp nat_cmp) q) names ≡ true → n ≤ greatest_version prefix (filter (starting prefix) names)
at_least prefix q n starts is [] some = absurd cc
at_least prefix q n starts is (name ∷ names) some =
    found_by prefix q n starts is name names (is_eq (slice_cmp nat_cmp q name)) refl
    (λ not_here. at_least prefix q n starts is names (any_later (is_eq (slice_cmp nat_cmp q name)) (list_any (eq_by_cmp (slice_cmp nat_cmp) q) names) some not_here))

pub below_by : (table : List ℕ) (files : Files) (n : ℕ) → 0 < n → n < 2 ^ 32
    → map.contains_key files (version_name table n) ≡ true
    → n ≤ greatest_version (version_prefix table) (names_with (version_prefix table) files)
below_by table files n above small is =
    at_least (version_prefix table) (version_name table n) n (begins_named table n) (is_of table n above small) (map.keys files) (sym (contains_key-keys files (version_name table n)) ∙ is)

-- the greatest version from the current one
pub is_greatest : (greatest current : ℕ) (b : Bool) → (greatest == 0) ≡ b → cond b None (Some greatest) ≡ Some current → greatest ≡ current
is_greatest greatest current true zero_is e = absurd cc
is_greatest greatest current false zero_is e = cc

is_none : (greatest : ℕ) (b : Bool) → (greatest == 0) ≡ b → cond b None (Some greatest) ≡ None → greatest ≡ 0
is_none greatest true zero_is e = eqb-true greatest 0 zero_is
is_none greatest false zero_is e = absurd cc

missing_by : (o : Option (List ℕ)) → (is_some o ≡ true → ⊥) → o ≡ None
missing_by None none = refl
missing_by (Some bytes) none = absurd (none refl)

pub above_is_missing : (table : List ℕ) (files : Files) (current n : ℕ) → version_of table files ≡ Some current → current < n
    → n < 2 ^ 32 → map.get files (version_name table n) ≡ None
above_is_missing table files current n is above small =
    let prefix = version_prefix table in
    let greatest = greatest_version prefix (names_with prefix files) in
    let same : greatest ≡ current = is_greatest greatest current (greatest == 0) refl is in
    missing_by (map.get files (version_name table n)) (λ there. let below = below_by table files n (omega arith) small there in omega arith)

pub all_are_missing : (table : List ℕ) (files : Files) (n : ℕ) → version_of table files ≡ None → 0 < n → n < 2 ^ 32
    → map.get files (version_name table n) ≡ None
all_are_missing table files n is above small =
    let prefix = version_prefix table in
    let greatest = greatest_version prefix (names_with prefix files) in
    let none : greatest ≡ 0 = is_none greatest (greatest == 0) refl is in
    missing_by (map.get files (version_name table n)) (λ there. let below = below_by table files n above small there in omega arith)
