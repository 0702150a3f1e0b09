-- A name begins with the front of its folder, a run's number and a hyphen exactly where it is read as a name of that run.
use Rattle.std.proofs.Common.{◌≡◌, ℕ, ◌+◌, ◌-◌, ◌*◌, ◌^◌, ◌<◌, ◌≤◌, List, [], ◌∷◌, ◌++◌, length, get_or, codes, filter, drop, Bool, true, false, cond, ◌||◌, nat_eq, Option, Some, None, is_some, refl, sym, ap, subst, ◌∙◌, arith, true≢false}
use Rattle.std.specs.FinMap as finite
use Rattle.std.specs.FinMap.{contains_key-keys, slice_cmp-IsAntisymmetric, nat_cmp-IsAntisymmetric}
use Rattle.std.specs.Fmt.{decimal}
use Rattle.std.specs.Char.{digit_value}
use Rattle.std.specs.List.{starts_with, list_any}
use Rattle.std.specs.Ordering.{nat_cmp, is_eq, eq_by_cmp}
use Rattle.std.specs.declared.cmp.Ordering.{Ordering}
use Rattle.std.specs.declared.cmp.Ordering.TheVariants.{Less, Equal, Greater}
use Rattle.std.specs.Cmp.Lexicographic.{slice_cmp}
use Rattle.std.specs.Str.Parse.{AllDigits, digits_value, digits_value_after}
use Rattle.std.proofs.lemmas.Bool.{eq-eqb, eqb-true, ne_eqb}
use Rattle.std.proofs.lemmas.Bool.Decides.{nat_tests, Decides-eqb}
use Rattle.std.proofs.lemmas.Fmt.{decimal_is_IsNumeral, first_decimal, decimal-digits_value}
use Rattle.std.proofs.lemmas.List.{append_assoc}
use Rattle.std.proofs.lemmas.List.Folds.{list_any-append}
use Rattle.std.proofs.lemmas.Slice.Eq.{starts_is}
use Rattle.std.proofs.lemmas.Str.{digit_value_digit}
use Rattle.std.proofs.lemmas.Str.Parse.{digit_from_value, numerals_by_value, tells_digits}
use Rattle.plain_types.specs.Digits.{is_digit, with_digit, digits_from, number_at, after_text, has_leading_zero}
use Rattle.plain_types.specs.Steps.{by_option}
use Rattle.store_core.specs.Files.{Files, names_with}
use Rattle.table_names.specs.FileNames.{NoneFrom, data_name, metadata_name, named}
use Rattle.table_names.specs.Marks.{has, IsLeastMissing}
use Rattle.table_names.specs.Runs.{data_prefix, metadata_prefix, has_run, is_used, IsFreshRun, run_before_hyphen, run_behind, run_of_name, runs_of}

-- ---- fronts of names

abbrev begins : List ℕ → List ℕ → Bool
begins front name = starts_with nat_eq name front

begins_from : (front rest name : List ℕ) → name ≡ front ++ rest → begins front name ≡ true
begins_from front rest name is = (starts_is Decides-eqb name front (begins front name) refl).1 rest is

rest_of : (front name : List ℕ) → begins front name ≡ true → name ≡ front ++ drop (length front) name
rest_of front name is = (starts_is Decides-eqb name front (begins front name) refl).0 is

-- what follows a front
skips : (front rest : List ℕ) → after_text front (front ++ rest) ≡ Some rest
unfolding after_text
skips [] rest = refl
skips (p ∷ ps) rest = ap (λ b. cond b (after_text ps (ps ++ rest)) None) (eq-eqb p p refl) ∙ skips ps rest

skipped_by : (p : ℕ) (ps : List ℕ) (c : ℕ) (cs rest : List ℕ) (b : Bool) → nat_eq c p ≡ b
    → (after_text ps cs ≡ Some rest → cs ≡ ps ++ rest) → cond b (after_text ps cs) None ≡ Some rest → c ∷ cs ≡ p ∷ ps ++ rest
skipped_by p ps c cs rest true same later is = ap (λ x. x ∷ cs) (eqb-true c p same) ∙ ap (λ xs. p ∷ xs) (later is)
skipped_by p ps c cs rest false same later is = absurd cc

skipped : (front name rest : List ℕ) → after_text front name ≡ Some rest → name ≡ front ++ rest
unfolding after_text
skipped [] name rest is = cc
skipped (p ∷ ps) [] rest is = absurd cc
skipped (p ∷ ps) (c ∷ cs) rest is = skipped_by p ps c cs rest (nat_eq c p) refl (skipped ps cs rest) is

-- ---- digits

grows : (n : ℕ) (ds : List ℕ) → n ≤ digits_value_after 10 n ds
grows n [] = omega arith
grows n (d ∷ ds) =
    let more = grows (n * 10 + digit_value d) ds in
    omega arith

is_digit_by : (c : ℕ) → digit_value c < 10 → is_digit c ≡ true
is_digit_by c small =
    let range = digit_from_value c small in
    grind (arith, nat_tests)

with_digit_by : (n c : ℕ) → digit_value c < 10 → n * 10 + digit_value c < 2 ^ 64 → with_digit n c ≡ n * 10 + digit_value c
with_digit_by n c small fits =
    let range = digit_from_value c small in
    let value = digit_value_digit c range in
    omega arith

-- digits before a hyphen are read as their number
reads : (n : ℕ) (ds tail : List ℕ) → AllDigits 10 ds → digits_value_after 10 n ds < 2 ^ 64
    → digits_from n (ds ++ 45 ∷ tail) ≡ (digits_value_after 10 n ds, 45 ∷ tail)
unfolding digits_from
reads n [] tail digits small = refl
reads n (d ∷ ds) tail digits small =
    let next : n * 10 + digit_value d < 2 ^ 64 = let more = grows (n * 10 + digit_value d) ds in omega arith in
    ap (λ b. cond b (digits_from (with_digit n d) (ds ++ 45 ∷ tail)) (n, d ∷ ds ++ 45 ∷ tail)) (is_digit_by d digits.0)
    ∙ ap (λ m. digits_from m (ds ++ 45 ∷ tail)) (with_digit_by n d digits.0 next)
    ∙ reads (n * 10 + digit_value d) ds tail digits.1 small

no_zero : (c : ℕ) (cs : List ℕ) → 48 < c → has_leading_zero (c ∷ cs) ≡ false
no_zero c [] above = refl
no_zero c (d ∷ ds) above = ne_eqb c 48 (λ e. omega arith)

reads_behind : (n : ℕ) (ds tail : List ℕ) → AllDigits 10 ds → 0 < length ds → 48 < get_or ds 0 0 → digits_value 10 ds ≡ n
    → n < 2 ^ 64 → run_behind (ds ++ 45 ∷ tail) ≡ n
unfolding run_behind number_at
reads_behind n [] tail digits some first is small = absurd (omega arith)
reads_behind n (d ∷ ds) tail digits some first is small =
    let at : number_at (d ∷ ds ++ 45 ∷ tail) ≡ Some (n, 45 ∷ tail) =
    ap (λ b. cond b (Some (digits_from 0 (d ∷ ds ++ 45 ∷ tail))) None) (is_digit_by d digits.0)
    ∙ ap (λ (p : ℕ × List ℕ). Some p) (reads 0 (d ∷ ds) tail digits (omega arith) ∙ ap (λ m. (m, 45 ∷ tail)) is) in
    ap (λ b. cond b 0 (by_option (number_at (d ∷ ds ++ 45 ∷ tail)) (λ read. run_before_hyphen read.0 read.1) 0)) (no_zero d (ds ++ 45 ∷ tail) first)
    ∙ ap (λ o. by_option o (λ read. run_before_hyphen read.0 read.1) 0) at

behind_run : (n : ℕ) (tail : List ℕ) → 1 ≤ n → n < 2 ^ 64 → run_behind (decimal n ++ 45 ∷ tail) ≡ n
behind_run n tail above small =
    let numeral = decimal_is_IsNumeral n small in
    reads_behind n (decimal n) tail numeral.0.1 numeral.0.0 (first_decimal n (omega arith) small) numeral.1 small

-- ---- and back: a number below the last one is that of the digits

climbs : (n : ℕ) (bytes : List ℕ) → n < 2 ^ 64 → n ≤ (digits_from n bytes).0
unfolding digits_from
climbs n [] small = omega arith
climbs n (c ∷ cs) small = by (is_digit c) (climbs (with_digit n c) cs (omega arith))
  where
    by : (b : Bool) → with_digit n c ≤ (digits_from (with_digit n c) cs).0 → n ≤ (cond b (digits_from (with_digit n c) cs) (n, c ∷ cs)).0
    by true later = omega arith
    by false later = omega arith

digit_value_by : (c : ℕ) → is_digit c ≡ true → (digit_value c ≡ c - 48) × (48 ≤ c) × (c ≤ 57)
digit_value_by c is =
    let range : (48 ≤ c) × (c ≤ 57) = grind (arith, nat_tests) in
    (omega (arith, digit_value_digit c range), range.0, range.1)

-- the digits at the front, of which the reading was made
abbrev Front : ℕ → List ℕ → ℕ × List ℕ → Type 0
Front n bytes read = (ds : List ℕ) × AllDigits 10 ds × (bytes ≡ ds ++ read.1) × (read.0 ≡ digits_value_after 10 n ds)

front : (n : ℕ) (bytes : List ℕ) → n < 2 ^ 64 → (digits_from n bytes).0 < 2 ^ 64 - 1 → Front n bytes (digits_from n bytes)
unfolding digits_from
front n [] fits small = ([], tt, refl, refl)
front n (c ∷ cs) fits small = by (is_digit c) refl small (λ fits less. front (with_digit n c) cs fits less)
  where
    by : (b : Bool) → is_digit c ≡ b → (cond b (digits_from (with_digit n c) cs) (n, c ∷ cs)).0 < 2 ^ 64 - 1
        → (with_digit n c < 2 ^ 64 → (digits_from (with_digit n c) cs).0 < 2 ^ 64 - 1 → Front (with_digit n c) cs (digits_from (with_digit n c) cs))
        → Front n (c ∷ cs) (cond b (digits_from (with_digit n c) cs) (n, c ∷ cs))
    by true is less later =
        let value = digit_value_by c is in
        let up = climbs (with_digit n c) cs (omega arith) in
        let more = later (omega arith) less in
        let next : with_digit n c ≡ n * 10 + digit_value c = omega arith in
        (c ∷ more.0, (omega arith, more.1), ap (λ xs. c ∷ xs) more.2, more.3 ∙ ap (λ m. digits_value_after 10 m more.0) next)
    by false is less later = ([], tt, refl, refl)

after_zero : (c d : ℕ) (ds : List ℕ) → has_leading_zero (c ∷ d ∷ ds) ≡ false → c ≡ 48 → ⊥
after_zero c d ds none is = true≢false (sym (eq-eqb c 48 is) ∙ none)

-- digits before a hyphen, with no zero in front, are a number in decimal
is_decimal : (bytes tail ds : List ℕ) (c : ℕ) (cs : List ℕ) → bytes ≡ c ∷ cs → is_digit c ≡ true → has_leading_zero bytes ≡ false
    → AllDigits 10 ds → bytes ≡ ds ++ 45 ∷ tail → digits_value 10 ds < 2 ^ 64 → decimal (digits_value 10 ds) ≡ ds
is_decimal bytes tail [] c cs first digit none digits is small =
    let hyphen : c ≡ 45 = ap (λ xs. get_or xs 0 0) (sym first ∙ is) in
    absurd (true≢false (sym digit ∙ ap is_digit hyphen))
is_decimal bytes tail (d ∷ []) c cs first digit none digits is small =
    decimal-digits_value (numerals_by_value (AllDigits 10) tells_digits) (d ∷ []) digits (omega arith) (λ zero_first. refl) small
is_decimal bytes tail (d ∷ e ∷ es) c cs first digit none digits is small =
    decimal-digits_value (numerals_by_value (AllDigits 10) tells_digits) (d ∷ e ∷ es) digits (omega arith) (λ zero_first. absurd (after_zero d e (es ++ 45 ∷ tail) (ap has_leading_zero (sym is) ∙ none) zero_first)) small

-- bytes that begin with this run and a hyphen
abbrev Behind : ℕ → List ℕ → Type 0
Behind n bytes = (tail : List ℕ) × (bytes ≡ decimal n ++ 45 ∷ tail)

from_digits : (n c : ℕ) (cs tail : List ℕ) (read : ℕ × List ℕ) → is_digit c ≡ true → has_leading_zero (c ∷ cs) ≡ false
    → read.0 ≡ n → read.1 ≡ 45 ∷ tail → n < 2 ^ 64 → Front 0 (c ∷ cs) read → Behind n (c ∷ cs)
from_digits n c cs tail read digit none number rest small found =
    let ds = found.0 in
    let is : c ∷ cs ≡ ds ++ 45 ∷ tail = found.2 ∙ ap (λ xs. ds ++ xs) rest in
    let value : digits_value 10 ds ≡ n = sym found.3 ∙ number in
    let text : decimal n ≡ ds = ap decimal (sym value) ∙ is_decimal (c ∷ cs) tail ds c cs refl digit none found.1 is (omega (arith, value)) in
    (tail, is ∙ ap (λ xs. xs ++ 45 ∷ tail) (sym text))

by_rest : (n c : ℕ) (cs : List ℕ) (number : ℕ) (rest : List ℕ) → 1 ≤ n → n < 2 ^ 64 - 1 → is_digit c ≡ true
    → has_leading_zero (c ∷ cs) ≡ false → digits_from 0 (c ∷ cs) ≡ (number, rest) → run_before_hyphen number rest ≡ n
    → Behind n (c ∷ cs)
by_rest n c cs number [] some small digit none read is = absurd (omega arith)
by_rest n c cs number (b ∷ bs) some small digit none read is = by (nat_eq b 45) refl is
  where
    by : (h : Bool) → nat_eq b 45 ≡ h → cond h number 0 ≡ n → Behind n (c ∷ cs)
    by true hyphen same =
        let first : (digits_from 0 (c ∷ cs)).0 ≡ n = ap (λ (r : ℕ × List ℕ). r.0) read ∙ same in
        let after : (digits_from 0 (c ∷ cs)).1 ≡ 45 ∷ bs = ap (λ (r : ℕ × List ℕ). r.1) read ∙ ap (λ x. x ∷ bs) (eqb-true b 45 hyphen) in
        from_digits n c cs bs (digits_from 0 (c ∷ cs)) digit none first after (omega arith) (front 0 (c ∷ cs) (omega arith) (omega (arith, first)))
    by false hyphen same = absurd (omega arith)

run_bytes : (n : ℕ) (bytes : List ℕ) → 1 ≤ n → n < 2 ^ 64 - 1 → run_behind bytes ≡ n → Behind n bytes
unfolding run_behind number_at
run_bytes n [] some small is = absurd (omega arith)
run_bytes n (c ∷ cs) some small is = by_zero (has_leading_zero (c ∷ cs)) refl is
  where
    by_digit : has_leading_zero (c ∷ cs) ≡ false → (b : Bool) → is_digit c ≡ b
        → by_option (cond b (Some (digits_from 0 (c ∷ cs))) None) (λ read. run_before_hyphen read.0 read.1) 0 ≡ n
        → Behind n (c ∷ cs)
    by_digit none true digit same = by_rest n c cs (digits_from 0 (c ∷ cs)).0 (digits_from 0 (c ∷ cs)).1 some small digit none refl same
    by_digit none false digit same = absurd (omega arith)

    by_zero : (b : Bool) → has_leading_zero (c ∷ cs) ≡ b → cond b 0 (by_option (cond (is_digit c)
        (Some (digits_from 0 (c ∷ cs))) None) (λ read. run_before_hyphen read.0 read.1) 0) ≡ n → Behind n (c ∷ cs)
    by_zero true zero_first same = absurd (omega arith)
    by_zero false zero_first same = by_digit zero_first (is_digit c) refl same

-- ---- names

-- what the names of a run begin with
abbrev run_front : List ℕ → ℕ → List ℕ
run_front prefix n = prefix ++ (decimal n ++ codes "-")

-- the name goes on behind the hyphen
goes_on : (prefix tail : List ℕ) (n : ℕ) → run_front prefix n ++ tail ≡ prefix ++ (decimal n ++ 45 ∷ tail)
goes_on prefix tail n = append_assoc prefix (decimal n ++ codes "-") tail ∙ ap (λ xs. prefix ++ xs) (append_assoc (decimal n) (codes "-") tail)

run_of : (prefix name : List ℕ) (n : ℕ) → 1 ≤ n → n < 2 ^ 64 → begins (run_front prefix n) name ≡ true → run_of_name prefix name ≡ n
unfolding run_of_name
run_of prefix name n some small is =
    let tail = drop (length (run_front prefix n)) name in
    let whole : name ≡ prefix ++ (decimal n ++ 45 ∷ tail) = rest_of (run_front prefix n) name is ∙ goes_on prefix tail n in
    ap (λ text. by_option (after_text prefix text) run_behind 0) whole
    ∙ ap (λ o. by_option o run_behind 0) (skips prefix (decimal n ++ 45 ∷ tail))
    ∙ behind_run n tail some small

is_of : (prefix name : List ℕ) (n : ℕ) → 1 ≤ n → n < 2 ^ 64 - 1 → run_of_name prefix name ≡ n → begins (run_front prefix n) name ≡ true
unfolding run_of_name
is_of prefix name n some small is = by (after_text prefix name) refl is
  where
    by : (o : Option (List ℕ)) → after_text prefix name ≡ o → by_option o run_behind 0 ≡ n → begins (run_front prefix n) name ≡ true
    by None behind same = absurd (omega arith)
    by (Some rest) behind same =
        let found = run_bytes n rest some small same in
        begins_from (run_front prefix n) found.0 name (skipped prefix name rest behind ∙ ap (λ xs. prefix ++ xs) found.1 ∙ sym (goes_on prefix found.0 n))

-- such a name is among those that begin with the prefix
in_folder : (prefix name : List ℕ) (n : ℕ) → begins (run_front prefix n) name ≡ true → begins prefix name ≡ true
in_folder prefix name n is =
    let tail = drop (length (run_front prefix n)) name in
    begins_from prefix (decimal n ++ 45 ∷ tail) name (rest_of (run_front prefix n) name is ∙ goes_on prefix tail n)

-- ---- lists of names

or_left : (a b : Bool) → a ≡ true → a || b ≡ true
or_left true b is = refl
or_left false b is = absurd cc

or_right : (a b : Bool) → b ≡ true → a || b ≡ true
or_right true b is = refl
or_right false b is = is

or_either : {P : Type 0} (a b : Bool) → (a ≡ true → P) → (b ≡ true → P) → a || b ≡ true → P
or_either true b first second is = first refl
or_either false b first second is = second is

module _ (prefix : List ℕ) (n : ℕ) where
  abbrev read_of : List (List ℕ) → List ℕ
  read_of names = runs_of prefix (filter (begins prefix) names)

  abbrev of_run : List (List ℕ) → Bool
  of_run names = list_any (begins (run_front prefix n)) names

  later_read : (name : List ℕ) (names : List (List ℕ)) (b : Bool) → has n (read_of names) ≡ true
      → has n (runs_of prefix (cond b (name ∷ filter (begins prefix) names) (filter (begins prefix) names))) ≡ true
  later_read name names true is = or_right (nat_eq n (run_of_name prefix name)) (has n (read_of names)) is
  later_read name names false is = is

  first_read : (name : List ℕ) (names : List (List ℕ)) (b : Bool) → begins prefix name ≡ b → b ≡ true
      → nat_eq n (run_of_name prefix name) ≡ true → has n (runs_of prefix (cond b (name ∷ filter (begins prefix) names)
      (filter (begins prefix) names))) ≡ true
  first_read name names true is there same = or_left (nat_eq n (run_of_name prefix name)) (has n (read_of names)) same
  first_read name names false is there same = absurd cc

  is_read : 1 ≤ n → n < 2 ^ 64 → (names : List (List ℕ)) → of_run names ≡ true → has n (read_of names) ≡ true
  is_read some small [] is = absurd cc
  is_read some small (name ∷ names) is =
      or_either (begins (run_front prefix n) name) (of_run names)
      (λ here. first_read name names (begins prefix name) refl (in_folder prefix name n here) (eq-eqb n (run_of_name prefix name) (sym (run_of prefix name n some small here))))
      (λ later. later_read name names (begins prefix name) (is_read some small names later))
      is

  was_read_by : (name : List ℕ) (names : List (List ℕ)) (b : Bool)
      → (nat_eq n (run_of_name prefix name) ≡ true → begins (run_front prefix n) name ≡ true)
      → (has n (read_of names) ≡ true → of_run names ≡ true)
      → has n (runs_of prefix (cond b (name ∷ filter (begins prefix) names) (filter (begins prefix) names))) ≡ true
      → of_run (name ∷ names) ≡ true
  was_read_by name names true here later is =
      or_either (nat_eq n (run_of_name prefix name)) (has n (read_of names))
      (λ same. or_left (begins (run_front prefix n) name) (of_run names) (here same))
      (λ there. or_right (begins (run_front prefix n) name) (of_run names) (later there))
      is
  was_read_by name names false here later is = or_right (begins (run_front prefix n) name) (of_run names) (later is)

  was_read : 1 ≤ n → n < 2 ^ 64 - 1 → (names : List (List ℕ)) → has n (read_of names) ≡ true → of_run names ≡ true
  was_read some small [] is = absurd cc
  was_read some small (name ∷ names) is =
      was_read_by name names (begins prefix name)
      (λ same. is_of prefix name n some small (sym (eqb-true n (run_of_name prefix name) same)))
      (was_read some small names)
      is

-- ---- both folders

has-append : (n : ℕ) (xs ys : List ℕ) → has n (xs ++ ys) ≡ (has n xs || has n ys)
has-append n xs ys = list_any-append (nat_eq n) xs ys

either_way : (a b c d : Bool) → (a ≡ true → c ≡ true) → (b ≡ true → d ≡ true) → a || b ≡ true → c || d ≡ true
either_way a b c d first second is = or_either a b (λ h. or_left c d (first h)) (λ h. or_right c d (second h)) is

not_so : (a b : Bool) → (a ≡ true → b ≡ true) → b ≡ false → a ≡ false
not_so true b follows none = absurd (true≢false (sym (follows refl) ∙ none))
not_so false b follows none = refl

module _ (table : List ℕ) (files : Files) where
  abbrev data_runs : List ℕ
  data_runs = runs_of (data_prefix table) (names_with (data_prefix table) files)

  abbrev metadata_runs : List ℕ
  metadata_runs = runs_of (metadata_prefix table) (names_with (metadata_prefix table) files)

  used_is_read : (n : ℕ) → 1 ≤ n → n < 2 ^ 64 → is_used table n files ≡ true → has n (data_runs ++ metadata_runs) ≡ true
  used_is_read n some small is =
      has-append n data_runs metadata_runs
      ∙ either_way (has_run (data_prefix table) n files) (has_run (metadata_prefix table) n files) (has n data_runs) (has n metadata_runs)
      (is_read (data_prefix table) n some small (finite.keys files)) (is_read (metadata_prefix table) n some small (finite.keys files)) is

  read_is_used : (n : ℕ) → 1 ≤ n → n < 2 ^ 64 - 1 → has n (data_runs ++ metadata_runs) ≡ true → is_used table n files ≡ true
  read_is_used n some small is =
      either_way (has n data_runs) (has n metadata_runs) (has_run (data_prefix table) n files) (has_run (metadata_prefix table) n files)
      (was_read (data_prefix table) n some small (finite.keys files)) (was_read (metadata_prefix table) n some small (finite.keys files)) (sym (has-append n data_runs metadata_runs) ∙ is)

  -- the least number that no name is read as is the least that none bears
  pub is_fresh : (run : ℕ) → run < 2 ^ 64 → IsLeastMissing (data_runs ++ metadata_runs) run → IsFreshRun table files run
  is_fresh run small least = record {
    positive = least.positive;
    free = not_so (is_used table run files) (has run (data_runs ++ metadata_runs)) (used_is_read run least.positive small) least.missing;
    least = λ m some before. read_is_used m some (omega arith) (least.least m some before);
  }

-- the same, of what the code has
pub fresh_by : (table prefix other : List ℕ) (files : Files) (runs others all : List ℕ) (run : ℕ)
    → prefix ≡ data_prefix table → other ≡ metadata_prefix table
    → runs ≡ runs_of prefix (names_with prefix files) → others ≡ runs_of other (names_with other files) → all ≡ runs ++ others
    → run < 2 ^ 64 → IsLeastMissing all run → IsFreshRun table files run
fresh_by table prefix other files runs others all run is_data is_metadata first second whole small least =
    let data_is : runs ≡ data_runs table files = first ∙ ap (λ text. runs_of text (names_with text files)) is_data in
    let metadata_is : others ≡ metadata_runs table files = second ∙ ap (λ text. runs_of text (names_with text files)) is_metadata in
    let all_is : all ≡ data_runs table files ++ metadata_runs table files = whole ∙ ap (λ xs. xs ++ others) data_is ∙ ap (λ ys. data_runs table files ++ ys) metadata_is in
    is_fresh table files run small (subst (λ (numbers : List ℕ). IsLeastMissing numbers run) all_is least)

-- ---- the names of a fresh run

same_name : (q name : List ℕ) (o : Ordering) → slice_cmp nat_cmp q name ≡ o → is_eq o ≡ true → q ≡ name
same_name q name Equal is e = slice_cmp-IsAntisymmetric nat_cmp-IsAntisymmetric q name is
same_name q name Less is e = absurd cc
same_name q name Greater is e = absurd cc

-- a name that is there is one of the names
among : (test : List ℕ → Bool) (q : List ℕ) → test q ≡ true → (names : List (List ℕ))
    → list_any (eq_by_cmp (slice_cmp nat_cmp) q) names ≡ true → list_any test names ≡ true
among test q passes [] is = absurd cc
among test q passes (name ∷ names) is =
    or_either (is_eq (slice_cmp nat_cmp q name)) (list_any (eq_by_cmp (slice_cmp nat_cmp) q) names)
    (λ here. or_left (test name) (list_any test names) (ap test (sym (same_name q name (slice_cmp nat_cmp q name) refl here)) ∙ passes))
    (λ later. or_right (test name) (list_any test names) (among test q passes names later))
    is

missing_by : (o : Option (List ℕ)) → is_some o ≡ false → o ≡ None
missing_by None none = refl
missing_by (Some bytes) none = absurd cc

-- no file has a name of a run that none bears
is_missing : (prefix tail name : List ℕ) (run : ℕ) (files : Files) → name ≡ prefix ++ (decimal run ++ 45 ∷ tail)
    → has_run prefix run files ≡ false → finite.get files name ≡ None
is_missing prefix tail name run files is free =
    let front_is : begins (run_front prefix run) name ≡ true = begins_from (run_front prefix run) tail name (is ∙ sym (goes_on prefix tail run)) in
    missing_by (finite.get files name) (not_so (finite.contains_key files name) (has_run prefix run files) (λ there. among (begins (run_front prefix run)) name front_is (finite.keys files) (sym (contains_key-keys files name) ∙ there)) free)

or_false : (a b : Bool) → a || b ≡ false → (a ≡ false) × (b ≡ false)
or_false true b is = absurd cc
or_false false b is = (refl, is)

pub free_names : (table session : List ℕ) (run from : ℕ) (files : Files) → is_used table run files ≡ false → NoneFrom table run session from files
free_names table session run from files free =
    let both = or_false (has_run (data_prefix table) run files) (has_run (metadata_prefix table) run files) free in
    record {
      data_free = λ n above small. is_missing (data_prefix table) (session ++ (codes "-" ++ (decimal n ++ codes ".avro"))) (data_name table run session n) run files (sym (append_assoc table (codes "/data/r") (named run session n (codes ".avro")))) both.0;
      metadata_free = λ n above small. is_missing (metadata_prefix table) (session ++ (codes "-" ++ (decimal n ++ codes ".avro"))) (metadata_name table run session n) run files (sym (append_assoc table (codes "/metadata/r") (named run session n (codes ".avro")))) both.1;
    }
