-- The current version is the same where the names of versions are, and it is the next one once that is there.
use Rattle.std.proofs.Common.{◌≡◌, ℕ, ◌+◌, ◌^◌, ◌<◌, ◌≤◌, List, [], ◌∷◌, filter, Bool, true, false, cond, ◌||◌, nat_eq, nat_lt, Some, None, is_some, refl, sym, ap, subst, ◌∙◌, max, arith, true≢false, ◌==◌}
use Rattle.std.specs.FinMap as map
use Rattle.std.specs.FinMap.{contains_key-keys}
use Rattle.std.specs.List.{list_any}
use Rattle.std.specs.Ordering.{nat_cmp, eq_by_cmp}
use Rattle.std.specs.Cmp.Lexicographic.{slice_cmp, pointwise}
use Rattle.std.proofs.lemmas.Bool.{ne_eqb}
use Rattle.std.proofs.lemmas.Bool.Decides.{nat_tests}
use Rattle.std.proofs.lemmas.Map.Text.{is_eq-slice_cmp}
use Rattle.plain_types.proofs.CallerLemmas.{Tells-texts}
use Rattle.store_core.specs.Files.{Files, names_with}
use Rattle.table_names.specs.Versions.{version_prefix, version_name, version_of_name, greatest_version, some_version, version_of}
use Rattle.table_names.proofs.VersionNames.{at_least, below_by, is_greatest, is_of, starting}

-- ---- the greatest version is that of a name

is_itself : (q : List ℕ) → eq_by_cmp (slice_cmp nat_cmp) q q ≡ true
is_itself q = is_eq-slice_cmp q q ∙ Tells-texts.itself q

later_too : (b c : Bool) → c ≡ true → b || c ≡ true
later_too true c e = refl
later_too false c e = e

here_too : (b c : Bool) → b ≡ true → b || c ≡ true
here_too true c e = refl
here_too false c e = absurd cc

record Attained (prefix : List ℕ) (names : List (List ℕ)) (greatest : ℕ) : Type 0 where
  name : List ℕ
  begins : starting prefix name ≡ true
  among : list_any (eq_by_cmp (slice_cmp nat_cmp) name) names ≡ true
  value : version_of_name prefix name ≡ greatest

further : (prefix name : List ℕ) (names : List (List ℕ)) (lesser greatest : ℕ) → lesser ≡ greatest → Attained prefix names lesser
    → Attained prefix (name ∷ names) greatest
further prefix name names lesser greatest is found = record { name = found.name; begins = found.begins; among = later_too (eq_by_cmp (slice_cmp nat_cmp) found.name name) (list_any (eq_by_cmp (slice_cmp nat_cmp) found.name) names) found.among; value = found.value ∙ is }

by_value : (prefix name : List ℕ) (names : List (List ℕ)) (rest : ℕ) (b : Bool) → nat_lt (version_of_name prefix name) rest ≡ b
    → starting prefix name ≡ true → (0 < rest → Attained prefix names rest)
    → Attained prefix (name ∷ names) (max (version_of_name prefix name) rest)
by_value prefix name names rest true less begins found = further prefix name names rest (max (version_of_name prefix name) rest) (grind (arith, nat_tests)) (found (grind (arith, nat_tests)))
by_value prefix name names rest false less begins found = record { name = name; begins = begins; among = here_too (eq_by_cmp (slice_cmp nat_cmp) name name) (list_any (eq_by_cmp (slice_cmp nat_cmp) name) names) (is_itself name); value = grind (arith, nat_tests) }

by_front : (prefix name : List ℕ) (names rest : List (List ℕ)) (b : Bool) → starting prefix name ≡ b
    → (0 < greatest_version prefix rest → Attained prefix names (greatest_version prefix rest))
    → 0 < greatest_version prefix (cond b (name ∷ rest) rest)
    → Attained prefix (name ∷ names) (greatest_version prefix (cond b (name ∷ rest) rest))
unfolding greatest_version
by_front prefix name names rest true begins found above = by_value prefix name names (greatest_version prefix rest) (nat_lt (version_of_name prefix name) (greatest_version prefix rest)) refl begins found
by_front prefix name names rest false begins found above = further prefix name names (greatest_version prefix rest) (greatest_version prefix rest) refl (found above)

attained : (prefix : List ℕ) (names : List (List ℕ)) → 0 < greatest_version prefix (filter (starting prefix) names)
    → Attained prefix names (greatest_version prefix (filter (starting prefix) names))
unfolding greatest_version
attained prefix [] some = absurd (omega arith)
attained prefix (name ∷ names) some = by_front prefix name names (filter (starting prefix) names) (starting prefix name) refl (attained prefix names) some

-- ---- over files

abbrev greatest_in : List ℕ → Files → ℕ
greatest_in table files = greatest_version (version_prefix table) (names_with (version_prefix table) files)

abbrev is_there : Files → List ℕ → Bool
is_there files name = map.contains_key files name

-- where no name's version is above this one
within : (table : List ℕ) (files : Files) (m : ℕ) → ((name : List ℕ) → starting (version_prefix table) name ≡ true
    → is_there files name ≡ true → version_of_name (version_prefix table) name ≤ m) → greatest_in table files ≤ m
within table files m below = by_size (nat_lt 0 (greatest_in table files)) refl where
  by_size : (b : Bool) → nat_lt 0 (greatest_in table files) ≡ b → greatest_in table files ≤ m
  by_size false is = grind (arith, nat_tests)
  by_size true is =
      let found = attained (version_prefix table) (map.keys files) (grind (arith, nat_tests)) in
      subst (λ n. n ≤ m) found.value (below found.name found.begins (contains_key-keys files found.name ∙ found.among))

-- each name's version
value_below : (table : List ℕ) (files : Files) (name : List ℕ) → starting (version_prefix table) name ≡ true
    → is_there files name ≡ true → version_of_name (version_prefix table) name ≤ greatest_in table files
value_below table files name begins there = at_least (version_prefix table) name (version_of_name (version_prefix table) name) begins refl (map.keys files) (sym (contains_key-keys files name) ∙ there)

-- ---- files that change

abbrev value_of : List ℕ → List ℕ → ℕ
value_of table name = version_of_name (version_prefix table) name

-- a name of a version that is there now was there before
value_stays : (table : List ℕ) (old new : Files) (name : List ℕ) → (0 < value_of table name → map.get new name ≡ map.get old name)
    → starting (version_prefix table) name ≡ true → is_there new name ≡ true → value_of table name ≤ greatest_in table old
value_stays table old new name same begins there = by_value_of (nat_lt 0 (value_of table name)) refl where
  by_value_of : (b : Bool) → nat_lt 0 (value_of table name) ≡ b → value_of table name ≤ greatest_in table old
  by_value_of false is = grind (arith, nat_tests)
  by_value_of true is = value_below table old name begins (ap is_some (sym (same (grind (arith, nat_tests)))) ∙ there)

not_above : (table : List ℕ) (old new : Files) → ((name : List ℕ) → 0 < value_of table name → map.get new name ≡ map.get old name)
    → greatest_in table new ≤ greatest_in table old
not_above table old new same = within table new (greatest_in table old) (λ name begins there. value_stays table old new name (same name) begins there)

between : (a b : ℕ) → a ≤ b → b ≤ a → a ≡ b
between a b below above = omega arith

-- where the names of versions are as they were
pub same_version : (table : List ℕ) (old new : Files) → ((name : List ℕ) → 0 < value_of table name
    → map.get new name ≡ map.get old name) → version_of table new ≡ version_of table old
same_version table old new same =
    ap some_version (between (greatest_in table new) (greatest_in table old) (not_above table old new same) (not_above table new old (λ name above. sym (same name above))))

is_some_version : (n : ℕ) → 0 < n → some_version n ≡ Some n
is_some_version n above = ap (λ b. cond b None (Some n)) (ne_eqb n 0 (λ e. omega arith))

-- where the next version is there too
pub next_version : (table : List ℕ) (old new : Files) (current : ℕ) (bytes : List ℕ) → version_of table old ≡ Some current
    → current + 1 < 2 ^ 32 → map.get new (version_name table (current + 1)) ≡ Some bytes
    → ((name : List ℕ) → 0 < value_of table name → (name ≡ version_name table (current + 1) → ⊥) → map.get new name ≡ map.get old name) → version_of table new ≡ Some (current + 1)
next_version table old new current bytes is small there same =
    ap some_version (between (greatest_in table new) next (within table new next all) (below_by table new next (omega arith) small (ap is_some there)))
    ∙ is_some_version next (omega arith)
  where
    next : ℕ
    next = current + 1

    greatest : greatest_in table old ≡ current
    greatest = is_greatest (greatest_in table old) current (greatest_in table old == 0) refl is

    all : (name : List ℕ) → starting (version_prefix table) name ≡ true → is_there new name ≡ true → value_of table name ≤ next
    all name begins is_in = by_name (pointwise nat_eq name (version_name table next)) refl where
      by_name : (b : Bool) → pointwise nat_eq name (version_name table next) ≡ b → value_of table name ≤ next
      by_name true e =
          let value : value_of table name ≡ next = ap (value_of table) (Tells-texts.means name (version_name table next) e) ∙ is_of table next (omega arith) small in
          omega arith
      by_name false e =
          let below = value_stays table old new name (λ above. same name above (λ same_name. true≢false (sym (Tells-texts.itself (version_name table next)) ∙ ap (λ q. pointwise nat_eq q (version_name table next)) (sym same_name) ∙ e))) begins is_in in
          let is_current : greatest_in table old ≡ current = greatest in
          omega arith
