-- Statistics that are written are read again.
use Rattle.std.proofs.Common.{◌≡◌, ℕ, ◌^◌, ℤ, pos, List, [], ◌∷◌, ◌++◌, Bool, true, false, cond, ◌&&◌, ◌||◌, nat_lt, Option, Some, None, is_some, option_and_then, refl, sym, ap, ◌∙◌, append_assoc, arith}
use Rattle.std.specs.Prelude.{int_lt}
use Rattle.std.specs.Ordering.{int_eq}
use Rattle.std.specs.List.{list_all}
use Rattle.std.proofs.lemmas.List.{append-nil}
use Rattle.std.proofs.lemmas.Int.{ints}
use Rattle.std.proofs.lemmas.Bool.Decides.{nat_tests}
use Rattle.plain_types.specs.Steps.{by_option}
use Rattle.row_values.specs.declared.kind.Kind.{Kind}
use Rattle.row_values.specs.declared.value.Value.{Value}
use Rattle.kind_values.specs.declared.stats.ColumnStats.{ColumnStats}
use Rattle.kind_values.specs.Bounds.{is_kind, bound_of, bytes_of}
use Rattle.kind_values.proofs.CallerLemmas.{bound_again}
use Rattle.avro_binary.specs.declared.datum.Datum.{Datum, out-Datum}
use Rattle.avro_binary.specs.declared.datum.Datum.TheVariants as datum
use Rattle.avro_rows.specs.Rows.{values_of}
use Rattle.manifest_files.specs.declared.places.PairPlaces.{PairPlaces}
use Rattle.manifest_files.specs.declared.places.FilePlaces.{FilePlaces}
use Rattle.manifest_files.specs.declared.known_column.KnownColumn.{KnownColumn}
use Rattle.manifest_files.specs.Datums.{present, present_in, int_in, long_in, bytes_in, items_level, items_at, natural_of}
use Rattle.manifest_files.specs.Statistics.{key_in, is_key, is_pair, are_pairs, any_key, has_key, has_twice, value_under, facts_of, tells, stats_from}
use Rattle.manifest_files.specs.Sound.{rises}
use Rattle.manifest_files.proofs.CallerLemmas.{rising}
use Rattle.manifest_writer.specs.declared.fact.Fact.{Fact}
use Rattle.manifest_writer.specs.declared.fact.Fact.TheVariants as fact
use Rattle.manifest_writer.specs.Facts.{count_datum, bound_datum, fact_datum, pair, pairs_of, map_value}
use Rattle.manifest_writer.specs.Readable.{fits_count, has_counts, is_of, is_bounded, is_known, are_told}
use Rattle.manifest_writer.specs.Value.{count_number}
use Rattle.manifest_writer.proofs.ValueLaws.{array_there, null_absent, long_there, bytes_there, long_value, bytes_value, int_again}
use Rattle.row_writer.proofs.CallerLemmas.{array_out, first, second, values_is}

-- ---- numbers

same_number : (a b : ℤ) → int_eq a b ≡ true → a ≡ b
same_number a b h = grind (arith, ints, nat_tests)

no_same : (a b : ℤ) → int_lt a b ≡ true → int_eq b a ≡ false
no_same a b h = grind (arith, ints, nat_tests)

below_next : (a b c : ℤ) → int_lt a b ≡ true → int_lt b c ≡ true → int_lt a c ≡ true
below_next a b c h k = grind (arith, ints, nat_tests)

-- ---- pairs

-- where the key and the value of a pair stand
abbrev pub pair_places : ℕ → PairPlaces
pair_places place = record { place = Some place; key = 0; value = 1 }

abbrev IsThere : Option Datum → Type 0
IsThere None = Unit {0}
IsThere (Some d) = present_in d ≡ Some d

count_there : (count : Option ℕ) → IsThere (count_datum count)
count_there None = tt
count_there (Some n) = long_there (count_number n)

bound_there : (bound : Option Value) → IsThere (bound_datum bound)
bound_there None = tt
bound_there (Some v) = bytes_there (bytes_of v)

fact_there : (f : Fact) (facts : ColumnStats) → IsThere (fact_datum f facts)
fact_there fact.Values facts = count_there facts.values
fact_there fact.Nulls facts = count_there facts.nulls
fact_there fact.Lower facts = bound_there facts.lower
fact_there fact.Upper facts = bound_there facts.upper

key_is : (place : ℕ) (id : ℤ) (d : Datum) → key_in (pair_places place) (pair id d) ≡ Some id
key_is place id d = ap (λ (values : List Datum). option_and_then int_in (present values 0)) (values_is (datum.Int id ∷ d ∷ [])) ∙ int_again id

value_is : (id : ℤ) (d : Datum) → present_in d ≡ Some d → present (values_of (pair id d)) 1 ≡ Some d
value_is id d h = ap (λ (values : List Datum). present values 1) (values_is (datum.Int id ∷ d ∷ [])) ∙ h

pair_is : (place : ℕ) (id : ℤ) (d : Datum) → present_in d ≡ Some d → is_pair (pair_places place) (pair id d) ≡ true
pair_is place id d h = ap (λ (o : Option ℤ). is_some o && is_some (present (values_of (pair id d)) 1)) (key_is place id d) ∙ ap (λ (o : Option Datum). is_some o) (value_is id d h)

pairs_by : (place : ℕ) (id : ℤ) (d : Option Datum) (others : List Datum) → IsThere d
    → list_all (is_pair (pair_places place)) others ≡ true
    → list_all (is_pair (pair_places place)) (by_option d (λ x. pair id x ∷ []) [] ++ others) ≡ true
pairs_by place id None others there h = h
pairs_by place id (Some d) others there h = ap (λ (b : Bool). b && list_all (is_pair (pair_places place)) others) (pair_is place id d there) ∙ h

pub pairs_are : (f : Fact) (place : ℕ) (stats : List ColumnStats) → are_pairs (pair_places place) (pairs_of f stats) ≡ true
pairs_are f place [] = refl
pairs_are f place (facts ∷ others) = pairs_by place facts.id (fact_datum f facts) (pairs_of f others) (fact_there f facts) (pairs_are f place others)

-- ---- no key twice

abbrev above : ℤ → List ColumnStats → Bool
above id stats = list_all (λ other. int_lt id other.id) stats

is_key_of : (place : ℕ) (id key : ℤ) (d : Datum) → is_key (pair_places place) id (pair key d) ≡ int_eq key id
is_key_of place id key d = ap (λ (o : Option ℤ). by_option o (λ k. int_eq k id) false) (key_is place key d)

no_key_by : (place : ℕ) (id key : ℤ) (d : Option Datum) (others : List Datum) → int_lt id key ≡ true
    → any_key (pair_places place) id others ≡ false → any_key (pair_places place) id (by_option d (λ x. pair key x ∷ [])
    [] ++ others) ≡ false
no_key_by place id key None others lt h = h
no_key_by place id key (Some d) others lt h = ap (λ (b : Bool). b || any_key (pair_places place) id others) (is_key_of place id key d ∙ no_same id key lt) ∙ h

no_key : (f : Fact) (place : ℕ) (id : ℤ) (stats : List ColumnStats) → above id stats ≡ true → any_key (pair_places place) id (pairs_of f stats) ≡ false
no_key f place id [] h = refl
no_key f place id (facts ∷ others) h = no_key_by place id facts.id (fact_datum f facts) (pairs_of f others) (first (int_lt id facts.id) (above id others) h) (no_key f place id others (second (int_lt id facts.id) (above id others) h))

once_by : (place : ℕ) (key : ℤ) (d : Option Datum) (others : List Datum) → any_key (pair_places place) key others ≡ false
    → has_twice (pair_places place) others ≡ false → has_twice (pair_places place)
    (by_option d (λ x. pair key x ∷ []) [] ++ others) ≡ false
unfolding has_twice
once_by place key None others h more = more
once_by place key (Some d) others h more = ap (λ (o : Option ℤ). cond (has_key (pair_places place) o others) true (has_twice (pair_places place) others)) (key_is place key d) ∙ ap (λ (b : Bool). cond b true (has_twice (pair_places place) others)) h ∙ more

pub keys_once : (f : Fact) (place : ℕ) (stats : List ColumnStats) → rises stats ≡ true → has_twice (pair_places place) (pairs_of f stats) ≡ false
unfolding has_twice
keys_once f place [] h = refl
keys_once f place (facts ∷ others) h = once_by place facts.id (fact_datum f facts) (pairs_of f others) (no_key f place facts.id others (first (above facts.id others) (rises others) h)) (keys_once f place others (second (above facts.id others) (rises others) h))

-- ---- the value under a key

abbrev pick : ℤ → List ColumnStats → Option ColumnStats
pick id [] = None
pick id (facts ∷ others) = cond (int_eq facts.id id) (Some facts) (pick id others)

pick_none : (id : ℤ) (stats : List ColumnStats) → above id stats ≡ true → pick id stats ≡ None
pick_none id [] h = refl
pick_none id (facts ∷ others) h = ap (λ (b : Bool). cond b (Some facts) (pick id others)) (no_same id facts.id (first (int_lt id facts.id) (above id others) h)) ∙ pick_none id others (second (int_lt id facts.id) (above id others) h)

abbrev fact_in : Fact → Option ColumnStats → Option Datum
fact_in f found = option_and_then (fact_datum f) found

under_by : (f : Fact) (place : ℕ) (id : ℤ) (facts : ColumnStats) (d : Option Datum) (others : List Datum)
    (found : Option ColumnStats) (b : Bool) → int_eq facts.id id ≡ b → (b ≡ true → found ≡ None) → fact_datum f facts ≡ d
    → IsThere d → value_under (pair_places place) id others ≡ fact_in f found
    → value_under (pair_places place) id (by_option d (λ x. pair facts.id x ∷ [])
    [] ++ others) ≡ fact_in f (cond b (Some facts) found)
unfolding value_under
under_by f place id facts None others found true e none is there h = h ∙ ap (fact_in f) (none refl) ∙ sym is
under_by f place id facts None others found false e none is there h = h
under_by f place id facts (Some d) others found true e none is there h =
    ap (λ (b : Bool). cond b (present (values_of (pair facts.id d)) 1) (value_under (pair_places place) id others)) (is_key_of place id facts.id d ∙ e) ∙ value_is facts.id d there ∙ sym is
under_by f place id facts (Some d) others found false e none is there h =
    ap (λ (b : Bool). cond b (present (values_of (pair facts.id d)) 1) (value_under (pair_places place) id others)) (is_key_of place id facts.id d ∙ e) ∙ h

above_same : (id key : ℤ) (stats : List ColumnStats) → int_eq key id ≡ true → above key stats ≡ true → above id stats ≡ true
above_same id key stats e h = ap (λ (n : ℤ). above n stats) (sym (same_number key id e)) ∙ h

under_is : (f : Fact) (place : ℕ) (id : ℤ) (stats : List ColumnStats) → rises stats ≡ true
    → value_under (pair_places place) id (pairs_of f stats) ≡ fact_in f (pick id stats)
unfolding value_under
under_is f place id [] h = refl
under_is f place id (facts ∷ others) h =
    under_by f place id facts (fact_datum f facts) (pairs_of f others) (pick id others) (int_eq facts.id id) refl (λ e. pick_none id others (above_same id facts.id others e (first (above facts.id others) (rises others) h))) refl (fact_there f facts)
    (under_is f place id others (second (above facts.id others) (rises others) h))

-- ---- the facts of a column

pub map_items : (ps : List Datum) → by_option (present_in (map_value ps)) (λ d. items_level (out-Datum d)) [] ≡ ps
map_items [] = ap (λ (o : Option Datum). by_option o (λ d. items_level (out-Datum d)) []) null_absent
map_items (p ∷ ps) = ap (λ (o : Option Datum). by_option o (λ d. items_level (out-Datum d)) []) (array_there (p ∷ ps)) ∙ ap items_level (array_out (p ∷ ps))

count_of_datum : (n : ℕ) (b : Bool) → nat_lt n (2 ^ 63) ≡ b → b ≡ true → option_and_then natural_of (option_and_then long_in (count_datum (Some n))) ≡ Some n
count_of_datum n b e h = ap (λ (o : Option ℤ). option_and_then natural_of o) (long_value (count_number n)) ∙ ap (λ (x : Bool). natural_of (cond x (pos n) (pos 9223372036854775807))) (e ∙ h)

count_again : (count : Option ℕ) → fits_count count ≡ true → option_and_then natural_of (option_and_then long_in (count_datum count)) ≡ count
count_again None h = refl
count_again (Some n) h = count_of_datum n (nat_lt n (2 ^ 63)) refl h

bound_read : (k : Kind) (bound : Option Value) → is_kind k ≡ true → is_of k bound ≡ true
    → option_and_then (bound_of k) (option_and_then bytes_in (bound_datum bound)) ≡ bound
bound_read k None sound h = refl
bound_read k (Some v) sound h = ap (option_and_then (bound_of k)) (bytes_value (bytes_of v)) ∙ bound_again k v sound h

abbrev facts_by : KnownColumn → Option ColumnStats → ColumnStats
facts_by column None = record { id = column.id; values = None; nulls = None; lower = None; upper = None }
facts_by column (Some facts) = facts

-- what is read of a column by its facts
abbrev read_of : KnownColumn → Option ColumnStats → ColumnStats
read_of column found = record {
  id = column.id;
  values = option_and_then natural_of (option_and_then long_in (fact_in fact.Values found));
  nulls = option_and_then natural_of (option_and_then long_in (fact_in fact.Nulls found));
  lower = option_and_then (bound_of column.kind) (option_and_then bytes_in (fact_in fact.Lower found));
  upper = option_and_then (bound_of column.kind) (option_and_then bytes_in (fact_in fact.Upper found));
}

same_facts : (facts : ColumnStats) (id : ℤ) (values nulls : Option ℕ) (lower upper : Option Value) → id ≡ facts.id
    → values ≡ facts.values → nulls ≡ facts.nulls → lower ≡ facts.lower → upper ≡ facts.upper
    → (let r : ColumnStats = record { id = id; values = values; nulls = nulls; lower = lower; upper = upper } in r) ≡ facts
same_facts facts id values nulls lower upper a b c d e = rw (a, b, c, d, e) refl

bounded_by : (column : KnownColumn) (facts : ColumnStats) → int_eq facts.id column.id ≡ true → is_bounded column facts ≡ true
    → (is_of column.kind facts.lower && is_of column.kind facts.upper) ≡ true
bounded_by column facts e h =
    let turned : int_eq column.id facts.id ≡ true = grind (arith, ints, nat_tests) in
    sym (ap (λ (b : Bool). cond b (is_of column.kind facts.lower && is_of column.kind facts.upper) true) turned) ∙ h

read_facts : (column : KnownColumn) (facts : ColumnStats) → is_kind column.kind ≡ true → int_eq facts.id column.id ≡ true
    → has_counts facts ≡ true → is_bounded column facts ≡ true → read_of column (Some facts) ≡ facts
read_facts column facts sound e counts bounded =
    let bounds = bounded_by column facts e bounded in
    same_facts facts column.id _ _ _ _ (sym (same_number facts.id column.id e)) (count_again facts.values (first (fits_count facts.values) (fits_count facts.nulls) counts)) (count_again facts.nulls (second (fits_count facts.values) (fits_count facts.nulls) counts))
    (bound_read column.kind facts.lower sound (first (is_of column.kind facts.lower) (is_of column.kind facts.upper) bounds)) (bound_read column.kind facts.upper sound (second (is_of column.kind facts.lower) (is_of column.kind facts.upper) bounds))

-- where the maps of a file stand, and what they hold
pub record HasFacts (places : FilePlaces) (file : List Datum) (stats : List ColumnStats) : Type 0 where
  pub values : (id : ℤ) → value_under places.values id (items_at file places.values.place) ≡ fact_in fact.Values (pick id stats)
  pub nulls : (id : ℤ) → value_under places.nulls id (items_at file places.nulls.place) ≡ fact_in fact.Nulls (pick id stats)
  pub lower : (id : ℤ) → value_under places.lower id (items_at file places.lower.place) ≡ fact_in fact.Lower (pick id stats)
  pub upper : (id : ℤ) → value_under places.upper id (items_at file places.upper.place) ≡ fact_in fact.Upper (pick id stats)

pub under_there : (f : Fact) (place : ℕ) (id : ℤ) (stats : List ColumnStats) (items : List Datum) → rises stats ≡ true
    → items ≡ pairs_of f stats → value_under (pair_places place) id items ≡ fact_in f (pick id stats)
under_there f place id stats items h is = ap (λ (xs : List Datum). value_under (pair_places place) id xs) is ∙ under_is f place id stats h

facts_read : (places : FilePlaces) (file : List Datum) (stats : List ColumnStats) (column : KnownColumn)
    → HasFacts places file stats → facts_of places file column ≡ read_of column (pick column.id stats)
facts_read places file stats column has = same_facts (read_of column (pick column.id stats)) column.id _ _ _ _ refl
    (ap (λ (o : Option Datum). option_and_then natural_of (option_and_then long_in o)) (has.values column.id))
    (ap (λ (o : Option Datum). option_and_then natural_of (option_and_then long_in o)) (has.nulls column.id))
    (ap (λ (o : Option Datum). option_and_then (bound_of column.kind) (option_and_then bytes_in o)) (has.lower column.id)) (ap (λ (o : Option Datum). option_and_then (bound_of column.kind) (option_and_then bytes_in o)) (has.upper column.id))

-- ---- the facts of all columns

abbrev told : List KnownColumn → List ColumnStats → List ColumnStats
told [] stats = []
told (column ∷ columns) stats = by_option (pick column.id stats) (λ facts. facts ∷ told columns stats) (told columns stats)

-- what holds of each of the statistics holds of the one that is picked
picked_by : (P : ColumnStats → Bool) (id : ℤ) (other facts : ColumnStats) (found : Option ColumnStats) (b : Bool)
    → int_eq other.id id ≡ b → P other ≡ true → (found ≡ Some facts → (P facts ≡ true) × (int_eq facts.id id ≡ true))
    → cond b (Some other) found ≡ Some facts → (P facts ≡ true) × (int_eq facts.id id ≡ true)
picked_by P id other facts found true e h later is =
    let same : other ≡ facts = cc in
    (ap P (sym same) ∙ h, ap (λ (x : ColumnStats). int_eq x.id id) (sym same) ∙ e)
picked_by P id other facts found false e h later is = later is

picked : (P : ColumnStats → Bool) (id : ℤ) (stats : List ColumnStats) (facts : ColumnStats) → list_all P stats ≡ true
    → pick id stats ≡ Some facts → (P facts ≡ true) × (int_eq facts.id id ≡ true)
picked P id [] facts all is = absurd cc
picked P id (other ∷ others) facts all is = picked_by P id other facts (pick id others) (int_eq other.id id) refl (first (P other) (list_all P others) all) (λ h. picked P id others facts (second (P other) (list_all P others) all) h) is

step_none : (places : FilePlaces) (file : List Datum) (earlier : List ColumnStats) (column : KnownColumn)
    (columns : List KnownColumn) (facts : ColumnStats) → facts_of places file column ≡ facts → tells facts ≡ false
    → stats_from places file earlier (column ∷ columns) ≡ stats_from places file earlier columns
unfolding stats_from
step_none places file earlier column columns facts is h = ap (λ (x : ColumnStats). stats_from places file (cond (tells x) (earlier ++ x ∷ []) earlier) columns) is ∙ ap (λ (b : Bool). stats_from places file (cond b (earlier ++ facts ∷ []) earlier) columns) h

step_some : (places : FilePlaces) (file : List Datum) (earlier : List ColumnStats) (column : KnownColumn)
    (columns : List KnownColumn) (facts : ColumnStats) → facts_of places file column ≡ facts → tells facts ≡ true
    → stats_from places file earlier (column ∷ columns) ≡ stats_from places file (earlier ++ facts ∷ []) columns
unfolding stats_from
step_some places file earlier column columns facts is h = ap (λ (x : ColumnStats). stats_from places file (cond (tells x) (earlier ++ x ∷ []) earlier) columns) is ∙ ap (λ (b : Bool). stats_from places file (cond b (earlier ++ facts ∷ []) earlier) columns) h

-- what holds of statistics that are read
record AreReadable (known : List KnownColumn) (stats : List ColumnStats) : Type 0 where
  kinds : list_all (λ (column : KnownColumn). is_kind column.kind) known ≡ true
  counts : list_all has_counts stats ≡ true
  bounds : list_all (λ (column : KnownColumn). list_all (is_bounded column) stats) known ≡ true
  facts : list_all tells stats ≡ true

fewer : (column : KnownColumn) (known : List KnownColumn) (stats : List ColumnStats) → AreReadable (column ∷ known) stats → AreReadable known stats
fewer column known stats r = record { kinds = second (is_kind column.kind) _ r.kinds; counts = r.counts; bounds = second (list_all (is_bounded column) stats) _ r.bounds; facts = r.facts }

told_by : (places : FilePlaces) (file : List Datum) (stats earlier : List ColumnStats) (column : KnownColumn)
    (columns : List KnownColumn) (found : Option ColumnStats) → pick column.id stats ≡ found → HasFacts places file stats
    → AreReadable (column ∷ columns) stats → ((front : List ColumnStats)
    → stats_from places file front columns ≡ front ++ told columns stats)
    → stats_from places file earlier (column ∷ columns) ≡ earlier ++ by_option found (λ facts. facts ∷ told columns stats)
    (told columns stats)
told_by places file stats earlier column columns None is has readable later =
    step_none places file earlier column columns (read_of column None) (facts_read places file stats column has ∙ ap (read_of column) is) refl ∙ later earlier
told_by places file stats earlier column columns (Some facts) is has readable later =
    let counts = picked has_counts column.id stats facts readable.counts is in
    let bounds = picked (is_bounded column) column.id stats facts (first (list_all (is_bounded column) stats) _ readable.bounds) is in
    let tell = picked tells column.id stats facts readable.facts is in
    step_some places file earlier column columns facts (facts_read places file stats column has ∙ ap (read_of column) is ∙ read_facts column facts (first (is_kind column.kind) _ readable.kinds) counts.1 counts.0 bounds.0) tell.0
    ∙ later (earlier ++ facts ∷ []) ∙ append_assoc earlier (facts ∷ []) (told columns stats)

told_is : (places : FilePlaces) (file : List Datum) (stats earlier : List ColumnStats) (known : List KnownColumn)
    → HasFacts places file stats → AreReadable known stats → stats_from places file earlier known ≡ earlier ++ told known stats
unfolding stats_from
told_is places file stats earlier [] has readable = sym (append-nil earlier)
told_is places file stats earlier (column ∷ columns) has readable =
    told_by places file stats earlier column columns (pick column.id stats) refl has readable (λ front. told_is places file stats front columns has (fewer column columns stats readable))

-- ---- all of them

abbrev above_columns : ℤ → List KnownColumn → Bool
above_columns id known = list_all (λ other. int_lt id other.id) known

told_past : (facts : ColumnStats) (stats : List ColumnStats) (known : List KnownColumn) → above_columns facts.id known ≡ true
    → told known (facts ∷ stats) ≡ told known stats
told_past facts stats [] h = refl
told_past facts stats (column ∷ columns) h =
    let lt : int_lt facts.id column.id ≡ true = first (int_lt facts.id column.id) (above_columns facts.id columns) h in
    let other : int_eq facts.id column.id ≡ false = grind (arith, ints, nat_tests) in
    ap (λ (b : Bool). by_option (cond b (Some facts) (pick column.id stats)) (λ x. x ∷ told columns (facts ∷ stats)) (told columns (facts ∷ stats))) other
    ∙ ap (λ (xs : List ColumnStats). by_option (pick column.id stats) (λ x. x ∷ xs) xs) (told_past facts stats columns (second (int_lt facts.id column.id) (above_columns facts.id columns) h))

-- a known column is above what all of them are above
known_by : (id : ℤ) (column : KnownColumn) (facts : ColumnStats) (others b : Bool) → int_eq column.id facts.id ≡ b
    → int_lt id column.id ≡ true → (others ≡ true → int_lt id facts.id ≡ true) → (b || others) ≡ true → int_lt id facts.id ≡ true
known_by id column facts others true e lt later is = ap (int_lt id) (sym (same_number column.id facts.id e)) ∙ lt
known_by id column facts others false e lt later is = later is

known_above : (id : ℤ) (known : List KnownColumn) (facts : ColumnStats) → above_columns id known ≡ true
    → is_known known facts ≡ true → int_lt id facts.id ≡ true
known_above id [] facts h is = absurd cc
known_above id (column ∷ columns) facts h is = known_by id column facts (is_known columns facts) (int_eq column.id facts.id) refl (first (int_lt id column.id) (above_columns id columns) h) (λ more. known_above id columns facts (second (int_lt id column.id) (above_columns id columns) h) more) is

-- statistics above the first of the known columns are of the others
others_by : (column : KnownColumn) (facts : ColumnStats) (others b : Bool) → int_eq column.id facts.id ≡ b
    → int_lt column.id facts.id ≡ true → (b || others) ≡ true → others ≡ true
others_by column facts others true e lt h = absurd (let f : int_eq column.id facts.id ≡ false = grind (arith, ints, nat_tests) in cc)
others_by column facts others false e lt h = h

known_later : (column : KnownColumn) (columns : List KnownColumn) (stats : List ColumnStats) → above column.id stats ≡ true
    → list_all (is_known (column ∷ columns)) stats ≡ true → list_all (is_known columns) stats ≡ true
known_later column columns [] up h = refl
known_later column columns (facts ∷ others) up h =
    let known = others_by column facts (is_known columns facts) (int_eq column.id facts.id) refl (first (int_lt column.id facts.id) (above column.id others) up) (first (is_known (column ∷ columns) facts) (list_all (is_known (column ∷ columns)) others) h) in
    ap (λ (b : Bool). b && list_all (is_known columns) others) known ∙ known_later column columns others (second (int_lt column.id facts.id) (above column.id others) up) (second (is_known (column ∷ columns) facts) (list_all (is_known (column ∷ columns)) others) h)

above_next : (low high : ℤ) (stats : List ColumnStats) → int_lt low high ≡ true → above high stats ≡ true → above low stats ≡ true
above_next low high [] lt h = refl
above_next low high (facts ∷ others) lt h =
    ap (λ (b : Bool). b && above low others) (below_next low high facts.id lt (first (int_lt high facts.id) (above high others) h)) ∙ above_next low high others lt (second (int_lt high facts.id) (above high others) h)

-- a known column that isn't the first is above it
later_than : (column : KnownColumn) (columns : List KnownColumn) (facts : ColumnStats) → int_eq facts.id column.id ≡ false
    → above_columns column.id columns ≡ true → is_known (column ∷ columns) facts ≡ true → int_lt column.id facts.id ≡ true
later_than column columns facts e up known =
    let turned : int_eq column.id facts.id ≡ false = grind (arith, ints, nat_tests) in
    known_above column.id columns facts up (sym (ap (λ (b : Bool). b || is_known columns facts) turned) ∙ known)

told_step : (column : KnownColumn) (columns : List KnownColumn) (facts : ColumnStats) (others : List ColumnStats) (b : Bool)
    → int_eq facts.id column.id ≡ b → above_columns column.id columns ≡ true → rising columns ≡ true
    → rises (facts ∷ others) ≡ true → list_all (is_known (column ∷ columns)) (facts ∷ others) ≡ true
    → (list_all (is_known columns) others ≡ true → told columns others ≡ others) → (list_all (is_known columns) (facts ∷ others) ≡ true → told columns (facts ∷ others) ≡ facts ∷ others)
    → by_option (cond b (Some facts) (pick column.id others)) (λ x. x ∷ told columns (facts ∷ others)) (told columns (facts ∷ others)) ≡ facts ∷ others
told_step column columns facts others true e up rise_columns rise known fewer_both fewer_columns =
    let same : facts.id ≡ column.id = same_number facts.id column.id e in
    let up_facts : above_columns facts.id columns ≡ true = ap (λ (n : ℤ). above_columns n columns) same ∙ up in
    let up_others : above column.id others ≡ true = ap (λ (n : ℤ). above n others) (sym same) ∙ first (above facts.id others) (rises others) rise in
    ap (λ (xs : List ColumnStats). facts ∷ xs) (told_past facts others columns up_facts ∙ fewer_both (known_later column columns others up_others (second (is_known (column ∷ columns) facts) (list_all (is_known (column ∷ columns)) others) known)))
told_step column columns facts others false e up rise_columns rise known fewer_both fewer_columns =
    let later : int_lt column.id facts.id ≡ true = later_than column columns facts e up (first (is_known (column ∷ columns) facts) (list_all (is_known (column ∷ columns)) others) known) in
    let up_others : above column.id others ≡ true = above_next column.id facts.id others later (first (above facts.id others) (rises others) rise) in
    ap (λ (found : Option ColumnStats). by_option found (λ x. x ∷ told columns (facts ∷ others)) (told columns (facts ∷ others))) (pick_none column.id others up_others)
    ∙ fewer_columns (known_later column columns (facts ∷ others) (ap (λ (b : Bool). b && above column.id others) later ∙ up_others) known)

pub told_all : (known : List KnownColumn) (stats : List ColumnStats) → rising known ≡ true → rises stats ≡ true
    → list_all (is_known known) stats ≡ true → told known stats ≡ stats
told_all [] [] rise_known rise known = refl
told_all [] (facts ∷ others) rise_known rise known = absurd cc
told_all (column ∷ columns) [] rise_known rise known = told_all columns [] (second (above_columns column.id columns) (rising columns) rise_known) refl refl
told_all (column ∷ columns) (facts ∷ others) rise_known rise known =
    let columns_rise = second (above_columns column.id columns) (rising columns) rise_known in
    told_step column columns facts others (int_eq facts.id column.id) refl (first (above_columns column.id columns) (rising columns) rise_known) columns_rise rise known
    (λ h. told_all columns others columns_rise (second (above facts.id others) (rises others) rise) h) (λ h. told_all columns (facts ∷ others) columns_rise rise h)

-- statistics that can be written are read again
pub stats_again : (places : FilePlaces) (file : List Datum) (known : List KnownColumn) (stats : List ColumnStats)
    → HasFacts places file stats → list_all (λ (column : KnownColumn). is_kind column.kind) known ≡ true → rising known ≡ true
    → rises stats ≡ true → list_all tells stats ≡ true → are_told known stats ≡ true → stats_from places file [] known ≡ stats
stats_again places file known stats has kinds rise_known rise tell told_h =
    let rest = second (list_all has_counts stats) _ told_h in
    told_is places file stats [] known has (record { kinds = kinds; counts = first (list_all has_counts stats) _ told_h; bounds = second (list_all (is_known known) stats) _ rest; facts = tell })
    ∙ told_all known stats rise_known rise (first (list_all (is_known known) stats) _ rest)
