-- Statistics stand in strictly rising order of ids, and each tells something.
use Rattle.std.proofs.Common.{◌≡◌, ℕ, suc, ◌+◌, ℤ, ◌&&◌, Bool, true, false, cond, List, [], ◌∷◌, ◌++◌, refl, sym, ap, ◌∙◌, append_assoc, arith}
use Rattle.std.specs.Prelude.{int_lt, insert}
use Rattle.std.specs.Ordering.{int_eq}
use Rattle.std.specs.List.{list_all}
use Rattle.std.proofs.lemmas.List.{append-nil}
use Rattle.std.proofs.lemmas.Int.{ints}
use Rattle.std.proofs.lemmas.Bool.Decides.{nat_tests}
use Rattle.row_values.specs.declared.schema.Column.{Column}
use Rattle.avro_binary.specs.declared.datum.Datum.{Datum}
use Rattle.kind_values.specs.declared.stats.ColumnStats.{ColumnStats}
use Rattle.manifest_files.specs.declared.known_column.KnownColumn.{KnownColumn}
use Rattle.manifest_files.specs.declared.places.FilePlaces.{FilePlaces}
use Rattle.manifest_files.specs.Statistics.{place_from, stands_at, with_column, with_columns, path_column, position_column, known_columns, facts_of, tells, stats_from}
use Rattle.manifest_files.specs.Sound.{rises}

pub both : (a b : Bool) → a ≡ true → b ≡ true → (a && b) ≡ true
both true b h k = k
both false b h k = absurd cc

first_holds : (a b : Bool) → (a && b) ≡ true → a ≡ true
first_holds true b h = refl
first_holds false b h = h

rest_holds : (a b : Bool) → (a && b) ≡ true → b ≡ true
rest_holds true b h = h
rest_holds false b h = absurd cc

-- ---- numbers

below_next : (a b c : ℤ) → int_lt a b ≡ true → int_lt b c ≡ true → int_lt a c ≡ true
below_next a b c h k = grind (arith, ints, nat_tests)

other_below : (a b : ℤ) → int_lt a b ≡ false → int_eq a b ≡ false → int_lt b a ≡ true
other_below a b h k = grind (arith, ints, nat_tests)

-- ---- columns in rising order

abbrev pub rising : List KnownColumn → Bool
rising [] = true
rising (column ∷ columns) = list_all (λ other. int_lt column.id other.id) columns && rising columns

-- a column at its place among columns in rising order
abbrev pub placed : KnownColumn → List KnownColumn → List KnownColumn
placed column [] = column ∷ []
placed column (first ∷ columns) = cond (int_lt first.id column.id) (first ∷ placed column columns) (cond (int_eq first.id column.id) (first ∷ columns) (column ∷ first ∷ columns))

shift_by : (n : ℕ) (b : Bool) (p q : ℕ) → p ≡ suc q → cond b p (n + 1) ≡ suc (cond b q n)
shift_by n true p q h = h
shift_by n false p q h = omega arith

place_shift : (id : ℤ) (n : ℕ) (columns : List KnownColumn) → place_from id (n + 1) columns ≡ suc (place_from id n columns)
unfolding place_from
place_shift id n [] = omega arith
place_shift id n (column ∷ columns) = shift_by n (int_lt column.id id) (place_from id (n + 1 + 1) columns) (place_from id (n + 1) columns) (place_shift id (n + 1) columns)

cons_by : (b : Bool) (first : KnownColumn) (xs ys : List KnownColumn) → cond b (first ∷ xs) (first ∷ ys) ≡ first ∷ cond b xs ys
cons_by true first xs ys = refl
cons_by false first xs ys = refl

step_by : (column first : KnownColumn) (columns rest : List KnownColumn) (b : Bool) (p q : ℕ) → p ≡ suc q
    → cond (stands_at column.id q columns) columns (insert columns q column) ≡ rest
    → cond (stands_at column.id (cond b p 0) (first ∷ columns)) (first ∷ columns)
    (insert (first ∷ columns) (cond b p 0) column) ≡ cond b (first ∷ rest)
    (cond (int_eq first.id column.id) (first ∷ columns) (column ∷ first ∷ columns))
step_by column first columns rest true p q h k = rw h (cons_by (stands_at column.id q columns) first columns (insert columns q column) ∙ ap (λ (xs : List KnownColumn). first ∷ xs) k)
step_by column first columns rest false p q h k = refl

pub with_is_placed : (column : KnownColumn) (columns : List KnownColumn) → with_column column columns ≡ placed column columns
unfolding place_from
with_is_placed column [] = refl
with_is_placed column (first ∷ columns) = step_by column first columns (placed column columns) (int_lt first.id column.id) (place_from column.id 1 columns) (place_from column.id 0 columns) (place_shift column.id 0 columns) (with_is_placed column columns)

above_by : (id : ℤ) (column first : KnownColumn) (columns rest : List KnownColumn) (a b : Bool) → int_lt id column.id ≡ true
    → list_all (λ other. int_lt id other.id) (first ∷ columns) ≡ true → list_all (λ other. int_lt id other.id) rest ≡ true
    → list_all (λ other. int_lt id other.id) (cond a (first ∷ rest) (cond b (first ∷ columns) (column ∷ first ∷ columns))) ≡ true
above_by id column first columns rest true b low all more = both (int_lt id first.id) (list_all (λ other. int_lt id other.id) rest) (first_holds (int_lt id first.id) (list_all (λ other. int_lt id other.id) columns) all) more
above_by id column first columns rest false true low all more = all
above_by id column first columns rest false false low all more = both (int_lt id column.id) (list_all (λ other. int_lt id other.id) (first ∷ columns)) low all

above_placed : (id : ℤ) (column : KnownColumn) (columns : List KnownColumn) → int_lt id column.id ≡ true
    → list_all (λ other. int_lt id other.id) columns ≡ true
    → list_all (λ other. int_lt id other.id) (placed column columns) ≡ true
above_placed id column [] low all = both (int_lt id column.id) true low refl
above_placed id column (first ∷ columns) low all = above_by id column first columns (placed column columns) (int_lt first.id column.id) (int_eq first.id column.id) low all (above_placed id column columns low (rest_holds (int_lt id first.id) (list_all (λ other. int_lt id other.id) columns) all))

above_lower : (low high : ℤ) (columns : List KnownColumn) → int_lt low high ≡ true
    → list_all (λ other. int_lt high other.id) columns ≡ true → list_all (λ other. int_lt low other.id) columns ≡ true
above_lower low high [] lt all = refl
above_lower low high (first ∷ columns) lt all = both (int_lt low first.id) (list_all (λ other. int_lt low other.id) columns)
    (below_next low high first.id lt (first_holds (int_lt high first.id) (list_all (λ other. int_lt high other.id) columns) all))
    (above_lower low high columns lt (rest_holds (int_lt high first.id) (list_all (λ other. int_lt high other.id) columns) all))

rising_by : (column first : KnownColumn) (columns : List KnownColumn) (a b : Bool) → int_lt first.id column.id ≡ a
    → int_eq first.id column.id ≡ b → rising (first ∷ columns) ≡ true → rising (placed column columns) ≡ true
    → rising (cond a (first ∷ placed column columns) (cond b (first ∷ columns) (column ∷ first ∷ columns))) ≡ true
rising_by column first columns true b lt eq up more = both (list_all (λ other. int_lt first.id other.id) (placed column columns)) (rising (placed column columns)) (above_placed first.id column columns lt (first_holds (list_all (λ other. int_lt first.id other.id) columns) (rising columns) up)) more
rising_by column first columns false true lt eq up more = up
rising_by column first columns false false lt eq up more =
    let low = other_below first.id column.id lt eq in
    let all = above_lower column.id first.id columns low (first_holds (list_all (λ other. int_lt first.id other.id) columns) (rising columns) up) in
    both (int_lt column.id first.id && list_all (λ other. int_lt column.id other.id) columns) (rising (first ∷ columns)) (both (int_lt column.id first.id) (list_all (λ other. int_lt column.id other.id) columns) low all) up

rising_placed : (column : KnownColumn) (columns : List KnownColumn) → rising columns ≡ true → rising (placed column columns) ≡ true
rising_placed column [] up = refl
rising_placed column (first ∷ columns) up = rising_by column first columns (int_lt first.id column.id) (int_eq first.id column.id) refl refl up (rising_placed column columns (rest_holds (list_all (λ other. int_lt first.id other.id) columns) (rising columns) up))

rising_with : (column : KnownColumn) (columns : List KnownColumn) → rising columns ≡ true → rising (with_column column columns) ≡ true
rising_with column columns up = ap rising (with_is_placed column columns) ∙ rising_placed column columns up

rising_columns : (known : List KnownColumn) (columns : List Column) → rising known ≡ true → rising (with_columns known columns) ≡ true
unfolding with_columns
rising_columns known [] up = up
rising_columns known (column ∷ columns) up = rising_columns (with_column (record { id = column.id; kind = column.kind }) known) columns (rising_with (record { id = column.id; kind = column.kind }) known up)

-- the columns of which statistics are kept stand in rising order
pub IsRising : List KnownColumn → Type 0
IsRising columns = rising columns ≡ true

pub known_rise : (columns : List Column) → IsRising (known_columns columns)
unfolding IsRising
known_rise columns = rising_with path_column (with_column position_column (with_columns [] columns)) (rising_with position_column (with_columns [] columns) (rising_columns [] columns refl))

pub known_rising : (columns : List Column) → rising (known_columns columns) ≡ true
unfolding IsRising
known_rising columns = known_rise columns

-- ---- statistics

split_by : (places : FilePlaces) (file : List Datum) (facts : ColumnStats) (earlier : List ColumnStats)
    (columns : List KnownColumn) (b : Bool) → ((front : List ColumnStats)
    → stats_from places file front columns ≡ front ++ stats_from places file [] columns)
    → stats_from places file (cond b (earlier ++ facts ∷ []) earlier) columns ≡ earlier ++ stats_from places file (cond b ([] ++ facts ∷ [])
    []) columns
split_by places file facts earlier columns true split = split (earlier ++ facts ∷ []) ∙ append_assoc earlier (facts ∷ []) (stats_from places file [] columns) ∙ ap (λ (xs : List ColumnStats). earlier ++ xs) (sym (split (facts ∷ [])))
split_by places file facts earlier columns false split = split earlier

stats_split : (places : FilePlaces) (file : List Datum) (earlier : List ColumnStats) (columns : List KnownColumn)
    → stats_from places file earlier columns ≡ earlier ++ stats_from places file [] columns
unfolding stats_from
stats_split places file earlier [] = sym (append-nil earlier)
stats_split places file earlier (column ∷ columns) = split_by places file (facts_of places file column) earlier columns (tells (facts_of places file column)) (λ front. stats_split places file front columns)

-- the statistics of one column more
front_by : (places : FilePlaces) (file : List Datum) (facts : ColumnStats) (columns : List KnownColumn) (b : Bool)
    → stats_from places file (cond b ([] ++ facts ∷ []) []) columns ≡ cond b (facts ∷ stats_from places file [] columns)
    (stats_from places file [] columns)
front_by places file facts columns true = stats_split places file (facts ∷ []) columns
front_by places file facts columns false = refl

front : (places : FilePlaces) (file : List Datum) (column : KnownColumn) (columns : List KnownColumn)
    → stats_from places file [] (column ∷ columns) ≡ cond (tells (facts_of places file column))
    (facts_of places file column ∷ stats_from places file [] columns) (stats_from places file [] columns)
unfolding stats_from
front places file column columns = front_by places file (facts_of places file column) columns (tells (facts_of places file column))

stats_above_by : (id : ℤ) (facts : ColumnStats) (others : List ColumnStats) (b : Bool) → int_lt id facts.id ≡ true
    → list_all (λ other. int_lt id other.id) others ≡ true
    → list_all (λ other. int_lt id other.id) (cond b (facts ∷ others) others) ≡ true
stats_above_by id facts others true low all = both (int_lt id facts.id) (list_all (λ other. int_lt id other.id) others) low all
stats_above_by id facts others false low all = all

stats_above : (places : FilePlaces) (file : List Datum) (id : ℤ) (columns : List KnownColumn)
    → list_all (λ other. int_lt id other.id) columns ≡ true
    → list_all (λ other. int_lt id other.id) (stats_from places file [] columns) ≡ true
unfolding stats_from
stats_above places file id [] all = refl
stats_above places file id (column ∷ columns) all = ap (list_all (λ (other : ColumnStats). int_lt id other.id)) (front places file column columns)
    ∙ stats_above_by id (facts_of places file column) (stats_from places file [] columns) (tells (facts_of places file column))
    (first_holds (int_lt id column.id) (list_all (λ other. int_lt id other.id) columns) all)
    (stats_above places file id columns (rest_holds (int_lt id column.id) (list_all (λ other. int_lt id other.id) columns) all))

rise_by : (facts : ColumnStats) (others : List ColumnStats) (b : Bool)
    → list_all (λ other. int_lt facts.id other.id) others ≡ true → rises others ≡ true
    → rises (cond b (facts ∷ others) others) ≡ true
rise_by facts others true all up = both (list_all (λ other. int_lt facts.id other.id) others) (rises others) all up
rise_by facts others false all up = up

stats_up : (places : FilePlaces) (file : List Datum) (columns : List KnownColumn) → rising columns ≡ true → rises (stats_from places file [] columns) ≡ true
unfolding stats_from
stats_up places file [] up = refl
stats_up places file (column ∷ columns) up = ap rises (front places file column columns)
    ∙ rise_by (facts_of places file column) (stats_from places file [] columns) (tells (facts_of places file column))
    (stats_above places file column.id columns (first_holds (list_all (λ other. int_lt column.id other.id) columns) (rising columns) up))
    (stats_up places file columns (rest_holds (list_all (λ other. int_lt column.id other.id) columns) (rising columns) up))

pub stats_rise : (places : FilePlaces) (file : List Datum) (columns : List KnownColumn) → IsRising columns → rises (stats_from places file [] columns) ≡ true
unfolding IsRising
stats_rise places file columns up = stats_up places file columns up

tell_by : (facts : ColumnStats) (others : List ColumnStats) (b : Bool) → tells facts ≡ b → list_all tells others ≡ true
    → list_all tells (cond b (facts ∷ others) others) ≡ true
tell_by facts others true told all = both (tells facts) (list_all tells others) told all
tell_by facts others false told all = all

pub stats_tell : (places : FilePlaces) (file : List Datum) (columns : List KnownColumn) → list_all tells (stats_from places file [] columns) ≡ true
unfolding stats_from
stats_tell places file [] = refl
stats_tell places file (column ∷ columns) = ap (list_all tells) (front places file column columns) ∙ tell_by (facts_of places file column) (stats_from places file [] columns) (tells (facts_of places file column)) refl (stats_tell places file columns)
