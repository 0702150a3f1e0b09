-- Statistics fit their type.
use Rattle.std.proofs.Common.{◌≡◌, ℕ, ◌^◌, ◌<◌, ℤ, pos, List, [], ◌∷◌, ◌++◌, Bool, true, false, nat_lt, Option, Some, None, refl, arith}
use Rattle.std.specs.Prelude.{◌-◌, if◌then◌else◌}
use Rattle.std.specs.List.{AllByRecursion}
use Rattle.std.proofs.lemmas.Bool.{ltb-true}
use Rattle.row_values.specs.declared.value.Value.{Value}
use Rattle.kind_values.specs.declared.stats.ColumnStats.{ColumnStats}
use Rattle.kind_values.specs.Bounds.{bytes_of}
use Rattle.avro_binary.specs.declared.datum.Datum.{Datum}
use Rattle.avro_binary.specs.declared.datum.Datum.TheVariants as datum
use Rattle.avro_binary.specs.Shape.{Shape, int_shape, long_shape, bytes_shape, record_shape, array_shape, no_shapes, more_shapes}
use Rattle.avro_binary.specs.Spelling.{IsSignedOf, Fits}
use Rattle.manifest_writer.specs.declared.fact.Fact.{Fact}
use Rattle.manifest_writer.specs.declared.fact.Fact.TheVariants as fact
use Rattle.manifest_writer.specs.Facts.{count_datum, bound_datum, fact_datum, pair, pairs_of, map_value, fact_value, HasIds}
use Rattle.row_writer.proofs.CallerLemmas.{option_shape, int_fits, long_fits, bytes_fits, none_fits, some_fits, no_field, more_fields, record_fits, array_fits}

pub count_by : (b : Bool) (n : ℕ) → nat_lt n (2 ^ 63) ≡ b → Fits long_shape (datum.Long (if b then pos n else pos (2 ^ 63 - 1)))
count_by true n h = let lt : n < 2 ^ 63 = ltb-true n (2 ^ 63) h in long_fits (pos n) lt
count_by false n h = long_fits (pos (2 ^ 63 - 1)) (omega arith)

abbrev pub fact_shape : Fact → Shape
fact_shape fact.Values = long_shape
fact_shape fact.Nulls = long_shape
fact_shape fact.Lower = bytes_shape
fact_shape fact.Upper = bytes_shape

abbrev pub pair_shape : Shape → Shape
pair_shape s = record_shape (more_shapes int_shape (more_shapes s no_shapes))

-- what is there fits the shape
abbrev FitsIfThere : Shape → Option Datum → Type 0
FitsIfThere s None = Unit {0}
FitsIfThere s (Some d) = Fits s d

count_fits : (count : Option ℕ) → FitsIfThere long_shape (count_datum count)
count_fits None = tt
count_fits (Some n) = count_by (nat_lt n (2 ^ 63)) n refl

bound_fits : (bound : Option Value) → FitsIfThere bytes_shape (bound_datum bound)
bound_fits None = tt
bound_fits (Some v) = bytes_fits (bytes_of v)

fact_fits : (f : Fact) (facts : ColumnStats) → FitsIfThere (fact_shape f) (fact_datum f facts)
fact_fits fact.Values facts = count_fits facts.values
fact_fits fact.Nulls facts = count_fits facts.nulls
fact_fits fact.Lower facts = bound_fits facts.lower
fact_fits fact.Upper facts = bound_fits facts.upper

pair_fits : (s : Shape) (id : ℤ) (d : Datum) → IsSignedOf 31 id → Fits s d → Fits (pair_shape s) (pair id d)
pair_fits s id d range fits = record_fits _ _ (more_fields _ _ _ _ (int_fits id range) (more_fields _ _ _ _ fits no_field))

pairs_by : (s : Shape) (id : ℤ) (d : Option Datum) (others : List Datum) → IsSignedOf 31 id → FitsIfThere s d
    → AllByRecursion (Fits (pair_shape s)) others → AllByRecursion (Fits (pair_shape s))
    (Rattle.plain_types.specs.Steps.by_option d (λ x. pair id x ∷ []) [] ++ others)
pairs_by s id None others range fits all = all
pairs_by s id (Some d) others range fits all = (pair_fits s id d range fits, all)

pairs_fit : (f : Fact) (stats : List ColumnStats) → HasIds stats → AllByRecursion (Fits (pair_shape (fact_shape f))) (pairs_of f stats)
pairs_fit f [] h = tt
pairs_fit f (facts ∷ others) (range, ranges) = pairs_by (fact_shape f) facts.id (fact_datum f facts) (pairs_of f others) range (fact_fits f facts) (pairs_fit f others ranges)

map_fits : (s : Shape) (pairs : List Datum) → AllByRecursion (Fits s) pairs → Fits (option_shape (array_shape s)) (map_value pairs)
map_fits s [] h = none_fits (array_shape s)
map_fits s (p ∷ ps) h = some_fits (array_shape s) (datum.Array (p ∷ ps)) (array_fits s (p ∷ ps) h)

pub fact_value_fits : (f : Fact) (stats : List ColumnStats) → HasIds stats → Fits (option_shape (array_shape (pair_shape (fact_shape f)))) (fact_value f stats)
fact_value_fits f stats h = map_fits (pair_shape (fact_shape f)) (pairs_of f stats) (pairs_fit f stats h)
