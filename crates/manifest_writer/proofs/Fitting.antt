-- Datums that are of some shape, and what stands in them.
use Rattle.std.proofs.Common.{◌≡◌, ◌<◌, ◌^◌, ℕ, zero, suc, ℤ, pos, negsuc, Bool, true, false, List, [], ◌∷◌, ◌++◌, Option, Some, None, option_and_then, refl, sym, ap, subst, ◌∙◌}
use Rattle.std.specs.Prelude.{⊤, if◌then◌else◌, slice_get}
use Rattle.std.specs.List.{AllByRecursion}
use Rattle.plain_types.specs.Steps.{by_option}
use Rattle.avro_binary.specs.declared.datum.Datum.{Datum, out-Datum}
use Rattle.avro_binary.specs.declared.datum.Datum.TheOpen as open_datum
use Rattle.avro_binary.specs.declared.datum.Datum.TheVariants as datum
use Rattle.avro_binary.specs.declared.datum.Datum.TheViews.{out-roll-Datum}
use Rattle.avro_binary.specs.declared.datum.MapPair.{MapPair}
use Rattle.avro_binary.specs.Shape.{Shape, Shapes, null_shape, boolean_shape, int_shape, long_shape, bytes_shape, text_shape, record_shape, enum_shape, array_shape, map_shape, union_shape, fixed_shape, no_shapes, more_shapes}
use Rattle.avro_binary.specs.Spelling.{Fits, FitsBranch, FitsFields, IsSignedOf}
use Rattle.avro_rows.specs.DatumValue.{inside, inside_level, is_null_datum}
use Rattle.avro_rows.specs.Rows.{values_level, values_of}
use Rattle.row_writer.proofs.CallerLemmas.{array_out, boolean_out, bytes_out, fixed_out, int_out, long_out, null_out, record_out, text_out, union_out}
use Rattle.manifest_files.specs.Datums.{items_at, items_level, long_in, long_level, natural_of, present, present_at, present_in}

-- a datum of some shape
abbrev pub Fitting : Datum → Type 0
Fitting d = (s : Shape) × Fits s d

abbrev pub AreFitting : List Datum → Type 0
AreFitting ds = AllByRecursion Fitting ds

-- one that is there
abbrev pub IsFitting : Option Datum → Type 0
IsFitting None = ⊤
IsFitting (Some d) = Fitting d

-- ---- one level

enum_out : (index : ℕ) → out-Datum (datum.Enum index) ≡ open_datum.Enum index
enum_out index = ap out-Datum (sym (datum.rolls-Enum index)) ∙ out-roll-Datum (open_datum.Enum index)

map_out : (pairs : List MapPair) → out-Datum (datum.Map pairs) ≡ open_datum.Map pairs
map_out pairs = ap out-Datum (sym (datum.rolls-Map pairs)) ∙ out-roll-Datum (open_datum.Map pairs)

-- what stands in it is of some shape, and a long has 64 bits
abbrev IsGood : open_datum.Datum-F Datum MapPair → Type 0
IsGood (open_datum.Long n) = IsSignedOf 63 n
IsGood (open_datum.Record values) = AreFitting values
IsGood (open_datum.Array values) = AreFitting values
IsGood (open_datum.Union branch value) = Fitting value
IsGood open_datum.Null = ⊤
IsGood (open_datum.Boolean b) = ⊤
IsGood (open_datum.Int n) = ⊤
IsGood (open_datum.Bytes bytes) = ⊤
IsGood (open_datum.Text bytes) = ⊤
IsGood (open_datum.Enum index) = ⊤
IsGood (open_datum.Map pairs) = ⊤
IsGood (open_datum.Fixed bytes) = ⊤

fields_fit : (fields : Shapes) (values : List Datum) → FitsFields fields values → AreFitting values
unfolding Fits FitsFields
fields_fit no_shapes values h = subst AreFitting (sym h) tt
fields_fit (more_shapes s ss) values (value, others, own, rest, is) = subst AreFitting (sym is) ((s, own), fields_fit ss others rest)

branch_fits : (branches : Shapes) (index : ℕ) (value : Datum) → FitsBranch branches index value → Fitting value
unfolding Fits FitsBranch
branch_fits no_shapes index value h = absurd h
branch_fits (more_shapes s ss) zero value h = (s, h)
branch_fits (more_shapes s ss) (suc index) value h = branch_fits ss index value h

each_fits : (items : Shape) (values : List Datum) → AllByRecursion (Fits items) values → AreFitting values
each_fits items [] h = tt
each_fits items (value ∷ values) h = ((items, h.0), each_fits items values h.1)

good_as : (d other : Datum) (o : open_datum.Datum-F Datum MapPair) → d ≡ other → out-Datum other ≡ o → IsGood o → IsGood (out-Datum d)
good_as d other o is out good = subst IsGood (sym (ap out-Datum is ∙ out)) good

good_by : (s : Shape) (d : Datum) → Fits s d → IsGood (out-Datum d)
unfolding Fits
good_by null_shape d h = good_as d datum.Null open_datum.Null h null_out tt
good_by boolean_shape d (b, is) = good_as d (datum.Boolean b) (open_datum.Boolean b) is (boolean_out b) tt
good_by int_shape d (n, fits, is) = good_as d (datum.Int n) (open_datum.Int n) is (int_out n) tt
good_by long_shape d (n, fits, is) = good_as d (datum.Long n) (open_datum.Long n) is (long_out n) fits
good_by bytes_shape d (bytes, is) = good_as d (datum.Bytes bytes) (open_datum.Bytes bytes) is (bytes_out bytes) tt
good_by text_shape d (bytes, utf8, is) = good_as d (datum.Text bytes) (open_datum.Text bytes) is (text_out bytes) tt
good_by (record_shape fields) d (values, fits, is) = good_as d (datum.Record values) (open_datum.Record values) is (record_out values) (fields_fit fields values fits)
good_by (enum_shape count) d (index, few, small, is) = good_as d (datum.Enum index) (open_datum.Enum index) is (enum_out index) tt
good_by (array_shape items) d (values, fits, is) = good_as d (datum.Array values) (open_datum.Array values) is (array_out values) (each_fits items values fits)
good_by (map_shape values) d (pairs, fits, is) = good_as d (datum.Map pairs) (open_datum.Map pairs) is (map_out pairs) tt
good_by (union_shape branches) d (branch, value, small, fits, is) = good_as d (datum.Union branch value) (open_datum.Union branch value) is (union_out branch value) (branch_fits branches branch value fits)
good_by (fixed_shape size) d (bytes, sized, is) = good_as d (datum.Fixed bytes) (open_datum.Fixed bytes) is (fixed_out bytes) tt

-- ---- what stands in it

values_good : (o : open_datum.Datum-F Datum MapPair) → IsGood o → AreFitting (values_level o)
values_good open_datum.Null h = tt
values_good (open_datum.Boolean b) h = tt
values_good (open_datum.Int n) h = tt
values_good (open_datum.Long n) h = tt
values_good (open_datum.Bytes bytes) h = tt
values_good (open_datum.Text bytes) h = tt
values_good (open_datum.Record values) h = h
values_good (open_datum.Enum index) h = tt
values_good (open_datum.Array values) h = tt
values_good (open_datum.Map pairs) h = tt
values_good (open_datum.Union branch value) h = tt
values_good (open_datum.Fixed bytes) h = tt

pub values_fit : (d : Datum) → Fitting d → AreFitting (values_of d)
values_fit d (s, h) = values_good (out-Datum d) (good_by s d h)

inside_good : (d : Datum) (o : open_datum.Datum-F Datum MapPair) → Fitting d → IsGood o → Fitting (inside_level d o)
inside_good d open_datum.Null own h = own
inside_good d (open_datum.Boolean b) own h = own
inside_good d (open_datum.Int n) own h = own
inside_good d (open_datum.Long n) own h = own
inside_good d (open_datum.Bytes bytes) own h = own
inside_good d (open_datum.Text bytes) own h = own
inside_good d (open_datum.Record values) own h = own
inside_good d (open_datum.Enum index) own h = own
inside_good d (open_datum.Array values) own h = own
inside_good d (open_datum.Map pairs) own h = own
inside_good d (open_datum.Union branch value) own h = h
inside_good d (open_datum.Fixed bytes) own h = own

pub inside_fits : (d : Datum) → Fitting d → Fitting (inside d)
inside_fits d (s, h) = inside_good d (out-Datum d) (s, h) (good_by s d h)

items_good : (o : open_datum.Datum-F Datum MapPair) → IsGood o → AreFitting (items_level o)
items_good open_datum.Null h = tt
items_good (open_datum.Boolean b) h = tt
items_good (open_datum.Int n) h = tt
items_good (open_datum.Long n) h = tt
items_good (open_datum.Bytes bytes) h = tt
items_good (open_datum.Text bytes) h = tt
items_good (open_datum.Record values) h = tt
items_good (open_datum.Enum index) h = tt
items_good (open_datum.Array values) h = h
items_good (open_datum.Map pairs) h = tt
items_good (open_datum.Union branch value) h = tt
items_good (open_datum.Fixed bytes) h = tt

abbrev IsShort : Option ℤ → Type 0
IsShort None = ⊤
IsShort (Some n) = IsSignedOf 63 n

long_good : (o : open_datum.Datum-F Datum MapPair) → IsGood o → IsShort (long_level o)
long_good open_datum.Null h = tt
long_good (open_datum.Boolean b) h = tt
long_good (open_datum.Int n) h = tt
long_good (open_datum.Long n) h = h
long_good (open_datum.Bytes bytes) h = tt
long_good (open_datum.Text bytes) h = tt
long_good (open_datum.Record values) h = tt
long_good (open_datum.Enum index) h = tt
long_good (open_datum.Array values) h = tt
long_good (open_datum.Map pairs) h = tt
long_good (open_datum.Union branch value) h = tt
long_good (open_datum.Fixed bytes) h = tt

-- ---- what is present

inside_or_none : (b : Bool) (d : Datum) → Fitting d → IsFitting (if b then None else Some (inside d))
inside_or_none true d h = tt
inside_or_none false d h = inside_fits d h

present_in_fits : (d : Datum) → Fitting d → IsFitting (present_in d)
present_in_fits d h = inside_or_none (is_null_datum (out-Datum (inside d))) d h

found_fits : (values : List Datum) (place : ℕ) → AreFitting values → IsFitting (slice_get values place)
found_fits [] place h = tt
found_fits (value ∷ values) zero h = h.0
found_fits (value ∷ values) (suc place) h = found_fits values place h.1

present_by : (o : Option Datum) → IsFitting o → IsFitting (option_and_then present_in o)
present_by None h = tt
present_by (Some d) h = present_in_fits d h

pub present_fits : (values : List Datum) (place : ℕ) → AreFitting values → IsFitting (present values place)
present_fits values place h = present_by (slice_get values place) (found_fits values place h)

pub present_at_fits : (values : List Datum) (place : Option ℕ) → AreFitting values → IsFitting (present_at values place)
present_at_fits values None h = tt
present_at_fits values (Some place) h = present_fits values place h

items_under : (o : Option Datum) → IsFitting o → AreFitting (by_option o (λ d. items_level (out-Datum d)) [])
items_under None h = tt
items_under (Some d) h = items_good (out-Datum d) (good_by h.0 d h.1)

pub items_fit : (values : List Datum) (place : Option ℕ) → AreFitting values → AreFitting (items_at values place)
items_fit values place h = items_under (present_at values place) (present_at_fits values place h)

-- ---- a count

natural_by : (o : Option ℤ) (n : ℕ) → IsShort o → option_and_then natural_of o ≡ Some n → n < 2 ^ 63
natural_by None n h e = absurd cc
natural_by (Some (pos m)) n h e =
    let same : m ≡ n = cc in
    subst (λ k. k < 2 ^ 63) same h
natural_by (Some (negsuc m)) n h e = absurd cc

pub count_fits : (o : Option Datum) (n : ℕ) → IsFitting o → option_and_then natural_of (option_and_then long_in o) ≡ Some n → n < 2 ^ 63
count_fits None n h e = absurd cc
count_fits (Some d) n h e = natural_by (long_in d) n (long_good (out-Datum d) (good_by h.0 d h.1)) e
