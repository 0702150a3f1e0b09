-- What an entry tells of a file's columns (Iceberg specification, "Manifests", `value_counts` to `upper_bounds`). Only
-- columns of the schema are kept, and the two columns of a position delete file ("Position Delete Files").
use Rattle.std.specs.Prelude.{ℕ, ◌+◌, ℤ, pos, Bool, true, false, ◌||◌, ◌&&◌, List, [], ◌∷◌, ◌++◌, insert, slice_get, Option, Some, None, is_some, option_and_then, if◌then◌else◌}
use Rattle.std.specs.Ordering.{int_eq}
use Rattle.std.specs.Prelude.{int_lt}
use Rattle.std.specs.List.{list_all, list_any}
use Rattle.plain_types.specs.Steps.{by_option}
use Rattle.row_values.specs.declared.kind.Kind.TheVariants as kind
use Rattle.row_values.specs.declared.value.Value.{Value}
use Rattle.row_values.specs.declared.schema.Column.{Column}
use Rattle.avro_binary.specs.declared.datum.Datum.{Datum}
use Rattle.avro_rows.specs.Rows.{values_of}
use Rattle.kind_values.specs.Bounds.{bound_of}
use Rattle.kind_values.specs.declared.stats.ColumnStats.{ColumnStats}
use Rattle.manifest_files.specs.declared.places.PairPlaces.{PairPlaces}
use Rattle.manifest_files.specs.declared.places.FilePlaces.{FilePlaces}
use Rattle.manifest_files.specs.declared.known_column.KnownColumn.{KnownColumn}
use Rattle.manifest_files.specs.Datums.{present, int_in, long_in, bytes_in, items_at, natural_of}

-- ---- columns

-- how many of the columns have lower ids, where they stand in rising order
unfoldable pub place_from : ℤ → ℕ → List KnownColumn → ℕ
place_from id place [] = place
place_from id place (column ∷ columns) = if int_lt column.id id then place_from id (place + 1) columns else place

abbrev pub stands_at : ℤ → ℕ → List KnownColumn → Bool
stands_at id place columns = by_option (slice_get columns place) (λ column. int_eq column.id id) false

-- Columns in strictly rising order of ids, with one more at its place; of two with one id the first counts.
abbrev pub with_column : KnownColumn → List KnownColumn → List KnownColumn
with_column column columns = if stands_at column.id (place_from column.id 0 columns) columns then columns else insert columns (place_from column.id 0 columns) column

unfoldable pub with_columns : List KnownColumn → List Column → List KnownColumn
with_columns known [] = known
with_columns known (column ∷ columns) = with_columns (with_column (record { id = column.id; kind = column.kind }) known) columns

-- the columns of a position delete file
abbrev pub path_column : KnownColumn
path_column = record { id = pos 2147483546; kind = kind.Text }

abbrev pub position_column : KnownColumn
position_column = record { id = pos 2147483545; kind = kind.Long }

-- the columns of which statistics are kept
abbrev pub known_columns : List Column → List KnownColumn
known_columns columns = with_column path_column (with_column position_column (with_columns [] columns))

-- ---- maps

abbrev pub key_in : PairPlaces → Datum → Option ℤ
key_in places pair = option_and_then int_in (present (values_of pair) places.key)

abbrev pub is_key : PairPlaces → ℤ → Datum → Bool
is_key places id pair = by_option (key_in places pair) (λ key. int_eq key id) false

-- a pair has a key and a value
abbrev pub is_pair : PairPlaces → Datum → Bool
is_pair places pair = is_some (key_in places pair) && is_some (present (values_of pair) places.value)

abbrev pub are_pairs : PairPlaces → List Datum → Bool
are_pairs places items = list_all (is_pair places) items

abbrev pub any_key : PairPlaces → ℤ → List Datum → Bool
any_key places key items = list_any (is_key places key) items

abbrev pub has_key : PairPlaces → Option ℤ → List Datum → Bool
has_key places None items = false
has_key places (Some key) items = any_key places key items

unfoldable pub has_twice : PairPlaces → List Datum → Bool
has_twice places [] = false
has_twice places (pair ∷ items) = if has_key places (key_in places pair) items then true else has_twice places items

-- the value of the first pair with the key
unfoldable pub value_under : PairPlaces → ℤ → List Datum → Option Datum
value_under places id [] = None
value_under places id (pair ∷ items) = if is_key places id pair then present (values_of pair) places.value else value_under places id items

-- ---- facts

abbrev pub count_of : PairPlaces → KnownColumn → List Datum → Option ℕ
count_of places column file = option_and_then natural_of (option_and_then long_in (value_under places column.id (items_at file places.place)))

abbrev pub bound_in : PairPlaces → KnownColumn → List Datum → Option Value
bound_in places column file = option_and_then (bound_of column.kind) (option_and_then bytes_in (value_under places column.id (items_at file places.place)))

-- what a file's record tells of a column
abbrev pub facts_of : FilePlaces → List Datum → KnownColumn → ColumnStats
facts_of places file column = record { id = column.id; values = count_of places.values column file; nulls = count_of places.nulls column file; lower = bound_in places.lower column file; upper = bound_in places.upper column file }

abbrev pub tells : ColumnStats → Bool
tells facts = is_some facts.values || is_some facts.nulls || is_some facts.lower || is_some facts.upper

-- what it tells of these columns, behind what is read; columns of which it tells nothing are left out
unfoldable pub stats_from : FilePlaces → List Datum → List ColumnStats → List KnownColumn → List ColumnStats
stats_from places file earlier [] = earlier
stats_from places file earlier (column ∷ columns) = stats_from places file (if tells (facts_of places file column) then earlier ++ facts_of places file column ∷ [] else earlier) columns
