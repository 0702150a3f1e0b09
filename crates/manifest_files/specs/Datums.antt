-- The value at a place of a record. A place that is nowhere and a null alike have none.
use Rattle.std.specs.Prelude.{ℕ, ℤ, pos, negsuc, Bool, List, [], Option, Some, None, slice_get, option_and_then, if◌then◌else◌}
use Rattle.std.specs.Str.{is_utf8}
use Rattle.plain_types.specs.Steps.{by_option}
use Rattle.avro_binary.specs.declared.datum.Datum.{Datum, out-Datum}
use Rattle.avro_binary.specs.declared.datum.MapPair.{MapPair}
use Rattle.avro_binary.specs.declared.datum.Datum.TheOpen as open_datum
use Rattle.avro_rows.specs.DatumValue.{inside, is_null_datum}

-- the datum in its union, unless it is null
abbrev pub present_in : Datum → Option Datum
present_in datum = if is_null_datum (out-Datum (inside datum)) then None else Some (inside datum)

abbrev pub present : List Datum → ℕ → Option Datum
present values place = option_and_then present_in (slice_get values place)

abbrev pub present_at : List Datum → Option ℕ → Option Datum
present_at values place = option_and_then (present values) place

abbrev pub int_level : open_datum.Datum-F Datum MapPair → Option ℤ
int_level (open_datum.Int n) = Some n
int_level _ = None

abbrev pub int_in : Datum → Option ℤ
int_in datum = int_level (out-Datum datum)

abbrev pub long_level : open_datum.Datum-F Datum MapPair → Option ℤ
long_level (open_datum.Long n) = Some n
long_level _ = None

abbrev pub long_in : Datum → Option ℤ
long_in datum = long_level (out-Datum datum)

abbrev pub boolean_level : open_datum.Datum-F Datum MapPair → Option Bool
boolean_level (open_datum.Boolean b) = Some b
boolean_level _ = None

abbrev pub boolean_in : Datum → Option Bool
boolean_in datum = boolean_level (out-Datum datum)

abbrev pub bytes_level : open_datum.Datum-F Datum MapPair → Option (List ℕ)
bytes_level (open_datum.Bytes bytes) = Some bytes
bytes_level _ = None

abbrev pub bytes_in : Datum → Option (List ℕ)
bytes_in datum = bytes_level (out-Datum datum)

abbrev pub text_level : open_datum.Datum-F Datum MapPair → Option (List ℕ)
text_level (open_datum.Text bytes) = Some bytes
text_level _ = None

abbrev pub text_in : Datum → Option (List ℕ)
text_in datum = text_level (out-Datum datum)

abbrev pub items_level : open_datum.Datum-F Datum MapPair → List Datum
items_level (open_datum.Array items) = items
items_level _ = []

-- the items of the array at the place, of which a null has none
abbrev pub items_at : List Datum → Option ℕ → List Datum
items_at values place = by_option (present_at values place) (λ datum. items_level (out-Datum datum)) []

abbrev pub as_text : List ℕ → Option (List ℕ)
as_text bytes = if is_utf8 bytes then Some bytes else None

-- a count, which no negative number is
abbrev pub natural_of : ℤ → Option ℕ
natural_of (pos n) = Some n
natural_of (negsuc n) = None
