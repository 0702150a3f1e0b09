-- Optional values that fit the type of their field.
use Rattle.std.proofs.Common.{ℕ, ℤ, List, Option, Some, None, option_map, option_and_then}
use Rattle.row_values.specs.declared.value.Value.{Value}
use Rattle.avro_binary.specs.declared.datum.Datum.TheVariants as datum
use Rattle.avro_binary.specs.Shape.{int_shape, long_shape, bytes_shape}
use Rattle.avro_binary.specs.Spelling.{Fits}
use Rattle.row_writer.proofs.CallerLemmas.{option_shape, int_fits, long_fits, bytes_fits, none_fits, some_fits}
use Rattle.manifest_writer.specs.Value.{optional_int, optional_long, optional_bound, bytes_inside, AreSignedOf}
use Rattle.row_writer.specs.KindDatum.{optional}

pub optional_int_fits : (n : Option ℤ) → AreSignedOf 31 n → Fits (option_shape int_shape) (optional_int n)
optional_int_fits None h = none_fits int_shape
optional_int_fits (Some n) h = some_fits int_shape (datum.Int n) (int_fits n h)

pub optional_long_fits : (n : Option ℤ) → AreSignedOf 63 n → Fits (option_shape long_shape) (optional_long n)
optional_long_fits None h = none_fits long_shape
optional_long_fits (Some n) h = some_fits long_shape (datum.Long n) (long_fits n h)

bytes_by : (bytes : Option (List ℕ)) → Fits (option_shape bytes_shape) (optional (option_map datum.Bytes bytes))
bytes_by None = none_fits bytes_shape
bytes_by (Some bytes) = some_fits bytes_shape (datum.Bytes bytes) (bytes_fits bytes)

pub optional_bound_fits : (bound : Option Value) → Fits (option_shape bytes_shape) (optional_bound bound)
optional_bound_fits bound = bytes_by (option_and_then bytes_inside bound)
