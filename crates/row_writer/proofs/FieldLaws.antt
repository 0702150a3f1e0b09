-- Values that fit the type of their field.
use Rattle.std.proofs.Common.{ℕ, ℤ, List, [], ◌∷◌, length, ◌≡◌, Bool, Some, None, refl, arith}
use Rattle.std.specs.List.{AllByRecursion}
use Rattle.std.specs.Str.{IsUtf8}
use Rattle.avro_binary.specs.declared.datum.Datum.{Datum}
use Rattle.avro_binary.specs.declared.datum.Datum.TheVariants as datum
use Rattle.avro_binary.specs.Shape.{Shape, null_shape, boolean_shape, int_shape, long_shape, bytes_shape, text_shape, fixed_shape, record_shape, array_shape, union_shape, Shapes, no_shapes, more_shapes}
use Rattle.avro_binary.specs.Spelling.{IsSignedOf, Fits, FitsFields, FitsBranch}
use Rattle.row_writer.specs.KindDatum.{optional}

abbrev pub option_shape : Shape → Shape
option_shape s = union_shape (more_shapes null_shape (more_shapes s no_shapes))

pub text_fits : (bytes : List ℕ) → IsUtf8 bytes → Fits text_shape (datum.Text bytes)
unfolding Fits
text_fits bytes h = (bytes, h, refl)

pub boolean_fits : (b : Bool) → Fits boolean_shape (datum.Boolean b)
unfolding Fits
boolean_fits b = (b, refl)

pub int_fits : (n : ℤ) → IsSignedOf 31 n → Fits int_shape (datum.Int n)
unfolding Fits
int_fits n h = (n, h, refl)

pub long_fits : (n : ℤ) → IsSignedOf 63 n → Fits long_shape (datum.Long n)
unfolding Fits
long_fits n h = (n, h, refl)

pub bytes_fits : (bytes : List ℕ) → Fits bytes_shape (datum.Bytes bytes)
unfolding Fits
bytes_fits bytes = (bytes, refl)

pub none_fits : (s : Shape) → Fits (option_shape s) (optional None)
unfolding Fits FitsBranch
none_fits s = (0, datum.Null, omega arith, refl, refl)

pub some_fits : (s : Shape) (d : Datum) → Fits s d → Fits (option_shape s) (optional (Some d))
unfolding Fits FitsBranch
some_fits s d h = (1, d, omega arith, h, refl)

pub no_field : FitsFields no_shapes []
unfolding FitsFields
no_field = refl

pub more_fields : (s : Shape) (ss : Shapes) (d : Datum) (ds : List Datum) → Fits s d → FitsFields ss ds → FitsFields (more_shapes s ss) (d ∷ ds)
unfolding FitsFields
more_fields s ss d ds h hs = (d, ds, h, hs, refl)

pub record_fits : (ss : Shapes) (ds : List Datum) → FitsFields ss ds → Fits (record_shape ss) (datum.Record ds)
unfolding Fits
record_fits ss ds h = (ds, h, refl)

pub array_fits : (s : Shape) (ds : List Datum) → AllByRecursion (Fits s) ds → Fits (array_shape s) (datum.Array ds)
unfolding Fits
array_fits s ds h = (ds, h, refl)

pub fixed_fits : (size : ℕ) (bytes : List ℕ) → length bytes ≡ size → Fits (fixed_shape size) (datum.Fixed bytes)
unfolding Fits
fixed_fits size bytes h = (bytes, h, refl)
