-- A row of a data file as a datum (Iceberg specification, Appendix A, "Avro"; Avro 1.11.1, "Unions").
use Rattle.std.specs.Prelude.{ℕ, if◌then◌else◌, List, [], ◌∷◌, length, Some, None}
use Rattle.row_values.specs.declared.schema.Column.{Column}
use Rattle.row_values.specs.declared.value.Value.{Value}
use Rattle.row_values.specs.Rows.{is_null}
use Rattle.avro_binary.specs.declared.datum.Datum.{Datum}
use Rattle.avro_binary.specs.declared.datum.Datum.TheVariants as datum
use Rattle.avro_binary.specs.Spelling.{spelling}
use Rattle.row_writer.specs.KindDatum.{value_datum, optional}

-- the value of an optional column is in a union, in which NULL comes first
abbrev pub column_datum : Column → Value → Datum
column_datum column v = if column.required then value_datum column.kind v else if is_null v then optional None else optional (Some (value_datum column.kind v))

unfoldable pub column_datums : List Column → List Value → List Datum
column_datums [] vs = []
column_datums (column ∷ columns) [] = []
column_datums (column ∷ columns) (v ∷ vs) = column_datum column v ∷ column_datums columns vs

abbrev pub row_datum : List Column → List Value → Datum
row_datum columns row = datum.Record (column_datums columns row)

-- how many bytes a row takes
abbrev pub row_size : List Column → List Value → ℕ
row_size columns row = length (spelling (row_datum columns row))
