-- The rows that a container holds for a list of columns, and the first fault in their order (Iceberg specification,
-- "Column Projection" and Appendix A, "Avro"): first the columns' sources, by column, then row by row, in each by column.
use Rattle.std.specs.Prelude.{ℕ, List, [], ◌∷◌, ◌++◌, length, slice_get, option_and_then, Result, Ok, Err, if◌then◌else◌}
use Rattle.plain_types.specs.Steps.{◌>>=◌, or_fault, by_option}
use Rattle.row_values.specs.declared.schema.Column.{Column}
use Rattle.row_values.specs.declared.value.Value.{Value}
use Rattle.row_values.specs.declared.value.Value.TheVariants as value
use Rattle.avro_binary.specs.declared.datum.Datum.{Datum, out-Datum}
use Rattle.avro_binary.specs.declared.datum.MapPair.{MapPair}
use Rattle.avro_binary.specs.declared.datum.Datum.TheOpen as open_datum
use Rattle.avro_container.specs.declared.container.Container.{Container}
use Rattle.avro_rows.specs.declared.row_fault.RowFault.{RowFault}
use Rattle.avro_rows.specs.declared.row_fault.RowFault.TheVariants as fault
use Rattle.avro_rows.specs.declared.source.Source.{Source}
use Rattle.avro_rows.specs.DatumValue.{value_of, inside, is_null_datum}
use Rattle.avro_rows.specs.Sources.{fields_of, sources_from}

-- the values of a record's fields, of which a datum of another type has none
abbrev pub values_level : open_datum.Datum-F Datum MapPair → List Datum
values_level (open_datum.Record values) = values
values_level _ = []

abbrev pub values_of : Datum → List Datum
values_of datum = values_level (out-Datum datum)

-- NULL in a row of this number
abbrev pub null_at : Source → ℕ → Result Value RowFault
null_at source row = if source.required then Err (fault.Null source.id row) else Ok value.Null

-- the value of a datum that is in no union
abbrev pub held_at : Source → ℕ → Datum → Result Value RowFault
held_at source row datum = if is_null_datum (out-Datum datum) then null_at source row else or_fault (fault.Range source.id row) (value_of source.kind datum)

-- the column's value in a row of this number, whose record has these values: NULL where there is none
abbrev pub value_at : Source → ℕ → List Datum → Result Value RowFault
value_at source row values = by_option (option_and_then (slice_get values) source.place) (λ datum. held_at source row (inside datum)) (null_at source row)

-- the row, behind the values that are read
unfoldable pub row_from : ℕ → List Datum → List Value → List Source → Result (List Value) RowFault
row_from row values earlier [] = Ok earlier
row_from row values earlier (source ∷ sources) = value_at source row values >>= λ v. row_from row values (earlier ++ v ∷ []) sources

-- the rows of these records, behind those that are read
unfoldable pub rows_from : List Source → List (List Value) → List Datum → Result (List (List Value)) RowFault
rows_from sources earlier [] = Ok earlier
rows_from sources earlier (datum ∷ datums) = row_from (length earlier) (values_of datum) [] sources >>= λ row. rows_from sources (earlier ++ row ∷ []) datums

-- the rows of the container, a row for each datum
unfoldable pub rows_of : Container → List Column → Result (List (List Value)) RowFault
rows_of container columns = sources_from (fields_of container.schema) [] columns >>= λ sources. rows_from sources [] container.datums
