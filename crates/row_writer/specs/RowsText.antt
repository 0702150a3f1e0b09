-- The bytes of a data file (Iceberg specification, Appendix A, "Avro"; Avro 1.11.1, "Object Container Files").
use Rattle.std.specs.Prelude.{ℕ, List, [], map}
use Rattle.row_values.specs.declared.schema.Column.{Column}
use Rattle.row_values.specs.declared.value.Value.{Value}
use Rattle.avro_container.specs.declared.container.Container.{Container}
use Rattle.avro_container.specs.ContainerText.{container_text}
use Rattle.row_writer.specs.RowTypes.{row_type}
use Rattle.row_writer.specs.RowDatum.{row_datum}

-- the container of these rows, without metadata of its own
abbrev pub rows_container : List Column → List (List Value) → Container
rows_container columns rows = record { schema = row_type columns; meta = []; datums = map (row_datum columns) rows }

abbrev pub rows_text : List Column → List (List Value) → List ℕ
rows_text columns rows = container_text (rows_container columns rows)
