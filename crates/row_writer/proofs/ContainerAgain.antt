-- The container of rows that is written is read again.
use Rattle.std.proofs.Common.{◌≡◌, ◌^◌, ◌<◌, List, [], length, true, Ok}
use Rattle.std.specs.List.{list_all}
use Rattle.row_values.specs.declared.value.Value.{Value}
use Rattle.row_values.specs.declared.schema.Column.{Column}
use Rattle.row_values.specs.Rows.{is_row}
use Rattle.avro_binary.proofs.CallerLemmas.{schema_read}
use Rattle.avro_container.specs.Container.{container_of}
use Rattle.avro_container.specs.ContainerText.{AreMeta}
use Rattle.avro_container.proofs.CallerLemmas.{text_read_again}
use Rattle.row_writer.specs.Readable.{AreColumns}
use Rattle.row_writer.specs.RowTypes.{row_type}
use Rattle.row_writer.specs.RowsText.{rows_container, rows_text}
use Rattle.row_writer.proofs.RowFits.{rows_fit}
use Rattle.row_writer.proofs.RowText.{row_has_text, row_takes_bytes, row_items_take_bytes}

no_meta : AreMeta []
no_meta = record { texts = tt; distinct = tt; no_schema = tt; no_codec = tt }

pub container_again : (columns : List Column) (rows : List (List Value)) → AreColumns columns
    → list_all (is_row columns) rows ≡ true → length (rows_text columns rows) < 2 ^ 63
    → container_of (rows_text columns rows) ≡ Ok (rows_container columns rows)
container_again columns rows are h short =
    text_read_again (rows_container columns rows) (rows_fit columns rows h) no_meta (schema_read (row_type columns) (row_has_text columns are)) (row_takes_bytes columns are.some) (row_items_take_bytes columns) short
