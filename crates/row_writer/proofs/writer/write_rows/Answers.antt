use Rattle.std.proofs.Common.{sym, subst, ◌∙◌, List}
use Rattle.std.specs.List.{AllByRecursion}
use Rattle.row_values.specs.declared.schema.Column.{Column}
use Rattle.row_values.specs.Rows.{AreRows}
use Rattle.avro_binary.specs.declared.datum.Datum.{Datum}
use Rattle.avro_binary.specs.declared.schema.Schema.{Schema}
use Rattle.avro_binary.specs.Shape.{shape}
use Rattle.avro_binary.specs.Spelling.{Fits}
use Rattle.row_writer.specs.RowTypes.{row_type}
use Rattle.row_writer.proofs.RowFits.{rows_fit}
use Rattle.row_writer.proofs.writer.write_rows.Goals as goal

pub write_container-requires-clause-datums : goal.write_container-requires-clause-datums
write_container-requires-clause-datums c =
    let columns : List Column = c.as_slice-columns.result.now in
    subst (λ (s : Schema). AllByRecursion (Fits (shape s)) c.from_vec-2.result) (sym c.in_ok-row_type.ensures)
    (subst (λ (ds : List Datum). AllByRecursion (Fits (shape (row_type columns))) ds) (sym (c.from_vec-2.ensures ∙ c.in_ok-datums.ensures))
    (rows_fit columns _ (subst (λ (cs : List Column). AreRows cs c.args.rows.now) (sym c.as_slice-columns.ensures) c.requires)))
