use Rattle.std.proofs.Common.{sym, ap, ◌∙◌, subst}
use Rattle.std.specs.List.{list_all}
use Rattle.row_values.specs.declared.schema.TableSchema.{TableSchema}
use Rattle.row_values.specs.Rows.{AreRows, is_row}
use Rattle.change_sets.specs.Deciding.{written_of}
use Rattle.cow_writer.proofs.PieceLaws.{are_rows}
use Rattle.cow_writer.proofs.writing.write_copies.Goals as goal

pub write_pieces-requires-clause-rows : goal.write_pieces-requires-clause-rows
write_pieces-requires-clause-rows g c =
    let written = written_of c.args.scanned.now c.args.decisions.now in
    let columns = c.schema_of-schema.result.now.columns in
    let are = subst (λ (schema : TableSchema). AreRows schema.columns written) (sym c.schema_of-schema.ensures) c.requires.rows in
    ap (list_all (list_all (is_row columns))) (c.as_slice-2.ensures.value ∙ c.in_ok-pieces.ensures) ∙ are_rows columns written are
