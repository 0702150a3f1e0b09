use Rattle.std.proofs.Common.{◌≡◌, take, map}
use Rattle.row_writer.specs.RowTypes.{column_field}
use Rattle.row_writer.proofs.row_schema.column_fields.Given as goal

abbrev pub invariant-loop-column : goal.invariant-loop-column
invariant-loop-column l = l.fields.items ≡ map (column_field l.keeps) (take l.column-index l.columns)
