use Rattle.std.proofs.Common.{◌≡◌, take, map}
use Rattle.row_writer.specs.RowDatum.{row_datum}
use Rattle.row_writer.proofs.row_datum.row_datums.Given as goal

abbrev pub invariant-loop-row : goal.invariant-loop-row
invariant-loop-row l = l.datums.items ≡ map (row_datum l.columns) (take l.row-index l.rows)
