use Rattle.std.proofs.Common.{◌≡◌, ◌++◌, length}
use Rattle.row_writer.specs.RowDatum.{column_datums}
use Rattle.row_writer.proofs.row_datum.column_datums.Given as goal

abbrev pub invariant-loop-rest : goal.invariant-loop-rest
invariant-loop-rest l = l.datums.items ++ column_datums l.rest l.left ≡ column_datums l.columns l.values

abbrev pub decreases-loop-rest : goal.decreases-loop-rest
decreases-loop-rest l = length l.rest
