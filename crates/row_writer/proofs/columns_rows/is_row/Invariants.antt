use Rattle.std.proofs.Common.{◌≡◌, length}
use Rattle.row_values.specs.Rows.{is_row}
use Rattle.row_writer.proofs.columns_rows.is_row.Given as goal

abbrev pub invariant-loop-rest : goal.invariant-loop-rest
invariant-loop-rest l = is_row l.rest l.left ≡ is_row l.columns l.values

abbrev pub decreases-loop-rest : goal.decreases-loop-rest
decreases-loop-rest l = length l.rest
