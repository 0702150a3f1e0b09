use Rattle.std.proofs.Common.{◌≡◌, length}
use Rattle.row_writer.specs.RowTypes.{are_names}
use Rattle.row_writer.proofs.column_names.are_names.Given as goal

abbrev pub invariant-loop-rest : goal.invariant-loop-rest
invariant-loop-rest l = are_names l.rest ≡ are_names l.columns

abbrev pub decreases-loop-rest : goal.decreases-loop-rest
decreases-loop-rest l = length l.rest
