use Rattle.std.proofs.Common.{◌≡◌, ◌++◌, length}
use Rattle.sql_statements.specs.NewRows as spec
use Rattle.sql_statements.proofs.new_row.row_of.Given as goal

abbrev pub invariant-loop-rest : goal.invariant-loop-rest
invariant-loop-rest l = l.row ++ spec.row_of l.rest ≡ spec.row_of l.new

abbrev pub decreases-loop-rest : goal.decreases-loop-rest
decreases-loop-rest l = length l.rest
