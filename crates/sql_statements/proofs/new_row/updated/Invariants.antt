use Rattle.std.proofs.Common.{◌≡◌, ◌+◌, ◌++◌, length}
use Rattle.sql_statements.specs.NewRows as spec
use Rattle.sql_statements.proofs.new_row.updated.Given as goal

abbrev pub invariant-loop-rest : goal.invariant-loop-rest
invariant-loop-rest l =
    (l.row ++ spec.updated_from l.at l.sets l.sight l.rest ≡ spec.updated l.sets l.sight l.old) × (l.at + length l.rest ≡ length l.old)

abbrev pub decreases-loop-rest : goal.decreases-loop-rest
decreases-loop-rest l = length l.rest
