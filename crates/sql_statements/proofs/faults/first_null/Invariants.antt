use Rattle.std.proofs.Common.{◌≡◌, ◌+◌, length}
use Rattle.sql_statements.specs.NewRows as spec
use Rattle.sql_statements.proofs.faults.first_null.Given as goal

abbrev pub invariant-loop-rest : goal.invariant-loop-rest
invariant-loop-rest l =
    (spec.first_null_from l.at l.rest l.rows ≡ spec.first_null l.columns l.rows) × (l.at + length l.rest ≡ length l.columns)

abbrev pub decreases-loop-rest : goal.decreases-loop-rest
decreases-loop-rest l = length l.rest
