use Rattle.std.proofs.Common.{◌≡◌, length}
use Rattle.sql_statements.specs.NewRows as spec
use Rattle.sql_statements.proofs.faults.overflows.Given as goal

abbrev pub invariant-loop-rest : goal.invariant-loop-rest
invariant-loop-rest l = spec.overflows l.rest l.values ≡ spec.overflows l.columns l.row

abbrev pub decreases-loop-rest : goal.decreases-loop-rest
decreases-loop-rest l = length l.rest
