use Rattle.std.proofs.Common.{◌≡◌, IsTrue, length}
use Rattle.sql_statements.specs.NewRows as spec
use Rattle.sql_statements.specs.Fits.{sets_are_within}
use Rattle.sql_statements.proofs.new_row.assigned.Given as goal

abbrev pub invariant-loop-rest : goal.invariant-loop-rest
invariant-loop-rest l =
    (spec.assigned l.rest l.sight l.at l.old ≡ spec.assigned l.sets l.sight l.at l.old) × IsTrue (sets_are_within (length l.sight) l.rest)

abbrev pub decreases-loop-rest : goal.decreases-loop-rest
decreases-loop-rest l = length l.rest
