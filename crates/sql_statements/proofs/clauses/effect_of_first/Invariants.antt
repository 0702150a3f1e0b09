use Rattle.std.proofs.Common.{◌≡◌, IsTrue, length}
use Rattle.sql_statements.specs.Clauses as spec
use Rattle.sql_statements.specs.Fits.{clauses_are_within}
use Rattle.sql_statements.proofs.clauses.effect_of_first.Given as goal

abbrev pub invariant-loop-rest : goal.invariant-loop-rest
invariant-loop-rest l =
    (spec.chosen l.when l.rest l.sight ≡ spec.chosen l.when l.clauses l.sight) × IsTrue (clauses_are_within (length l.sight) l.rest)

abbrev pub decreases-loop-rest : goal.decreases-loop-rest
decreases-loop-rest l = length l.rest
