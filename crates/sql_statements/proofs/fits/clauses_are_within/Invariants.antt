use Rattle.std.proofs.Common.{◌≡◌, true, take}
use Rattle.std.specs.List.{list_all}
use Rattle.sql_statements.specs.Fits as spec
use Rattle.sql_statements.proofs.fits.clauses_are_within.Given as goal

abbrev pub invariant-loop-clause : goal.invariant-loop-clause
invariant-loop-clause l = list_all (spec.clause_is_within l.width) (take l.clause-index l.clauses) ≡ true
