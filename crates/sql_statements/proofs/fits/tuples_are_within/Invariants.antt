use Rattle.std.proofs.Common.{◌≡◌, true, take}
use Rattle.std.specs.List.{list_all}
use Rattle.sql_statements.specs.Fits as spec
use Rattle.sql_statements.proofs.fits.tuples_are_within.Given as goal

abbrev pub invariant-loop-tuple : goal.invariant-loop-tuple
invariant-loop-tuple l = list_all (spec.exprs_are_within 0) (take l.tuple-index l.tuples) ≡ true
