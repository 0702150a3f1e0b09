use Rattle.std.proofs.Common.{◌≡◌, true, take}
use Rattle.std.specs.List.{list_all}
use Rattle.sql_statements.specs.Fits as spec
use Rattle.sql_statements.proofs.fits.sets_are_within.Given as goal

abbrev pub invariant-loop-set : goal.invariant-loop-set
invariant-loop-set l = list_all (spec.set_is_within l.width) (take l.set-index l.sets) ≡ true
