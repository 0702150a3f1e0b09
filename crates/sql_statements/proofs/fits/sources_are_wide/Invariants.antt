use Rattle.std.proofs.Common.{◌≡◌, true, take}
use Rattle.std.specs.List.{list_all}
use Rattle.sql_statements.specs.Fits as spec
use Rattle.sql_statements.proofs.fits.sources_are_wide.Given as goal

abbrev pub invariant-loop-source : goal.invariant-loop-source
invariant-loop-source l = list_all spec.source_is_wide (take l.source-index l.sources) ≡ true
