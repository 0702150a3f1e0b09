use Rattle.std.proofs.Common.{◌≡◌, [], length}
use Rattle.manifest_files.specs.Lists.{rows_from}
use Rattle.manifest_files.proofs.list.rows_of.Given as goal

-- the records that are left give the same rows, behind those that are read
abbrev pub invariant-loop-rest : goal.invariant-loop-rest
invariant-loop-rest l = rows_from l.places l.rows.items l.rest ≡ rows_from l.places [] l.datums

abbrev pub decreases-loop-rest : goal.decreases-loop-rest
decreases-loop-rest l = length l.rest
