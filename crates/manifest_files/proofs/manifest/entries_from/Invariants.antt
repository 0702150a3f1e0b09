use Rattle.std.proofs.Common.{◌≡◌, [], length}
use Rattle.manifest_files.specs.Entries.{entries_from}
use Rattle.manifest_files.proofs.manifest.entries_from.Given as goal

-- the records that are left give the same entries, behind those that are read
abbrev pub invariant-loop-rest : goal.invariant-loop-rest
invariant-loop-rest l = entries_from l.places l.row l.spec l.columns l.entries.items l.rest ≡ entries_from l.places l.row l.spec l.columns [] l.datums

abbrev pub decreases-loop-rest : goal.decreases-loop-rest
decreases-loop-rest l = length l.rest
