use Rattle.std.proofs.Common.{◌≡◌, [], length}
use Rattle.manifest_files.specs.Entries.{ids_from}
use Rattle.manifest_files.proofs.manifest.ids_of.Given as goal

-- the items that are left give the same numbers, behind those that are read
abbrev pub invariant-loop-rest : goal.invariant-loop-rest
invariant-loop-rest l = ids_from l.ids.items l.rest ≡ ids_from [] l.datums

abbrev pub decreases-loop-rest : goal.decreases-loop-rest
decreases-loop-rest l = length l.rest
