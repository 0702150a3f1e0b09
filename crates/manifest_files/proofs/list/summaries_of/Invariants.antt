use Rattle.std.proofs.Common.{◌≡◌, [], length}
use Rattle.manifest_files.specs.Lists.{summaries_from}
use Rattle.manifest_files.proofs.list.summaries_of.Given as goal

-- the elements that are left give the same summaries, behind those that are read
abbrev pub invariant-loop-rest : goal.invariant-loop-rest
invariant-loop-rest l = summaries_from l.places l.summaries.items l.rest ≡ summaries_from l.places [] l.datums

abbrev pub decreases-loop-rest : goal.decreases-loop-rest
decreases-loop-rest l = length l.rest
