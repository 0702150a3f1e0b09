use Rattle.std.proofs.Common.{◌≡◌, length}
use Rattle.manifest_files.specs.Statistics.{value_under}
use Rattle.manifest_files.proofs.statistics.value_under.Given as goal

-- the pairs that are left give the same value
abbrev pub invariant-loop-rest : goal.invariant-loop-rest
invariant-loop-rest l = value_under l.places l.id l.rest ≡ value_under l.places l.id l.items

abbrev pub decreases-loop-rest : goal.decreases-loop-rest
decreases-loop-rest l = length l.rest
