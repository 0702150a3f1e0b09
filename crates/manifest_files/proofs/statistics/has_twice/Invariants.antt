use Rattle.std.proofs.Common.{◌≡◌, length}
use Rattle.manifest_files.specs.Statistics.{has_twice}
use Rattle.manifest_files.proofs.statistics.has_twice.Given as goal

-- the pairs that are left have a key twice where all have
abbrev pub invariant-loop-rest : goal.invariant-loop-rest
invariant-loop-rest l = has_twice l.places l.rest ≡ has_twice l.places l.items

abbrev pub decreases-loop-rest : goal.decreases-loop-rest
decreases-loop-rest l = length l.rest
