use Rattle.std.proofs.Common.{◌≡◌, length}
use Rattle.commit_manifests.specs.Sorting.{has_removed}
use Rattle.commit_manifests.proofs.sorting.has_removed.Given as goal

abbrev pub invariant-loop-rest : goal.invariant-loop-rest
invariant-loop-rest l = has_removed l.gone l.rest ≡ has_removed l.gone l.entries

abbrev pub decreases-loop-rest : goal.decreases-loop-rest
decreases-loop-rest l = length l.rest
