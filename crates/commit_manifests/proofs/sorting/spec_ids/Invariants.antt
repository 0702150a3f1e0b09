use Rattle.std.proofs.Common.{◌≡◌, [], length}
use Rattle.commit_manifests.specs.Sorting.{spec_ids}
use Rattle.commit_manifests.proofs.sorting.spec_ids.Given as goal

abbrev pub invariant-loop-rest : goal.invariant-loop-rest
invariant-loop-rest l = spec_ids l.ids.items l.rest ≡ spec_ids [] l.entries

abbrev pub decreases-loop-rest : goal.decreases-loop-rest
decreases-loop-rest l = length l.rest
