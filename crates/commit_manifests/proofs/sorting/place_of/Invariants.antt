use Rattle.std.proofs.Common.{◌≡◌, ◌+◌, length}
use Rattle.commit_manifests.specs.Sorting.{place_of}
use Rattle.commit_manifests.proofs.sorting.place_of.Given as goal

abbrev pub invariant-loop-rest : goal.invariant-loop-rest
invariant-loop-rest l = (l.place + length l.rest ≡ length l.ids) × (l.place + place_of l.id l.rest ≡ place_of l.id l.ids)

abbrev pub decreases-loop-rest : goal.decreases-loop-rest
decreases-loop-rest l = length l.rest
