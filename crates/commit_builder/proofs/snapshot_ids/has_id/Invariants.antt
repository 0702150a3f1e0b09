use Rattle.std.proofs.Common.{◌≡◌, length}
use Rattle.commit_manifests.specs.Sorting.{has_id}
use Rattle.commit_builder.proofs.snapshot_ids.has_id.Given as goal

abbrev pub invariant-loop-rest : goal.invariant-loop-rest
invariant-loop-rest l = has_id l.id l.rest ≡ has_id l.id l.ids

abbrev pub decreases-loop-rest : goal.decreases-loop-rest
decreases-loop-rest l = length l.rest
