use Rattle.std.proofs.Common.{◌≡◌, None, length}
use Rattle.commit_manifests.specs.Rows.{least_from}
use Rattle.commit_manifests.proofs.sequence.least_number.Given as goal

abbrev pub invariant-loop-rest : goal.invariant-loop-rest
invariant-loop-rest l = least_from l.least l.rest ≡ least_from None l.entries

abbrev pub decreases-loop-rest : goal.decreases-loop-rest
decreases-loop-rest l = length l.rest
