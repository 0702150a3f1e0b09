use Rattle.std.proofs.Common.{◌≡◌, ◌-◌, ◌^◌, min, take}
use Rattle.std.specs.List.{sum_by}
use Rattle.commit_manifests.specs.Rows.{rows_in}
use Rattle.commit_manifests.proofs.counts.rows_with.Given as goal

abbrev pub invariant-loop-entry : goal.invariant-loop-entry
invariant-loop-entry l = l.rows ≡ min (sum_by (rows_in l.status) (take l.entry-index l.entries)) (2 ^ 64 - 1)
