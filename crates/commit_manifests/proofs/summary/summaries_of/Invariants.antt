use Rattle.std.proofs.Common.{◌≡◌, map}
use Rattle.std.specs.List.{range_with_len}
use Rattle.commit_manifests.specs.Rows.{summary_at}
use Rattle.commit_manifests.proofs.summary.summaries_of.Given as goal

abbrev pub invariant-loop-place : goal.invariant-loop-place
invariant-loop-place l = l.summaries ≡ map (λ place. summary_at place l.entries) (range_with_len 0 l.place)
