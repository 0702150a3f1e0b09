use Rattle.std.proofs.Common.{◌≡◌, None, length, option_map}
use Rattle.commit_manifests.specs.Rows.{outermost_from}
use Rattle.commit_manifests.proofs.summary.extreme_at.Given as goal

abbrev pub invariant-loop-rest : goal.invariant-loop-rest
invariant-loop-rest l = outermost_from l.side l.place (option_map (λ v. v.now) l.best) l.rest ≡ outermost_from l.side l.place None l.entries

abbrev pub decreases-loop-rest : goal.decreases-loop-rest
decreases-loop-rest l = length l.rest
