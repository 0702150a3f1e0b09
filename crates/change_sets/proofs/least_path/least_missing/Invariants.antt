use Rattle.std.proofs.Common.{◌≡◌, length, option_map}
use Rattle.change_sets.specs.Laid.{without}
use Rattle.change_sets.specs.Verdict.{least_from, least_path}
use Rattle.change_sets.proofs.least_path.least_missing.Given as goal

abbrev pub invariant-loop-rest : goal.invariant-loop-rest
invariant-loop-rest l = least_from (option_map (λ path. path.now) l.least) (without l.others l.rest) ≡ least_path (without l.others l.entries)

abbrev pub decreases-loop-rest : goal.decreases-loop-rest
decreases-loop-rest l = length l.rest
