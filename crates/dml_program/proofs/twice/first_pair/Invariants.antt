use Rattle.std.proofs.Common.{◌≡◌, length, map}
use Rattle.dml_program.specs.Twice.{first_pair}
use Rattle.dml_program.proofs.twice.first_pair.Given as goal

-- the paths that are left have the same first pair
abbrev pub invariant-loop-rest : goal.invariant-loop-rest
invariant-loop-rest l = first_pair (map (λ path. path.now) l.rest) ≡ first_pair (map (λ path. path.now) l.paths)

abbrev pub decreases-loop-rest : goal.decreases-loop-rest
decreases-loop-rest l = length l.rest
