use Rattle.std.proofs.Common.{◌≡◌, length}
use Rattle.change_sets.specs.Same.{is_among}
use Rattle.change_sets.proofs.same.is_among.Given as goal

abbrev pub invariant-loop-rest : goal.invariant-loop-rest
invariant-loop-rest l = is_among l.rest l.entry ≡ is_among l.entries l.entry

abbrev pub decreases-loop-rest : goal.decreases-loop-rest
decreases-loop-rest l = length l.rest
