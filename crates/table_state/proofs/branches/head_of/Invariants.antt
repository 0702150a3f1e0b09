use Rattle.std.proofs.Common.{◌≡◌, length}
use Rattle.table_state.specs.Live.{head_of}
use Rattle.table_state.proofs.branches.head_of.Given as goal

abbrev pub invariant-loop-rest : goal.invariant-loop-rest
invariant-loop-rest l = head_of l.branch l.rest ≡ head_of l.branch l.refs

abbrev pub decreases-loop-rest : goal.decreases-loop-rest
decreases-loop-rest l = length l.rest
