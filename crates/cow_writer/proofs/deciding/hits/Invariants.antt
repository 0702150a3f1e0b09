use Rattle.std.proofs.Common.{◌≡◌, ◌+◌, ◌≤◌, length}
use Rattle.change_sets.specs.Deciding.{hits}
use Rattle.cow_writer.proofs.deciding.hits.Given as goal

abbrev pub invariant-loop-rest : goal.invariant-loop-rest
invariant-loop-rest l = (l.count + length l.rest ≤ length l.rows) × (l.count + hits l.rest ≡ hits l.rows)

abbrev pub decreases-loop-rest : goal.decreases-loop-rest
decreases-loop-rest l = length l.rest
