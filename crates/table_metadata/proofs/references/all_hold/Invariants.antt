use Rattle.std.proofs.Common.{◌≡◌, length}
use Rattle.table_metadata.specs.References.{all_hold}
use Rattle.table_metadata.proofs.references.all_hold.Given as goal

-- the refs that are left give the same answer
abbrev pub invariant-loop-rest : goal.invariant-loop-rest
invariant-loop-rest l = all_hold l.current l.snapshots l.rest ≡ all_hold l.current l.snapshots l.refs

abbrev pub decreases-loop-rest : goal.decreases-loop-rest
decreases-loop-rest l = length l.rest
