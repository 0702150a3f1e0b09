use Rattle.std.proofs.Common.{◌≡◌, ◌+◌, length}
use Rattle.table_metadata.specs.References.{before_main}
use Rattle.table_metadata.proofs.references.before_main.Given as goal

-- those that are passed, with those that stand before `main` in what is left
abbrev pub invariant-loop-rest : goal.invariant-loop-rest
invariant-loop-rest l = (l.at + before_main l.rest ≡ before_main l.refs) × (l.at + length l.rest ≡ length l.refs)

abbrev pub decreases-loop-rest : goal.decreases-loop-rest
decreases-loop-rest l = length l.rest
