use Rattle.std.proofs.Common.{◌≡◌, length}
use Rattle.table_metadata.specs.ById.{spec_with}
use Rattle.table_metadata.proofs.by_id.spec_with.Given as goal

abbrev pub invariant-loop-rest : goal.invariant-loop-rest
invariant-loop-rest l = spec_with l.id l.rest ≡ spec_with l.id l.specs

abbrev pub decreases-loop-rest : goal.decreases-loop-rest
decreases-loop-rest l = length l.rest
