use Rattle.std.proofs.Common.{◌≡◌, length}
use Rattle.table_metadata.specs.ById.{schema_with}
use Rattle.table_metadata.proofs.by_id.schema_with.Given as goal

abbrev pub invariant-loop-rest : goal.invariant-loop-rest
invariant-loop-rest l = schema_with l.id l.rest ≡ schema_with l.id l.schemas

abbrev pub decreases-loop-rest : goal.decreases-loop-rest
decreases-loop-rest l = length l.rest
