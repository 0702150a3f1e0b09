use Rattle.std.proofs.Common.{◌≡◌, length}
use Rattle.table_metadata.specs.SchemaList.{columns_with}
use Rattle.table_metadata.proofs.schema_list.schema_with.Given as goal

-- the schemas that are left give the same columns
abbrev pub invariant-loop-rest : goal.invariant-loop-rest
invariant-loop-rest l = columns_with l.id l.rest ≡ columns_with l.id l.schemas

abbrev pub decreases-loop-rest : goal.decreases-loop-rest
decreases-loop-rest l = length l.rest
