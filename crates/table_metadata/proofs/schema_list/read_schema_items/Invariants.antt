use Rattle.std.proofs.Common.{◌≡◌, [], length}
use Rattle.serde_json.specs.View.{items_view}
use Rattle.table_metadata.specs.SchemaList.{schemas_from}
use Rattle.table_metadata.proofs.schema_list.read_schema_items.Given as goal

-- the elements that are left give the same schemas, behind those that are read
abbrev pub invariant-loop-rest : goal.invariant-loop-rest
invariant-loop-rest l = schemas_from l.schemas.items (items_view l.rest) ≡ schemas_from [] (items_view l.items)

abbrev pub decreases-loop-rest : goal.decreases-loop-rest
decreases-loop-rest l = length l.rest
