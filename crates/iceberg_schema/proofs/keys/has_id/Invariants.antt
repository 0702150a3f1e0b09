use Rattle.std.proofs.Common.{◌≡◌, length}
use Rattle.serde_json.specs.View.{items_view}
use Rattle.iceberg_schema.specs.Keys.{has_id}
use Rattle.iceberg_schema.proofs.keys.has_id.Given as goal

-- the elements that are left give the same answer
abbrev pub invariant-loop-rest : goal.invariant-loop-rest
invariant-loop-rest l = has_id l.key l.id (items_view l.rest) ≡ has_id l.key l.id (items_view l.items)

abbrev pub decreases-loop-rest : goal.decreases-loop-rest
decreases-loop-rest l = length l.rest
