use Rattle.std.proofs.Common.{◌≡◌, [], length}
use Rattle.serde_json.specs.View.{items_view}
use Rattle.table_metadata.specs.Snapshots.{snapshots_from}
use Rattle.table_metadata.proofs.snapshots.read_items.Given as goal

-- the elements that are left give the same snapshots, behind those that are read
abbrev pub invariant-loop-rest : goal.invariant-loop-rest
invariant-loop-rest l = snapshots_from l.snapshots.items (items_view l.rest) ≡ snapshots_from [] (items_view l.items)

abbrev pub decreases-loop-rest : goal.decreases-loop-rest
decreases-loop-rest l = length l.rest
