use Rattle.std.proofs.Common.{◌≡◌, length}
use Rattle.serde_json.specs.View.{items_view}
use Rattle.table_metadata.specs.MissingKeys.{snapshots_stand}
use Rattle.table_metadata.proofs.missing_keys.snapshots_stand.Given as goal

-- the elements that are left give the same answer
abbrev pub invariant-loop-rest : goal.invariant-loop-rest
invariant-loop-rest l = snapshots_stand (items_view l.rest) ≡ snapshots_stand (items_view l.snapshots)

abbrev pub decreases-loop-rest : goal.decreases-loop-rest
decreases-loop-rest l = length l.rest
