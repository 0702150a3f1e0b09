use Rattle.std.proofs.Common.{◌≡◌, map, drop}
use Rattle.avro_binary.specs.Placed.{placed, placed_field, place_each}
use Rattle.avro_binary.proofs.placed.+placed.Given as goal

abbrev pub invariant-placed_fields-loop-field : goal.invariant-placed_fields-loop-field
invariant-placed_fields-loop-field l = place_each (map placed_field (drop l.field-index l.fields)) l.depth l.left ≡ place_each (map placed_field l.fields) l.depth l.fn.left

abbrev pub invariant-placed_branches-loop-branch : goal.invariant-placed_branches-loop-branch
invariant-placed_branches-loop-branch l = place_each (map placed (drop l.branch-index l.branches)) l.depth l.left ≡ place_each (map placed l.branches) l.depth l.fn.left
