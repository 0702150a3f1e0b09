use Rattle.std.proofs.Common.{map, ap, sym, ◌∙◌}
use Rattle.avro_binary.specs.Placed.{placed, placed_field, place_each}
use Rattle.avro_binary.proofs.Placing.{placed_field_is, places_on, places_no_more, places_all}
use Rattle.avro_binary.proofs.placed.+placed.Goals as goal

pub placed_fields-returns-in-None : goal.placed_fields-returns-in-None
placed_fields-returns-in-None t c = places_no_more placed_field c.args.fields.now c.loop-field.field-index c.field-item.result c.args.depth c.loop-field.left
    (place_each (map placed_field c.args.fields.now) c.args.depth c.args.left) c.loop-field-test.true c.field-item.is
    (c.in-None.ensures ∙ ap (λ p. p c.args.depth c.loop-field.left) (sym (placed_field_is c.field-item.result))) c.loop-field.invariant

pub placed_fields-loop-field-preserved : goal.placed_fields-loop-field-preserved
placed_fields-loop-field-preserved t c = places_on placed_field c.args.fields.now c.loop-field.field-index c.field-item.result c.args.depth c.loop-field.left c.in-Some.less
    (place_each (map placed_field c.args.fields.now) c.args.depth c.args.left) c.loop-field-test.true c.field-item.is
    (c.in-Some.ensures ∙ ap (λ p. p c.args.depth c.loop-field.left) (sym (placed_field_is c.field-item.result))) c.loop-field.invariant

pub placed_fields-returns : goal.placed_fields-returns
placed_fields-returns t c = places_all placed_field c.args.fields.now c.loop-field.field-index c.args.depth c.loop-field.left (place_each (map placed_field c.args.fields.now) c.args.depth c.args.left) c.loop-field-test.false c.loop-field.invariant

pub placed_branches-returns-in-None : goal.placed_branches-returns-in-None
placed_branches-returns-in-None t c = places_no_more placed c.args.branches.now c.loop-branch.branch-index c.branch-item.result c.args.depth c.loop-branch.left
    (place_each (map placed c.args.branches.now) c.args.depth c.args.left) c.loop-branch-test.true c.branch-item.is c.in-None.ensures c.loop-branch.invariant

pub placed_branches-loop-branch-preserved : goal.placed_branches-loop-branch-preserved
placed_branches-loop-branch-preserved t c = places_on placed c.args.branches.now c.loop-branch.branch-index c.branch-item.result c.args.depth c.loop-branch.left c.in-Some.less
    (place_each (map placed c.args.branches.now) c.args.depth c.args.left) c.loop-branch-test.true c.branch-item.is c.in-Some.ensures c.loop-branch.invariant

pub placed_branches-returns : goal.placed_branches-returns
placed_branches-returns t c = places_all placed c.args.branches.now c.loop-branch.branch-index c.args.depth c.loop-branch.left (place_each (map placed c.args.branches.now) c.args.depth c.args.left) c.loop-branch-test.false c.loop-branch.invariant
