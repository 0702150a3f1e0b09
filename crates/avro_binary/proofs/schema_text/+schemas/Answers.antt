use Rattle.std.proofs.lemmas.Result.{err_from_is_err_and}
use Rattle.serde_json.specs.View.{items_view}
use Rattle.avro_binary.specs.SchemaText.{each, field, schema_at}
use Rattle.avro_binary.proofs.Each.{each_goes, each_stops, each_done}
use Rattle.avro_binary.proofs.schema_text.+schemas.Goals as goal

pub branches-returns-in_err-one : goal.branches-returns-in_err-one
branches-returns-in_err-one t c =
    let p = err_from_is_err_and c.from_residual.result c.from_residual.ensures.1 in
    rw (p.1, p.2) (each_stops c.in_err-one.field-0.0 (schema_at c.args.inner c.args.space.now) c.args.items.now c.loop-item.found.items c.loop-item.item-index c.item-item.result c.loop-item.names
    (each (schema_at c.args.inner c.args.space.now) (items_view c.args.items.now) c.args.names) c.loop-item-test.true c.item-item.is c.in_err-one.ensures c.loop-item.invariant)

pub branches-loop-item-preserved : goal.branches-loop-item-preserved
branches-loop-item-preserved t c =
    rw c.in_ok-push.ensures.items
    (each_goes (schema_at c.args.inner c.args.space.now) c.args.items.now c.loop-item.found.items c.loop-item.item-index c.item-item.result c.loop-item.names c.in_ok-one.one c.in_ok-one.after
    (each (schema_at c.args.inner c.args.space.now) (items_view c.args.items.now) c.args.names) c.loop-item-test.true c.item-item.is c.in_ok-one.ensures c.loop-item.invariant)

pub branches-returns : goal.branches-returns
branches-returns t c = each_done (schema_at c.args.inner c.args.space.now) c.args.items.now c.loop-item.found.items c.loop-item.item-index c.loop-item.names (each (schema_at c.args.inner c.args.space.now) (items_view c.args.items.now) c.args.names) c.loop-item-test.false c.loop-item.invariant

pub fields-returns-in_err-one : goal.fields-returns-in_err-one
fields-returns-in_err-one t c =
    let p = err_from_is_err_and c.from_residual.result c.from_residual.ensures.1 in
    rw (p.1, p.2) (each_stops c.in_err-one.field-0.0 (field (schema_at c.args.inner) c.args.space.now) c.args.items.now c.loop-item.found.items c.loop-item.item-index c.item-item.result c.loop-item.names
    (each (field (schema_at c.args.inner) c.args.space.now) (items_view c.args.items.now) c.args.names) c.loop-item-test.true c.item-item.is c.in_err-one.ensures c.loop-item.invariant)

pub fields-loop-item-preserved : goal.fields-loop-item-preserved
fields-loop-item-preserved t c =
    rw c.in_ok-push.ensures.items
    (each_goes (field (schema_at c.args.inner) c.args.space.now) c.args.items.now c.loop-item.found.items c.loop-item.item-index c.item-item.result c.loop-item.names c.in_ok-one.one c.in_ok-one.after
    (each (field (schema_at c.args.inner) c.args.space.now) (items_view c.args.items.now) c.args.names) c.loop-item-test.true c.item-item.is c.in_ok-one.ensures c.loop-item.invariant)

pub fields-returns : goal.fields-returns
fields-returns t c = each_done (field (schema_at c.args.inner) c.args.space.now) c.args.items.now c.loop-item.found.items c.loop-item.item-index c.loop-item.names
    (each (field (schema_at c.args.inner) c.args.space.now) (items_view c.args.items.now) c.args.names) c.loop-item-test.false c.loop-item.invariant
