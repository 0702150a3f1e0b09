use Rattle.std.proofs.lemmas.Result.{err_from_is_err_and}
use Rattle.serde_json.specs.View.{items_view}
use Rattle.avro_binary.specs.SchemaText.{each, symbol}
use Rattle.avro_binary.proofs.Each.{each_goes, each_stops, each_done}
use Rattle.avro_binary.proofs.named_types.symbols.Goals as goal

pub returns-in_err-one : goal.returns-in_err-one
returns-in_err-one c =
    let p = err_from_is_err_and c.from_residual.result c.from_residual.ensures.1 in
    rw (p.1, p.2) (each_stops c.in_err-one.field-0.0 (symbol) c.args.items.now c.loop-item.found.items c.loop-item.item-index c.item-item.result c.loop-item.names
    (each (symbol) (items_view c.args.items.now) c.args.names) c.loop-item-test.true c.item-item.is c.in_err-one.ensures c.loop-item.invariant)

pub loop-item-preserved : goal.loop-item-preserved
loop-item-preserved c =
    rw c.in_ok-push.ensures.items (each_goes (symbol) c.args.items.now c.loop-item.found.items c.loop-item.item-index c.item-item.result c.loop-item.names c.in_ok-one.one c.in_ok-one.after
    (each (symbol) (items_view c.args.items.now) c.args.names) c.loop-item-test.true c.item-item.is c.in_ok-one.ensures c.loop-item.invariant)

pub returns : goal.returns
returns c = each_done (symbol) c.args.items.now c.loop-item.found.items c.loop-item.item-index c.loop-item.names (each (symbol) (items_view c.args.items.now) c.args.names) c.loop-item-test.false c.loop-item.invariant
