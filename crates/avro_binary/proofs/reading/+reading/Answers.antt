use Rattle.std.proofs.Common.{length, map, eq-eqb}
use Rattle.std.proofs.lemmas.Result.{err_from_is_err_and}
use Rattle.avro_binary.specs.Shape.{shape, shapes, field_shape}
use Rattle.avro_binary.specs.Reading.{datum_at, fields_at, items_at, blocks_at, pair_at}
use Rattle.avro_binary.proofs.Loops.{ne-eqb, items_goes, items_stops, items_done, blocks_ends, blocks_goes, blocks_stops_at_count, blocks_stops_at_items, blocks_out, fields_goes, fields_stops, fields_done}
use Rattle.avro_binary.proofs.reading.+reading.Goals as goal

pub datums_at-returns-in_err-value : goal.datums_at-returns-in_err-value
datums_at-returns-in_err-value t c =
    let p = err_from_is_err_and c.from_residual.result c.from_residual.ensures.1 in
    rw (p.1, p.2) (items_stops c.in_err-value.field-0.0 (datum_at (shape c.args.items.now)) c.loop.values.items c.args.count c.loop.counter c.loop.rest.now (items_at (datum_at (shape c.args.items.now)) c.args.count c.args.bytes.now) c.loop-test.true c.in_err-value.ensures c.loop.invariant)

pub datums_at-loop-preserved : goal.datums_at-loop-preserved
datums_at-loop-preserved t c =
    rw c.in_ok-push.ensures.items (items_goes (datum_at (shape c.args.items.now)) c.loop.values.items c.args.count c.loop.counter c.loop.rest.now c.in_ok-value.value c.in_ok-value.after.now
    (items_at (datum_at (shape c.args.items.now)) c.args.count c.args.bytes.now) c.loop-test.true c.in_ok-value.ensures c.loop.invariant)

pub datums_at-returns : goal.datums_at-returns
datums_at-returns t c = items_done (datum_at (shape c.args.items.now)) c.loop.values.items c.args.count c.loop.counter c.loop.rest.now (items_at (datum_at (shape c.args.items.now)) c.args.count c.args.bytes.now) c.loop-test.false c.loop.invariant

pub array_blocks-returns-in_err-count : goal.array_blocks-returns-in_err-count
array_blocks-returns-in_err-count t c =
    let p = err_from_is_err_and c.from_residual.result c.from_residual.ensures.1 in
    rw (p.1, p.2) (blocks_stops_at_count c.in_err-count.field-0.0 (datum_at (shape c.args.items.now)) c.loop.all.items (length c.args.bytes.now) c.loop.counter c.loop.rest.now
    (blocks_at (datum_at (shape c.args.items.now)) (length c.args.bytes.now) c.args.bytes.now) c.loop-test.true c.in_err-count.ensures c.loop.invariant)

pub array_blocks-returns-then-count-eq0 : goal.array_blocks-returns-then-count-eq0
array_blocks-returns-then-count-eq0 t c = blocks_ends (datum_at (shape c.args.items.now)) c.loop.all.items
    (length c.args.bytes.now) c.loop.counter c.loop.rest.now c.in_ok-count.count c.in_ok-count.after.now
    (blocks_at (datum_at (shape c.args.items.now)) (length c.args.bytes.now) c.args.bytes.now) c.loop-test.true c.in_ok-count.ensures
    (eq-eqb c.in_ok-count.count 0 c.if-count-eq0.true) c.loop.invariant

pub array_blocks-returns-in_err-block : goal.array_blocks-returns-in_err-block
array_blocks-returns-in_err-block t c =
    let p = err_from_is_err_and c.from_residual-in_err-block.result c.from_residual-in_err-block.ensures.1 in
    rw (p.1, p.2) (blocks_stops_at_items c.in_err-block.field-0.0 (datum_at (shape c.args.items.now)) c.loop.all.items
    (length c.args.bytes.now) c.loop.counter c.loop.rest.now c.in_ok-count.count c.in_ok-count.after.now
    (blocks_at (datum_at (shape c.args.items.now)) (length c.args.bytes.now) c.args.bytes.now) c.loop-test.true c.in_ok-count.ensures
    (ne-eqb c.in_ok-count.count 0 c.if-count-eq0.false) c.in_err-block.ensures c.loop.invariant)

pub array_blocks-loop-preserved : goal.array_blocks-loop-preserved
array_blocks-loop-preserved t c =
    rw c.in_ok-append.ensures.items (blocks_goes (datum_at (shape c.args.items.now)) c.loop.all.items
    (length c.args.bytes.now) c.loop.counter c.loop.rest.now c.in_ok-count.count c.in_ok-count.after.now c.in_ok-block.block.items c.in_ok-block.after.now
    (blocks_at (datum_at (shape c.args.items.now)) (length c.args.bytes.now) c.args.bytes.now) c.loop-test.true c.in_ok-count.ensures
    (ne-eqb c.in_ok-count.count 0 c.if-count-eq0.false) c.in_ok-block.ensures c.loop.invariant)

pub array_blocks-returns : goal.array_blocks-returns
array_blocks-returns t c = rw c.short.ensures (blocks_out (datum_at (shape c.args.items.now)) c.loop.all.items (length c.args.bytes.now) c.loop.counter c.loop.rest.now (blocks_at (datum_at (shape c.args.items.now)) (length c.args.bytes.now) c.args.bytes.now) c.loop-test.false c.loop.invariant)

pub map_items-returns-in_err-pair : goal.map_items-returns-in_err-pair
map_items-returns-in_err-pair t c =
    let p = err_from_is_err_and c.from_residual.result c.from_residual.ensures.1 in
    rw (p.1, p.2) (items_stops c.in_err-pair.field-0.0 (pair_at (datum_at (shape c.args.values.now))) c.loop.pairs.items c.args.count c.loop.counter c.loop.rest.now
    (items_at (pair_at (datum_at (shape c.args.values.now))) c.args.count c.args.bytes.now) c.loop-test.true c.in_err-pair.ensures c.loop.invariant)

pub map_items-loop-preserved : goal.map_items-loop-preserved
map_items-loop-preserved t c =
    rw c.in_ok-push.ensures.items (items_goes (pair_at (datum_at (shape c.args.values.now))) c.loop.pairs.items c.args.count c.loop.counter c.loop.rest.now c.in_ok-pair.pair c.in_ok-pair.after.now
    (items_at (pair_at (datum_at (shape c.args.values.now))) c.args.count c.args.bytes.now) c.loop-test.true c.in_ok-pair.ensures c.loop.invariant)

pub map_items-returns : goal.map_items-returns
map_items-returns t c = items_done (pair_at (datum_at (shape c.args.values.now))) c.loop.pairs.items c.args.count c.loop.counter c.loop.rest.now (items_at (pair_at (datum_at (shape c.args.values.now))) c.args.count c.args.bytes.now) c.loop-test.false c.loop.invariant

pub map_blocks-returns-in_err-count : goal.map_blocks-returns-in_err-count
map_blocks-returns-in_err-count t c =
    let p = err_from_is_err_and c.from_residual.result c.from_residual.ensures.1 in
    rw (p.1, p.2) (blocks_stops_at_count c.in_err-count.field-0.0 (pair_at (datum_at (shape c.args.values.now))) c.loop.all.items (length c.args.bytes.now) c.loop.counter c.loop.rest.now
    (blocks_at (pair_at (datum_at (shape c.args.values.now))) (length c.args.bytes.now) c.args.bytes.now) c.loop-test.true c.in_err-count.ensures c.loop.invariant)

pub map_blocks-returns-then-count-eq0 : goal.map_blocks-returns-then-count-eq0
map_blocks-returns-then-count-eq0 t c = blocks_ends (pair_at (datum_at (shape c.args.values.now))) c.loop.all.items
    (length c.args.bytes.now) c.loop.counter c.loop.rest.now c.in_ok-count.count c.in_ok-count.after.now
    (blocks_at (pair_at (datum_at (shape c.args.values.now))) (length c.args.bytes.now) c.args.bytes.now) c.loop-test.true c.in_ok-count.ensures
    (eq-eqb c.in_ok-count.count 0 c.if-count-eq0.true) c.loop.invariant

pub map_blocks-returns-in_err-block : goal.map_blocks-returns-in_err-block
map_blocks-returns-in_err-block t c =
    let p = err_from_is_err_and c.from_residual-in_err-block.result c.from_residual-in_err-block.ensures.1 in
    rw (p.1, p.2) (blocks_stops_at_items c.in_err-block.field-0.0 (pair_at (datum_at (shape c.args.values.now))) c.loop.all.items
    (length c.args.bytes.now) c.loop.counter c.loop.rest.now c.in_ok-count.count c.in_ok-count.after.now
    (blocks_at (pair_at (datum_at (shape c.args.values.now))) (length c.args.bytes.now) c.args.bytes.now) c.loop-test.true c.in_ok-count.ensures
    (ne-eqb c.in_ok-count.count 0 c.if-count-eq0.false) c.in_err-block.ensures c.loop.invariant)

pub map_blocks-loop-preserved : goal.map_blocks-loop-preserved
map_blocks-loop-preserved t c =
    rw c.in_ok-append.ensures.items (blocks_goes (pair_at (datum_at (shape c.args.values.now))) c.loop.all.items
    (length c.args.bytes.now) c.loop.counter c.loop.rest.now c.in_ok-count.count c.in_ok-count.after.now c.in_ok-block.block.items c.in_ok-block.after.now
    (blocks_at (pair_at (datum_at (shape c.args.values.now))) (length c.args.bytes.now) c.args.bytes.now) c.loop-test.true c.in_ok-count.ensures
    (ne-eqb c.in_ok-count.count 0 c.if-count-eq0.false) c.in_ok-block.ensures c.loop.invariant)

pub map_blocks-returns : goal.map_blocks-returns
map_blocks-returns t c = rw c.short.ensures (blocks_out (pair_at (datum_at (shape c.args.values.now))) c.loop.all.items (length c.args.bytes.now) c.loop.counter c.loop.rest.now
    (blocks_at (pair_at (datum_at (shape c.args.values.now))) (length c.args.bytes.now) c.args.bytes.now) c.loop-test.false c.loop.invariant)

pub fields_at-returns-in_err-value : goal.fields_at-returns-in_err-value
fields_at-returns-in_err-value t c =
    let p = err_from_is_err_and c.from_residual.result c.from_residual.ensures.1 in
    rw (p.1, p.2) (fields_stops c.in_err-value.field-0.0 c.args.fields.now c.loop-field.values.items c.loop-field.field-index c.field-item.result c.loop-field.rest.now
    (fields_at (shapes (map field_shape c.args.fields.now)) c.args.bytes.now) c.loop-field-test.true c.field-item.is c.in_err-value.ensures c.loop-field.invariant)

pub fields_at-loop-field-preserved : goal.fields_at-loop-field-preserved
fields_at-loop-field-preserved t c =
    rw c.in_ok-push.ensures.items
    (fields_goes c.args.fields.now c.loop-field.values.items c.loop-field.field-index c.field-item.result c.loop-field.rest.now c.in_ok-value.value c.in_ok-value.after.now
    (fields_at (shapes (map field_shape c.args.fields.now)) c.args.bytes.now) c.loop-field-test.true c.field-item.is c.in_ok-value.ensures c.loop-field.invariant)

pub fields_at-returns : goal.fields_at-returns
fields_at-returns t c = fields_done c.args.fields.now c.loop-field.values.items c.loop-field.field-index c.loop-field.rest.now (fields_at (shapes (map field_shape c.args.fields.now)) c.args.bytes.now) c.loop-field-test.false c.loop-field.invariant
