use Rattle.std.proofs.Common.{◌-◌, [], length}
use Rattle.std.proofs.lemmas.Result.{err_from_is_err_and}
use Rattle.avro_binary.specs.Shape.{shape}
use Rattle.avro_container.specs.Container.{blocks_at}
use Rattle.avro_container.proofs.Loops.{blocks_end, blocks_go, blocks_stop, blocks_out, is_none, is_some}
use Rattle.avro_container.proofs.container.blocks_at.Goals as goal

pub returns-then-is_empty : goal.returns-then-is_empty
returns-then-is_empty c = blocks_end (shape c.args.schema.now) c.args.sync.now c.args.whole
    (length c.args.bytes.now - c.loop-block.block) c.loop-block.block c.loop-block.all.items c.loop-block.rest.now
    (blocks_at (shape c.args.schema.now) c.args.sync.now c.args.whole (length c.args.bytes.now) 0 [] c.args.bytes.now)
    (is_none c.is_empty.result c.loop-block.rest.now c.if-is_empty.true c.is_empty.ensures) c.loop-block.invariant

pub returns-in_err-datums : goal.returns-in_err-datums
returns-in_err-datums c =
    let p = err_from_is_err_and c.from_residual.result c.from_residual.ensures.1 in
    rw (p.1, p.2) (blocks_stop c.in_err-datums.field-0.0 (shape c.args.schema.now) c.args.sync.now c.args.whole
    (length c.args.bytes.now) c.loop-block.block c.loop-block.all.items c.loop-block.rest.now
    (blocks_at (shape c.args.schema.now) c.args.sync.now c.args.whole (length c.args.bytes.now) 0 [] c.args.bytes.now) c.loop-block-test.true
    (is_some c.is_empty.result c.loop-block.rest.now c.if-is_empty.false c.is_empty.ensures) c.in_err-datums.ensures c.loop-block.invariant)

pub loop-block-preserved : goal.loop-block-preserved
loop-block-preserved c =
    rw c.in_ok-append.ensures.items (blocks_go (shape c.args.schema.now) c.args.sync.now c.args.whole
    (length c.args.bytes.now) c.loop-block.block c.loop-block.all.items c.loop-block.rest.now c.in_ok-datums.datums.items c.in_ok-datums.after.now
    (blocks_at (shape c.args.schema.now) c.args.sync.now c.args.whole (length c.args.bytes.now) 0 [] c.args.bytes.now) c.loop-block-test.true
    (is_some c.is_empty.result c.loop-block.rest.now c.if-is_empty.false c.is_empty.ensures) c.in_ok-datums.ensures c.loop-block.invariant)

pub returns-then-is_empty-2 : goal.returns-then-is_empty-2
returns-then-is_empty-2 c = blocks_end (shape c.args.schema.now) c.args.sync.now c.args.whole
    (length c.args.bytes.now - c.loop-block.block) c.loop-block.block c.loop-block.all.items c.loop-block.rest.now
    (blocks_at (shape c.args.schema.now) c.args.sync.now c.args.whole (length c.args.bytes.now) 0 [] c.args.bytes.now)
    (is_none c.is_empty-2.result c.loop-block.rest.now c.if-is_empty-2.true c.is_empty-2.ensures) c.loop-block.invariant

pub returns-else-is_empty-2 : goal.returns-else-is_empty-2
returns-else-is_empty-2 c = λ other. blocks_out (shape c.args.schema.now) c.args.sync.now c.args.whole (length c.args.bytes.now) c.loop-block.block c.loop-block.all.items c.loop-block.rest.now
    (blocks_at (shape c.args.schema.now) c.args.sync.now c.args.whole (length c.args.bytes.now) 0 [] c.args.bytes.now) c.loop-block-test.false c.loop-block.auto.block-end
    (is_some c.is_empty-2.result c.loop-block.rest.now c.if-is_empty-2.false c.is_empty-2.ensures) c.loop-block.invariant
