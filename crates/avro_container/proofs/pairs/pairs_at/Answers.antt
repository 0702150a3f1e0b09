use Rattle.std.proofs.lemmas.Result.{err_from_is_err_and}
use Rattle.avro_container.specs.Pairs.{pairs_at}
use Rattle.avro_container.proofs.Loops.{pairs_goes, pairs_stops, pairs_done}
use Rattle.avro_container.proofs.pairs.pairs_at.Goals as goal

pub returns-in_err-pair : goal.returns-in_err-pair
returns-in_err-pair c =
    let p = err_from_is_err_and c.from_residual.result c.from_residual.ensures.1 in
    rw (p.1, p.2) (pairs_stops c.in_err-pair.field-0.0 c.args.whole c.args.count c.loop.counter c.loop.pairs.items c.as_slice.result.now c.loop.rest.now
    (pairs_at c.args.whole c.args.count c.args.before.items c.args.bytes.now) c.loop-test.true c.as_slice.ensures.value c.in_err-pair.ensures c.loop.invariant)

pub loop-preserved : goal.loop-preserved
loop-preserved c =
    rw c.in_ok-push.ensures.items (pairs_goes c.args.whole c.args.count c.loop.counter c.loop.pairs.items c.as_slice.result.now c.loop.rest.now c.in_ok-pair.pair c.in_ok-pair.after.now
    (pairs_at c.args.whole c.args.count c.args.before.items c.args.bytes.now) c.loop-test.true c.as_slice.ensures.value c.in_ok-pair.ensures c.loop.invariant)

pub returns : goal.returns
returns c = pairs_done c.args.whole c.args.count c.loop.counter c.loop.pairs.items c.loop.rest.now (pairs_at c.args.whole c.args.count c.args.before.items c.args.bytes.now) c.loop-test.false c.loop.invariant
