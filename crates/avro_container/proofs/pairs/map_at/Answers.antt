use Rattle.std.proofs.Common.{[], length, sym, subst, eq-eqb}
use Rattle.std.proofs.lemmas.Result.{err_from_is_err_and}
use Rattle.avro_container.specs.declared.fault.ContainerFault.{ContainerFault}
use Rattle.avro_container.specs.Pairs.{map_at}
use Rattle.avro_container.proofs.Loops.{Is, ne-eqb, map_ends, map_goes, map_stops_at_count, map_stops_at_pairs, map_out}
use Rattle.avro_container.proofs.pairs.map_at.Goals as goal

pub returns-in-Err : goal.returns-in-Err
returns-in-Err c = subst (λ (f : ContainerFault). Is f (map_at c.args.whole (length c.args.bytes.now) [] c.args.bytes.now)) (sym c.stopped.ensures)
    (map_stops_at_count c.in-Err.stop c.args.whole (length c.args.bytes.now) c.loop.counter c.loop.pairs.items c.loop.rest.now
    (map_at c.args.whole (length c.args.bytes.now) [] c.args.bytes.now) c.loop-test.true c.in-Err.ensures c.loop.invariant)

pub returns-then-count-eq0 : goal.returns-then-count-eq0
returns-then-count-eq0 c = map_ends c.args.whole (length c.args.bytes.now) c.loop.counter c.loop.pairs.items c.loop.rest.now c.in-Ok.found.0 c.in-Ok.found.1.now
    (map_at c.args.whole (length c.args.bytes.now) [] c.args.bytes.now) c.loop-test.true c.in-Ok.ensures (eq-eqb c.in-Ok.found.0 0 c.if-count-eq0.true) c.loop.invariant

pub returns-in_err-more : goal.returns-in_err-more
returns-in_err-more c =
    let p = err_from_is_err_and c.from_residual.result c.from_residual.ensures.1 in
    rw (p.1, p.2) (map_stops_at_pairs c.in_err-more.field-0.0 c.args.whole (length c.args.bytes.now) c.loop.counter c.loop.pairs.items c.loop.rest.now c.in-Ok.found.0 c.in-Ok.found.1.now
    (map_at c.args.whole (length c.args.bytes.now) [] c.args.bytes.now) c.loop-test.true c.in-Ok.ensures (ne-eqb c.in-Ok.found.0 0 c.if-count-eq0.false) c.in_err-more.ensures c.loop.invariant)

pub loop-preserved : goal.loop-preserved
loop-preserved c = map_goes c.args.whole (length c.args.bytes.now) c.loop.counter c.loop.pairs.items c.loop.rest.now c.in-Ok.found.0 c.in-Ok.found.1.now c.in_ok-more.more.items c.in_ok-more.after.now
    (map_at c.args.whole (length c.args.bytes.now) [] c.args.bytes.now) c.loop-test.true c.in-Ok.ensures (ne-eqb c.in-Ok.found.0 0 c.if-count-eq0.false) c.in_ok-more.ensures c.loop.invariant

pub returns : goal.returns
returns c = λ other. map_out c.args.whole (length c.args.bytes.now) c.loop.counter c.loop.pairs.items c.loop.rest.now (map_at c.args.whole (length c.args.bytes.now) [] c.args.bytes.now) c.loop-test.false c.loop.invariant
