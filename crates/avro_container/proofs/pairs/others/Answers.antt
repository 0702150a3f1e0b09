use Rattle.avro_container.specs.Pairs.{others}
use Rattle.avro_container.proofs.Loops.{others_goes, others_done}
use Rattle.avro_container.proofs.pairs.others.Goals as goal

pub loop-pair-preserved : goal.loop-pair-preserved
loop-pair-preserved c = others_goes c.loop-pair.found.items c.in_ok-more.more.items c.args.pairs.now c.loop-pair.pair-index c.pair-item.result (others c.args.pairs.now) c.loop-pair-test.true c.pair-item.is c.in_ok-more.ensures c.loop-pair.invariant

pub returns : goal.returns
returns c = others_done c.loop-pair.found.items c.args.pairs.now c.loop-pair.pair-index (others c.args.pairs.now) c.loop-pair-test.false c.loop-pair.invariant
