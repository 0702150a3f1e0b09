use Rattle.std.proofs.Common.{◌∙◌, w64}
use Rattle.std.proofs.lemmas.Int.{to_z-of_z}
use Rattle.avro_container.proofs.CallerLemmas.{is_none, is_some}
use Rattle.schedule_runner.proofs.BlockCounts.{ends, goes_on, starts}
use Rattle.schedule_runner.proofs.blocks.count_blocks.Goals as goal

pub loop-init : goal.loop-init
loop-init c = starts c.args.sync c.args.bytes.now

pub returns-then-is_empty : goal.returns-then-is_empty
returns-then-is_empty c = ends c.args.sync c.args.bytes.now c.loop.count c.loop.rest.now (is_none c.is_empty.result c.loop.rest.now c.if-is_empty.true c.is_empty.ensures) c.loop.invariant

pub loop-preserved : goal.loop-preserved
loop-preserved c =
    goes_on c.args.sync c.args.bytes.now c.loop.count c.loop.rest.now c.in-Ok.found.0 c.in-Ok.found.1.now c.in_ok-count.count (is_some c.is_empty.result c.loop.rest.now c.if-is_empty.false c.is_empty.ensures) c.in-Ok.ensures
    (λ k is. c.in_ok-count.ensures k (to_z-of_z w64 c.in-Ok.found.0 (search) ∙ is)) c.loop.invariant

pub returns-then-is_empty-2 : goal.returns-then-is_empty-2
returns-then-is_empty-2 c = ends c.args.sync c.args.bytes.now c.loop.count c.loop.rest.now (is_none c.is_empty-2.result c.loop.rest.now c.if-is_empty-2.true c.is_empty-2.ensures) c.loop.invariant
