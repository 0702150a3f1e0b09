use Rattle.std.proofs.Common.{◌++◌, length, sym}
use Rattle.std.proofs.lemmas.Bool.{eqb-true}
use Rattle.std.proofs.lemmas.Result.{err_from_is_err_and}
use Rattle.plain_types.proofs.CallerLemmas.{front_of_more}
use Rattle.avro_container.specs.ContainerText.{block_text, blocks_text}
use Rattle.avro_container.proofs.Pieces.{blocks_go_on, blocks_are_done, some_left}
use Rattle.avro_container.proofs.writing.put_blocks.Goals as goal

pub loop-rest-preserved : goal.loop-rest-preserved
loop-rest-preserved c = (
  blocks_go_on c.args.limit c.loop-rest.rest.now c.cut.result.0.now c.cut.result.1.now c.loop-rest.out.items c.put_block.new.out.items (c.args.out.now.items ++ blocks_text c.args.limit c.args.datums.now)
      c.requires (some_left (length c.loop-rest.rest.now) c.loop-rest-test.ensures) c.cut.ensures.front c.cut.ensures.back c.in_ok-put_block.ensures c.loop-rest.invariant.0,
  front_of_more c.args.out.now.items c.loop-rest.invariant.1.0 c.loop-rest.out.items c.put_block.new.out.items c.loop-rest.invariant.1.1 (block_text c.cut.result.0.now, c.in_ok-put_block.ensures),
)

pub returns : goal.returns
returns c = blocks_are_done c.args.limit c.loop-rest.rest.now c.loop-rest.out.items (c.args.out.now.items ++ blocks_text c.args.limit c.args.datums.now) (eqb-true (length c.loop-rest.rest.now) 0 (sym c.loop-rest-test.ensures)) c.loop-rest.invariant.0

pub returns-in_err-put_block : goal.returns-in_err-put_block
returns-in_err-put_block c =
    let p = err_from_is_err_and c.from_residual.result c.from_residual.ensures.1 in
    rw p.1 (front_of_more c.args.out.now.items c.loop-rest.invariant.1.0 c.loop-rest.out.items c.put_block.new.out.items c.loop-rest.invariant.1.1 c.in_err-put_block.ensures)
