use Rattle.std.proofs.Common.{}
use Rattle.std.proofs.lemmas.Result.{err_from_is_err_and}
use Rattle.plain_types.proofs.CallerLemmas.{front_of_more}
use Rattle.avro_container.proofs.writing.put_pairs.Goals as goal

pub returns-in_err-put_pair : goal.returns-in_err-put_pair
returns-in_err-put_pair c =
    let p = err_from_is_err_and c.from_residual.result c.from_residual.ensures.1 in
    rw p.1 (front_of_more c.args.out.now.items c.loop-pair.invariant.1.0 c.loop-pair.out.items c.put_pair.new.out.items c.loop-pair.invariant.1.1 c.in_err-put_pair.ensures)
