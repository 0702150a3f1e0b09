use Rattle.std.proofs.Common.{}
use Rattle.std.proofs.lemmas.Result.{err_from_is_err_and}
use Rattle.plain_types.proofs.CallerLemmas.{front_of_more}
use Rattle.table_scan.proofs.hits.add_hits.Goals as goal

pub returns-in_err-add_hit : goal.returns-in_err-add_hit
returns-in_err-add_hit c =
    let p = err_from_is_err_and c.from_residual.result c.from_residual.ensures.1 in
    rw p.1 (front_of_more c.args.rows.now.items _ c.loop-live.rows.items c.add_hit.new.rows.items c.loop-live.invariant c.in_err-add_hit.ensures)
