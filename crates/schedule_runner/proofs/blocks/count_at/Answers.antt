use Rattle.std.proofs.Common.{w64, ◌∙◌}
use Rattle.std.proofs.lemmas.Int.{to_z-of_z}
use Rattle.schedule_runner.proofs.BlockCounts.{passes}
use Rattle.schedule_runner.proofs.blocks.count_at.Goals as goal

pub returns : goal.returns
returns c = λ shape marker datums rest sized reads.
    let found = passes c.args.sync c.args.bytes.now c.in_ok-count.count c.in_ok-count.sized.now c.in_ok-count.ensures c.in_ok-size.size c.in_ok-size.behind.now c.in_ok-size.ensures c.in_ok-_stored._stored.now c.in_ok-_stored.synced.now c.in_ok-_stored.ensures
    c.in_ok-_marker._marker.now c.in_ok-_marker.rest.now c.in_ok-_marker.ensures shape marker datums rest sized reads in
    (to_z-of_z w64 c.in_ok-count.count (search) ∙ found.0, found.1)
