use Rattle.std.proofs.Common.{◌≤◌, length, take, drop, ap, ◌∙◌, arith, length-drop}
use Rattle.store_core.specs.Written.{appended}
use Rattle.store_core.proofs.WrittenLemmas.{appended-more}
use Rattle.store_core.proofs.sink.write_all.Goals as goal

pub loop-taken-preserved : goal.loop-taken-preserved
loop-taken-preserved g c =
    let bytes = c.args.bytes.now in
    let taken = c.loop-taken.taken in
    let count = c.in_ok-count.count in
    let rest = c.split_at.ensures.back in
    let fits : count ≤ length (drop taken bytes) = rw rest at c.in_ok-count.ensures.bound in (
      omega (arith, length-drop taken bytes),
      rw rest at c.in_ok-count.ensures.appends ∙ ap (appended (take count (drop taken bytes))) c.loop-taken.invariant.1 ∙ appended-more bytes taken count _,
      c.in_ok-count.ensures.cause.kept (omega arith) ∙ c.loop-taken.invariant.2,
    )
