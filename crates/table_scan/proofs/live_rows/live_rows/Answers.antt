use Rattle.std.proofs.Common.{◌≡◌, ◌∷◌, [], length, ap, ◌∙◌, append_assoc, rules, arith}
use Rattle.std.specs.Vec.Iter.{into_iter_items}
use Rattle.table_scan.proofs.RowLaws.{live_count, pushed}
use Rattle.table_scan.proofs.live_rows.live_rows.Goals as goal

pub loop-row-preserved : goal.loop-row-preserved
loop-row-preserved c =
    let at = c.loop-row in
    let x = c.in-Some.row in
    let steps : into_iter_items at.row-iterator ≡ x ∷ into_iter_items c.next.new.self = c.in-Some.ensures.steps.0 in
    record {
      taken = append_assoc at.yielded (x ∷ []) _ ∙ rw (← steps) at.invariant.taken;
      live =
          let place : c.len-position.result ≡ length at.yielded = omega (arith, c.len-position.ensures, ap length at.invariant.live, live_count c.args.filter.now at.yielded) in
          pushed c.args.filter.now at.yielded x _ _ _ _ c.in_ok-push.ensures.items at.invariant.live place (search rules);
      left =
          let was = at.invariant.left in
          let gone = c.in-Some.ensures.steps.1 in
          let short = ap length steps in
          omega arith;
    }
