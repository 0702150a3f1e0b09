use Rattle.std.proofs.Common.{◌≡◌, take}
use Rattle.change_sets.proofs.copies.copy_summaries.Given as goal

abbrev pub invariant-loop-summary : goal.invariant-loop-summary
invariant-loop-summary l = l.copy ≡ take l.summary-index l.summaries
