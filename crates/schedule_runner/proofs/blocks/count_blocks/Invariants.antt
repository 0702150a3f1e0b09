use Rattle.schedule_runner.proofs.BlockCounts.{Counts}
use Rattle.schedule_runner.proofs.blocks.count_blocks.Given as goal

abbrev pub invariant-loop : goal.invariant-loop
invariant-loop l = Counts l.sync l.bytes l.count l.rest
