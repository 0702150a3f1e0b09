use Rattle.schedule_runner.proofs.DatumCounts.{of_blocks}
use Rattle.schedule_runner.proofs.blocks.count_datums.Goals as goal

pub returns-in-Ok : goal.returns-in-Ok
returns-in-Ok c = of_blocks c.args.bytes.now c.in-Ok.header c.in-Ok.rest.now c.in-Ok.ensures _ c.count_blocks.result c.count_blocks.ensures c.len.ensures
