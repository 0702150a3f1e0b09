use Rattle.store_core.specs.Files.{swapped}
use Rattle.std.proofs.Common.{ap, ◌∙◌, option_map}
use Rattle.session_steps.proofs.Swaps.{won}
use Rattle.session_steps.proofs.swapping.swap_step.Goals as goal

pub returns-in-Ok-Won-clause-step : goal.returns-in-Ok-Won-clause-step
returns-in-Ok-Won-clause-step g c = λ files told table schema sources s current main was has. (
  swapped has.prepared.name has.prepared.bytes files,
  c.in-Ok-Won.ensures.leaves has.prepared has.made ∙ ap (option_map (swapped has.prepared.name has.prepared.bytes)) told,
  won table schema sources s files current c.args.session.now was has main c.win.new.session c.win.result c.requires.phase c.win.ensures.turned,
)
