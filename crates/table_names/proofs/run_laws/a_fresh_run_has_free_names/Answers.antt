use Rattle.table_names.proofs.RunNames.{free_names}
use Rattle.table_names.proofs.run_laws.a_fresh_run_has_free_names.Goals as goal

pub returns : goal.returns
returns c = λ table session run from files free. free_names table session run from files free
