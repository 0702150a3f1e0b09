use Rattle.session_steps.proofs.StaysOpen.{stays_open}
use Rattle.session_steps.proofs.work_laws.a_table_stays_open.Goals as goal

pub returns : goal.returns
returns c = λ table schema files later current was kept same. stays_open table schema files later current was kept same
