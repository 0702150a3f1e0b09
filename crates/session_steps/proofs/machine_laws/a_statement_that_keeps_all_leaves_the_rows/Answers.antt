use Rattle.session_steps.proofs.Keeping.{leaves_all}
use Rattle.session_steps.proofs.machine_laws.a_statement_that_keeps_all_leaves_the_rows.Goals as goal

pub returns : goal.returns
returns c = λ columns sources s rows keeps accepted. leaves_all sources s columns rows keeps accepted
