use Rattle.session_steps.proofs.NextOpen.{stays_open}
use Rattle.session_steps.proofs.open_laws.a_committed_statement_keeps_the_table_open.Goals as goal

pub returns : goal.returns
returns c = λ table schema sources s files later current pending prepared was main is stands keeps others. stays_open table schema sources s files later current pending prepared was main is stands keeps others
