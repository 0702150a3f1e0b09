use Rattle.session_steps.proofs.OpenLaws.{is_of_outside}
use Rattle.session_steps.proofs.laws.a_step_on_an_open_table_can_be_read.Goals as goal

pub returns : goal.returns
returns c = λ table schema s files current fault main is why. is_of_outside table schema s files current main is fault why
