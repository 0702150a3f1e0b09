use Rattle.session_machine.proofs.Standing.{turn_stands}
use Rattle.session_machine.proofs.laws.a_turn_stands_when_files_are_added.Goals as goal

pub returns : goal.returns
returns c = λ table sources old new current place statements turned kept is. turn_stands old new kept table sources current place statements turned is
