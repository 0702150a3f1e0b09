use Rattle.schedule_runner.proofs.TurnLaws.{stays, tells}
use Rattle.schedule_runner.proofs.laws.a_step_is_of_the_statement_at_hand.Goals as goal

pub returns-clause-tells : goal.returns-clause-tells
returns-clause-tells c = λ table sources files current place s statements turned at_hand is. tells table sources files current place s statements turned at_hand is

pub returns-clause-stays : goal.returns-clause-stays
returns-clause-stays c = λ table sources files current place s turned is. stays table sources files current place s turned is
