use Rattle.commit_builder.proofs.NewIds.{next_is_new}
use Rattle.commit_builder.proofs.laws.the_next_id_is_new.Goals as goal

pub returns : goal.returns
returns c = λ ids few. next_is_new ids few
