use Rattle.commit_builder.proofs.Following.{follows}
use Rattle.commit_builder.proofs.laws.a_commit_can_follow.Goals as goal

pub returns : goal.returns
returns c = λ head change names now numbers. follows head change names now numbers
