use Rattle.commit_builder.proofs.Laying.{can_be_laid}
use Rattle.commit_builder.proofs.laws.a_change_can_be_laid.Goals as goal

pub returns : goal.returns
returns c = λ head change names now version old is numbers anew data_added deletes_added. can_be_laid head change names now version old is numbers anew data_added deletes_added
