use Rattle.commit_builder.proofs.NextHead.{next_holds}
use Rattle.commit_builder.proofs.laws.a_prepared_version_holds_the_change.Goals as goal

pub returns : goal.returns
returns c = λ head change names now version old files later is kept none proper few spelled laid_on keeps. next_holds head change names now version old files later is kept none proper few spelled laid_on keeps
