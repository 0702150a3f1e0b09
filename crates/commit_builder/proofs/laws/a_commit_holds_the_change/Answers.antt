use Rattle.commit_manifests.proofs.CallerLemmas.{holds}
use Rattle.commit_builder.proofs.laws.a_commit_holds_the_change.Goals as goal

pub returns : goal.returns
returns c = λ specs schema numbers change rows counts live parted w. holds specs schema w numbers change rows counts live parted
