use Rattle.commit_manifests.proofs.NumberLaws.{number_is_least, number_is_held}
use Rattle.commit_manifests.proofs.laws.a_least_number_is_exact.Goals as goal

pub returns-clause-least : goal.returns-clause-least
returns-clause-least c = number_is_least

pub returns-clause-held : goal.returns-clause-held
returns-clause-held c = number_is_held
