use Rattle.commit_manifests.proofs.ListedLaws.{row_listed, row_has_numbers}
use Rattle.commit_manifests.proofs.laws.a_row_can_be_listed.Goals as goal

pub returns-clause-counts : goal.returns-clause-counts
returns-clause-counts c = row_listed

pub returns-clause-numbers : goal.returns-clause-numbers
returns-clause-numbers c = row_has_numbers
