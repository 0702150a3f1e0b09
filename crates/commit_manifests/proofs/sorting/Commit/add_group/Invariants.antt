use Rattle.std.proofs.Common.{◌≡◌, length}
use Rattle.commit_manifests.specs.Drafts.{seen}
use Rattle.commit_manifests.specs.Sorting.{and_group}
use Rattle.commit_manifests.proofs.sorting.Commit.add_group.Given as goal

abbrev pub invariant-loop-rest : goal.invariant-loop-rest
invariant-loop-rest l = and_group l.self.specs.now l.self.schema.now l.self.numbers l.id (seen l.drafts) l.rest ≡ and_group l.self.specs.now l.self.schema.now l.self.numbers l.id (seen l.initial.drafts) l.entries

abbrev pub decreases-loop-rest : goal.decreases-loop-rest
decreases-loop-rest l = length l.rest
