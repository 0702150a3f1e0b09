use Rattle.std.proofs.Common.{◌≡◌, [], length}
use Rattle.commit_manifests.specs.Drafts.{seen}
use Rattle.commit_manifests.specs.Sorting.{and_groups, spec_ids}
use Rattle.commit_manifests.proofs.sorting.Commit.add_groups.Given as goal

abbrev pub invariant-loop-rest : goal.invariant-loop-rest
invariant-loop-rest l = and_groups l.self.specs.now l.self.schema.now l.self.numbers l.content l.entries (seen l.drafts) l.rest ≡ and_groups l.self.specs.now l.self.schema.now l.self.numbers l.content l.entries (seen l.initial.drafts) (spec_ids [] l.entries)

abbrev pub decreases-loop-rest : goal.decreases-loop-rest
decreases-loop-rest l = length l.rest
