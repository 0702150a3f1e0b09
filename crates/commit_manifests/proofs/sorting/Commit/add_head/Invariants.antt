use Rattle.std.proofs.Common.{◌≡◌, length}
use Rattle.commit_manifests.specs.Sorting.{seen_sorted, sorted_from}
use Rattle.commit_manifests.proofs.sorting.Commit.add_head.Given as goal

abbrev pub invariant-loop-rest : goal.invariant-loop-rest
invariant-loop-rest l = sorted_from l.self.specs.now l.self.schema.now l.self.removed.now l.self.numbers.snapshot
    (seen_sorted l.sorted) l.rest l.counts l.data_files l.deletes ≡ sorted_from l.self.specs.now l.self.schema.now l.self.removed.now l.self.numbers.snapshot
    (seen_sorted l.initial.sorted) l.rows l.initial.counts l.live.data_files l.live.deletes

abbrev pub decreases-loop-rest : goal.decreases-loop-rest
decreases-loop-rest l = length l.rest
