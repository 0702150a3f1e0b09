use Rattle.std.proofs.Common.{◌≡◌, ◌++◌, length}
use Rattle.change_sets.specs.Deciding.{removed_of}
use Rattle.cow_writer.proofs.touched.removed_files.Given as goal

abbrev pub invariant-loop-rest : goal.invariant-loop-rest
invariant-loop-rest l = l.removed.items ++ removed_of l.rest l.left ≡ removed_of l.scanned l.decisions

abbrev pub decreases-loop-rest : goal.decreases-loop-rest
decreases-loop-rest l = length l.rest
