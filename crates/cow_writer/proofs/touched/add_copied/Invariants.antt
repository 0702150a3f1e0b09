use Rattle.std.proofs.Common.{◌≡◌, length}
use Rattle.change_sets.specs.Deciding.{copied_of}
use Rattle.cow_writer.specs.Pieces.{and_rows, seen}
use Rattle.cow_writer.proofs.touched.add_copied.Given as goal

abbrev pub invariant-loop-rest : goal.invariant-loop-rest
invariant-loop-rest l = and_rows l.schema.columns (seen l.pieces) (copied_of l.rest l.left) ≡ and_rows l.schema.columns (seen l.initial.pieces) (copied_of l.scanned l.decisions)

abbrev pub decreases-loop-rest : goal.decreases-loop-rest
decreases-loop-rest l = length l.rest
