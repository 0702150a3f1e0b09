use Rattle.std.proofs.Common.{◌≡◌, length}
use Rattle.cow_writer.specs.Pieces.{and_rows, seen}
use Rattle.cow_writer.proofs.touched.add_inserted.Given as goal

abbrev pub invariant-loop-rest : goal.invariant-loop-rest
invariant-loop-rest l = and_rows l.schema.columns (seen l.pieces) l.rest ≡ and_rows l.schema.columns (seen l.initial.pieces) l.rows

abbrev pub decreases-loop-rest : goal.decreases-loop-rest
decreases-loop-rest l = length l.rest
