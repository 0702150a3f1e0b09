use Rattle.std.proofs.Common.{◌≡◌, ◌+◌, length}
use Rattle.dml_parser.specs.Items.{column_from}
use Rattle.dml_parser.proofs.items.find_column.Given as goal

-- the columns that are left give the same answer, and the count goes on from those before them
abbrev pub invariant-loop-rest : goal.invariant-loop-rest
invariant-loop-rest l = (column_from l.name l.at l.rest ≡ column_from l.name 0 l.columns) × (l.at + length l.rest ≡ length l.columns)

abbrev pub decreases-loop-rest : goal.decreases-loop-rest
decreases-loop-rest l = length l.rest
