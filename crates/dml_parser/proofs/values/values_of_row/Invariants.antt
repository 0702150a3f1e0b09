use Rattle.std.proofs.Common.{◌≡◌, [], length}
use Rattle.dml_parser.specs.Values.{values_of_row}
use Rattle.dml_parser.proofs.values.values_of_row.Given as goal

-- what is left leads to the same answer
abbrev pub invariant-loop-rest : goal.invariant-loop-rest
invariant-loop-rest l = values_of_row l.left l.values l.rest ≡ values_of_row l.columns [] l.row

abbrev pub decreases-loop-rest : goal.decreases-loop-rest
decreases-loop-rest l = length l.rest
