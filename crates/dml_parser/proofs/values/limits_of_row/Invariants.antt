use Rattle.std.proofs.Common.{◌≡◌, length}
use Rattle.dml_parser.specs.Values.{limits_of_row}
use Rattle.dml_parser.proofs.values.limits_of_row.Given as goal

-- what is left leads to the same answer
abbrev pub invariant-loop-rest : goal.invariant-loop-rest
invariant-loop-rest l = limits_of_row l.rest ≡ limits_of_row l.row

abbrev pub decreases-loop-rest : goal.decreases-loop-rest
decreases-loop-rest l = length l.rest
