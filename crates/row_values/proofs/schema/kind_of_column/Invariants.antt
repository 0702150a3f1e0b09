use Rattle.std.proofs.Common.{◌≡◌, length}
use Rattle.row_values.specs.Columns.{kind_of_column}
use Rattle.row_values.proofs.schema.kind_of_column.Given as goal

-- the columns that are left give the same kind
abbrev pub invariant-loop-rest : goal.invariant-loop-rest
invariant-loop-rest l = kind_of_column l.id l.rest ≡ kind_of_column l.id l.columns

abbrev pub decreases-loop-rest : goal.decreases-loop-rest
decreases-loop-rest l = length l.rest
