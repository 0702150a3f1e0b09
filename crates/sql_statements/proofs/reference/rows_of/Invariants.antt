use Rattle.std.proofs.Common.{◌≡◌, map, take}
use Rattle.sql_statements.specs.NewRows as new_rows
use Rattle.sql_statements.proofs.reference.rows_of.Given as goal

abbrev pub invariant-loop-new : goal.invariant-loop-new
invariant-loop-new l = l.rows ≡ map new_rows.row_of (take l.new-index l.made)
