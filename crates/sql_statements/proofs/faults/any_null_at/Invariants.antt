use Rattle.std.proofs.Common.{◌≡◌, false, take}
use Rattle.std.specs.List.{list_any}
use Rattle.sql_statements.specs.NewRows as spec
use Rattle.sql_statements.proofs.faults.any_null_at.Given as goal

abbrev pub invariant-loop-row : goal.invariant-loop-row
invariant-loop-row l = list_any (spec.is_null_at l.at) (take l.row-index l.rows) ≡ false
