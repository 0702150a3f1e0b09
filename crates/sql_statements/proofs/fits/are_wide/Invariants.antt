use Rattle.std.proofs.Common.{◌≡◌, true, take}
use Rattle.std.specs.List.{list_all}
use Rattle.std.specs.Prelude.{List, length, ◌==◌}
use Rattle.row_values.specs.declared.value.Value.{Value}
use Rattle.sql_statements.proofs.fits.are_wide.Given as goal

abbrev pub invariant-loop-row : goal.invariant-loop-row
invariant-loop-row l = list_all (λ (row : List Value). length row == l.width) (take l.row-index l.rows) ≡ true
