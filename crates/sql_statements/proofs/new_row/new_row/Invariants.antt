use Rattle.std.proofs.Common.{◌≡◌, take}
use Rattle.sql_statements.specs.NewRows as spec
use Rattle.sql_statements.proofs.new_row.new_row.Given as goal

abbrev pub invariant-loop-expr : goal.invariant-loop-expr
invariant-loop-expr l = l.row ≡ spec.new_row l.sight (take l.expr-index l.exprs)
