use Rattle.std.proofs.Common.{◌≡◌, true, take}
use Rattle.std.specs.List.{list_all}
use Rattle.sql_predicates.specs.Positions.{expr_is_within}
use Rattle.sql_statements.proofs.fits.exprs_are_within.Given as goal

abbrev pub invariant-loop-expr : goal.invariant-loop-expr
invariant-loop-expr l = list_all (expr_is_within l.width) (take l.expr-index l.exprs) ≡ true
