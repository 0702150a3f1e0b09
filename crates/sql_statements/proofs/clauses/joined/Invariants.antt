use Rattle.std.proofs.Common.{◌≡◌, ◌++◌, take}
use Rattle.sql_statements.proofs.clauses.joined.Given as goal

abbrev pub invariant-loop-value : goal.invariant-loop-value
invariant-loop-value l = l.row ≡ l.left ++ take l.value-index l.right
