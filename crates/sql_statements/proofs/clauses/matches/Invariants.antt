use Rattle.std.proofs.Common.{◌≡◌, take}
use Rattle.sql_statements.specs.Clauses as spec
use Rattle.sql_statements.proofs.clauses.matches.Given as goal

abbrev pub invariant-loop-row : goal.invariant-loop-row
invariant-loop-row l = l.sights ≡ spec.matches l.on (take l.row-index l.rows) l.target
