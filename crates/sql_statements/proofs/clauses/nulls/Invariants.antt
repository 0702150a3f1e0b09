use Rattle.std.proofs.Common.{◌≡◌}
use Rattle.sql_statements.specs.Clauses as spec
use Rattle.sql_statements.proofs.clauses.nulls.Given as goal

abbrev pub invariant-loop : goal.invariant-loop
invariant-loop l = l.row ≡ spec.nulls l.counter
