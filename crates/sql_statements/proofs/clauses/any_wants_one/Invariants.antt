use Rattle.std.proofs.Common.{◌≡◌, false, take}
use Rattle.std.specs.List.{list_any}
use Rattle.sql_statements.specs.Clauses as spec
use Rattle.sql_statements.proofs.clauses.any_wants_one.Given as goal

abbrev pub invariant-loop-clause : goal.invariant-loop-clause
invariant-loop-clause l = list_any spec.wants_one (take l.clause-index l.clauses) ≡ false
