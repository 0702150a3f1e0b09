use Rattle.std.proofs.Common.{◌≡◌, false, take}
use Rattle.std.specs.List.{list_any}
use Rattle.sql_statements.specs.Filter as spec
use Rattle.sql_statements.proofs.filter.any_by_source.Given as goal

abbrev pub invariant-loop-clause : goal.invariant-loop-clause
invariant-loop-clause l = list_any spec.is_by_source (take l.clause-index l.clauses) ≡ false
