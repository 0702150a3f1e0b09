use Rattle.std.proofs.Common.{◌≡◌, ◌≤◌, take}
use Rattle.std.specs.List.{count_by}
use Rattle.sql_statements.specs.Clauses as spec
use Rattle.sql_statements.proofs.clauses.count_for_matched.Given as goal

abbrev pub invariant-loop-clause : goal.invariant-loop-clause
invariant-loop-clause l =
    (l.count ≡ count_by spec.is_for_matched (take l.clause-index l.clauses)) × (l.count ≤ l.clause-index)
