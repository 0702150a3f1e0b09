use Rattle.std.proofs.Common.{◌≡◌, false, take}
use Rattle.std.specs.List.{list_any}
use Rattle.sql_statements.specs.Clauses as clauses
use Rattle.sql_statements.proofs.reference.has_two.Given as goal

abbrev pub invariant-loop-row : goal.invariant-loop-row
invariant-loop-row l = list_any (clauses.matches_two l.merge.on l.source_rows) (take l.row-index l.rows) ≡ false
