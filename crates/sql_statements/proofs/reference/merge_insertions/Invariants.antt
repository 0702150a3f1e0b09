use Rattle.std.proofs.Common.{◌≡◌, take}
use Rattle.std.specs.List.{flat_map}
use Rattle.sql_statements.specs.Clauses as clauses
use Rattle.sql_statements.proofs.reference.merge_insertions.Given as goal

abbrev pub invariant-loop-row : goal.invariant-loop-row
invariant-loop-row l =
    l.made ≡ flat_map (clauses.insertion l.merge.on l.merge.clauses l.rows (clauses.nulls l.width)) (take l.row-index l.source_rows)
