use Rattle.std.proofs.Common.{◌≡◌, false, take}
use Rattle.sql_statements.specs.Clauses as spec
use Rattle.sql_statements.proofs.clauses.is_matched.Given as goal

abbrev pub invariant-loop-target : goal.invariant-loop-target
invariant-loop-target l = spec.is_matched l.on (take l.target-index l.targets) l.row ≡ false
