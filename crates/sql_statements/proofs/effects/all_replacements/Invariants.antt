use Rattle.std.proofs.Common.{◌≡◌, take}
use Rattle.std.specs.List.{flat_map}
use Rattle.sql_statements.specs.Effects as spec
use Rattle.sql_statements.proofs.effects.all_replacements.Given as goal

abbrev pub invariant-loop-row : goal.invariant-loop-row
invariant-loop-row l = l.made ≡ flat_map (spec.replacements l.sources l.statement) (take l.row-index l.rows)
