use Rattle.std.proofs.Common.{◌≡◌, [], map, take}
use Rattle.sql_statements.specs.NewRows as new_rows
use Rattle.sql_statements.proofs.effects.tuple_rows.Given as goal

abbrev pub invariant-loop-tuple : goal.invariant-loop-tuple
invariant-loop-tuple l = (l.made ≡ map (new_rows.new_row []) (take l.tuple-index l.tuples)) × (l.nothing ≡ [])
