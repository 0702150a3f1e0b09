use Rattle.std.proofs.Common.{◌≡◌, fold, length, map}
use Rattle.std.specs.Int.{int_max}
use Rattle.row_values.specs.declared.partition.PartField.{PartField}
use Rattle.table_definition.specs.LastIds.{last_partition}
use Rattle.table_definition.proofs.last_ids.last_partition.Given as goal

-- the ids that are left give the same answer
abbrev pub invariant-loop-rest : goal.invariant-loop-rest
invariant-loop-rest l = fold int_max l.greatest (map (λ (field : PartField). field.field) l.rest) ≡ last_partition l.fields

abbrev pub decreases-loop-rest : goal.decreases-loop-rest
decreases-loop-rest l = length l.rest
