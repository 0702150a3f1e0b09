-- The greatest ids of a new table (Iceberg specification, "Table Metadata Fields").
use Rattle.std.specs.Prelude.{ℤ, pos, neg_ℤ, ◌^◌, List, fold, map}
use Rattle.std.specs.Int.{int_max}
use Rattle.row_values.specs.declared.schema.Column.{Column}
use Rattle.row_values.specs.declared.partition.PartField.{PartField}

abbrev pub last_column : List Column → ℤ
last_column columns = fold int_max (neg_ℤ (pos (2 ^ 31))) (map (λ (column : Column). column.id) columns)

-- Partition field ids begin at 1000.
abbrev pub last_partition : List PartField → ℤ
last_partition fields = fold int_max (pos 999) (map (λ (field : PartField). field.field) fields)
