-- Columns whose rows are read again, as those of a table's schema are.
use Rattle.std.specs.Prelude.{◌≤◌, ◌<◌, Bool, true, not, ◌&&◌, List, [], ◌∷◌, length, Some, IsTrue}
use Rattle.std.specs.List.{list_all}
use Rattle.row_values.specs.Columns.{has_id}
use Rattle.row_values.specs.declared.schema.Column.{Column}
use Rattle.kind_values.specs.Bounds.{is_kind}
use Rattle.avro_binary.specs.SchemaOnce.{is_id}

-- no two columns have one id
unfoldable pub are_apart : List Column → Bool
are_apart [] = true
are_apart (column ∷ columns) = not (has_id column.id columns) && are_apart columns

-- At least one column, and at most 1,000, each with an id of its own of 32 bits and a kind of the standard: a decimal has 1 to
-- 38 digits. A file without columns would say nothing of how many rows it has.
pub record AreColumns (columns : List Column) : Type 0 where
  pub some : 0 < length columns
  pub few : length columns ≤ 1000
  pub ids : IsTrue (list_all (λ column. is_id (Some column.id)) columns)
  pub apart : IsTrue (are_apart columns)
  pub kinds : IsTrue (list_all (λ column. is_kind column.kind) columns)
