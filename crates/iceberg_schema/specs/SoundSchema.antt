-- What holds of each schema that is read, whatever its JSON (Iceberg specification, "Schemas and Data Types": field ids
-- and names are unique in a schema).
use Rattle.std.specs.Prelude.{◌≤◌, Bool, nat_eq, length}
use Rattle.std.specs.Cmp.Lexicographic.{pointwise}
use Rattle.std.specs.Ordering.{int_eq}
use Rattle.plain_types.specs.Bags.{Apart}
use Rattle.row_values.specs.declared.schema.Column.{Column}
use Rattle.row_values.specs.declared.schema.TableSchema.{TableSchema}

abbrev pub same_id : Column → Column → Bool
same_id a b = int_eq a.id b.id

abbrev pub same_name : Column → Column → Bool
same_name a b = pointwise nat_eq a.name b.name

-- There are 1 to 256 columns, and no two have one id or one name.
pub record IsSoundSchema (schema : TableSchema) : Type 0 where
  pub least : 1 ≤ length schema.columns
  pub most : length schema.columns ≤ 256
  pub ids : Apart same_id schema.columns
  pub names : Apart same_name schema.columns
