-- Columns by their ids and names (Iceberg specification, "Schemas and Data Types").
use Rattle.std.specs.Prelude.{ℕ, ℤ, nat_eq, if◌then◌else◌, List, [], ◌∷◌, Bool, Option, Some, None}
use Rattle.std.specs.Ordering.{int_eq}
use Rattle.std.specs.List.{list_any}
use Rattle.std.specs.Cmp.Lexicographic.{pointwise}
use Rattle.row_values.specs.declared.kind.Kind.{Kind}
use Rattle.row_values.specs.declared.schema.Column.{Column}

abbrev pub has_id : ℤ → List Column → Bool
has_id id columns = list_any (λ column. int_eq column.id id) columns

abbrev pub has_name : List ℕ → List Column → Bool
has_name name columns = list_any (λ column. pointwise nat_eq column.name name) columns

-- the kind of the column with the id
unfoldable pub kind_of_column : ℤ → List Column → Option Kind
kind_of_column id [] = None
kind_of_column id (column ∷ columns) = if int_eq column.id id then Some column.kind else kind_of_column id columns
