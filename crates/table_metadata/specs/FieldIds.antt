-- What holds of the field ids of all schemas and specs of a table together (Iceberg specification, "Table Metadata
-- Fields" and "Schema Evolution"): none is above the last one that was given out, and a column keeps its kind, save for
-- the widenings from int to long and of a decimal's precision.
use Rattle.std.specs.Prelude.{ℤ, not, nat_eq, int_lt, codes, List, Bool, true, false, Result, ⊤, if◌then◌else◌}
use Rattle.std.specs.Bool.{beq}
use Rattle.std.specs.Ordering.{int_eq}
use Rattle.std.specs.List.{list_any}
use Rattle.row_values.specs.declared.kind.Kind.{Kind}
use Rattle.row_values.specs.declared.kind.Kind.TheVariants as kind
use Rattle.row_values.specs.declared.schema.Column.{Column}
use Rattle.row_values.specs.declared.schema.TableSchema.{TableSchema}
use Rattle.row_values.specs.declared.partition.Spec.{Spec}
use Rattle.table_metadata.specs.declared.metadata_fault.MetadataFault.{MetadataFault}
use Rattle.table_metadata.specs.TableKeys.{shape_if}
use Rattle.plain_types.specs.Steps.{◌>>=◌}

abbrev pub has_column_above : ℤ → List TableSchema → Bool
has_column_above last schemas = list_any (λ schema. list_any (λ column. int_lt last column.id) schema.columns) schemas

abbrev pub has_field_above : ℤ → List Spec → Bool
has_field_above last specs = list_any (λ spec. list_any (λ field. int_lt last field.field) spec.fields) specs

-- two kinds of one column at different times
abbrev pub may_be_one : Kind → Kind → Bool
may_be_one kind.Bool kind.Bool = true
may_be_one kind.Int kind.Int = true
may_be_one kind.Int kind.Long = true
may_be_one kind.Long kind.Int = true
may_be_one kind.Long kind.Long = true
may_be_one kind.Date kind.Date = true
may_be_one (kind.Timestamp a) (kind.Timestamp b) = beq a b
may_be_one (kind.Decimal p scale) (kind.Decimal q other) = nat_eq scale other
may_be_one kind.Text kind.Text = true
may_be_one kind.Bytes kind.Bytes = true
may_be_one _ _ = false

abbrev pub clash : Column → Column → Bool
clash a b = if int_eq a.id b.id then not (may_be_one a.kind b.kind) else false

-- a column clashes with a column of one of the schemas
abbrev pub clashes_with : List TableSchema → Column → Bool
clashes_with schemas column = list_any (λ schema. list_any (λ other. clash column other) schema.columns) schemas

abbrev pub kinds_clash : List TableSchema → Bool
kinds_clash schemas = list_any (λ schema. list_any (λ column. clashes_with schemas column) schema.columns) schemas

unfoldable pub field_ids_fit : ℤ → ℤ → List TableSchema → List Spec → Result ⊤ MetadataFault
field_ids_fit last_column last_partition schemas specs = do
  _ ← shape_if (codes "last-column-id") (has_column_above last_column schemas)
  _ ← shape_if (codes "schemas") (kinds_clash schemas)
  shape_if (codes "last-partition-id") (has_field_above last_partition specs)
