-- A schema as JSON (Iceberg specification, Appendix C, "Schemas"), and the first fault that a reading meets. The greatest
-- number of columns and the longest name are the project's limits.
use Rattle.std.specs.Prelude.{ℤ, pos, int_le, ◌&&◌, ◌||◌, nat_eq, nat_lt, codes, List, [], ◌∷◌, ◌++◌, length, Bool, Result, Ok}
use Rattle.serde_json.specs.Data.{Data, Items, no_items, item}
use Rattle.row_values.specs.Columns.{has_id, has_name}
use Rattle.row_values.specs.declared.schema.Column.{Column}
use Rattle.row_values.specs.declared.schema.TableSchema.{TableSchema}
use Rattle.iceberg_schema.specs.declared.schema_fault.SchemaJsonFault.{SchemaJsonFault}
use Rattle.iceberg_schema.specs.declared.schema_fault.SchemaJsonFault.TheVariants as fault
use Rattle.iceberg_schema.specs.Keys.{int_at, text_at, bool_at, items_at, item_count}
use Rattle.iceberg_schema.specs.KindText.{kind_of}
use Rattle.plain_types.specs.Steps.{◌>>=◌, or_fault, fault_if}

-- the ids of a position delete file's columns
abbrev pub is_reserved : ℤ → Bool
is_reserved id = int_le (pos 2147483544) id && int_le id (pos 2147483546)

-- a column behind these ones
unfoldable pub column_of : List Column → Data → Result Column SchemaJsonFault
column_of earlier d = do
  id ← or_fault (fault.Missing (codes "id")) (int_at (codes "id") d)
  name ← or_fault (fault.Missing (codes "name")) (text_at (codes "name") d)
  required ← or_fault (fault.Missing (codes "required")) (bool_at (codes "required") d)
  type ← or_fault (fault.Missing (codes "type")) (text_at (codes "type") d)
  kind ← or_fault (fault.Kind type) (kind_of type)
  _ ← fault_if (fault.Duplicate id) (is_reserved id || has_id id earlier)
  _ ← fault_if (fault.Name name) (nat_lt 4096 (length name) || has_name name earlier)
  Ok (record { id = id; name = name; kind = kind; required = required })

-- the columns of these elements, behind those that are read
unfoldable pub columns_of : List Column → Items → Result (List Column) SchemaJsonFault
columns_of earlier no_items = Ok earlier
columns_of earlier (item d ds) = column_of earlier d >>= λ column. columns_of (earlier ++ column ∷ []) ds

unfoldable pub table_schema_of : Data → Result TableSchema SchemaJsonFault
table_schema_of d = do
  id ← or_fault (fault.Missing (codes "schema-id")) (int_at (codes "schema-id") d)
  fields ← or_fault (fault.Missing (codes "fields")) (items_at (codes "fields") d)
  _ ← fault_if (fault.Columns (item_count fields)) (nat_eq (item_count fields) 0 || nat_lt 256 (item_count fields))
  columns ← columns_of [] fields
  Ok (record { id = id; columns = columns })
