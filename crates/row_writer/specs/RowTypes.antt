-- The type of the rows of a data file (Iceberg specification, Appendix A, "Avro"; Avro 1.11.1, "Names"). Fields are found by
-- their ids; a name that Avro doesn't allow would make the file unreadable to others.
use Rattle.std.specs.Prelude.{ℕ, Bool, true, not, ◌&&◌, if◌then◌else◌, List, [], ◌∷◌, map, codes}
use Rattle.row_values.specs.Columns.{has_name}
use Rattle.row_values.specs.declared.schema.Column.{Column}
use Rattle.avro_binary.specs.declared.schema.Field.{Field}
use Rattle.avro_binary.specs.declared.schema.Schema.{Schema}
use Rattle.row_writer.specs.Field.{field, optional_type, record_type}
use Rattle.row_writer.specs.KindTypes.{kind_type}
use Rattle.row_writer.specs.Names.{is_name, id_name, decimal_name}

-- ---- names

-- each column has a name of Avro, and no two have one name
unfoldable pub are_names : List Column → Bool
are_names [] = true
are_names (column ∷ columns) = is_name column.name && (not (has_name column.name columns) && are_names columns)

abbrev pub column_name : Bool → Column → List ℕ
column_name keeps column = if keeps then column.name else id_name column.id

-- ---- types

abbrev pub value_type : Column → Schema
value_type column = kind_type (decimal_name column.id) column.kind

abbrev pub column_type : Column → Schema
column_type column = if column.required then value_type column else optional_type (value_type column)

abbrev pub column_field : Bool → Column → Field
column_field keeps column = field column.id (column_name keeps column) (column_type column)

-- all columns keep their names, or none does
abbrev pub column_fields : List Column → List Field
column_fields columns = map (column_field (are_names columns)) columns

abbrev pub row_type : List Column → Schema
row_type columns = record_type (codes "table") (column_fields columns)
