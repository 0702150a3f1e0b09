-- A schema as JSON (Iceberg specification, Appendix C, "Schemas", and "Primitive Types").
use Rattle.std.specs.Prelude.{ℕ, List, ◌++◌, map, codes, if◌then◌else◌}
use Rattle.std.specs.Fmt.{decimal}
use Rattle.serde_json.specs.Data.{Data, boolean, number, string, array, object, no_members, put}
use Rattle.serde_json.specs.Find.{of_integer}
use Rattle.serde_json.specs.View.{items_of}
use Rattle.serde_json.specs.Written.{compact_text}
use Rattle.row_values.specs.declared.kind.Kind.{Kind}
use Rattle.row_values.specs.declared.kind.Kind.TheVariants as kind
use Rattle.row_values.specs.declared.schema.Column.{Column}
use Rattle.row_values.specs.declared.schema.TableSchema.{TableSchema}

abbrev pub kind_text : Kind → List ℕ
kind_text kind.Bool = codes "boolean"
kind_text kind.Int = codes "int"
kind_text kind.Long = codes "long"
kind_text kind.Date = codes "date"
kind_text (kind.Timestamp utc) = if utc then codes "timestamptz" else codes "timestamp"
kind_text (kind.Decimal precision scale) = codes "decimal(" ++ (decimal precision ++ (codes "," ++ (decimal scale ++ codes ")")))
kind_text kind.Text = codes "string"
kind_text kind.Bytes = codes "binary"

abbrev pub column_data : Column → Data
column_data column = object (put (codes "type") (string (kind_text column.kind)) (put (codes "required") (boolean column.required) (put (codes "name") (string column.name) (put (codes "id") (number (of_integer column.id)) no_members))))

abbrev pub schema_data : TableSchema → Data
schema_data schema = object (put (codes "fields") (array (items_of (map column_data schema.columns))) (put (codes "schema-id") (number (of_integer schema.id)) (put (codes "type") (string (codes "struct")) no_members)))

abbrev pub schema_text : TableSchema → List ℕ
schema_text schema = compact_text (schema_data schema)
