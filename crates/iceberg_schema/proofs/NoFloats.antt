-- What is written has no float.
use Rattle.std.proofs.Common.{◌≡◌, ℤ, pos, negsuc, List, [], ◌∷◌, map, Bool, false, ◌||◌, refl, ap, ◌∙◌}
use Rattle.serde_json.specs.Data.{number}
use Rattle.serde_json.specs.Find.{of_integer}
use Rattle.serde_json.specs.View.{items_of}
use Rattle.serde_json.specs.Written.{has_float, items_have_float}
use Rattle.row_values.specs.declared.schema.Column.{Column}
use Rattle.row_values.specs.declared.schema.TableSchema.{TableSchema}
use Rattle.row_values.specs.declared.partition.PartField.{PartField}
use Rattle.row_values.specs.declared.partition.Spec.{Spec}
use Rattle.iceberg_schema.specs.SchemaData.{column_data, schema_data}
use Rattle.iceberg_schema.specs.SpecData.{part_data, spec_data}

number_no_float : (n : ℤ) → has_float (number (of_integer n)) ≡ false
number_no_float (pos n) = refl
number_no_float (negsuc n) = refl

column_no_float : (column : Column) → has_float (column_data column) ≡ false
column_no_float column = ap (λ (b : Bool). b || false) (number_no_float column.id)

columns_no_float : (columns : List Column) → items_have_float (items_of (map column_data columns)) ≡ false
columns_no_float [] = refl
columns_no_float (column ∷ columns) = ap (λ (b : Bool). b || items_have_float (items_of (map column_data columns))) (column_no_float column) ∙ columns_no_float columns

pub schema_no_float : (schema : TableSchema) → has_float (schema_data schema) ≡ false
schema_no_float schema = ap (λ (b : Bool). b || (has_float (number (of_integer schema.id)) || false)) (columns_no_float schema.columns) ∙ ap (λ (b : Bool). b || false) (number_no_float schema.id)

part_no_float : (part : PartField) → has_float (part_data part) ≡ false
part_no_float part = ap (λ (b : Bool). b || (false || (has_float (number (of_integer part.source)) || false))) (number_no_float part.field) ∙ ap (λ (b : Bool). b || false) (number_no_float part.source)

parts_no_float : (parts : List PartField) → items_have_float (items_of (map part_data parts)) ≡ false
parts_no_float [] = refl
parts_no_float (part ∷ parts) = ap (λ (b : Bool). b || items_have_float (items_of (map part_data parts))) (part_no_float part) ∙ parts_no_float parts

pub spec_no_float : (spec : Spec) → has_float (spec_data spec) ≡ false
spec_no_float spec = parts_no_float spec.fields
