-- Rows of the columns fit the type of the rows.
use Rattle.std.proofs.Common.{◌≡◌, ℕ, List, [], ◌∷◌, map, Bool, true, false, cond, not, Some, None, sym, ap, subst, ◌∙◌}
use Rattle.std.specs.List.{list_all, AllByRecursion}
use Rattle.row_values.specs.declared.kind.Kind.{Kind}
use Rattle.row_values.specs.declared.value.Value.{Value}
use Rattle.row_values.specs.declared.schema.Column.{Column}
use Rattle.row_values.specs.Rows.{is_value, is_null, is_held, is_row}
use Rattle.avro_binary.specs.Shape.{Shape, record_shape, shape}
use Rattle.avro_binary.specs.Spelling.{Fits, FitsFields}
use Rattle.row_writer.specs.KindDatum.{value_datum, optional}
use Rattle.row_writer.proofs.Tests.{first, second}
use Rattle.row_writer.proofs.KindPlans.{kind_plan, plan_shape, plan_shapes}
use Rattle.row_writer.proofs.KindFits.{value_fits}
use Rattle.row_writer.proofs.FieldLaws.{none_fits, some_fits, no_field, more_fields, record_fits}
use Rattle.row_writer.specs.Names.{decimal_name}
use Rattle.row_writer.specs.RowTypes.{are_names, row_type}
use Rattle.row_writer.specs.RowDatum.{column_datum, column_datums, row_datum}
use Rattle.row_writer.proofs.RowPlans.{if_required, column_plan, column_plans, row_type_is, row_shape_is}

fits_by : (required null : Bool) (name : List ℕ) (k : Kind) (v : Value) → cond null (not required) (is_value k v) ≡ true
    → Fits (plan_shape (if_required required (kind_plan name k)))
    (cond required (value_datum k v) (cond null (optional None) (optional (Some (value_datum k v)))))
fits_by true true name k v h = absurd cc
fits_by true false name k v h = value_fits name k v h
fits_by false true name k v h = none_fits (plan_shape (kind_plan name k))
fits_by false false name k v h = some_fits (plan_shape (kind_plan name k)) (value_datum k v) (value_fits name k v h)

column_fits : (column : Column) (v : Value) → is_held column v ≡ true → Fits (plan_shape (column_plan column)) (column_datum column v)
column_fits column v h = fits_by column.required (is_null v) (decimal_name column.id) column.kind v h

columns_fit : (keeps : Bool) (columns : List Column) (vs : List Value) → is_row columns vs ≡ true
    → FitsFields (plan_shapes (column_plans keeps columns)) (column_datums columns vs)
unfolding column_datums
columns_fit keeps [] vs h = no_field
columns_fit keeps (column ∷ columns) [] h = absurd cc
columns_fit keeps (column ∷ columns) (v ∷ vs) h = more_fields _ _ _ _ (column_fits column v (first (is_held column v) (is_row columns vs) h)) (columns_fit keeps columns vs (second (is_held column v) (is_row columns vs) h))

abbrev row_shape : List Column → Shape
row_shape columns = record_shape (plan_shapes (column_plans (are_names columns) columns))

each_fits : (columns : List Column) (rows : List (List Value)) → list_all (is_row columns) rows ≡ true
    → AllByRecursion (Fits (row_shape columns)) (map (row_datum columns) rows)
each_fits columns [] h = tt
each_fits columns (row ∷ rows) h = (record_fits _ _ (columns_fit (are_names columns) columns row (first (is_row columns row) (list_all (is_row columns) rows) h)), each_fits columns rows (second (is_row columns row) (list_all (is_row columns) rows) h))

pub rows_fit : (columns : List Column) (rows : List (List Value)) → list_all (is_row columns) rows ≡ true
    → AllByRecursion (Fits (shape (row_type columns))) (map (row_datum columns) rows)
rows_fit columns rows h = subst (λ (s : Shape). AllByRecursion (Fits s) (map (row_datum columns) rows)) (sym (row_shape_is columns) ∙ ap shape (row_type_is columns)) (each_fits columns rows h)
