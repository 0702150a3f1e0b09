-- The type of the rows as a plan.
use Rattle.std.proofs.Common.{◌≡◌, ℕ, List, [], ◌∷◌, map, Bool, true, false, cond, refl, ap, ◌∙◌}
use Rattle.std.specs.Prelude.{codes}
use Rattle.row_values.specs.declared.kind.Kind.{Kind}
use Rattle.row_values.specs.declared.schema.Column.{Column}
use Rattle.avro_binary.specs.declared.schema.Field.{Field}
use Rattle.avro_binary.specs.declared.schema.Schema.{Schema}
use Rattle.avro_binary.specs.Shape.{Shape, record_shape, shape, level, field_level}
use Rattle.row_writer.specs.Field.{field, optional_type, record_type}
use Rattle.row_writer.specs.KindTypes.{kind_type}
use Rattle.row_writer.proofs.Plans.{Plan, optional_plan, record_plan, Plans, no_plans, more_plans, type_of, types_of, plan_folds}
use Rattle.row_writer.proofs.KindPlans.{kind_plan, kind_type_is, plan_shapes}
use Rattle.row_writer.specs.Names.{decimal_name}
use Rattle.row_writer.specs.RowTypes.{are_names, column_name, column_field, row_type}

abbrev pub if_required : Bool → Plan → Plan
if_required true p = p
if_required false p = optional_plan p

abbrev pub column_plan : Column → Plan
column_plan column = if_required column.required (kind_plan (decimal_name column.id) column.kind)

abbrev pub column_plans : Bool → List Column → Plans
column_plans keeps [] = no_plans
column_plans keeps (column ∷ columns) = more_plans column.id (column_name keeps column) (column_plan column) (column_plans keeps columns)

abbrev pub row_plan : List Column → Plan
row_plan columns = record_plan (codes "table") (column_plans (are_names columns) columns)

type_by : (b : Bool) (name : List ℕ) (k : Kind) → type_of (if_required b (kind_plan name k)) ≡ cond b (kind_type name k) (optional_type (kind_type name k))
type_by true name k = kind_type_is name k
type_by false name k = ap optional_type (kind_type_is name k)

types_are : (keeps : Bool) (columns : List Column) → types_of (column_plans keeps columns) ≡ map (column_field keeps) columns
types_are keeps [] = refl
types_are keeps (column ∷ columns) =
    ap (λ (s : Schema). field column.id (column_name keeps column) s ∷ types_of (column_plans keeps columns)) (type_by column.required (decimal_name column.id) column.kind)
    ∙ ap (λ (fs : List Field). column_field keeps column ∷ fs) (types_are keeps columns)

pub row_type_is : (columns : List Column) → type_of (row_plan columns) ≡ row_type columns
row_type_is columns = ap (record_type (codes "table")) (types_are (are_names columns) columns)

pub row_shape_is : (columns : List Column) → shape (type_of (row_plan columns)) ≡ record_shape (plan_shapes (column_plans (are_names columns) columns))
row_shape_is columns = plan_folds Shape Shape level field_level (row_plan columns)
