-- The types of kinds as plans, in which the type of decimals has this name.
use Rattle.std.proofs.Common.{◌≡◌, ℕ, suc, List, true, refl}
use Rattle.row_values.specs.declared.kind.Kind.{Kind}
use Rattle.row_values.specs.declared.kind.Kind.TheVariants as kind
use Rattle.avro_binary.specs.Shape.{Shape, Shapes, shapes, level, field_level}
use Rattle.row_writer.specs.KindTypes.{kind_type}
use Rattle.row_writer.proofs.Plans.{Plan, boolean_plan, int_plan, long_plan, bytes_plan, text_plan, date_plan, instant_plan, decimal_plan, Plans, type_of, fold_plan, fold_plans}
use Rattle.row_writer.proofs.PlanRoom.{nodes, within}

abbrev pub kind_plan : List ℕ → Kind → Plan
kind_plan name kind.Bool = boolean_plan
kind_plan name kind.Int = int_plan
kind_plan name kind.Long = long_plan
kind_plan name kind.Date = date_plan
kind_plan name (kind.Timestamp utc) = instant_plan utc
kind_plan name (kind.Decimal precision scale) = decimal_plan name precision scale
kind_plan name kind.Text = text_plan
kind_plan name kind.Bytes = bytes_plan

pub kind_type_is : (name : List ℕ) (k : Kind) → type_of (kind_plan name k) ≡ kind_type name k
kind_type_is name kind.Bool = refl
kind_type_is name kind.Int = refl
kind_type_is name kind.Long = refl
kind_type_is name kind.Date = refl
kind_type_is name (kind.Timestamp utc) = refl
kind_type_is name (kind.Decimal precision scale) = refl
kind_type_is name kind.Text = refl
kind_type_is name kind.Bytes = refl

abbrev pub plan_shape : Plan → Shape
plan_shape p = fold_plan Shape Shape level field_level p

abbrev pub plan_shapes : Plans → Shapes
plan_shapes ps = shapes (fold_plans Shape Shape level field_level ps)

-- ---- room

pub kind_nodes : (name : List ℕ) (k : Kind) → nodes (kind_plan name k) ≡ 1
kind_nodes name kind.Bool = refl
kind_nodes name kind.Int = refl
kind_nodes name kind.Long = refl
kind_nodes name kind.Date = refl
kind_nodes name (kind.Timestamp utc) = refl
kind_nodes name (kind.Decimal precision scale) = refl
kind_nodes name kind.Text = refl
kind_nodes name kind.Bytes = refl

pub kind_within : (name : List ℕ) (k : Kind) (d : ℕ) → within (kind_plan name k) (suc d) ≡ true
kind_within name kind.Bool d = refl
kind_within name kind.Int d = refl
kind_within name kind.Long d = refl
kind_within name kind.Date d = refl
kind_within name (kind.Timestamp utc) d = refl
kind_within name (kind.Decimal precision scale) d = refl
kind_within name kind.Text d = refl
kind_within name kind.Bytes d = refl
