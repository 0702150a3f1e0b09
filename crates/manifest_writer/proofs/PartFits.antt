-- A partition's values fit its type, whatever they are.
use Rattle.std.proofs.Common.{◌≡◌, ℕ, List, [], ◌∷◌, Bool, true, false, cond, Option, Some, None, refl}
use Rattle.row_values.specs.declared.kind.Kind.{Kind}
use Rattle.row_values.specs.declared.value.Value.{Value}
use Rattle.row_values.specs.declared.schema.Column.{Column}
use Rattle.row_values.specs.declared.partition.PartField.{PartField}
use Rattle.row_values.specs.Rows.{is_value}
use Rattle.avro_binary.specs.Shape.{int_shape}
use Rattle.avro_binary.specs.Spelling.{Fits, FitsFields}
use Rattle.manifest_files.specs.PartitionKinds.{kind_of_field}
use Rattle.manifest_writer.specs.PartDatum.{part_datum, part_datums}
use Rattle.row_writer.specs.Names.{decimal_name}
use Rattle.row_writer.specs.KindDatum.{value_datum, optional}
use Rattle.row_writer.proofs.CallerLemmas.{plan_shape, plan_shapes, value_fits, kind_plan, option_shape, none_fits, some_fits, no_field, more_fields}
use Rattle.manifest_writer.proofs.PartPlans.{part_plan, part_plans}

part_by : (name : List ℕ) (k : Kind) (v : Value) (b : Bool) → is_value k v ≡ b
    → Fits (option_shape (plan_shape (kind_plan name k))) (cond b (optional (Some (value_datum k v))) (optional None))
part_by name k v true h = some_fits (plan_shape (kind_plan name k)) (value_datum k v) (value_fits name k v h)
part_by name k v false h = none_fits (plan_shape (kind_plan name k))

part_fits : (name : List ℕ) (k : Option Kind) (v : Value) → Fits (plan_shape (part_plan name k)) (part_datum k v)
part_fits name None v = none_fits int_shape
part_fits name (Some k) v = part_by name k v (is_value k v) refl

null_fits : (name : List ℕ) (k : Option Kind) → Fits (plan_shape (part_plan name k)) (optional None)
null_fits name None = none_fits int_shape
null_fits name (Some k) = none_fits (plan_shape (kind_plan name k))

pub parts_fit : (columns : List Column) (keeps : Bool) (parts : List PartField) (vs : List Value)
    → FitsFields (plan_shapes (part_plans columns keeps parts)) (part_datums columns parts vs)
unfolding part_datums
parts_fit columns keeps [] vs = no_field
parts_fit columns keeps (part ∷ parts) [] = more_fields _ _ _ _ (null_fits (decimal_name part.field) (kind_of_field columns part)) (parts_fit columns keeps parts [])
parts_fit columns keeps (part ∷ parts) (v ∷ vs) = more_fields _ _ _ _ (part_fits (decimal_name part.field) (kind_of_field columns part) v) (parts_fit columns keeps parts vs)
