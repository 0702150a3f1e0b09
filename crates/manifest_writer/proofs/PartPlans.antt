-- The types of a partition's fields as plans.
use Rattle.std.proofs.Common.{◌≡◌, ℕ, List, [], ◌∷◌, map, Bool, Option, Some, None, refl, ap, ◌∙◌}
use Rattle.row_values.specs.declared.kind.Kind.{Kind}
use Rattle.row_values.specs.declared.schema.Column.{Column}
use Rattle.row_values.specs.declared.partition.PartField.{PartField}
use Rattle.avro_binary.specs.declared.schema.Field.{Field}
use Rattle.avro_binary.specs.declared.schema.Schema.{Schema}
use Rattle.manifest_files.specs.PartitionKinds.{kind_of_field}
use Rattle.row_writer.specs.Field.{field, optional_type}
use Rattle.manifest_writer.specs.PartNames.{part_name}
use Rattle.manifest_writer.specs.PartTypes.{part_type, part_field}
use Rattle.row_writer.specs.Names.{decimal_name}
use Rattle.row_writer.proofs.CallerLemmas.{kind_plan, kind_type_is, Plan, int_plan, optional_plan, Plans, no_plans, more_plans, type_of, types_of}

abbrev pub part_plan : List ℕ → Option Kind → Plan
part_plan name None = optional_plan int_plan
part_plan name (Some k) = optional_plan (kind_plan name k)

abbrev pub part_plans : List Column → Bool → List PartField → Plans
part_plans columns keeps [] = no_plans
part_plans columns keeps (part ∷ parts) = more_plans part.field (part_name keeps part) (part_plan (decimal_name part.field) (kind_of_field columns part)) (part_plans columns keeps parts)

part_type_is : (name : List ℕ) (k : Option Kind) → type_of (part_plan name k) ≡ part_type name k
part_type_is name None = refl
part_type_is name (Some k) = ap optional_type (kind_type_is name k)

pub parts_are : (columns : List Column) (keeps : Bool) (parts : List PartField)
    → types_of (part_plans columns keeps parts) ≡ map (part_field columns keeps) parts
parts_are columns keeps [] = refl
parts_are columns keeps (part ∷ parts) =
    ap (λ (s : Schema). field part.field (part_name keeps part) s ∷ types_of (part_plans columns keeps parts)) (part_type_is (decimal_name part.field) (kind_of_field columns part)) ∙ ap (λ (fs : List Field). part_field columns keeps part ∷ fs) (parts_are columns keeps parts)
