-- What holds of each partition spec that is read, whatever its JSON (Iceberg specification, "Partitioning").
use Rattle.std.specs.Prelude.{◌≡◌, ◌≤◌, ◌-◌, ◌^◌, ◌&&◌, nat_le, Bool, true, List, length}
use Rattle.std.specs.Ordering.{int_eq}
use Rattle.std.specs.List.{list_all}
use Rattle.std.specs.Result.{is_ok}
use Rattle.plain_types.specs.Bags.{Apart}
use Rattle.row_values.specs.declared.schema.Column.{Column}
use Rattle.row_values.specs.declared.partition.PartField.{PartField}
use Rattle.row_values.specs.declared.partition.Spec.{Spec}
use Rattle.row_values.specs.declared.partition.Transform.{Transform}
use Rattle.row_values.specs.declared.partition.Transform.TheVariants as transform
use Rattle.iceberg_schema.specs.SpecJson.{source_fits}

abbrev pub same_field : PartField → PartField → Bool
same_field a b = int_eq a.field b.field

-- a bucket or truncate transform has a number of 1 to 2^31 - 1
abbrev pub is_transform : Transform → Bool
is_transform (transform.Bucket n) = nat_le 1 n && nat_le n (2 ^ 31 - 1)
is_transform (transform.Truncate n) = nat_le 1 n && nat_le n (2 ^ 31 - 1)
is_transform _ = true

-- the field's transform takes its source column
abbrev pub is_fit : List Column → PartField → Bool
is_fit columns field = is_ok (source_fits field.transform field.source columns)

-- There are at most 16 fields, no two have one id, and each transform takes its column and has a number in range.
pub record IsSoundSpec (columns : List Column) (spec : Spec) : Type 0 where
  pub most : length spec.fields ≤ 16
  pub ids : Apart same_field spec.fields
  pub sources : list_all (is_fit columns) spec.fields ≡ true
  pub numbers : list_all (λ field. is_transform field.transform) spec.fields ≡ true
