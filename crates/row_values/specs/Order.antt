-- The order of two values of one kind. NULL has no place in it (SQL's comparisons), nor have two decimals of
-- different scale.
use Rattle.std.specs.Prelude.{◌==◌, if◌then◌else◌, Option, Some, None}
use Rattle.std.specs.declared.cmp.Ordering.{Ordering}
use Rattle.std.specs.Ordering.{nat_cmp, int_cmp, bool_cmp}
use Rattle.std.specs.Cmp.Lexicographic.{slice_cmp}
use Rattle.row_values.specs.declared.value.Value.{Value}
use Rattle.row_values.specs.declared.value.Value.TheVariants as value

abbrev pub value_cmp : Value → Value → Option Ordering
value_cmp (value.Bool a) (value.Bool b) = Some (bool_cmp a b)
value_cmp (value.Int a) (value.Int b) = Some (int_cmp a b)
value_cmp (value.Long a) (value.Long b) = Some (int_cmp a b)
value_cmp (value.Date a) (value.Date b) = Some (int_cmp a b)
value_cmp (value.Timestamp a) (value.Timestamp b) = Some (int_cmp a b)
value_cmp (value.Decimal a scale) (value.Decimal b other) = if scale == other then Some (int_cmp a b) else None
value_cmp (value.Text a) (value.Text b) = Some (slice_cmp nat_cmp a b)
value_cmp (value.Bytes a) (value.Bytes b) = Some (slice_cmp nat_cmp a b)
value_cmp _ _ = None
