-- The kinds of partition values (Iceberg specification, "Partitioning" and "Partition Transforms"). Only NULL stands
-- under a void transform, and under a field whose source column is gone.
use Rattle.std.specs.Prelude.{Bool, true, List, Option, Some, None, option_and_then}
use Rattle.plain_types.specs.Steps.{by_option}
use Rattle.row_values.specs.Columns.{kind_of_column}
use Rattle.row_values.specs.declared.kind.Kind.{Kind}
use Rattle.row_values.specs.declared.kind.Kind.TheVariants as kind
use Rattle.row_values.specs.declared.schema.Column.{Column}
use Rattle.row_values.specs.declared.partition.Transform.{Transform}
use Rattle.row_values.specs.declared.partition.Transform.TheVariants as transform
use Rattle.row_values.specs.declared.partition.PartField.{PartField}
use Rattle.avro_binary.specs.declared.schema.Schema.{Schema}
use Rattle.avro_rows.specs.Carrier.{carries}

-- the kind of the values that a transform gives of values of a kind
abbrev pub kind_given : Transform → Kind → Option Kind
kind_given transform.Identity k = Some k
kind_given (transform.Bucket count) k = Some kind.Int
kind_given (transform.Truncate width) k = Some k
kind_given transform.Year k = Some kind.Int
kind_given transform.Month k = Some kind.Int
kind_given transform.Day k = Some kind.Date
kind_given transform.Hour k = Some kind.Int
kind_given transform.Void k = None

-- the kind of a partition field's values
abbrev pub kind_of_field : List Column → PartField → Option Kind
kind_of_field columns part = option_and_then (kind_given part.transform) (kind_of_column part.source columns)

-- whether an Avro type carries the values, of which no kind means NULL alone
abbrev pub carries_part : Option Kind → Schema → Bool
carries_part k schema = by_option k (λ given. carries given schema) true
