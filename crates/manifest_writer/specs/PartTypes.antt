-- The types of a partition's values (Iceberg specification, "Manifests", `partition`, and Appendix A, "Avro").
use Rattle.std.specs.Prelude.{ℕ, Bool, List, map, Option, Some, None}
use Rattle.row_values.specs.declared.kind.Kind.{Kind}
use Rattle.row_values.specs.declared.schema.Column.{Column}
use Rattle.row_values.specs.declared.partition.PartField.{PartField}
use Rattle.avro_binary.specs.declared.schema.Field.{Field}
use Rattle.avro_binary.specs.declared.schema.Schema.{Schema}
use Rattle.avro_binary.specs.declared.schema.Schema.TheVariants as schema
use Rattle.avro_binary.specs.declared.schema.Logical.TheVariants.{Plain}
use Rattle.manifest_files.specs.PartitionKinds.{kind_of_field}
use Rattle.row_writer.specs.Field.{field, optional_type}
use Rattle.row_writer.specs.KindTypes.{kind_type}
use Rattle.row_writer.specs.Names.{decimal_name}
use Rattle.manifest_writer.specs.PartNames.{are_names, part_name}

-- The type of a field's decimals has this name. A field whose values have no kind is an int that is always null.
abbrev pub part_type : List ℕ → Option Kind → Schema
part_type name None = optional_type (schema.Int Plain)
part_type name (Some k) = optional_type (kind_type name k)

abbrev pub part_field : List Column → Bool → PartField → Field
part_field columns keeps part = field part.field (part_name keeps part) (part_type (decimal_name part.field) (kind_of_field columns part))

-- all keep their names, or none does
abbrev pub part_fields : List Column → List PartField → List Field
part_fields columns parts = map (part_field columns (are_names parts)) parts
