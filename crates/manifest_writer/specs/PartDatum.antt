-- How a partition's values are written (Iceberg specification, "Manifests", `partition`, and Appendix A, "Avro").
use Rattle.std.specs.Prelude.{if◌then◌else◌, List, [], ◌∷◌, Option, Some, None}
use Rattle.row_values.specs.declared.kind.Kind.{Kind}
use Rattle.row_values.specs.declared.value.Value.{Value}
use Rattle.row_values.specs.declared.schema.Column.{Column}
use Rattle.row_values.specs.declared.partition.PartField.{PartField}
use Rattle.row_values.specs.Rows.{is_value}
use Rattle.avro_binary.specs.declared.datum.Datum.{Datum}
use Rattle.manifest_files.specs.PartitionKinds.{kind_of_field}
use Rattle.row_writer.specs.KindDatum.{value_datum, optional}

-- a value that is none of the kind stands as null
abbrev pub part_datum : Option Kind → Value → Datum
part_datum None v = optional None
part_datum (Some k) v = if is_value k v then optional (Some (value_datum k v)) else optional None

-- a value for each field, which is null where there are too few
unfoldable pub part_datums : List Column → List PartField → List Value → List Datum
part_datums columns [] vs = []
part_datums columns (part ∷ parts) [] = optional None ∷ part_datums columns parts []
part_datums columns (part ∷ parts) (v ∷ vs) = part_datum (kind_of_field columns part) v ∷ part_datums columns parts vs
