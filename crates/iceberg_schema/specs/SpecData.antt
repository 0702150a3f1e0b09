-- The fields of a partition spec as JSON (Iceberg specification, Appendix C, "Partition Specs").
use Rattle.std.specs.Prelude.{ℕ, List, ◌++◌, map, codes}
use Rattle.std.specs.Fmt.{decimal}
use Rattle.serde_json.specs.Data.{Data, number, string, array, object, no_members, put}
use Rattle.serde_json.specs.Find.{of_integer}
use Rattle.serde_json.specs.View.{items_of}
use Rattle.serde_json.specs.Written.{compact_text}
use Rattle.row_values.specs.declared.partition.Transform.{Transform}
use Rattle.row_values.specs.declared.partition.Transform.TheVariants as transform
use Rattle.row_values.specs.declared.partition.PartField.{PartField}
use Rattle.row_values.specs.declared.partition.Spec.{Spec}

abbrev pub transform_text : Transform → List ℕ
transform_text transform.Identity = codes "identity"
transform_text (transform.Bucket count) = codes "bucket[" ++ (decimal count ++ codes "]")
transform_text (transform.Truncate width) = codes "truncate[" ++ (decimal width ++ codes "]")
transform_text transform.Year = codes "year"
transform_text transform.Month = codes "month"
transform_text transform.Day = codes "day"
transform_text transform.Hour = codes "hour"
transform_text transform.Void = codes "void"

abbrev pub part_data : PartField → Data
part_data part = object (put (codes "transform") (string (transform_text part.transform)) (put (codes "name") (string part.name) (put (codes "field-id") (number (of_integer part.field)) (put (codes "source-id") (number (of_integer part.source)) no_members))))

abbrev pub spec_data : Spec → Data
spec_data spec = array (items_of (map part_data spec.fields))

abbrev pub spec_text : Spec → List ℕ
spec_text spec = compact_text (spec_data spec)
