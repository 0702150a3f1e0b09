-- A partition spec as JSON (Iceberg specification, Appendix C, "Partition Specs"), and the first fault that a reading
-- meets. The greatest number of fields is the project's limit.
use Rattle.std.specs.Prelude.{ℤ, not, nat_lt, codes, List, [], ◌∷◌, ◌++◌, Bool, true, false, Result, Ok, Err, ⊤, if◌then◌else◌}
use Rattle.std.specs.Ordering.{int_eq}
use Rattle.std.specs.List.{list_any}
use Rattle.serde_json.specs.Data.{Data, Items, no_items, item}
use Rattle.row_values.specs.Columns.{kind_of_column}
use Rattle.row_values.specs.declared.kind.Kind.{Kind}
use Rattle.row_values.specs.declared.kind.Kind.TheVariants as kind
use Rattle.row_values.specs.declared.schema.Column.{Column}
use Rattle.row_values.specs.declared.partition.Transform.{Transform}
use Rattle.row_values.specs.declared.partition.Transform.TheVariants as transform
use Rattle.row_values.specs.declared.partition.PartField.{PartField}
use Rattle.row_values.specs.declared.partition.Spec.{Spec}
use Rattle.iceberg_schema.specs.declared.spec_fault.SpecFault.{SpecFault}
use Rattle.iceberg_schema.specs.declared.spec_fault.SpecFault.TheVariants as fault
use Rattle.iceberg_schema.specs.Keys.{int_at, text_at, items_at, item_count}
use Rattle.plain_types.specs.Steps.{◌>>=◌, or_fault, fault_if, fault_as, by_option}
use Rattle.iceberg_schema.specs.TransformText.{transform_of}

abbrev pub is_time : Kind → Bool
is_time (kind.Timestamp utc) = true
is_time _ = false

abbrev pub is_day_or_time : Kind → Bool
is_day_or_time kind.Date = true
is_day_or_time (kind.Timestamp utc) = true
is_day_or_time _ = false

abbrev pub is_hashed : Kind → Bool
is_hashed kind.Bool = false
is_hashed _ = true

abbrev pub is_truncated : Kind → Bool
is_truncated kind.Int = true
is_truncated kind.Long = true
is_truncated (kind.Decimal precision scale) = true
is_truncated kind.Text = true
is_truncated kind.Bytes = true
is_truncated _ = false

-- whether a transform takes the values of a kind
abbrev pub takes : Transform → Kind → Bool
takes transform.Identity k = true
takes (transform.Bucket n) k = is_hashed k
takes (transform.Truncate n) k = is_truncated k
takes transform.Year k = is_day_or_time k
takes transform.Month k = is_day_or_time k
takes transform.Day k = is_day_or_time k
takes transform.Hour k = is_time k
takes transform.Void k = true

abbrev pub is_void : Transform → Bool
is_void transform.Void = true
is_void _ = false

-- The transform of a field takes its source column. A void one asks for no column.
unfoldable pub source_fits : Transform → ℤ → List Column → Result ⊤ SpecFault
source_fits t source columns = if is_void t then Ok tt else by_option (kind_of_column source columns) (λ k. fault_if (fault.Kind source) (not (takes t k))) (Err (fault.Source source))

abbrev pub has_field : ℤ → List PartField → Bool
has_field id fields = list_any (λ field. int_eq field.field id) fields

-- a field behind these ones
unfoldable pub field_of : List Column → List PartField → Data → Result PartField SpecFault
field_of columns earlier d = do
  source ← or_fault (fault.Missing (codes "source-id")) (int_at (codes "source-id") d)
  field ← or_fault (fault.Missing (codes "field-id")) (int_at (codes "field-id") d)
  name ← or_fault (fault.Missing (codes "name")) (text_at (codes "name") d)
  text ← or_fault (fault.Missing (codes "transform")) (text_at (codes "transform") d)
  transform ← fault_as fault.Transform (transform_of text)
  _ ← source_fits transform source columns
  _ ← fault_if (fault.Duplicate field) (has_field field earlier)
  Ok (record { source = source; field = field; name = name; transform = transform })

-- the fields of these elements, behind those that are read
unfoldable pub fields_of : List Column → List PartField → Items → Result (List PartField) SpecFault
fields_of columns earlier no_items = Ok earlier
fields_of columns earlier (item d ds) = field_of columns earlier d >>= λ field. fields_of columns (earlier ++ field ∷ []) ds

-- the spec, whose fields are on columns of the schema
unfoldable pub spec_of : List Column → Data → Result Spec SpecFault
spec_of columns d = do
  id ← or_fault (fault.Missing (codes "spec-id")) (int_at (codes "spec-id") d)
  items ← or_fault (fault.Missing (codes "fields")) (items_at (codes "fields") d)
  _ ← fault_if (fault.Fields (item_count items)) (nat_lt 16 (item_count items))
  fields ← fields_of columns [] items
  Ok (record { id = id; fields = fields })
