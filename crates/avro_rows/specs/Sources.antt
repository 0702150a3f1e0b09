-- Which field of a file's records a column is read from (Iceberg specification, "Column Projection" and Appendix A,
-- "Avro"): fields are found by their ids, never by their names or places.
use Rattle.std.specs.Prelude.{ℕ, ◌+◌, ℤ, Bool, false, List, [], ◌∷◌, ◌++◌, Some, None, Result, Ok, Err, if◌then◌else◌}
use Rattle.std.specs.Ordering.{int_eq}
use Rattle.plain_types.specs.Steps.{◌>>=◌, by_option}
use Rattle.row_values.specs.declared.schema.Column.{Column}
use Rattle.avro_binary.specs.declared.schema.Schema.{Schema, out-Schema}
use Rattle.avro_binary.specs.declared.schema.Field.{Field}
use Rattle.avro_binary.specs.declared.schema.Schema.TheOpen as open_schema
use Rattle.avro_rows.specs.declared.row_fault.RowFault.{RowFault}
use Rattle.avro_rows.specs.declared.row_fault.RowFault.TheVariants as fault
use Rattle.avro_rows.specs.declared.source.Source.{Source}
use Rattle.avro_rows.specs.Carrier.{carries}

-- the fields of a record, of which a schema of another type has none
abbrev pub fields_level : open_schema.Schema-F Schema Field → List Field
fields_level (open_schema.Record name fields) = fields
fields_level _ = []

abbrev pub fields_of : Schema → List Field
fields_of schema = fields_level (out-Schema schema)

abbrev pub has_id : ℤ → Field → Bool
has_id id field = by_option field.id (λ other. int_eq other id) false

-- the source of a column whose field stands there
abbrev pub carried : Column → ℕ → Field → Result Source RowFault
carried column place field = if carries column.kind field.schema then Ok (record { id = column.id; kind = column.kind; required = column.required; place = Some place }) else Err (fault.Kind column.id)

-- the source of a column that no field has: an optional one is NULL
abbrev pub absent : Column → Result Source RowFault
absent column = if column.required then Err (fault.NoColumn column.id) else Ok (record { id = column.id; kind = column.kind; required = column.required; place = None })

-- the column's source among these fields, the first of which stands there; of fields with one id the first counts
unfoldable pub source_from : Column → ℕ → List Field → Result Source RowFault
source_from column place [] = absent column
source_from column place (field ∷ fields) = if has_id column.id field then carried column place field else source_from column (place + 1) fields

-- the sources of these columns, behind those that are found
unfoldable pub sources_from : List Field → List Source → List Column → Result (List Source) RowFault
sources_from fields earlier [] = Ok earlier
sources_from fields earlier (column ∷ columns) = source_from column 0 fields >>= λ source. sources_from fields (earlier ++ source ∷ []) columns
