-- The first version of a table that is made as a schema file asks (Iceberg specification, "Table Metadata Fields").
use Rattle.std.specs.Prelude.{ℕ, ℤ, codes, List}
use Rattle.serde_json.specs.Data.{Data, null, object, no_members}
use Rattle.serde_json.specs.Find.{get}
use Rattle.serde_json.specs.Written.{compact_text}
use Rattle.plain_types.specs.Steps.{by_option}
use Rattle.table_metadata.specs.Metadata.{Parts}
use Rattle.metadata_writer.specs.NewTable.{Made, first_parts, first_version}
use Rattle.table_definition.specs.Definition.{Asked, fields_in}
use Rattle.table_definition.specs.Identifier.{identifier_text}
use Rattle.table_definition.specs.LastIds.{last_column, last_partition}

-- the schema as the file has it
abbrev pub schema_json : Data → Data
schema_json d = by_option (get (codes "schema") d) (λ schema. schema) null

-- the properties as the file has them: none, where nothing is said
abbrev pub properties_json : Data → Data
properties_json d = by_option (get (codes "properties") d) (λ properties. properties) (object no_members)

abbrev pub made_of : List ℕ → ℤ → Asked → Made
made_of location now asked = record {
  location = location;
  uuid = identifier_text location now;
  schema = schema_json asked.json;
  schema_id = asked.schema.id;
  last_column = last_column asked.schema.columns;
  fields = fields_in asked.json;
  last_partition = last_partition asked.spec.fields;
  properties = properties_json asked.json;
  created_ms = now;
}

-- the bytes of the first version's metadata: compact JSON
abbrev pub first_text : List ℕ → ℤ → Asked → List ℕ
first_text location now asked = compact_text (first_version (made_of location now asked))

-- what is read of it
abbrev pub parts_made : List ℕ → ℤ → Asked → Parts
parts_made location now asked = first_parts asked.schema asked.spec asked.properties (made_of location now asked)
