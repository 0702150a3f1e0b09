-- What the bytes of a metadata file say (Iceberg specification, "Table Metadata Fields" and Appendix C, "Table Metadata and
-- Snapshots"), or the first fault. Faults are looked for class by class over the whole of it: a key that is absent, the
-- form of the keys, the schemas, the partition specs, what holds of all their ids together, the properties, the refs.
use Rattle.std.specs.Prelude.{◌≡◌, ℕ, ℤ, List, Option, is_some, Result, Ok, Err, if◌then◌else◌}
use Rattle.std.specs.Str.{is_utf8}
use Rattle.serde_json.specs.Data.{Data}
use Rattle.serde_json.specs.Find.{as_object}
use Rattle.serde_json.specs.Read.{read}
use Rattle.serde_json.specs.View.{view}
use Rattle.serde_json.specs.Written.{has_float}
use Rattle.row_values.specs.declared.schema.TableSchema.{TableSchema}
use Rattle.row_values.specs.declared.partition.Spec.{Spec}
use Rattle.table_metadata.specs.declared.metadata.Metadata.{Metadata}
use Rattle.table_metadata.specs.declared.metadata_fault.MetadataFault.{MetadataFault}
use Rattle.table_metadata.specs.declared.metadata_fault.MetadataFault.TheVariants as fault
use Rattle.table_metadata.specs.declared.properties.Properties.{Properties}
use Rattle.table_metadata.specs.declared.references.RefItem.{RefItem}
use Rattle.table_metadata.specs.declared.snapshots.Snapshot.{Snapshot}
use Rattle.table_metadata.specs.FieldIds.{field_ids_fit}
use Rattle.table_metadata.specs.MissingKeys.{keys_stand}
use Rattle.table_metadata.specs.Properties.{properties_of}
use Rattle.table_metadata.specs.References.{listed_refs_of, refs_of}
use Rattle.table_metadata.specs.SchemaList.{schemas_of, specs_of}
use Rattle.table_metadata.specs.Snapshots.{snapshots_of}
use Rattle.table_metadata.specs.TableKeys.{plain_keys_of, current_ids_of, optional_keys_of}
use Rattle.plain_types.specs.Steps.{◌>>=◌, by_option}

-- what is read from the keys of a table's metadata
pub record Parts : Type 0 where
  pub format_version : ℕ
  pub location : List ℕ
  pub last_sequence : ℤ
  pub last_updated_ms : ℤ
  pub last_column : ℤ
  pub schemas : List TableSchema
  pub current_schema : ℤ
  pub specs : List Spec
  pub default_spec : ℤ
  pub last_partition : ℤ
  pub properties : Properties
  pub current_snapshot : Option ℤ
  pub snapshots : List Snapshot
  pub refs : List RefItem

-- all fields but the JSON itself
abbrev pub parts : Metadata → Parts
parts m = record {
  format_version = m.format_version;
  location = m.location;
  last_sequence = m.last_sequence;
  last_updated_ms = m.last_updated_ms;
  last_column = m.last_column;
  schemas = m.schemas;
  current_schema = m.current_schema;
  specs = m.specs;
  default_spec = m.default_spec;
  last_partition = m.last_partition;
  properties = m.properties;
  current_snapshot = m.current_snapshot;
  snapshots = m.snapshots;
  refs = m.refs;
}

unfoldable pub parts_of : Data → Result Parts MetadataFault
parts_of d = do
  _ ← keys_stand d
  keys ← plain_keys_of d
  ids ← current_ids_of d
  current ← optional_keys_of d
  snapshots ← snapshots_of d
  listed ← listed_refs_of d
  schemas ← schemas_of d
  specs ← specs_of ids.schema schemas d
  _ ← field_ids_fit keys.last_column ids.last_partition schemas specs
  properties ← properties_of d
  refs ← refs_of current snapshots listed
  Ok (record {
    format_version = 2;
    location = keys.location;
    last_sequence = keys.last_sequence;
    last_updated_ms = keys.last_updated_ms;
    last_column = keys.last_column;
    schemas = schemas;
    current_schema = ids.schema;
    specs = specs;
    default_spec = ids.spec;
    last_partition = ids.last_partition;
    properties = properties;
    current_snapshot = current;
    snapshots = snapshots;
    refs = refs;
  })

-- an object in which each number is a whole number of 64 bits
unfoldable pub whole_object : Data → Result Data MetadataFault
whole_object d = if is_some (as_object d) then (if has_float d then Err fault.Json else Ok d) else Err fault.Json

-- the JSON object that the bytes are
unfoldable pub json_of : List ℕ → Result Data MetadataFault
json_of bytes = if is_utf8 bytes then by_option (read bytes) whole_object (Err fault.Json) else Err fault.Json

-- what the bytes say
unfoldable pub metadata_of : List ℕ → Result Parts MetadataFault
metadata_of bytes = json_of bytes >>= parts_of

-- what was read from the bytes, which keeps their JSON
pub record IsMetadataOf (bytes : List ℕ) (m : Metadata) : Type 0 where
  pub read : metadata_of bytes ≡ Ok (parts m)
  pub json : json_of bytes ≡ Ok (view m.json)
