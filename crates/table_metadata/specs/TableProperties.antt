-- The properties of a table, where they are texts.
use Rattle.std.specs.Prelude.{Result}
use Rattle.serde_json.specs.Data.{Data}
use Rattle.plain_types.specs.Steps.{◌>>=◌}
use Rattle.table_metadata.specs.declared.metadata_fault.MetadataFault.{MetadataFault}
use Rattle.table_metadata.specs.declared.properties.Properties.{Properties}
use Rattle.table_metadata.specs.Properties.{properties_of}
use Rattle.table_metadata.specs.TableKeys.{properties_shape}

-- those under the key `properties` of an object
unfoldable pub table_properties_of : Data → Result Properties MetadataFault
table_properties_of d = properties_shape d >>= λ _. properties_of d
