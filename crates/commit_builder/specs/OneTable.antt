-- Two versions of one table (Iceberg specification, "Table Metadata Fields", `schemas`, `current-schema-id` and
-- `partition-specs`).
use Rattle.std.specs.Prelude.{◌≡◌}
use Rattle.table_state.specs.declared.state.State.{State}

-- the second has the schemas, the current schema and the specs of the first
pub record HasSchemasOf (base head : State) : Type 0 where
  pub schemas : head.metadata.schemas ≡ base.metadata.schemas
  pub current : head.metadata.current_schema ≡ base.metadata.current_schema
  pub specs : head.metadata.specs ≡ base.metadata.specs
