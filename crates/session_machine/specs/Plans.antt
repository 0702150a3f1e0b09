-- What the plan of a statement fixes (Iceberg specification, "Table Metadata Fields", `properties`; Iceberg's pages on
-- configuration, "Write properties", `write.delete.isolation-level` and `write.delete.mode` and their kin).
use Rattle.std.specs.Prelude.{ℕ, Bool, true, false, not}
use Rattle.sql_statements.specs.declared.statement.Statement.{Statement}
use Rattle.sql_statements.specs.declared.statement.Statement.TheVariants as statement
use Rattle.sql_statements.specs.Tables.{branch_of, only_branch}
use Rattle.table_metadata.specs.declared.properties.Properties.{Properties}
use Rattle.change_sets.specs.declared.change.Plan.{Plan}

-- The isolation level of the statement's kind is not `snapshot`.
abbrev pub is_serializable : Properties → Statement → Bool
is_serializable p (statement.Delete branch filter) = not p.delete.snapshot_level
is_serializable p (statement.Update branch sets filter) = not p.update.snapshot_level
is_serializable p (statement.Merge m) = not p.merge.snapshot_level
is_serializable p _ = true

-- It is a DELETE, and its mode is merge-on-read.
abbrev pub deletes_on_read : Properties → Statement → Bool
deletes_on_read p (statement.Delete branch filter) = p.delete.on_read
deletes_on_read p _ = false

abbrev pub is_creation : Statement → Bool
is_creation (statement.CreateBranch branch) = true
is_creation _ = false

-- the plan of a statement on a version with these properties
abbrev pub plan_by : ℕ → Properties → Statement → Plan
plan_by version properties s = record {
  version = version;
  branch = branch_of s;
  serializable = is_serializable properties s;
  only_branch = only_branch s;
  merge_on_read_delete = deletes_on_read properties s;
  creates = is_creation s;
}
