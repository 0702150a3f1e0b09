-- What a session has of its statement between two steps (Iceberg specification, "Optimistic Concurrency"): its plan, whose new
-- files were put, and once it is validated the next version, whose manifests and list were put. Nobody else makes versions
-- meanwhile.
use Rattle.std.specs.Prelude.{◌≡◌, ◌≤◌, ◌<◌, ◌+◌, ◌^◌, true, false, ℕ, ℤ, List, Some}
use Rattle.row_values.specs.declared.schema.TableSchema.{TableSchema}
use Rattle.sql_statements.specs.declared.statement.Source.{Source}
use Rattle.sql_statements.specs.declared.statement.Statement.{Statement}
use Rattle.sql_statements.specs.Tables.{branch_of}
use Rattle.store_core.specs.Files.{Files, KeepsFiles}
use Rattle.table_names.specs.declared.names.Names.{Names}
use Rattle.table_names.specs.FileNames.{NoneFrom}
use Rattle.iceberg_schema.specs.Widths.{IsLong}
use Rattle.table_names.specs.Versions.{version_of}
use Rattle.table_state.specs.declared.state.State.{State}
use Rattle.commit_builder.specs.declared.commit.Prepared.{Prepared}
use Rattle.commit_builder.specs.NextVersion.{AreNames}
use Rattle.change_sets.specs.Verdict.{is_absent}
use Rattle.branch_commit.specs.Current.{IsCurrent}
use Rattle.branch_commit.specs.Next.{has_next}
use Rattle.branch_commit.specs.Validation.{IsLaid}
use Rattle.branch_commit.specs.declared.found.Found.TheVariants as found
use Rattle.branch_commit.specs.declared.outcome.Pending.{Pending}
use Rattle.branch_commit.specs.Planning.{HasSchema, IsReady}
use Rattle.session_steps.specs.Open.{IsOpen}

-- The statement was planned on the open table, at the version that is still the current one of these files, and they keep
-- what was put.
pub record IsPending (table : List ℕ) (schema : TableSchema) (sources : List Source) (s : Statement) (files : Files) (pending : Pending) : Type 0 where
  pub old : Files
  pub put : Files
  pub names : Names
  pub after : Names
  pub was : IsOpen table schema old pending.base.version
  pub loaded : IsCurrent table (branch_of s) old pending.base
  pub there : is_absent pending.base.head ≡ false
  pub by_schema : HasSchema pending.base schema
  pub ready : IsReady sources s names pending.base old (Some put) after pending
  pub named : AreNames names
  pub room : names.next < 2 ^ 126
  pub few : after.next ≤ names.next + 2 ^ 64
  pub free : NoneFrom table names.run names.session names.next old
  pub kept : KeepsFiles (Some old) (Some put)
  pub stays : KeepsFiles (Some put) (Some files)
  pub newest : version_of table files ≡ Some pending.base.version

-- Its next version was prepared, and the files keep what it names.
pub record IsSwapping (table : List ℕ) (schema : TableSchema) (sources : List Source) (s : Statement) (files : Files)
    (pending : Pending) (prepared : Prepared) : Type 0 where
  pub old : Files
  pub put : Files
  pub head : State
  pub names : Names
  pub after : Names
  pub now : ℤ
  pub pends : IsPending table schema sources s old pending
  pub loaded : IsCurrent table (branch_of s) old head
  pub goes_on : has_next head ≡ true
  pub laid : IsLaid pending.plan pending.change names now head old (Some put) after (found.Good prepared)
  pub named : AreNames names
  pub hour : IsLong now
  pub room : names.next < 2 ^ 126
  pub few : after.next ≤ names.next + 2 ^ 100
  pub free : NoneFrom table names.run names.session names.next old
  pub kept : KeepsFiles (Some old) (Some put)
  pub stays : KeepsFiles (Some put) (Some files)
  pub newest : version_of table files ≡ Some pending.base.version
