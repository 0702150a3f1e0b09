-- A copy-on-write statement that is committed (SQL standard, "Data manipulation"; Iceberg specification, "Scan Planning",
-- "Row-level Deletes" and "Snapshots"): it is planned on a branch as the files have it, its new data files are written, and
-- the next version is prepared on the branch's head.
use Rattle.std.specs.Prelude.{◌≡◌, ◌<◌, ◌^◌, ◌⊎◌, ℕ, ℤ, List, [], length, None, Ok}
use Rattle.row_values.specs.declared.schema.Column.{Column}
use Rattle.row_values.specs.Rows.{AreRows}
use Rattle.sql_predicates.specs.declared.pred.Pred.{Pred}
use Rattle.sql_statements.specs.declared.statement.Source.{Source}
use Rattle.sql_statements.specs.declared.statement.Statement.{Statement}
use Rattle.sql_statements.specs.Effects.{refusal}
use Rattle.sql_statements.specs.Filter.{filter_of, never}
use Rattle.store_core.specs.Files.{Files}
use Rattle.table_names.specs.declared.names.Names.{Names}
use Rattle.table_names.specs.FileNames.{NoneFrom}
use Rattle.table_metadata.specs.Metadata.{parts}
use Rattle.table_state.specs.Live.{data_files_of}
use Rattle.table_state.specs.declared.state.State.{State}
use Rattle.table_state.specs.States.{IsStateOf}
use Rattle.change_sets.specs.declared.change.ChangeSet.{ChangeSet}
use Rattle.change_sets.specs.declared.scanned.Decisions.{Decisions}
use Rattle.change_sets.specs.declared.scanned.ScannedFile.{ScannedFile}
use Rattle.table_scan.specs.Scanning.{scanned_at}
use Rattle.cow_writer.specs.Copies.{change_of, files_after, pieces_in, schema_of}
use Rattle.change_sets.specs.Deciding.{written_of}
use Rattle.cow_writer.specs.Reading.{CanBeRead}
use Rattle.commit_builder.specs.declared.commit.Prepared.{Prepared}
use Rattle.commit_builder.specs.Commits.{AreSpelled, drafts_in}
use Rattle.commit_builder.specs.NextVersion.{AreNames, CanBeLaid}
use Rattle.commit_builder.specs.Preparing.{Prepares}
use Rattle.table_scan.specs.Decisions.{decisions_of, hit_rows}

-- ---- the statement

-- the columns of the branch's table
abbrev pub columns_of : State → List Column
columns_of state = (schema_of state.metadata).columns

abbrev pub width_of : State → ℕ
width_of state = length (columns_of state)

abbrev pub filter_on : State → Statement → Pred
filter_on state s = filter_of (width_of state) s

-- what it decides for the rows of these files that its filter hits, and what it inserts
abbrev pub decided_by : State → List ScannedFile → List Source → Statement → Decisions
decided_by state scanned sources s = decisions_of sources s (width_of state) scanned (hit_rows scanned)

-- the change that copy-on-write makes of it
abbrev pub change_by : State → List ScannedFile → List Source → Statement → Names → ChangeSet
change_by state scanned sources s names = change_of state scanned (decided_by state scanned sources s) (filter_on state s) names

-- ---- its commit

-- the files with a row of which the filter is True; where the filter is FALSE no file need be read
abbrev pub IsScanned : State → Statement → List ScannedFile → Files → Type 0
IsScanned state s scanned files =
    ((filter_on state s ≡ never) × (scanned ≡ [])) ⊎ (scanned_at state.table (parts state.metadata) (filter_on state s) (data_files_of state.head) files ≡ Ok scanned)

-- the statement was planned on the branch as these files have it, and is not refused there
pub record IsPlanned (base : State) (sources : List Source) (s : Statement) (scanned : List ScannedFile) (files : Files) : Type 0 where
  pub loaded : IsStateOf base.table base.version base.branch files base
  pub reads : IsScanned base s scanned files
  pub accepted : refusal (columns_of base) sources s (hit_rows scanned) ≡ None

-- its new data files were put under these names, and can be read again
pub record IsWritten (base : State) (sources : List Source) (s : Statement) (scanned : List ScannedFile) (names : Names)
    (planned written : Files) : Type 0 where
  pub files : written ≡ files_after base scanned (decided_by base scanned sources s) names planned
  pub read : CanBeRead base names (pieces_in base scanned (decided_by base scanned sources s))
  pub fits : AreRows (columns_of base) (written_of scanned (decided_by base scanned sources s))

-- the next version was prepared with the change, on the head as these files have it, and can be read again
pub record IsPrepared (head : State) (change : ChangeSet) (names : Names) (now : ℤ) (files : Files) (prepared : Prepared) : Type 0 where
  pub loaded : IsStateOf head.table head.version head.branch files head
  pub free : NoneFrom head.table names.run names.session names.next files
  pub named : AreNames names
  pub few : length (drafts_in head change) < 2 ^ 100
  pub spelled : AreSpelled head change names
  pub laid_on : CanBeLaid head change names now
  pub prepares : Prepares head head.branch change names now prepared
