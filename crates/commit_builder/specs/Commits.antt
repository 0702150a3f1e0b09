-- A commit of a change onto the head of a branch (Iceberg specification, "Snapshots", "Sequence Numbers" and "Manifest
-- Lists"): its snapshot, the files that it puts, and the version that it prepares.
use Rattle.std.specs.Prelude.{ℕ, ◌+◌, ◌<◌, ◌^◌, ℤ, pos, ◌+ℤ◌, Bool, ◌&&◌, codes, if◌then◌else◌, List, [], ◌∷◌, ◌++◌, length, Option, Some, None}
use Rattle.std.specs.Int.{int_max}
use Rattle.std.specs.List.{AllByRecursion}
use Rattle.plain_types.specs.Steps.{by_option}
use Rattle.row_values.specs.declared.schema.TableSchema.{TableSchema}
use Rattle.store_core.specs.Files.{Files, with_file}
use Rattle.table_names.specs.declared.names.Names.{Names}
use Rattle.table_names.specs.FileNames.{metadata_name, writer_text}
use Rattle.manifest_files.specs.declared.manifest_row.ManifestRow.{ManifestRow}
use Rattle.commit_manifests.specs.declared.commit_numbers.CommitNumbers.{CommitNumbers}
use Rattle.commit_manifests.specs.Rows.{row_of}
use Rattle.manifest_writer.specs.EntryDatum.{manifest_text, IsEntry}
use Rattle.manifest_writer.specs.ListDatum.{list_text, IsRow}
use Rattle.table_metadata.specs.declared.snapshots.Snapshot.{Snapshot}
use Rattle.table_state.specs.declared.live_set.BranchState.{BranchState}
use Rattle.table_state.specs.declared.live_set.BranchState.TheVariants as state
use Rattle.table_state.specs.declared.live_set.LiveSet.{LiveSet}
use Rattle.cow_writer.specs.Copies as copies
use Rattle.table_names.specs.Paths.{folder_of}
use Rattle.table_state.specs.declared.state.State.{State}
use Rattle.table_state.specs.States.{manifests_of}
use Rattle.change_sets.specs.declared.change.AddedAs.{AddedAs}
use Rattle.change_sets.specs.declared.change.ChangeSet.{ChangeSet}
use Rattle.commit_manifests.specs.declared.drafts.Draft.{Draft}
use Rattle.commit_manifests.specs.Drafts.{spec_in}
use Rattle.commit_builder.specs.SnapshotIds.{ids_of, next_id}
use Rattle.commit_manifests.specs.Sorting.{Sorted, sorted_of, is_empty}

-- ---- the head

abbrev pub live_in : BranchState → LiveSet
live_in state.Absent = record { data_files = []; deletes = [] }
live_in state.Empty = record { data_files = []; deletes = [] }
live_in (state.Head snapshot manifests live) = live

abbrev pub parent_of : BranchState → Option ℤ
parent_of state.Absent = None
parent_of state.Empty = None
parent_of (state.Head snapshot manifests live) = Some snapshot

-- the numbers of the files that a commit adds: the next sequence number, and the id of its snapshot
abbrev pub numbers_of : ℤ → List Snapshot → LiveSet → AddedAs
numbers_of last_sequence snapshots live = record { seq = last_sequence +ℤ pos 1; file_seq = last_sequence +ℤ pos 1; snapshot = next_id (ids_of snapshots live) }

-- ---- the manifests

-- the names behind one that is drawn
abbrev pub drawn : Names → Names
drawn names = record names { next = names.next + 1 }

-- where the next manifest is put, and the path that the table knows it by
abbrev pub next_name : List ℕ → Names → List ℕ
next_name folder names = metadata_name folder names.run names.session names.next

module _ (head : State) (schema : TableSchema) where
  unfoldable pub text_in : Draft → List ℕ
  text_in draft = manifest_text draft.entries (spec_in head.metadata.specs draft.spec) schema

  -- texts and numbers have the ranges of their types, and the manifest has the length of a file
  pub record IsSpelled (draft : Draft) : Type 0 where
    pub entries : AllByRecursion IsEntry draft.entries
    pub small : length (text_in draft) < 2 ^ 63

module _ (head : State) (schema : TableSchema) (numbers : CommitNumbers) where
  unfoldable pub row_in : Names → Draft → ManifestRow
  row_in names draft = row_of (next_name (folder_of head.metadata.location) names) (length (text_in head schema draft)) (spec_in head.metadata.specs draft.spec) draft.content numbers draft.entries

  -- the rows of manifests that are put under the next names, behind those so far
  unfoldable pub rows_from : Names → List ManifestRow → List Draft → List ManifestRow
  rows_from names rows [] = rows
  rows_from names rows (draft ∷ drafts) = rows_from (drawn names) (rows ++ row_in names draft ∷ []) drafts

  -- the files, with the manifests
  unfoldable pub files_from : Names → Files → List Draft → Files
  files_from names files [] = files
  files_from names files (draft ∷ drafts) = files_from (drawn names) (with_file (next_name head.table names) (text_in head schema draft) files) drafts

-- ---- the whole commit

-- what it gives the files that it adds
abbrev pub numbers_in : State → AddedAs
numbers_in head = numbers_of head.metadata.last_sequence head.metadata.snapshots (live_in head.head)

abbrev pub commit_numbers : AddedAs → CommitNumbers
commit_numbers numbers = record { seq = numbers.file_seq; snapshot = numbers.snapshot }

abbrev pub schema_of : State → TableSchema
schema_of head = copies.schema_of head.metadata

-- the manifests that it writes, and those of the head that stand
abbrev pub sorted_in : State → ChangeSet → Sorted
sorted_in head change = sorted_of head.metadata.specs (schema_of head) change.removed (numbers_in head) change (manifests_of head.head) head.held (live_in head.head)

abbrev pub drafts_in : State → ChangeSet → List Draft
drafts_in head change = (sorted_in head change).drafts.closed

-- the rows of its list
abbrev pub rows_in : State → ChangeSet → Names → List ManifestRow
rows_in head change names = rows_from head (schema_of head) (commit_numbers (numbers_in head)) names [] (drafts_in head change) ++ (sorted_in head change).standing

-- what it writes has the ranges of its types, and the length of files
pub record AreSpelled (head : State) (change : ChangeSet) (names : Names) : Type 0 where
  pub manifests : AllByRecursion (IsSpelled head (schema_of head)) (drafts_in head change)
  pub rows : AllByRecursion IsRow (rows_in head change names)
  pub small : length (list_text (rows_in head change names)) < 2 ^ 63

-- the names behind its manifests, of which the list has the first
abbrev pub list_names : State → ChangeSet → Names → Names
list_names head change names = record names { next = names.next + length (drafts_in head change) }

-- the files, with its manifests
abbrev pub manifests_after : State → ChangeSet → Names → Files → Files
manifests_after head change names files = files_from head (schema_of head) (commit_numbers (numbers_in head)) names files (drafts_in head change)

-- and with its list
abbrev pub files_after : State → ChangeSet → Names → Files → Files
files_after head change names files = with_file (next_name head.table (list_names head change names)) (list_text (rows_in head change names)) (manifests_after head change names files)

-- what it does to the table: `append` where it adds data alone, `delete` where it adds no data, else `overwrite`
abbrev pub operation_by : Bool → Bool → Bool → List ℕ
operation_by no_data none_removed no_deletes = if no_data then codes "delete" else if none_removed && no_deletes then codes "append" else codes "overwrite"

abbrev pub operation_of : ChangeSet → List ℕ
operation_of change = operation_by (is_empty change.added_data) (is_empty change.removed) (is_empty change.added_deletes)

-- its snapshot, whose list has this path
abbrev pub snapshot_at : State → AddedAs → ChangeSet → List ℕ → ℤ → Snapshot
snapshot_at head numbers change list now = record {
  id = numbers.snapshot;
  parent = parent_of head.head;
  seq = numbers.file_seq;
  timestamp_ms = int_max now head.metadata.last_updated_ms;
  list = list;
  operation = operation_of change;
  schema = Some head.metadata.current_schema;
}

abbrev pub snapshot_in : State → ChangeSet → Names → ℤ → Snapshot
snapshot_in head change names now = snapshot_at head (numbers_in head) change (next_name (folder_of head.metadata.location) (list_names head change names)) now

-- who makes the version
abbrev pub writer_in : State → ChangeSet → Names → List ℕ
writer_in head change names = writer_text names.run names.session ((list_names head change names).next + 1)
