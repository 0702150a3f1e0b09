-- A commit that is read again (Iceberg specification, "Snapshots", "Manifest Lists", "Manifests" and "Sequence Number
-- Inheritance"): the files that it puts, and those of the head.
use Rattle.std.specs.Prelude.{◌≡◌, ◌<◌, ◌^◌, ◌++◌, ℤ, int_lt, true, not, length, map, Some, Ok, IsTrue}
use Rattle.std.specs.List.{AllByRecursion, list_all}
use Rattle.std.specs.Str.{IsUtf8}
use Rattle.plain_types.specs.Bags.{SameBag}
use Rattle.row_values.specs.declared.partition.Spec.{Spec}
use Rattle.kind_values.specs.Bounds.{is_kind}
use Rattle.store_core.specs.Files.{Files}
use Rattle.table_names.specs.declared.names.Names.{Names}
use Rattle.table_names.specs.Sessions.{HasNoSlash}
use Rattle.manifest_files.specs.declared.entry.Entry.{Entry}
use Rattle.manifest_writer.specs.ListDatum.{is_listed}
use Rattle.manifest_writer.specs.Readable.{CanBeWritten, IsWritableSpec, is_written}
use Rattle.iceberg_schema.specs.Widths.{IsInt, IsLong}
use Rattle.metadata_writer.specs.PartsAfter.{CanFollow, parts_after}
use Rattle.table_metadata.specs.Metadata.{Parts, parts}
use Rattle.table_state.specs.declared.live_set.BranchState.TheVariants as state
use Rattle.table_state.specs.declared.live_set.LiveSet.{LiveSet}
use Rattle.table_metadata.specs.ById.{schema_with, spec_with}
use Rattle.table_state.specs.Live.{branch_at, is_data}
use Rattle.table_state.specs.declared.state.State.{State}
use Rattle.change_sets.specs.declared.change.ChangeSet.{ChangeSet}
use Rattle.change_sets.specs.Laid.{as_kept, laid}
use Rattle.commit_manifests.specs.declared.drafts.Draft.{Draft}
use Rattle.commit_builder.specs.Commits.{drafts_in, live_in, numbers_in, parent_of, rows_in, schema_of, snapshot_in}
use Rattle.commit_manifests.specs.Drafts.{spec_in}
use Rattle.commit_builder.specs.SnapshotIds.{ids_of, last}

-- a manifest whose entries are of a spec of the table, and hold what a manifest can hold
pub record IsReadable (head : State) (draft : Draft) : Type 0 where
  pub spec : spec_with draft.spec head.metadata.specs ≡ Some (spec_in head.metadata.specs draft.spec)
  pub entries : CanBeWritten draft.entries (spec_in head.metadata.specs draft.spec) (schema_of head)

-- the metadata has its current schema, the manifests and the rows can be read again, and the snapshot is a new one
pub record CanBeLaid (head : State) (change : ChangeSet) (names : Names) (now : ℤ) : Type 0 where
  pub schema : schema_with head.metadata.current_schema head.metadata.schemas ≡ Some (schema_of head)
  pub manifests : AllByRecursion (IsReadable head) (drafts_in head change)
  pub rows : IsTrue (list_all is_listed (rows_in head change names))
  pub follows : CanFollow (snapshot_in head change names now) now (parts head.metadata)

-- the names of a session of a run
pub record AreNames (names : Names) : Type 0 where
  pub text : IsUtf8 names.session
  pub slash : HasNoSlash names.session
  pub run : names.run < 2 ^ 64
  pub room : names.next < 2 ^ 127

-- what is read of the next version
abbrev pub next_parts : State → ChangeSet → Names → ℤ → Parts
next_parts head change names now = parts_after head.branch (snapshot_in head change names now) now (parts head.metadata)

-- the branch has the snapshot, whose live files are those of the head with the change laid on them, in some order and with
-- some status
pub record HoldsChange (head : State) (change : ChangeSet) (names : Names) (now : ℤ) (later : Files) : Type 0 where
  pub live : LiveSet
  pub branch : branch_at head.table (next_parts head change names now) head.branch later ≡ Ok (state.Head (snapshot_in head change names now).id (rows_in head change names) live)
  pub of_data : IsTrue (list_all is_data live.data_files)
  pub of_deletes : IsTrue (list_all (λ entry. not (is_data entry)) live.deletes)
  pub laid : SameBag (map as_kept (live.data_files ++ live.deletes))
      (map as_kept ((laid (numbers_in head) (live_in head.head) change).data_files ++ (laid (numbers_in head) (live_in head.head) change).deletes))

-- the numbers of the head and of the clock are in the ranges of their types, and there is a next sequence number
pub record HasNumbers (head : State) (now : ℤ) : Type 0 where
  pub few : length (ids_of head.metadata.snapshots (live_in head.head)) < 2 ^ 62
  pub sequence : int_lt head.metadata.last_sequence last ≡ true
  pub number : IsLong head.metadata.last_sequence
  pub hour : IsLong now
  pub updated : IsLong head.metadata.last_updated_ms
  pub parent : (n : ℤ) → parent_of head.head ≡ Some n → IsLong n
  pub schema : IsLong head.metadata.current_schema × IsInt head.metadata.current_schema

-- a table whose manifests can be written anew: it has its current schema, and its specs can be written
pub record CanBeRewritten (head : State) : Type 0 where
  pub schema : schema_with head.metadata.current_schema head.metadata.schemas ≡ Some (schema_of head)
  pub kinds : IsTrue (list_all (λ column. is_kind column.kind) (schema_of head).columns)
  pub specs : (id : ℤ) (spec : Spec) → spec_with id head.metadata.specs ≡ Some spec → IsWritableSpec spec

-- a file that can be added: its entry is of a spec of the table, and a manifest can hold it
pub record CanBeAdded (head : State) (entry : Entry) : Type 0 where
  pub spec : spec_with entry.spec head.metadata.specs ≡ Some (spec_in head.metadata.specs entry.spec)
  pub held : IsTrue (is_written (spec_in head.metadata.specs entry.spec) (schema_of head) entry)
