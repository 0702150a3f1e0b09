-- The version that a commit prepares (Iceberg specification, "Table Metadata Fields"): the old metadata with one snapshot
-- more, on the branch.
use Rattle.std.specs.Prelude.{◌≡◌, ◌+◌, ℕ, ℤ, List, Ok}
use Rattle.serde_json.specs.View.{view}
use Rattle.table_names.specs.declared.names.Names.{Names}
use Rattle.metadata_writer.specs.Commit.{after_snapshot}
use Rattle.metadata_writer.specs.PartsAfter.{CanFollow, parts_after}
use Rattle.table_metadata.specs.declared.snapshots.Snapshot.{Snapshot}
use Rattle.table_metadata.specs.Metadata.{IsMetadataOf, json_of, metadata_of, parts}
use Rattle.table_names.specs.Versions.{version_name}
use Rattle.table_state.specs.declared.state.State.{State}
use Rattle.change_sets.specs.declared.change.ChangeSet.{ChangeSet}
use Rattle.commit_builder.specs.declared.commit.Prepared.{Prepared}
use Rattle.commit_builder.specs.Commits.{snapshot_in, writer_in}

-- the version behind the head's, with the snapshot on the branch, made by this writer at this hour of the clock
pub record PreparesBy (head : State) (branch : List ℕ) (snapshot : Snapshot) (writer : List ℕ) (now : ℤ) (prepared : Prepared) : Type 0 where
  pub version : prepared.version ≡ head.version + 1
  pub name : prepared.name ≡ version_name head.table (head.version + 1)
  pub json : (bytes : List ℕ) → IsMetadataOf bytes head.metadata
      → json_of prepared.bytes ≡ Ok (after_snapshot branch snapshot writer now (view head.metadata.json))
  pub read : (bytes : List ℕ) → IsMetadataOf bytes head.metadata → CanFollow snapshot now (parts head.metadata)
      → metadata_of prepared.bytes ≡ Ok (parts_after branch snapshot now (parts head.metadata))

abbrev pub Prepares : State → List ℕ → ChangeSet → Names → ℤ → Prepared → Type 0
Prepares head branch change names now prepared = PreparesBy head branch (snapshot_in head change names now) (writer_in head change names) now prepared
