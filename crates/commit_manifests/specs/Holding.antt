-- What the manifests of a commit's list hold live (Iceberg specification, "Manifest Lists" and "Manifests").
use Rattle.std.specs.Prelude.{if◌then◌else◌, List, [], ◌∷◌, ◌++◌, filter, take, drop}
use Rattle.row_values.specs.declared.partition.Spec.{Spec}
use Rattle.row_values.specs.declared.schema.TableSchema.{TableSchema}
use Rattle.manifest_files.specs.declared.entry.Entry.{Entry}
use Rattle.manifest_files.specs.declared.manifest_row.ManifestRow.{ManifestRow}
use Rattle.manifest_files.specs.Entries as statuses
use Rattle.table_state.specs.declared.live_set.LiveSet.{LiveSet}
use Rattle.table_state.specs.declared.state.LiveCount.{LiveCount}
use Rattle.change_sets.specs.declared.change.AddedAs.{AddedAs}
use Rattle.change_sets.specs.declared.change.ChangeSet.{ChangeSet}
use Rattle.commit_manifests.specs.declared.drafts.Draft.{Draft}
use Rattle.commit_manifests.specs.Sorting.{has_removed, sorted_of}

-- the entries of the manifests that are written
unfoldable pub entries_of : List Draft → List Entry
entries_of [] = []
entries_of (draft ∷ drafts) = draft.entries ++ entries_of drafts

-- the files of the manifests that stand
unfoldable pub standing_files : List Entry → List ManifestRow → List LiveCount → List Entry → List Entry → List Entry
standing_files removed [] counts data_files deletes = []
standing_files removed (row ∷ rows) [] data_files deletes = []
standing_files removed (row ∷ rows) (count ∷ counts) data_files deletes =
    (if has_removed removed (take count.data_files data_files) then [] else take count.data_files data_files ++ take count.deletes deletes)
    ++ standing_files removed rows counts (drop count.data_files data_files) (drop count.deletes deletes)

-- all that the list's manifests hold live
abbrev pub held_after : List Spec → TableSchema → AddedAs → ChangeSet → List ManifestRow → List LiveCount → LiveSet → List Entry
held_after specs schema numbers change rows counts live = filter (λ entry. statuses.is_live entry.status) (entries_of (sorted_of specs schema change.removed numbers change rows counts live).drafts.closed) ++ standing_files change.removed rows counts live.data_files live.deletes
