-- The manifests of a new list (Iceberg specification, "Manifest Lists" and "Snapshots"): new ones for the files that are
-- added, by rising ids of their specs, then those of the head that hold a removed file, written anew, and those that stand.
-- One of the head that holds nothing live is left out.
use Rattle.std.specs.Prelude.{ℕ, suc, ℤ, int_lt, Bool, true, false, ◌&&◌, if◌then◌else◌, List, [], ◌∷◌, ◌++◌, take, drop}
use Rattle.std.specs.List.{list_any}
use Rattle.std.specs.Ordering.{int_eq}
use Rattle.row_values.specs.declared.partition.Spec.{Spec}
use Rattle.row_values.specs.declared.schema.TableSchema.{TableSchema}
use Rattle.manifest_files.specs.declared.entry.Entry.{Entry}
use Rattle.manifest_files.specs.declared.manifest_row.ManifestContent.{ManifestContent}
use Rattle.manifest_files.specs.declared.manifest_row.ManifestContent.TheVariants as content
use Rattle.manifest_files.specs.declared.manifest_row.ManifestRow.{ManifestRow}
use Rattle.table_state.specs.declared.live_set.LiveSet.{LiveSet}
use Rattle.table_state.specs.declared.state.LiveCount.{LiveCount}
use Rattle.change_sets.specs.declared.change.AddedAs.{AddedAs}
use Rattle.change_sets.specs.declared.change.ChangeSet.{ChangeSet}
use Rattle.change_sets.specs.Laid.{as_added, as_kept, as_removed}
use Rattle.change_sets.specs.Same.{is_among}
use Rattle.commit_manifests.specs.Drafts.{Drafts, and_entry, begun, finished, nothing, seen}
use Rattle.commit_manifests.specs.declared.sorting.Sorted as code

-- one of the ids is this one
unfoldable pub has_id : ℤ → List ℤ → Bool
has_id id [] = false
has_id id (one ∷ ids) = if int_eq one id then true else has_id id ids

-- ---- files that are added

-- how many rising numbers come before this one
unfoldable pub place_of : ℤ → List ℤ → ℕ
place_of id [] = 0
place_of id (one ∷ ids) = if int_lt id one then 0 else suc (place_of id ids)

-- rising numbers, and this one at its place
abbrev pub insert : ℤ → List ℤ → List ℤ
insert id ids = if list_any (λ one. int_eq one id) ids then ids else take (place_of id ids) ids ++ id ∷ drop (place_of id ids) ids

-- the ids of the entries' specs, each once, rising, with those that are known
unfoldable pub spec_ids : List ℤ → List Entry → List ℤ
spec_ids ids [] = ids
spec_ids ids (entry ∷ entries) = spec_ids (insert entry.spec ids) entries

-- the manifests that are written, and the rows of those that stand
pub record Sorted : Type 0 where
  pub drafts : Drafts
  pub standing : List ManifestRow

abbrev pub seen_sorted : code.Sorted → Sorted
seen_sorted s = record { drafts = seen s.drafts; standing = s.standing.items }

abbrev pub is_empty : List Entry → Bool
is_empty [] = true
is_empty (entry ∷ entries) = false

-- an entry of a manifest that is written anew
unfoldable pub rewritten : List Entry → ℤ → Entry → Entry
rewritten removed snapshot entry = if is_among removed entry then as_removed snapshot entry else as_kept entry

-- whether one of the entries is removed
unfoldable pub has_removed : List Entry → List Entry → Bool
has_removed removed [] = false
has_removed removed (entry ∷ entries) = if is_among removed entry then true else has_removed removed entries

module _ (specs : List Spec) (schema : TableSchema) where
  -- and the entries of one spec
  unfoldable pub and_group : AddedAs → ℤ → Drafts → List Entry → Drafts
  and_group numbers id drafts [] = drafts
  and_group numbers id drafts (entry ∷ entries) = and_group numbers id (if int_eq entry.spec id then and_entry specs schema drafts (as_added numbers entry) else drafts) entries

  -- and manifests of the entries, spec by spec
  unfoldable pub and_groups : AddedAs → ManifestContent → List Entry → Drafts → List ℤ → Drafts
  and_groups numbers content entries drafts [] = drafts
  and_groups numbers content entries drafts (id ∷ ids) = and_groups numbers content entries (finished (and_group numbers id (begun id content drafts) entries)) ids

  -- ---- files that are removed

  -- and the entries of a manifest, those that are removed among them
  unfoldable pub and_rewritten : List Entry → ℤ → Drafts → List Entry → Drafts
  and_rewritten removed snapshot drafts [] = drafts
  and_rewritten removed snapshot drafts (entry ∷ entries) = and_rewritten removed snapshot (and_entry specs schema drafts (rewritten removed snapshot entry)) entries

  -- and a manifest of the head that holds these files live
  abbrev pub and_manifest : List Entry → ℤ → Sorted → ManifestRow → List Entry → List Entry → Sorted
  and_manifest removed snapshot sorted row data_files deletes =
      if has_removed removed data_files
      then record sorted { drafts = finished (and_rewritten [] snapshot (and_rewritten removed snapshot (begun row.partition_spec_id row.content sorted.drafts) data_files) deletes) }
      else if is_empty data_files && is_empty deletes then sorted else record sorted { standing = sorted.standing ++ row ∷ [] }

  -- and the manifests of the head, of which each holds so many files of those that are left
  unfoldable pub sorted_from : List Entry → ℤ → Sorted → List ManifestRow → List LiveCount → List Entry → List Entry → Sorted
  sorted_from removed snapshot sorted [] counts data_files deletes = sorted
  sorted_from removed snapshot sorted (row ∷ rows) [] data_files deletes = sorted
  sorted_from removed snapshot sorted (row ∷ rows) (count ∷ counts) data_files deletes =
      sorted_from removed snapshot (and_manifest removed snapshot sorted row (take count.data_files data_files) (take count.deletes deletes)) rows counts (drop count.data_files data_files) (drop count.deletes deletes)

  -- the new manifests of the files that are added
  unfoldable pub added_drafts : AddedAs → ChangeSet → Drafts
  added_drafts numbers change = and_groups numbers content.Deletes change.added_deletes (and_groups numbers content.Data change.added_data nothing (spec_ids [] change.added_data)) (spec_ids [] change.added_deletes)

  unfoldable pub sorted_of : List Entry → AddedAs → ChangeSet → List ManifestRow → List LiveCount → LiveSet → Sorted
  sorted_of removed numbers change rows counts live = sorted_from removed numbers.snapshot (record { drafts = added_drafts numbers change; standing = [] }) rows counts live.data_files live.deletes
