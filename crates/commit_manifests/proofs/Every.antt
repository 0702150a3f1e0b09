-- What holds of every entry of the manifests that a commit writes.
use Rattle.std.proofs.Common.{◌≡◌, ◌-◌, ℕ, ℤ, Bool, true, false, ◌&&◌, List, [], ◌∷◌, ◌++◌, map, take, drop, refl, sym, ap, ◌∙◌, true≢false}
use Rattle.std.specs.Prelude.{if◌then◌else◌, nat_le, nat_eq}
use Rattle.std.specs.List.{AllByRecursion}
use Rattle.std.specs.Ordering.{int_eq}
use Rattle.row_values.specs.declared.partition.Spec.{Spec}
use Rattle.row_values.specs.declared.schema.TableSchema.{TableSchema}
use Rattle.manifest_files.specs.declared.entry.Entry.{Entry}
use Rattle.manifest_files.specs.declared.manifest_row.ManifestContent.{ManifestContent}
use Rattle.manifest_files.specs.declared.manifest_row.ManifestContent.TheVariants as content
use Rattle.manifest_files.specs.declared.manifest_row.ManifestRow.{ManifestRow}
use Rattle.manifest_writer.specs.EntryDatum.{entry_size}
use Rattle.manifest_writer.specs.Readable.{as_read}
use Rattle.table_state.specs.declared.live_set.LiveSet.{LiveSet}
use Rattle.table_state.specs.declared.state.LiveCount.{LiveCount}
use Rattle.change_sets.specs.declared.change.AddedAs.{AddedAs}
use Rattle.change_sets.specs.declared.change.ChangeSet.{ChangeSet}
use Rattle.change_sets.specs.Laid.{as_added, as_kept, as_removed}
use Rattle.change_sets.specs.Same.{is_among}
use Rattle.commit_manifests.specs.declared.drafts.Draft.{Draft}
use Rattle.commit_manifests.specs.Drafts.{Drafts, and_entry, begun, finished, finished_by, nothing, spec_in, with_piece}
use Rattle.commit_manifests.specs.Sorting.{Sorted, added_drafts, and_group, and_groups, and_manifest, and_rewritten, has_removed, is_empty, rewritten, sorted_from, sorted_of, spec_ids}

pub all_joined : {X : Type 0} (P : X → Type 0) (xs ys : List X) → AllByRecursion P xs → AllByRecursion P ys → AllByRecursion P (xs ++ ys)
all_joined P [] ys h k = k
all_joined P (x ∷ xs) ys h k = (h.0, all_joined P xs ys h.1 k)

-- the entry that is written of an added file, and of a file of a manifest that is written anew
module _ (P : Entry → Type 0) (specs : List Spec) (schema : TableSchema) where
  abbrev OfDraft : Draft → Type 0
  OfDraft draft = AllByRecursion P draft.entries

  abbrev Have : Drafts → Type 0
  Have d = AllByRecursion OfDraft d.closed × AllByRecursion P d.piece

  have_piece : (d : Drafts) → Have d → Have (with_piece d)
  have_piece d h = (all_joined OfDraft d.closed (record { spec = d.spec; content = d.content; entries = d.piece } ∷ []) h.0 (h.1, tt), tt)

  have_finished_by : (piece : List Entry) (d : Drafts) → Have d → Have (finished_by piece d)
  have_finished_by [] d h = h
  have_finished_by (entry ∷ entries) d h = have_piece d h

  have_finished : (d : Drafts) → Have d → Have (finished d)
  have_finished d h = have_finished_by d.piece d h

  have_entry_by : (b : Bool) (d : Drafts) (entry : Entry) (left : ℕ) → Have d → P entry
      → Have (if b then with_piece (record d { piece = d.piece ++ entry ∷ [] }) else record d { piece = d.piece ++ entry ∷ []; left = left })
  have_entry_by true d entry left h p = have_piece (record d { piece = d.piece ++ entry ∷ [] }) (h.0, all_joined P d.piece (entry ∷ []) h.1 (p, tt))
  have_entry_by false d entry left h p = (h.0, all_joined P d.piece (entry ∷ []) h.1 (p, tt))

  have_entry : (d : Drafts) (entry : Entry) → Have d → P entry → Have (and_entry specs schema d entry)
  unfolding and_entry
  have_entry d entry h p = have_entry_by (nat_le d.left (entry_size (spec_in specs d.spec) schema entry)) d entry (d.left - entry_size (spec_in specs d.spec) schema entry) h p

  module _ (numbers : AddedAs) (added : (entry : Entry) → P (as_added numbers entry)) where
    have_group_by : (b : Bool) (d : Drafts) (entry : Entry) → Have d → Have (if b then and_entry specs schema d (as_added numbers entry) else d)
    have_group_by true d entry h = have_entry d (as_added numbers entry) h (added entry)
    have_group_by false d entry h = h

    have_group : (id : ℤ) (d : Drafts) (entries : List Entry) → Have d → Have (and_group specs schema numbers id d entries)
    unfolding and_group
    have_group id d [] h = h
    have_group id d (entry ∷ entries) h = have_group id (if int_eq entry.spec id then and_entry specs schema d (as_added numbers entry) else d) entries (have_group_by (int_eq entry.spec id) d entry h)

    have_groups : (kind : ManifestContent) (entries : List Entry) (d : Drafts) (ids : List ℤ) → Have d
        → Have (and_groups specs schema numbers kind entries d ids)
    unfolding and_groups
    have_groups kind entries d [] h = h
    have_groups kind entries d (id ∷ ids) h = have_groups kind entries (finished (and_group specs schema numbers id (begun id kind d) entries)) ids (have_finished (and_group specs schema numbers id (begun id kind d) entries) (have_group id (begun id kind d) entries h))

    have_added : (change : ChangeSet) → Have (added_drafts specs schema numbers change)
    unfolding added_drafts
    have_added change = have_groups content.Deletes change.added_deletes
        (and_groups specs schema numbers content.Data change.added_data nothing (spec_ids [] change.added_data)) (spec_ids [] change.added_deletes)
        (have_groups content.Data change.added_data nothing (spec_ids [] change.added_data) (tt, tt))

  module _ (snapshot : ℤ) (kept : (entry : Entry) → P (as_kept entry)) (gone : (entry : Entry) → P (as_removed snapshot entry)) where
    rewritten_by : (b : Bool) (entry : Entry) → P (if b then as_removed snapshot entry else as_kept entry)
    rewritten_by true entry = gone entry
    rewritten_by false entry = kept entry

    have_rewritten : (removed : List Entry) (d : Drafts) (entries : List Entry) → Have d → Have (and_rewritten specs schema removed snapshot d entries)
    unfolding and_rewritten rewritten
    have_rewritten removed d [] h = h
    have_rewritten removed d (entry ∷ entries) h = have_rewritten removed (and_entry specs schema d (rewritten removed snapshot entry)) entries (have_entry d (rewritten removed snapshot entry) h (rewritten_by (is_among removed entry) entry))

    have_manifest_by : (b c : Bool) (removed : List Entry) (s : Sorted) (row : ManifestRow) (data_files deletes : List Entry)
        → Have s.drafts
        → Have (if b then record s { drafts = finished (and_rewritten specs schema [] snapshot (and_rewritten specs schema removed snapshot (begun row.partition_spec_id row.content s.drafts) data_files) deletes) } else if c then s else record s { standing = s.standing ++ row ∷ [] }).drafts
    have_manifest_by true c removed s row data_files deletes h =
        let first = and_rewritten specs schema removed snapshot (begun row.partition_spec_id row.content s.drafts) data_files in
        have_finished (and_rewritten specs schema [] snapshot first deletes) (have_rewritten [] first deletes (have_rewritten removed (begun row.partition_spec_id row.content s.drafts) data_files h))
    have_manifest_by false true removed s row data_files deletes h = h
    have_manifest_by false false removed s row data_files deletes h = h

    have_head : (removed : List Entry) (s : Sorted) (rows : List ManifestRow) (counts : List LiveCount)
        (data_files deletes : List Entry) → Have s.drafts
        → Have (sorted_from specs schema removed snapshot s rows counts data_files deletes).drafts
    unfolding sorted_from
    have_head removed s [] counts data_files deletes h = h
    have_head removed s (row ∷ rows) [] data_files deletes h = h
    have_head removed s (row ∷ rows) (count ∷ counts) data_files deletes h =
        have_head removed (and_manifest specs schema removed snapshot s row (take count.data_files data_files) (take count.deletes deletes)) rows counts (drop count.data_files data_files) (drop count.deletes deletes)
        (have_manifest_by (has_removed removed (take count.data_files data_files)) (is_empty (take count.data_files data_files) && is_empty (take count.deletes deletes)) removed s row (take count.data_files data_files) (take count.deletes deletes) h)

  pub have_sorted : (numbers : AddedAs) (change : ChangeSet) (rows : List ManifestRow) (counts : List LiveCount)
      (live_set : LiveSet) → ((entry : Entry) → P (as_added numbers entry)) → ((entry : Entry) → P (as_kept entry))
      → ((entry : Entry) → P (as_removed numbers.snapshot entry))
      → AllByRecursion OfDraft (sorted_of specs schema change.removed numbers change rows counts live_set).drafts.closed
  unfolding sorted_of
  have_sorted numbers change rows counts live_set added kept gone =
      (have_head numbers.snapshot kept gone change.removed (record { drafts = added_drafts specs schema numbers change; standing = [] }) rows counts live_set.data_files live_set.deletes (have_added numbers added change)).0

-- ---- the numbers of added files

-- an added file has the number that its manifest's row says
abbrev pub IsNumbered : ℤ → Entry → Type 0
IsNumbered seq entry = nat_eq entry.status 1 ≡ true → (entry.seq ≡ seq) × (entry.file_seq ≡ seq)

same_by : (b : Bool) (seq : ℤ) (entry : Entry) → nat_eq entry.status 1 ≡ b → IsNumbered seq entry
    → (if b then record entry { seq = seq; file_seq = seq } else entry) ≡ entry
same_by true seq entry is numbered =
    let own = numbered is in
    ap (λ (n : ℤ). record entry { seq = n; file_seq = seq }) (sym own.0) ∙ ap (λ (n : ℤ). record entry { file_seq = n }) (sym own.1)
same_by false seq entry is numbered = refl

-- so it is read as it was
pub read_as_it_was : (row : ManifestRow) (entry : Entry) → IsNumbered row.sequence_number entry → as_read row entry ≡ entry
read_as_it_was row entry numbered = same_by (nat_eq entry.status 1) row.sequence_number entry refl numbered

pub all_read_as_they_were : (row : ManifestRow) (entries : List Entry) → AllByRecursion (IsNumbered row.sequence_number) entries
    → map (as_read row) entries ≡ entries
all_read_as_they_were row [] h = refl
all_read_as_they_were row (entry ∷ entries) h = ap (λ (e : Entry). e ∷ map (as_read row) entries) (read_as_it_was row entry h.0) ∙ ap (λ (es : List Entry). entry ∷ es) (all_read_as_they_were row entries h.1)

pub all_numbered : (specs : List Spec) (schema : TableSchema) (numbers : AddedAs) (change : ChangeSet) (rows : List ManifestRow)
    (counts : List LiveCount) (live_set : LiveSet) → numbers.seq ≡ numbers.file_seq
    → AllByRecursion (λ (draft : Draft). AllByRecursion (IsNumbered numbers.file_seq) draft.entries) (sorted_of specs schema change.removed numbers change rows counts live_set).drafts.closed
all_numbered specs schema numbers change rows counts live_set same = have_sorted (IsNumbered numbers.file_seq) specs schema numbers change rows counts live_set (λ entry is. (same, refl)) (λ entry is. absurd (true≢false (sym is))) (λ entry is. absurd (true≢false (sym is)))
