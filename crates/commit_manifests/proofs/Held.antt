-- What the manifests of a commit hold, weighed.
use Rattle.std.proofs.Common.{◌≡◌, ◌+◌, ◌-◌, ◌≤◌, ℕ, zero, suc, ℤ, Bool, true, false, not, ◌&&◌, ◌||◌, cond, List, [], ◌∷◌, ◌++◌, map, filter, take, drop, refl, sym, ap, subst, ◌∙◌, inl, inr, arith, true≢false}
use Rattle.std.specs.Prelude.{if◌then◌else◌, nat_le}
use Rattle.std.specs.List.{list_any}
use Rattle.std.specs.Ordering.{int_eq}
use Rattle.std.proofs.lemmas.Int.{ints}
use Rattle.std.proofs.lemmas.List.Elements.{filter-append}
use Rattle.plain_types.specs.Bags.{total, In}
use Rattle.plain_types.proofs.CallerLemmas.{total-append, total-filter, total-map, total-plus, total-weights, total-zero}
use Rattle.row_values.specs.declared.partition.Spec.{Spec}
use Rattle.row_values.specs.declared.schema.TableSchema.{TableSchema}
use Rattle.manifest_files.specs.declared.entry.Entry.{Entry}
use Rattle.manifest_files.specs.declared.manifest_row.ManifestContent.{ManifestContent}
use Rattle.manifest_files.specs.declared.manifest_row.ManifestContent.TheVariants as content
use Rattle.manifest_files.specs.declared.manifest_row.ManifestRow.{ManifestRow}
use Rattle.manifest_files.specs.Entries as statuses
use Rattle.manifest_writer.specs.EntryDatum.{entry_size}
use Rattle.table_state.specs.declared.live_set.LiveSet.{LiveSet}
use Rattle.table_state.specs.declared.state.LiveCount.{LiveCount}
use Rattle.change_sets.specs.declared.change.AddedAs.{AddedAs}
use Rattle.change_sets.specs.declared.change.ChangeSet.{ChangeSet}
use Rattle.change_sets.specs.Laid.{as_added, as_kept, as_removed, laid, without}
use Rattle.change_sets.specs.Same.{is_among}
use Rattle.commit_manifests.specs.declared.drafts.Draft.{Draft}
use Rattle.commit_manifests.specs.Drafts.{Drafts, and_entry, begun, finished, finished_by, nothing, spec_in, with_piece}
use Rattle.commit_manifests.specs.Holding.{entries_of, held_after, standing_files}
use Rattle.table_state.specs.States.{IsParted}
use Rattle.commit_manifests.specs.Sorting.{has_id, Sorted, added_drafts, and_group, and_groups, and_manifest, and_rewritten, has_removed, insert, is_empty, place_of, rewritten, sorted_from, sorted_of, spec_ids}

-- ---- cutting a list

pub total-cut : {X : Type 0} (f : X → ℕ) (n : ℕ) (xs : List X) → total f (take n xs) + total f (drop n xs) ≡ total f xs
total-cut f zero xs = omega arith
total-cut f (suc n) [] = refl
total-cut f (suc n) (x ∷ xs) = omega (arith, total-cut f n xs)

-- ---- numbers that stand once

-- how often a number stands in a list
times : ℤ → List ℤ → ℕ
times n ids = total (λ one. cond (int_eq one n) 1 0) ids

same : (a b : ℤ) → int_eq a b ≡ true → a ≡ b
same a b h = grind (arith, ints)

itself : (a : ℤ) → int_eq a a ≡ true
itself a = grind (arith, ints)

turned : (a b : ℤ) → int_eq a b ≡ int_eq b a
turned a b = grind (arith, ints)

is_there_by : (b : Bool) (n : ℤ) (ids : List ℤ) → (if b then true else has_id n ids) ≡ true
    → (has_id n ids ≡ true → 1 ≤ times n ids) → 1 ≤ cond b 1 0 + times n ids
is_there_by true n ids h more = omega arith
is_there_by false n ids h more = omega (arith, more h)

is_there : (n : ℤ) (ids : List ℤ) → has_id n ids ≡ true → 1 ≤ times n ids
unfolding has_id times
is_there n [] h = absurd (true≢false (sym h))
is_there n (one ∷ ids) h = is_there_by (int_eq one n) n ids h (is_there n ids)

not_there_by : (b : Bool) (n : ℤ) (ids : List ℤ) → (if b then true else has_id n ids) ≡ false
    → (has_id n ids ≡ false → times n ids ≡ 0) → cond b 1 0 + times n ids ≡ 0
not_there_by true n ids h more = absurd (true≢false h)
not_there_by false n ids h more = omega (arith, more h)

not_there : (n : ℤ) (ids : List ℤ) → has_id n ids ≡ false → times n ids ≡ 0
unfolding has_id times
not_there n [] h = refl
not_there n (one ∷ ids) h = not_there_by (int_eq one n) n ids h (not_there n ids)

inserted : (n id : ℤ) (place : ℕ) (ids : List ℤ) → times n (take place ids ++ id ∷ drop place ids) ≡ cond (int_eq id n) 1 0 + times n ids
unfolding times
inserted n id place ids = omega (arith, total-append (λ one. cond (int_eq one n) 1 0) (take place ids) (id ∷ drop place ids), total-cut (λ one. cond (int_eq one n) 1 0) place ids)

once_by : (b : Bool) (n id : ℤ) (ids : List ℤ) → int_eq id n ≡ b → times id ids ≡ 0 → times n ids ≤ 1 → cond b 1 0 + times n ids ≤ 1
once_by true n id ids e none one = subst (λ m. 1 + times m ids ≤ 1) (same id n e) (omega (arith, none))
once_by false n id ids e none one = omega (arith, one)

insert_once_by : (b : Bool) (n id : ℤ) (ids : List ℤ) → has_id id ids ≡ b → times n ids ≤ 1
    → times n (if b then ids else take (place_of id ids) ids ++ id ∷ drop (place_of id ids) ids) ≤ 1
insert_once_by true n id ids e one = one
insert_once_by false n id ids e one = subst (λ k. k ≤ 1) (sym (inserted n id (place_of id ids) ids)) (once_by (int_eq id n) n id ids refl (not_there id ids e) one)

insert_keeps_by : (b : Bool) (n id : ℤ) (ids : List ℤ)
    → times n ids ≤ times n (if b then ids else take (place_of id ids) ids ++ id ∷ drop (place_of id ids) ids)
insert_keeps_by true n id ids = omega arith
insert_keeps_by false n id ids = omega (arith, inserted n id (place_of id ids) ids)

insert_has_by : (b : Bool) (id : ℤ) (ids : List ℤ) → has_id id ids ≡ b
    → 1 ≤ times id (if b then ids else take (place_of id ids) ids ++ id ∷ drop (place_of id ids) ids)
insert_has_by true id ids e = is_there id ids e
insert_has_by false id ids e = subst (λ k. 1 ≤ k) (sym (inserted id id (place_of id ids) ids)) (subst (λ b. 1 ≤ cond b 1 0 + times id ids) (sym (itself id)) (omega arith))

-- both tests of a list say the same
same_test : (id : ℤ) (ids : List ℤ) → has_id id ids ≡ list_any (λ one. int_eq one id) ids
unfolding has_id
same_test id [] = refl
same_test id (one ∷ ids) = same_test_by (int_eq one id) id ids (same_test id ids)
  where
    same_test_by : (b : Bool) (id : ℤ) (ids : List ℤ) → has_id id ids ≡ list_any (λ one. int_eq one id) ids
        → (if b then true else has_id id ids) ≡ (b || list_any (λ one. int_eq one id) ids)
    same_test_by true id ids h = refl
    same_test_by false id ids h = h

ids_once : (n : ℤ) (ids : List ℤ) (entries : List Entry) → times n ids ≤ 1 → times n (spec_ids ids entries) ≤ 1
unfolding spec_ids
ids_once n ids [] one = one
ids_once n ids (entry ∷ entries) one = ids_once n (insert entry.spec ids) entries (insert_once_by (list_any (λ one. int_eq one entry.spec) ids) n entry.spec ids (same_test entry.spec ids) one)

ids_keep : (n : ℤ) (ids : List ℤ) (entries : List Entry) (k : ℕ) → k ≤ times n ids → k ≤ times n (spec_ids ids entries)
unfolding spec_ids
ids_keep n ids [] k h = h
ids_keep n ids (entry ∷ entries) k h = ids_keep n (insert entry.spec ids) entries k (omega (arith, insert_keeps_by (list_any (λ one. int_eq one entry.spec) ids) n entry.spec ids, h))

ids_have : (ids : List ℤ) (entries : List Entry) (entry : Entry) → In entry entries → 1 ≤ times entry.spec (spec_ids ids entries)
unfolding spec_ids
ids_have ids [] entry there = absurd there
ids_have ids (first ∷ entries) entry (inl here) = subst (λ (e : Entry). 1 ≤ times e.spec (spec_ids (insert first.spec ids) entries)) (sym here)
    (ids_keep first.spec (insert first.spec ids) entries 1 (insert_has_by (list_any (λ one. int_eq one first.spec) ids) first.spec ids
    (same_test first.spec ids)))
ids_have ids (first ∷ entries) entry (inr there) = ids_have (insert first.spec ids) entries entry there

none_yet : (n : ℤ) → times n [] ≤ 1
unfolding times
none_yet n = omega arith

-- what one number weighs among numbers
module _ (s : ℤ) (v : ℕ) where
  none_by : (b : Bool) (ids : List ℤ) → cond b 1 0 + times s ids ≡ 0
      → (times s ids ≡ 0 → total (λ id. cond (int_eq s id) v 0) ids ≡ 0)
      → cond b v 0 + total (λ id. cond (int_eq s id) v 0) ids ≡ 0
  none_by true ids h more = absurd (omega arith)
  none_by false ids h more = omega (arith, more (omega (arith, h)))

  none_weigh : (ids : List ℤ) → times s ids ≡ 0 → total (λ id. cond (int_eq s id) v 0) ids ≡ 0
  unfolding times
  none_weigh [] h = refl
  none_weigh (one ∷ ids) h = subst (λ b. cond b v 0 + total (λ id. cond (int_eq s id) v 0) ids ≡ 0) (turned one s) (none_by (int_eq one s) ids h (none_weigh ids))

  one_by : (b : Bool) (ids : List ℤ) → cond b 1 0 + times s ids ≡ 1
      → (times s ids ≡ 1 → total (λ id. cond (int_eq s id) v 0) ids ≡ v)
      → cond b v 0 + total (λ id. cond (int_eq s id) v 0) ids ≡ v
  one_by true ids h more = omega (arith, none_weigh ids (omega arith))
  one_by false ids h more = omega (arith, more (omega (arith, h)))

  one_weighs : (ids : List ℤ) → times s ids ≡ 1 → total (λ id. cond (int_eq s id) v 0) ids ≡ v
  unfolding times
  one_weighs [] h = absurd (omega arith)
  one_weighs (one ∷ ids) h = subst (λ b. cond b v 0 + total (λ id. cond (int_eq s id) v 0) ids ≡ v) (turned one s) (one_by (int_eq one s) ids h (one_weighs ids))

-- ---- what drafts hold

module _ (specs : List Spec) (schema : TableSchema) (w : Entry → ℕ) where
  abbrev weight : Entry → ℕ
  weight entry = w (as_kept entry)

  abbrev live : Entry → Bool
  live entry = statuses.is_live entry.status

  -- the live entries, weighed
  abbrev held : List Entry → ℕ
  held entries = total weight (filter live entries)

  held_joined : (xs ys : List Entry) → held (xs ++ ys) ≡ held xs + held ys
  held_joined xs ys = ap (total weight) (filter-append live xs ys) ∙ total-append weight (filter live xs) (filter live ys)

  one_closed : (drafts : List Draft) (draft : Draft) → held (entries_of (drafts ++ draft ∷ [])) ≡ held (entries_of drafts) + held draft.entries
  unfolding entries_of
  one_closed [] draft = omega (arith, held_joined draft.entries [])
  one_closed (one ∷ drafts) draft = omega (arith, held_joined one.entries (entries_of (drafts ++ draft ∷ [])), held_joined one.entries (entries_of drafts), one_closed drafts draft)

  abbrev mass : Drafts → ℕ
  mass d = held (entries_of d.closed) + held d.piece

  piece_closed : (d : Drafts) → mass (with_piece d) ≡ mass d
  piece_closed d = omega (arith, one_closed d.closed (record { spec = d.spec; content = d.content; entries = d.piece }))

  finished_by_piece : (piece : List Entry) (d : Drafts) → mass (finished_by piece d) ≡ mass d
  finished_by_piece [] d = refl
  finished_by_piece (entry ∷ entries) d = piece_closed d

  one_finished : (d : Drafts) → mass (finished d) ≡ mass d
  one_finished d = finished_by_piece d.piece d

  added_by : (b : Bool) (d : Drafts) (entry : Entry) (left : ℕ)
      → mass (if b then with_piece (record d { piece = d.piece ++ entry ∷ [] }) else record d { piece = d.piece ++ entry ∷ []; left = left }) ≡ mass d + held (entry ∷ [])
  added_by true d entry left = omega (arith, piece_closed (record d { piece = d.piece ++ entry ∷ [] }), held_joined d.piece (entry ∷ []))
  added_by false d entry left = omega (arith, held_joined d.piece (entry ∷ []))

  one_added : (d : Drafts) (entry : Entry) → mass (and_entry specs schema d entry) ≡ mass d + held (entry ∷ [])
  unfolding and_entry
  one_added d entry = added_by (nat_le d.left (entry_size (spec_in specs d.spec) schema entry)) d entry (d.left - entry_size (spec_in specs d.spec) schema entry)

  -- ---- files that are added

  module _ (numbers : AddedAs) where
    abbrev added_weight : Entry → ℕ
    added_weight entry = weight (as_added numbers entry)

    -- those of one spec
    abbrev group_weight : List Entry → ℤ → ℕ
    group_weight entries id = total (λ entry. cond (int_eq entry.spec id) (added_weight entry) 0) entries

    grouped_by : (b : Bool) (d : Drafts) (entry : Entry)
        → mass (if b then and_entry specs schema d (as_added numbers entry) else d) ≡ mass d + cond b (added_weight entry) 0
    grouped_by true d entry = omega (arith, one_added d (as_added numbers entry))
    grouped_by false d entry = omega arith

    one_grouped : (id : ℤ) (d : Drafts) (entries : List Entry) → mass (and_group specs schema numbers id d entries) ≡ mass d + group_weight entries id
    unfolding and_group
    one_grouped id d [] = omega arith
    one_grouped id d (entry ∷ entries) = omega (arith, one_grouped id (if int_eq entry.spec id then and_entry specs schema d (as_added numbers entry) else d) entries, grouped_by (int_eq entry.spec id) d entry)

    all_grouped : (kind : ManifestContent) (entries : List Entry) (d : Drafts) (ids : List ℤ)
        → mass (and_groups specs schema numbers kind entries d ids) ≡ mass d + total (group_weight entries) ids
    unfolding and_groups
    all_grouped kind entries d [] = omega arith
    all_grouped kind entries d (id ∷ ids) = omega (arith, all_grouped kind entries (finished (and_group specs schema numbers id (begun id kind d) entries)) ids, one_finished (and_group specs schema numbers id (begun id kind d) entries), one_grouped id (begun id kind d) entries)

    -- entry by entry
    by_entry : (entries : List Entry) (ids : List ℤ)
        → total (group_weight entries) ids ≡ total (λ entry. total (λ id. cond (int_eq entry.spec id)
        (added_weight entry) 0) ids) entries
    by_entry [] ids = total-zero ids
    by_entry (entry ∷ entries) ids = omega (arith, total-plus (λ id. cond (int_eq entry.spec id) (added_weight entry) 0) (group_weight entries) ids, by_entry entries ids)

    once : (entries : List Entry) (entry : Entry) → In entry entries → times entry.spec (spec_ids [] entries) ≡ 1
    once entries entry there = omega (arith, ids_have [] entries entry there, ids_once entry.spec [] entries (none_yet entry.spec))

    groups_weigh : (entries : List Entry) → total (group_weight entries) (spec_ids [] entries) ≡ total added_weight entries
    groups_weigh entries = by_entry entries (spec_ids [] entries)
        ∙ total-weights (λ entry. total (λ id. cond (int_eq entry.spec id) (added_weight entry) 0) (spec_ids [] entries)) added_weight entries
        (λ entry there. one_weighs entry.spec (added_weight entry) (spec_ids [] entries) (once entries entry there))

    added_weigh : (change : ChangeSet)
        → mass (added_drafts specs schema numbers change) ≡ total added_weight change.added_data + total added_weight change.added_deletes
    unfolding added_drafts entries_of
    added_weigh change =
        let first = and_groups specs schema numbers content.Data change.added_data nothing (spec_ids [] change.added_data) in
        omega (arith, all_grouped content.Deletes change.added_deletes first (spec_ids [] change.added_deletes), groups_weigh change.added_deletes, all_grouped content.Data change.added_data nothing (spec_ids [] change.added_data), groups_weigh change.added_data)

  -- ---- files that are removed

  shut_by : (piece : List Entry) (d : Drafts) → d.piece ≡ piece → (finished_by piece d).piece ≡ []
  shut_by [] d e = e
  shut_by (entry ∷ entries) d e = refl

  -- those that are not removed
  abbrev weight_left : List Entry → Entry → ℕ
  weight_left removed entry = cond (not (is_among removed entry)) (weight entry) 0

  rewritten_held : (b : Bool) (snapshot : ℤ) (entry : Entry)
      → held ((if b then as_removed snapshot entry else as_kept entry) ∷ []) ≡ cond (not b) (weight entry) 0
  rewritten_held true snapshot entry = refl
  rewritten_held false snapshot entry = omega arith

  anew : (removed : List Entry) (snapshot : ℤ) (d : Drafts) (entries : List Entry)
      → mass (and_rewritten specs schema removed snapshot d entries) ≡ mass d + total (weight_left removed) entries
  unfolding and_rewritten rewritten
  anew removed snapshot d [] = omega arith
  anew removed snapshot d (entry ∷ entries) = omega (arith, anew removed snapshot (and_entry specs schema d (rewritten removed snapshot entry)) entries, one_added d (rewritten removed snapshot entry), rewritten_held (is_among removed entry) snapshot entry)

  module _ (removed : List Entry) (snapshot : ℤ) where
    abbrev left_weight : Entry → ℕ
    left_weight entry = weight_left removed entry

    none_removed_by : (b : Bool) (entry : Entry) (entries : List Entry)
        → (if b then true else has_removed removed entries) ≡ false
        → (has_removed removed entries ≡ false → total left_weight entries ≡ total weight entries)
        → cond (not b) (weight entry) 0 + total left_weight entries ≡ weight entry + total weight entries
    none_removed_by true entry entries h more = absurd (true≢false h)
    none_removed_by false entry entries h more = omega (arith, more h)

    none_removed : (entries : List Entry) → has_removed removed entries ≡ false → total left_weight entries ≡ total weight entries
    unfolding has_removed
    none_removed [] h = refl
    none_removed (entry ∷ entries) h = none_removed_by (is_among removed entry) entry entries h (none_removed entries)

    -- ---- the head

    all_left : (entries : List Entry) → total (weight_left []) entries ≡ total weight entries
    unfolding is_among
    all_left entries = refl

    kept_weigh : (d : Drafts) (entries : List Entry) → mass (and_rewritten specs schema [] snapshot d entries) ≡ mass d + total weight entries
    kept_weigh d entries = omega (arith, anew [] snapshot d entries, all_left entries)

    -- what one manifest of the head brings, written anew or as it stands
    abbrev own_standing : Bool → List Entry → List Entry → List Entry
    own_standing touched data_files deletes = if touched then [] else data_files ++ deletes

    stands_by : (b : Bool) (s : Sorted) (row : ManifestRow) → mass (if b then s else record s { standing = s.standing ++ row ∷ [] }).drafts ≡ mass s.drafts
    stands_by true s row = refl
    stands_by false s row = refl

    one_manifest_by : (b : Bool) (s : Sorted) (row : ManifestRow) (data_files deletes : List Entry) → has_removed removed data_files ≡ b
        → mass (if b then record s {
          drafts = finished (and_rewritten specs schema [] snapshot
              (and_rewritten specs schema removed snapshot
              (begun row.partition_spec_id row.content s.drafts) data_files) deletes);
        } else if is_empty data_files && is_empty deletes then s else record s { standing = s.standing ++ row ∷ [] }).drafts + total weight
        (own_standing b data_files deletes)
        ≡ mass s.drafts + total left_weight data_files + total weight deletes
    one_manifest_by true s row data_files deletes e =
        let first = and_rewritten specs schema removed snapshot (begun row.partition_spec_id row.content s.drafts) data_files in
        omega (arith, one_finished (and_rewritten specs schema [] snapshot first deletes), kept_weigh first deletes, anew removed snapshot (begun row.partition_spec_id row.content s.drafts) data_files)
    one_manifest_by false s row data_files deletes e =
        omega (arith, stands_by (is_empty data_files && is_empty deletes) s row, total-append weight data_files deletes, none_removed data_files e)

    one_manifest : (s : Sorted) (row : ManifestRow) (data_files deletes : List Entry)
        → mass (and_manifest specs schema removed snapshot s row data_files deletes).drafts + total weight (own_standing (has_removed removed data_files) data_files deletes) ≡ mass s.drafts + total left_weight data_files + total weight deletes
    one_manifest s row data_files deletes = one_manifest_by (has_removed removed data_files) s row data_files deletes refl

    nothing_left : (s : Sorted) (data_files deletes : List Entry) → data_files ≡ [] → deletes ≡ []
        → mass s.drafts + 0 ≡ mass s.drafts + total left_weight data_files + total weight deletes
    nothing_left s [] [] h k = omega arith
    nothing_left s (entry ∷ entries) deletes h k = absurd cc
    nothing_left s [] (entry ∷ entries) h k = absurd cc

    all_manifests : (s : Sorted) (rows : List ManifestRow) (counts : List LiveCount) (data_files deletes : List Entry) → IsParted rows counts data_files deletes
        → mass (sorted_from specs schema removed snapshot s rows counts data_files deletes).drafts + total weight (standing_files removed rows counts data_files deletes) ≡ mass s.drafts + total left_weight data_files + total weight deletes
    unfolding sorted_from standing_files IsParted
    all_manifests s [] counts data_files deletes parted = nothing_left s data_files deletes parted.0 parted.1
    all_manifests s (row ∷ rows) [] data_files deletes parted = nothing_left s data_files deletes parted.0 parted.1
    all_manifests s (row ∷ rows) (count ∷ counts) data_files deletes parted =
        let own = take count.data_files data_files in
        let own_deletes = take count.deletes deletes in
        let rest = drop count.data_files data_files in
        let rest_deletes = drop count.deletes deletes in
        omega (
          arith,
          all_manifests (and_manifest specs schema removed snapshot s row own own_deletes) rows counts rest rest_deletes parted,
          one_manifest s row own own_deletes,
          total-append weight (own_standing (has_removed removed own) own own_deletes) (standing_files removed rows counts rest rest_deletes),
          total-cut left_weight count.data_files data_files,
          total-cut weight count.deletes deletes,
        )

    -- no manifest is left open
    abbrev IsShut : Drafts → Type 0
    IsShut d = d.piece ≡ []

    manifest_is_shut_by : (b c : Bool) (s : Sorted) (d : Drafts) (row : ManifestRow) → IsShut s.drafts
        → IsShut (if b then record s { drafts = finished d } else if c then s else record s { standing = s.standing ++ row ∷ [] }).drafts
    manifest_is_shut_by true c s d row h = shut_by d.piece d refl
    manifest_is_shut_by false true s d row h = h
    manifest_is_shut_by false false s d row h = h

    head_is_shut : (s : Sorted) (rows : List ManifestRow) (counts : List LiveCount) (data_files deletes : List Entry)
        → IsShut s.drafts → IsShut (sorted_from specs schema removed snapshot s rows counts data_files deletes).drafts
    unfolding sorted_from
    head_is_shut s [] counts data_files deletes h = h
    head_is_shut s (row ∷ rows) [] data_files deletes h = h
    head_is_shut s (row ∷ rows) (count ∷ counts) data_files deletes h =
        head_is_shut (and_manifest specs schema removed snapshot s row (take count.data_files data_files) (take count.deletes deletes)) rows counts (drop count.data_files data_files) (drop count.deletes deletes)
        (manifest_is_shut_by (has_removed removed (take count.data_files data_files)) (is_empty (take count.data_files data_files) && is_empty (take count.deletes deletes)) s
        (and_rewritten specs schema [] snapshot (and_rewritten specs schema removed snapshot (begun row.partition_spec_id row.content s.drafts) (take count.data_files data_files)) (take count.deletes deletes)) row h)

  groups_are_shut : (numbers : AddedAs) (kind : ManifestContent) (entries : List Entry) (d : Drafts) (ids : List ℤ) → d.piece ≡ []
      → (and_groups specs schema numbers kind entries d ids).piece ≡ []
  unfolding and_groups
  groups_are_shut numbers kind entries d [] h = h
  groups_are_shut numbers kind entries d (id ∷ ids) h =
      let group = and_group specs schema numbers id (begun id kind d) entries in
      groups_are_shut numbers kind entries (finished group) ids (shut_by group.piece group refl)

  added_are_shut : (numbers : AddedAs) (change : ChangeSet) → (added_drafts specs schema numbers change).piece ≡ []
  unfolding added_drafts
  added_are_shut numbers change = groups_are_shut numbers content.Deletes change.added_deletes
      (and_groups specs schema numbers content.Data change.added_data nothing (spec_ids [] change.added_data)) (spec_ids [] change.added_deletes)
      (groups_are_shut numbers content.Data change.added_data nothing (spec_ids [] change.added_data) refl)

  shut_mass : (d : Drafts) → d.piece ≡ [] → mass d ≡ held (entries_of d.closed)
  shut_mass d h = rw h (omega arith)

  -- what the manifests hold, weighed, is what is laid
  weighed : (numbers : AddedAs) (change : ChangeSet) (rows : List ManifestRow) (counts : List LiveCount) (live_set : LiveSet)
      → IsParted rows counts live_set.data_files live_set.deletes
      → total weight (held_after specs schema numbers change rows counts live_set) ≡ total weight ((laid numbers live_set change).data_files ++ (laid numbers live_set change).deletes)
  unfolding sorted_of
  weighed numbers change rows counts live_set parted =
      let start : Sorted = record { drafts = added_drafts specs schema numbers change; standing = [] } in
      let final : Sorted = sorted_from specs schema change.removed numbers.snapshot start rows counts live_set.data_files live_set.deletes in
      let standing : List Entry = standing_files change.removed rows counts live_set.data_files live_set.deletes in
      let left : List Entry = without change.removed live_set.data_files in
      let data_files : List Entry = map (as_added numbers) change.added_data in
      let deletes : List Entry = map (as_added numbers) change.added_deletes in
      omega (
        arith,
        total-append weight (filter live (entries_of final.drafts.closed)) standing,
        shut_mass final.drafts (head_is_shut change.removed numbers.snapshot start rows counts live_set.data_files live_set.deletes (added_are_shut numbers change)),
        all_manifests change.removed numbers.snapshot start rows counts live_set.data_files live_set.deletes parted,
        added_weigh numbers change,
        total-append weight (left ++ data_files) (live_set.deletes ++ deletes),
        total-append weight left data_files,
        total-append weight live_set.deletes deletes,
        total-filter weight (λ entry. not (is_among change.removed entry)) live_set.data_files,
        total-map weight (as_added numbers) change.added_data,
        total-map weight (as_added numbers) change.added_deletes,
      )

  pub holds : (numbers : AddedAs) (change : ChangeSet) (rows : List ManifestRow) (counts : List LiveCount) (live_set : LiveSet)
      → IsParted rows counts live_set.data_files live_set.deletes
      → total w (map as_kept (held_after specs schema numbers change rows counts live_set)) ≡ total w (map as_kept ((laid numbers live_set change).data_files ++ (laid numbers live_set change).deletes))
  holds numbers change rows counts live_set parted =
      total-map w as_kept (held_after specs schema numbers change rows counts live_set) ∙ weighed numbers change rows counts live_set parted
      ∙ sym (total-map w as_kept ((laid numbers live_set change).data_files ++ (laid numbers live_set change).deletes))
