-- What a commit writes can be read again, where the head was read and what is added can be written.
use Rattle.std.proofs.Common.{◌≡◌, ◌-◌, ◌^◌, ℕ, ℤ, pos, codes, cond, Bool, true, false, not, ◌&&◌, List, [], ◌∷◌, ◌++◌, filter, length, take, drop, Option, Some, None, Result, Ok, Err, refl, sym, ap, subst, ◌∙◌, true≢false, arith}
use Rattle.std.specs.Prelude.{⊤, int_le, int_lt, if◌then◌else◌, nat_le, nat_lt}
use Rattle.std.specs.List.{AllByRecursion, list_all}
use Rattle.std.specs.Ordering.{int_eq}
use Rattle.std.proofs.lemmas.Int.{ints}
use Rattle.row_values.specs.declared.partition.Spec.{Spec}
use Rattle.row_values.specs.declared.schema.TableSchema.{TableSchema}
use Rattle.row_values.specs.declared.value.Value.{Value}
use Rattle.row_values.specs.declared.value.Value.TheVariants as value
use Rattle.kind_values.specs.declared.stats.Summary.{Summary}
use Rattle.manifest_files.specs.declared.entry.Entry.{Entry}
use Rattle.manifest_files.specs.declared.manifest_row.ManifestContent.{ManifestContent}
use Rattle.manifest_files.specs.declared.manifest_row.ManifestContent.TheVariants as content
use Rattle.manifest_files.specs.declared.manifest_row.ManifestRow.{ManifestRow}
use Rattle.commit_manifests.proofs.CallerLemmas.{both, first, second, row_listed, all_joined}
use Rattle.commit_manifests.specs.Listed as told
use Rattle.manifest_writer.specs.EntryDatum.{entry_size}
use Rattle.manifest_writer.specs.ListDatum.{counts, has_bounds, is_listed}
use Rattle.manifest_writer.specs.Readable.{is_written}
use Rattle.manifest_writer.specs.Value.{is_count}
use Rattle.manifest_files.specs.declared.manifest_fault.ManifestFault.{ManifestFault}
use Rattle.manifest_files.specs.declared.manifest_fault.ManifestFault.TheVariants as manifest
use Rattle.manifest_files.specs.Entries.{entries_of}
use Rattle.manifest_files.specs.Lists.{rows_of_list}
use Rattle.manifest_writer.proofs.CallerLemmas.{entries_are_written, rows_are_listed}
use Rattle.commit_manifests.specs.declared.commit_numbers.CommitNumbers.{CommitNumbers}
use Rattle.commit_manifests.specs.Rows.{row_of}
use Rattle.plain_types.specs.Steps.{◌>>=◌, by_option, fault_as, or_fault}
use Rattle.store_core.specs.Files.{Files}
use Rattle.table_names.specs.declared.names.Names.{Names}
use Rattle.plain_types.proofs.CallerLemmas.{two_steps}
use Rattle.table_metadata.specs.declared.metadata_fault.MetadataFault.TheVariants as metadata
use Rattle.table_metadata.specs.Metadata.{Parts, parts}
use Rattle.table_state.specs.declared.load_fault.LoadFault.{LoadFault}
use Rattle.table_state.specs.declared.load_fault.LoadFault.TheVariants as fault
use Rattle.table_state.specs.declared.live_set.BranchState.{BranchState}
use Rattle.table_state.specs.declared.live_set.BranchState.TheVariants as state
use Rattle.table_state.specs.declared.live_set.LiveSet.{LiveSet}
use Rattle.table_state.specs.Files.{current_schema, entries_in, file_at, list_at, list_in, manifest_at}
use Rattle.table_metadata.specs.ById.{schema_with, spec_with}
use Rattle.table_state.specs.Live.{branch_at, is_data, is_live}
use Rattle.table_names.specs.Paths.{folder_of}
use Rattle.table_state.proofs.CallerLemmas.{found_list}
use Rattle.table_state.specs.declared.state.State.{State}
use Rattle.table_state.specs.Gathering.{live_data, live_deletes}
use Rattle.table_state.specs.States.{IsStateOf, manifests_of}
use Rattle.table_state.specs.declared.state.LiveCount.{LiveCount}
use Rattle.change_sets.specs.declared.change.AddedAs.{AddedAs}
use Rattle.change_sets.specs.declared.change.ChangeSet.{ChangeSet}
use Rattle.change_sets.specs.Laid.{as_added, as_kept, as_removed}
use Rattle.change_sets.specs.Same.{is_among}
use Rattle.commit_manifests.specs.declared.drafts.Draft.{Draft}
use Rattle.commit_builder.specs.Commits.{commit_numbers, drafts_in, drawn, live_in, next_name, numbers_in, row_in, rows_from, rows_in, schema_of, sorted_in, text_in}
use Rattle.commit_manifests.specs.Drafts.{Drafts, and_entry, begun, finished, finished_by, nothing, spec_in, with_piece}
use Rattle.commit_builder.specs.NextVersion.{CanBeAdded, CanBeLaid, CanBeRewritten, HasNumbers, IsReadable}
use Rattle.commit_manifests.specs.Sorting.{Sorted, added_drafts, and_group, and_groups, and_manifest, and_rewritten, has_removed, is_empty, rewritten, sorted_from, sorted_of, spec_ids}
use Rattle.commit_builder.proofs.Following.{follows}
use Rattle.commit_builder.proofs.Standing.{Known, head_known, kept_rows, own_row, standing_in}

-- ---- what holds of each entry of a manifest, by the manifest's spec

-- there is one at least
abbrev pub AtLeastOne : List Entry → Type 0
AtLeastOne [] = ⊥
AtLeastOne (entry ∷ entries) = ⊤

one_joined : (entries : List Entry) (entry : Entry) → AtLeastOne (entries ++ entry ∷ [])
one_joined [] entry = tt
one_joined (first_one ∷ entries) entry = tt

module _ (P : ℤ → Entry → Type 0) (specs : List Spec) (schema : TableSchema) where
  abbrev pub OfDraft : Draft → Type 0
  OfDraft draft = AtLeastOne draft.entries × AllByRecursion (P draft.spec) draft.entries

  -- and the next manifest is of this spec
  record Have (id : ℤ) (d : Drafts) : Type 0 where
    spec : d.spec ≡ id
    closed : AllByRecursion OfDraft d.closed
    piece : AllByRecursion (P d.spec) d.piece

  -- no manifest is open
  record Shut (d : Drafts) : Type 0 where
    all : AllByRecursion OfDraft d.closed
    none : d.piece ≡ []

  have_piece : (id : ℤ) (d : Drafts) → AtLeastOne d.piece → Have id d → Have id (with_piece d)
  have_piece id d some h = record { spec = h.spec; closed = all_joined OfDraft d.closed (record { spec = d.spec; content = d.content; entries = d.piece } ∷ []) h.closed ((some, h.piece), tt); piece = tt }

  shut_by : (id : ℤ) (piece : List Entry) (d : Drafts) → d.piece ≡ piece → Have id d → Shut (finished_by piece d)
  shut_by id [] d is h = record { all = h.closed; none = is }
  shut_by id (entry ∷ entries) d is h = record { all = (have_piece id d (subst AtLeastOne (sym is) tt) h).closed; none = refl }

  shut : (id : ℤ) (d : Drafts) → Have id d → Shut (finished d)
  shut id d h = shut_by id d.piece d refl h

  open_by : (id : ℤ) (kind : ManifestContent) (d : Drafts) → Shut d → Have id (begun id kind d)
  open_by id kind d h = record { spec = refl; closed = h.all; piece = subst (AllByRecursion (P id)) (sym h.none) tt }

  entry_by : (b : Bool) (id : ℤ) (d : Drafts) (entry : Entry) (left : ℕ) → Have id d → P id entry
      → Have id (if b then with_piece (record d { piece = d.piece ++ entry ∷ [] }) else record d { piece = d.piece ++ entry ∷ []; left = left })
  entry_by true id d entry left h p = have_piece id (record d { piece = d.piece ++ entry ∷ [] }) (one_joined d.piece entry) (record { spec = h.spec; closed = h.closed; piece = all_joined (P d.spec) d.piece (entry ∷ []) h.piece (subst (λ n. P n entry) (sym h.spec) p, tt) })
  entry_by false id d entry left h p = record { spec = h.spec; closed = h.closed; piece = all_joined (P d.spec) d.piece (entry ∷ []) h.piece (subst (λ n. P n entry) (sym h.spec) p, tt) }

  have_entry : (id : ℤ) (d : Drafts) (entry : Entry) → Have id d → P id entry → Have id (and_entry specs schema d entry)
  unfolding and_entry
  have_entry id d entry h p = entry_by (nat_le d.left (entry_size (spec_in specs d.spec) schema entry)) id d entry (d.left - entry_size (spec_in specs d.spec) schema entry) h p

  module _ (numbers : AddedAs) where
    abbrev Added : Entry → Type 0
    Added entry = P entry.spec (as_added numbers entry)

    same : (a b : ℤ) → int_eq a b ≡ true → a ≡ b
    same a b h = grind (arith, ints)

    group_by : (b : Bool) (id : ℤ) (d : Drafts) (entry : Entry) → int_eq entry.spec id ≡ b → Have id d → Added entry
        → Have id (if b then and_entry specs schema d (as_added numbers entry) else d)
    group_by true id d entry is h p = have_entry id d (as_added numbers entry) h (subst (λ n. P n (as_added numbers entry)) (same entry.spec id is) p)
    group_by false id d entry is h p = h

    have_group : (id : ℤ) (d : Drafts) (entries : List Entry) → Have id d → AllByRecursion Added entries → Have id (and_group specs schema numbers id d entries)
    unfolding and_group
    have_group id d [] h ps = h
    have_group id d (entry ∷ entries) h ps = have_group id (if int_eq entry.spec id then and_entry specs schema d (as_added numbers entry) else d) entries (group_by (int_eq entry.spec id) id d entry refl h ps.0) ps.1

    shut_groups : (kind : ManifestContent) (entries : List Entry) (d : Drafts) (ids : List ℤ) → Shut d
        → AllByRecursion Added entries → Shut (and_groups specs schema numbers kind entries d ids)
    unfolding and_groups
    shut_groups kind entries d [] h ps = h
    shut_groups kind entries d (id ∷ ids) h ps =
        let group : Drafts = and_group specs schema numbers id (begun id kind d) entries in
        shut_groups kind entries (finished group) ids (shut id group (have_group id (begun id kind d) entries (open_by id kind d h) ps)) ps

    shut_added : (change : ChangeSet) → AllByRecursion Added change.added_data → AllByRecursion Added change.added_deletes
        → Shut (added_drafts specs schema numbers change)
    unfolding added_drafts
    shut_added change ds xs = shut_groups content.Deletes change.added_deletes
        (and_groups specs schema numbers content.Data change.added_data nothing (spec_ids [] change.added_data)) (spec_ids [] change.added_deletes)
        (shut_groups content.Data change.added_data nothing (spec_ids [] change.added_data) (record { all = tt; none = refl }) ds) xs

  module _ (snapshot : ℤ) (kept : (id : ℤ) (entry : Entry) → P id entry → P id (as_kept entry)) (gone : (id : ℤ) (entry : Entry) → P id entry → P id (as_removed snapshot entry)) where
    rewritten_by : (b : Bool) (id : ℤ) (entry : Entry) → P id entry → P id (if b then as_removed snapshot entry else as_kept entry)
    rewritten_by true id entry p = gone id entry p
    rewritten_by false id entry p = kept id entry p

    have_rewritten : (id : ℤ) (removed : List Entry) (d : Drafts) (entries : List Entry) → Have id d
        → AllByRecursion (P id) entries → Have id (and_rewritten specs schema removed snapshot d entries)
    unfolding and_rewritten rewritten
    have_rewritten id removed d [] h ps = h
    have_rewritten id removed d (entry ∷ entries) h ps = have_rewritten id removed (and_entry specs schema d (rewritten removed snapshot entry)) entries (have_entry id d (rewritten removed snapshot entry) h (rewritten_by (is_among removed entry) id entry ps.0)) ps.1

    manifest_by : (b c : Bool) (removed : List Entry) (s : Sorted) (row : ManifestRow) (data_files deletes : List Entry)
        → Shut s.drafts → AllByRecursion (P row.partition_spec_id) data_files → AllByRecursion (P row.partition_spec_id) deletes
        → Shut (if b then record s { drafts = finished (and_rewritten specs schema [] snapshot (and_rewritten specs schema removed snapshot (begun row.partition_spec_id row.content s.drafts) data_files) deletes) } else if c then s else record s { standing = s.standing ++ row ∷ [] }).drafts
    manifest_by true c removed s row data_files deletes h ds xs =
        let id : ℤ = row.partition_spec_id in
        let begin : Drafts = begun id row.content s.drafts in
        let front : Drafts = and_rewritten specs schema removed snapshot begin data_files in
        shut id (and_rewritten specs schema [] snapshot front deletes) (have_rewritten id [] front deletes (have_rewritten id removed begin data_files (open_by id row.content s.drafts h) ds) xs)
    manifest_by false true removed s row data_files deletes h ds xs = h
    manifest_by false false removed s row data_files deletes h ds xs = h

    -- the files of each manifest of the head
    abbrev pub OfHead : List ManifestRow → List LiveCount → List Entry → List Entry → Type 0
    OfHead [] counts data_files deletes = ⊤
    OfHead (row ∷ rows) [] data_files deletes = ⊤
    OfHead (row ∷ rows) (count ∷ counts) data_files deletes = (AllByRecursion (P row.partition_spec_id) (take count.data_files data_files)
        × AllByRecursion (P row.partition_spec_id) (take count.deletes deletes))
        × OfHead rows counts (drop count.data_files data_files) (drop count.deletes deletes)

    shut_head : (removed : List Entry) (s : Sorted) (rows : List ManifestRow) (counts : List LiveCount)
        (data_files deletes : List Entry) → Shut s.drafts → OfHead rows counts data_files deletes
        → Shut (sorted_from specs schema removed snapshot s rows counts data_files deletes).drafts
    unfolding sorted_from
    shut_head removed s [] counts data_files deletes h ps = h
    shut_head removed s (row ∷ rows) [] data_files deletes h ps = h
    shut_head removed s (row ∷ rows) (count ∷ counts) data_files deletes h ps =
        shut_head removed (and_manifest specs schema removed snapshot s row (take count.data_files data_files) (take count.deletes deletes)) rows counts (drop count.data_files data_files) (drop count.deletes deletes)
        (manifest_by (has_removed removed (take count.data_files data_files)) (is_empty (take count.data_files data_files) && is_empty (take count.deletes deletes)) removed s row (take count.data_files data_files) (take count.deletes deletes) h ps.0.0 ps.0.1) ps.1

    pub all_of_drafts : (numbers : AddedAs) (change : ChangeSet) (rows : List ManifestRow) (counts : List LiveCount)
        (live_set : LiveSet) → numbers.snapshot ≡ snapshot
        → AllByRecursion (λ (entry : Entry). P entry.spec (as_added numbers entry)) change.added_data → AllByRecursion (λ (entry : Entry). P entry.spec (as_added numbers entry)) change.added_deletes → OfHead rows counts live_set.data_files live_set.deletes
        → AllByRecursion OfDraft (sorted_of specs schema change.removed numbers change rows counts live_set).drafts.closed
    unfolding sorted_of
    all_of_drafts numbers change rows counts live_set is ds xs of_head =
        subst (λ (id : ℤ). AllByRecursion OfDraft (sorted_from specs schema change.removed id (record { drafts = added_drafts specs schema numbers change; standing = [] }) rows counts live_set.data_files live_set.deletes).drafts.closed) (sym is)
        (shut_head change.removed (record { drafts = added_drafts specs schema numbers change; standing = [] }) rows counts live_set.data_files live_set.deletes (shut_added numbers change ds xs) of_head).all

-- ---- rows

count_is : (bits : ℕ) (o : Option ℤ) → told.is_count bits o ≡ true → is_count o ≡ true
count_is bits None h = refl
count_is bits (Some n) h = first (int_le (pos 0) n) (int_lt n (pos (2 ^ bits))) h

two_counts : (b : ℕ) (o : Option ℤ) (rest other : Bool) → (told.is_count b o && rest) ≡ true → (rest ≡ true → other ≡ true) → (is_count o && other) ≡ true
two_counts b o rest other h more = both (is_count o) other (count_is b o (first (told.is_count b o) rest h)) (more (second (told.is_count b o) rest h))

counts_are : (row : ManifestRow) → told.has_counts row ≡ true → counts row ≡ true
counts_are row h =
    two_counts 31 row.added_files_count _ _ h
    (λ h2. two_counts 31 row.existing_files_count _ _ h2
    (λ h3. two_counts 31 row.deleted_files_count _ _ h3
    (λ h4. two_counts 63 row.added_rows_count _ _ h4
    (λ h5. two_counts 63 row.existing_rows_count _ _ h5
    (λ h6. count_is 63 row.deleted_rows_count h6)))))

-- a row that can be listed is read again
pub listed_is : (row : ManifestRow) → told.can_be_listed row ≡ true → is_listed row ≡ true
listed_is row h =
    let rest = second (told.has_length row) (told.has_counts row && list_all has_bounds row.partitions) h in
    both (counts row) (list_all has_bounds row.partitions) (counts_are row (first (told.has_counts row) (list_all has_bounds row.partitions) rest)) (second (told.has_counts row) (list_all has_bounds row.partitions) rest)

-- ---- entries under other statuses and numbers

below_three : (spec : Spec) (schema : TableSchema) (entry : Entry) (t : Bool) → nat_lt entry.status 3 ≡ t → is_written spec schema entry ≡ true → t ≡ true
below_three spec schema entry true is h = refl
below_three spec schema entry false is h =
    let none : is_written spec schema entry ≡ false = rw is refl in
    absurd (true≢false (sym h ∙ none))

pub kept_is_written : (spec : Spec) (schema : TableSchema) (entry : Entry) → is_written spec schema entry ≡ true → is_written spec schema (as_kept entry) ≡ true
kept_is_written spec schema entry h =
    let below : nat_lt entry.status 3 ≡ true = below_three spec schema entry (nat_lt entry.status 3) refl h in
    let same : is_written spec schema entry ≡ is_written spec schema (as_kept entry) = rw below refl in
    sym same ∙ h

pub gone_is_written : (snapshot : ℤ) (spec : Spec) (schema : TableSchema) (entry : Entry) → is_written spec schema entry ≡ true
    → is_written spec schema (as_removed snapshot entry) ≡ true
gone_is_written snapshot spec schema entry h =
    let below : nat_lt entry.status 3 ≡ true = below_three spec schema entry (nat_lt entry.status 3) refl h in
    let same : is_written spec schema entry ≡ is_written spec schema (as_removed snapshot entry) = rw below refl in
    sym same ∙ h

pub added_is_written : (numbers : AddedAs) (spec : Spec) (schema : TableSchema) (entry : Entry)
    → is_written spec schema entry ≡ true → is_written spec schema (as_added numbers entry) ≡ true
added_is_written numbers spec schema entry h =
    let below : nat_lt entry.status 3 ≡ true = below_three spec schema entry (nat_lt entry.status 3) refl h in
    let same : is_written spec schema entry ≡ is_written spec schema (as_added numbers entry) = rw below refl in
    sym same ∙ h

-- ---- the whole

found_spec : (f : LoadFault) (o : Option Spec) (spec : Spec) → or_fault f o ≡ Ok spec → o ≡ Some spec
found_spec f (Some x) spec h = cc
found_spec f None spec h = cc

found_schema : (f : LoadFault) (o : Option TableSchema) (schema wanted : TableSchema) → or_fault f o ≡ Ok schema → o ≡ Some wanted → schema ≡ wanted
found_schema f (Some x) schema wanted h is = cc
found_schema f None schema wanted h is = cc

read_entries : (path : List ℕ) (r : Result (List Entry) ManifestFault) (entries : List Entry) → fault_as (fault.Manifest path) r ≡ Ok entries → r ≡ Ok entries
read_entries path (Ok es) entries h = cc
read_entries path (Err f) entries h = cc

read_rows : (path : List ℕ) (r : Result (List ManifestRow) ManifestFault) (rows : List ManifestRow) → fault_as (fault.Manifest path) r ≡ Ok rows → r ≡ Ok rows
read_rows path (Ok rs) rows h = cc
read_rows path (Err f) rows h = cc

-- those that a test keeps
kept_by_test : (test keep : Entry → Bool) (entries : List Entry) → list_all test entries ≡ true
    → AllByRecursion (λ entry. test entry ≡ true) (filter keep entries)
kept_by_test test keep [] h = tt
kept_by_test test keep (entry ∷ entries) h = one_by (keep entry) (first (test entry) (list_all test entries) h) (kept_by_test test keep entries (second (test entry) (list_all test entries) h))
  where
    one_by : (b : Bool) → test entry ≡ true → AllByRecursion (λ e. test e ≡ true) (filter keep entries)
        → AllByRecursion (λ e. test e ≡ true) (cond b (entry ∷ filter keep entries) (filter keep entries))
    one_by true own others = (own, others)
    one_by false own others = others

twice : (test keep more : Entry → Bool) (entries : List Entry) → list_all test entries ≡ true
    → AllByRecursion (λ entry. test entry ≡ true) (filter more (filter keep entries))
twice test keep more entries h = kept_by_test test more (filter keep entries) (all_true (filter keep entries) (kept_by_test test keep entries h))
  where
    all_true : (es : List Entry) → AllByRecursion (λ e. test e ≡ true) es → list_all test es ≡ true
    all_true [] h = refl
    all_true (e ∷ es) h = both (test e) (list_all test es) h.0 (all_true es h.1)

mapped : {X : Type 0} (P Q : X → Type 0) → ((x : X) → P x → Q x) → (xs : List X) → AllByRecursion P xs → AllByRecursion Q xs
mapped P Q f [] h = tt
mapped P Q f (x ∷ xs) h = (f x h.0, mapped P Q f xs h.1)

module _ (specs : List Spec) (schema : TableSchema) where
  -- an entry that a manifest of this spec can hold
  abbrev pub IsHeld : ℤ → Entry → Type 0
  IsHeld id entry = (spec_with id specs ≡ Some (spec_in specs id)) × (is_written (spec_in specs id) schema entry ≡ true)

  spec_is : (id : ℤ) (spec : Spec) → spec_with id specs ≡ Some spec → spec_in specs id ≡ spec
  spec_is id spec found = ap (λ (o : Option Spec). by_option o (λ one. one) (record { id = id; fields = [] })) found

  held_by : (id : ℤ) (spec : Spec) → spec_with id specs ≡ Some spec → (entry : Entry) → is_written spec schema entry ≡ true → IsHeld id entry
  held_by id spec found entry h = (found ∙ ap Some (sym (spec_is id spec found)), ap (λ (s : Spec). is_written s schema entry) (spec_is id spec found) ∙ h)

  module _ (table : List ℕ) (p : Parts) (files : Files) (specs_are : p.specs ≡ specs) (schema_is : schema_with p.current_schema p.schemas ≡ Some schema) where
    manifest_held : (row : ManifestRow) (entries : List Entry) → manifest_at table p row files ≡ Ok entries → (spec : Spec)
        × (spec_with row.partition_spec_id specs ≡ Some spec) × (list_all (is_written spec schema) entries ≡ true)
    unfolding manifest_at entries_in
    manifest_held row entries e =
        let bytes = two_steps (file_at table p.location row.manifest_path files) (entries_in p row) entries e in
        let spec = two_steps (or_fault (fault.Manifest row.manifest_path (manifest.Spec row.partition_spec_id)) (spec_with row.partition_spec_id p.specs)) (λ s. current_schema p >>= λ sc. fault_as (fault.Manifest row.manifest_path) (entries_of bytes.0 row s sc)) entries bytes.2 in
        let current = two_steps (current_schema p) (λ sc. fault_as (fault.Manifest row.manifest_path) (entries_of bytes.0 row spec.0 sc)) entries spec.2 in
        let same : current.0 ≡ schema = found_schema (fault.Metadata (metadata.Shape (codes "current-schema-id"))) (schema_with p.current_schema p.schemas) current.0 schema current.1 schema_is in
        let read : entries_of bytes.0 row spec.0 schema ≡ Ok entries = ap (λ (sc : TableSchema). entries_of bytes.0 row spec.0 sc) (sym same) ∙ read_entries row.manifest_path (entries_of bytes.0 row spec.0 current.0) entries current.2 in
        let found : spec_with row.partition_spec_id specs ≡ Some spec.0 = ap (λ (ss : List Spec). spec_with row.partition_spec_id ss) (sym specs_are) ∙ found_spec (fault.Manifest row.manifest_path (manifest.Spec row.partition_spec_id)) (spec_with row.partition_spec_id p.specs) spec.0 spec.1 in
        (spec.0, found, entries_are_written bytes.0 row spec.0 schema entries read)

    held_data : (row : ManifestRow) (entries : List Entry) → manifest_at table p row files ≡ Ok entries
        → AllByRecursion (IsHeld row.partition_spec_id) (live_data entries)
        × AllByRecursion (IsHeld row.partition_spec_id) (live_deletes entries)
    held_data row entries e =
        let m = manifest_held row entries e in (
          mapped (λ entry. is_written m.0 schema entry ≡ true) (IsHeld row.partition_spec_id) (held_by row.partition_spec_id m.0 m.1) (live_data entries) (twice (is_written m.0 schema) is_live is_data entries m.2),
          mapped (λ entry. is_written m.0 schema entry ≡ true) (IsHeld row.partition_spec_id) (held_by row.partition_spec_id m.0 m.1) (live_deletes entries) (twice (is_written m.0 schema) is_live (λ entry. not (is_data entry)) entries m.2),
        )

    pub head_held : (snapshot : ℤ) (kept : (id : ℤ) (entry : Entry) → IsHeld id entry → IsHeld id (as_kept entry))
        (gone : (id : ℤ) (entry : Entry) → IsHeld id entry → IsHeld id (as_removed snapshot entry)) (rows : List ManifestRow)
        (counts : List LiveCount) (data_files deletes : List Entry) → Known table p files rows counts data_files deletes
        → OfHead IsHeld specs schema snapshot kept gone rows counts data_files deletes
    head_held snapshot kept gone [] counts data_files deletes known = tt
    head_held snapshot kept gone (row ∷ rows) [] data_files deletes known = tt
    head_held snapshot kept gone (row ∷ rows) (count ∷ counts) data_files deletes known =
        let own = held_data row known.0.0 known.0.1 in (
          (subst (AllByRecursion (IsHeld row.partition_spec_id)) (sym known.0.2) own.0, subst (AllByRecursion (IsHeld row.partition_spec_id)) (sym known.0.3) own.1),
          head_held snapshot kept gone rows counts (drop count.data_files data_files) (drop count.deletes deletes) known.1,
        )

list_listed : (table : List ℕ) (p : Parts) (files : Files) (path : List ℕ) (rows : List ManifestRow)
    → list_at table p path files ≡ Ok rows → list_all is_listed rows ≡ true
unfolding list_at
list_listed table p files path rows read =
    let bytes = two_steps (file_at table p.location path files) (list_in path) rows read in
    rows_are_listed bytes.0 rows (read_rows path (rows_of_list bytes.0) rows bytes.2)

-- the rows of the head's list are read again
listed_by : (table : List ℕ) (p : Parts) (files : Files) (branch : List ℕ) (head : BranchState)
    → branch_at table p branch files ≡ Ok head → list_all is_listed (manifests_of head) ≡ true
listed_by table p files branch state.Absent e = refl
listed_by table p files branch state.Empty e = refl
listed_by table p files branch (state.Head snapshot rows live) e =
    let list = found_list table p files branch snapshot rows live e in
    list_listed table p files list.0 rows list.1

all_joined_true : (xs ys : List ManifestRow) → list_all is_listed xs ≡ true → list_all is_listed ys ≡ true → list_all is_listed (xs ++ ys) ≡ true
all_joined_true [] ys h k = k
all_joined_true (x ∷ xs) ys h k = both (is_listed x) (list_all is_listed (xs ++ ys)) (first (is_listed x) (list_all is_listed xs) h) (all_joined_true xs ys (second (is_listed x) (list_all is_listed xs) h) k)

kept_listed : (removed : List Entry) (rows : List ManifestRow) (counts : List LiveCount) (data_files deletes : List Entry)
    → list_all is_listed rows ≡ true → list_all is_listed (kept_rows removed rows counts data_files deletes) ≡ true
kept_listed removed [] counts data_files deletes h = refl
kept_listed removed (row ∷ rows) [] data_files deletes h = refl
kept_listed removed (row ∷ rows) (count ∷ counts) data_files deletes h =
    all_joined_true (own_row (has_removed removed (take count.data_files data_files)) (is_empty (take count.data_files data_files) && is_empty (take count.deletes deletes)) row) (kept_rows removed rows counts (drop count.data_files data_files) (drop count.deletes deletes))
    (own_listed (has_removed removed (take count.data_files data_files)) (is_empty (take count.data_files data_files) && is_empty (take count.deletes deletes)) (first (is_listed row) (list_all is_listed rows) h))
    (kept_listed removed rows counts (drop count.data_files data_files) (drop count.deletes deletes) (second (is_listed row) (list_all is_listed rows) h))
  where
    own_listed : (b c : Bool) → is_listed row ≡ true → list_all is_listed (own_row b c row) ≡ true
    own_listed true c own = refl
    own_listed false true own = refl
    own_listed false false own = both (is_listed row) true own refl

new_listed : (head : State) (schema : TableSchema) (numbers : CommitNumbers) (names : Names) (rows : List ManifestRow)
    (drafts : List Draft) → list_all is_listed rows ≡ true
    → list_all is_listed (rows_from head schema numbers names rows drafts) ≡ true
unfolding rows_from row_in
new_listed head schema numbers names rows [] h = h
new_listed head schema numbers names rows (draft ∷ drafts) h =
    let spec : Spec = spec_in head.metadata.specs draft.spec in
    let path : List ℕ = next_name (folder_of head.metadata.location) names in
    let size : ℕ = length (text_in head schema draft) in
    new_listed head schema numbers (drawn names) (rows ++ row_in head schema numbers names draft ∷ []) drafts
    (all_joined_true rows (row_in head schema numbers names draft ∷ []) h
    (both (is_listed (row_of path size spec draft.content numbers draft.entries)) true
    (listed_is (row_of path size spec draft.content numbers draft.entries) (row_listed path size spec draft.content numbers draft.entries)) refl))

module _ (head : State) (change : ChangeSet) (names : Names) (now : ℤ) (version : ℕ) (old : Files)
    (is : IsStateOf head.table version head.branch old head) (numbers : HasNumbers head now) (anew : CanBeRewritten head)
    (data_added : AllByRecursion (CanBeAdded head) change.added_data) (deletes_added : AllByRecursion (CanBeAdded head) change.added_deletes) where
  abbrev Held : ℤ → Entry → Type 0
  Held = IsHeld head.metadata.specs (schema_of head)

  kept_held : (id : ℤ) (entry : Entry) → Held id entry → Held id (as_kept entry)
  kept_held id entry h = (h.0, kept_is_written (spec_in head.metadata.specs id) (schema_of head) entry h.1)

  gone_held : (id : ℤ) (entry : Entry) → Held id entry → Held id (as_removed (numbers_in head).snapshot entry)
  gone_held id entry h = (h.0, gone_is_written (numbers_in head).snapshot (spec_in head.metadata.specs id) (schema_of head) entry h.1)

  added_held : (entry : Entry) → CanBeAdded head entry → Held entry.spec (as_added (numbers_in head) entry)
  added_held entry h = (h.spec, added_is_written (numbers_in head) (spec_in head.metadata.specs entry.spec) (schema_of head) entry h.held)

  of_drafts : AllByRecursion (OfDraft Held head.metadata.specs (schema_of head)) (drafts_in head change)
  of_drafts = all_of_drafts Held head.metadata.specs (schema_of head) (numbers_in head).snapshot kept_held gone_held (numbers_in head) change (manifests_of head.head) head.held (live_in head.head) refl
      (mapped (CanBeAdded head) (λ entry. Held entry.spec (as_added (numbers_in head) entry)) added_held change.added_data data_added)
      (mapped (CanBeAdded head) (λ entry. Held entry.spec (as_added (numbers_in head) entry)) added_held change.added_deletes deletes_added)
      (head_held head.metadata.specs (schema_of head) head.table (parts head.metadata) old refl anew.schema
      (numbers_in head).snapshot kept_held gone_held (manifests_of head.head) head.held (live_in head.head).data_files (live_in head.head).deletes
      (head_known head.table head.branch version old head is))

  spec_found : (entries : List Entry) (id : ℤ) → AtLeastOne entries → AllByRecursion (Held id) entries
      → spec_with id head.metadata.specs ≡ Some (spec_in head.metadata.specs id)
  spec_found [] id some h = absurd some
  spec_found (entry ∷ entries) id some h = h.0.0

  all_written : (id : ℤ) (entries : List Entry) → AllByRecursion (Held id) entries
      → list_all (is_written (spec_in head.metadata.specs id) (schema_of head)) entries ≡ true
  all_written id [] h = refl
  all_written id (entry ∷ entries) h = both (is_written (spec_in head.metadata.specs id) (schema_of head) entry) (list_all (is_written (spec_in head.metadata.specs id) (schema_of head)) entries) h.0.1 (all_written id entries h.1)

  readable : (draft : Draft) → OfDraft Held head.metadata.specs (schema_of head) draft → IsReadable head draft
  readable draft h =
      let found = spec_found draft.entries draft.spec h.0 h.1 in
      record { spec = found; entries = record { each = all_written draft.spec draft.entries h.1; kinds = anew.kinds; fields = anew.specs draft.spec (spec_in head.metadata.specs draft.spec) found } }

  rows_listed : list_all is_listed (rows_in head change names) ≡ true
  rows_listed =
      all_joined_true (rows_from head (schema_of head) (commit_numbers (numbers_in head)) names [] (drafts_in head change)) (sorted_in head change).standing
      (new_listed head (schema_of head) (commit_numbers (numbers_in head)) names [] (drafts_in head change) refl)
      (ap (list_all is_listed) (standing_in head change) ∙ kept_listed change.removed (manifests_of head.head) head.held (live_in head.head).data_files (live_in head.head).deletes (listed_by head.table (parts head.metadata) old head.branch head.head is.head))

  pub can_be_laid : CanBeLaid head change names now
  can_be_laid = record {
    schema = anew.schema;
    manifests = mapped (OfDraft Held head.metadata.specs (schema_of head)) (IsReadable head) readable (drafts_in head change) of_drafts;
    rows = rows_listed;
    follows = follows head change names now numbers;
  }
