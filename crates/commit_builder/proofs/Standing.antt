-- The manifests of the head that stand are read as they were.
use Rattle.std.proofs.Common.{◌≡◌, ◌+◌, ℕ, ℤ, Bool, true, false, not, ◌&&◌, cond, List, [], ◌∷◌, ◌++◌, filter, take, drop, length, Option, Some, None, Result, Ok, refl, sym, ap, subst, ◌∙◌, append_assoc, append-nil, arith, true≢false}
use Rattle.std.specs.Prelude.{⊤, if◌then◌else◌}
use Rattle.std.specs.FinMap as files_map
use Rattle.std.proofs.lemmas.List.{drop_at, take_at}
use Rattle.std.proofs.lemmas.List.Elements.{filter-append}
use Rattle.plain_types.proofs.CallerLemmas.{total-append, one_value, two_steps}
use Rattle.plain_types.specs.Bags.{total}
use Rattle.plain_types.specs.Steps.{◌>>=◌, or_fault}
use Rattle.row_values.specs.declared.partition.Spec.{Spec}
use Rattle.row_values.specs.declared.schema.TableSchema.{TableSchema}
use Rattle.store_core.specs.Files.{Files, KeepsFiles}
use Rattle.manifest_files.specs.declared.entry.Entry.{Entry}
use Rattle.manifest_files.specs.declared.manifest_row.ManifestRow.{ManifestRow}
use Rattle.table_state.proofs.CallerLemmas.{data_joined, deletes_joined, found_head}
use Rattle.table_state.specs.declared.state.LiveCount.{LiveCount}
use Rattle.table_state.specs.declared.state.State.{State}
use Rattle.table_state.specs.Gathering.{count_of, live_data, live_deletes}
use Rattle.table_state.specs.States.{IsStateOf, counts_at, manifests_of}
use Rattle.table_metadata.specs.Metadata.{Parts, parts}
use Rattle.table_state.specs.declared.live_set.BranchState.{BranchState}
use Rattle.table_state.specs.declared.live_set.BranchState.TheVariants as state
use Rattle.table_state.specs.declared.live_set.LiveSet.{LiveSet}
use Rattle.table_state.specs.declared.load_fault.LoadFault.{LoadFault}
use Rattle.table_state.specs.declared.load_fault.LoadFault.TheVariants as fault
use Rattle.table_state.specs.Files.{bytes_under, entries_in, file_at, manifest_at}
use Rattle.table_state.specs.Live.{branch_at, entries_at, is_data, is_live}
use Rattle.table_names.specs.Paths.{name_of}
use Rattle.change_sets.specs.declared.change.ChangeSet.{ChangeSet}
use Rattle.commit_builder.specs.Commits.{live_in, numbers_in, schema_of, sorted_in}
use Rattle.commit_manifests.specs.Holding.{standing_files}
use Rattle.commit_manifests.specs.Drafts.{Drafts, begun, finished}
use Rattle.commit_manifests.specs.Sorting.{Sorted, added_drafts, and_manifest, and_rewritten, has_removed, is_empty, sorted_from, sorted_of}

-- ---- what each manifest of the head holds

module _ (table : List ℕ) (p : Parts) (files : Files) where
  -- each manifest is read, and holds its part of the live files
  abbrev pub Known : List ManifestRow → List LiveCount → List Entry → List Entry → Type 0
  Known [] counts data_files deletes = ⊤
  Known (row ∷ rows) [] data_files deletes = ⊥
  Known (row ∷ rows) (count ∷ counts) data_files deletes = ((entries : List Entry) × (manifest_at table p row files ≡ Ok entries)
      × (take count.data_files data_files ≡ live_data entries) × (take count.deletes deletes ≡ live_deletes entries))
      × Known rows counts (drop count.data_files data_files) (drop count.deletes deletes)

  record Behind (rows : List ManifestRow) (earlier all : List Entry) (before counts : List LiveCount) : Type 0 where
    more : List Entry
    own : List LiveCount
    joined : all ≡ earlier ++ more
    counted : counts ≡ before ++ own
    known : Known rows own (live_data more) (live_deletes more)

  one_more : (row : ManifestRow) (rows : List ManifestRow) (earlier entries all : List Entry) (before counts : List LiveCount)
      → manifest_at table p row files ≡ Ok entries → Behind rows (earlier ++ entries) all (before ++ count_of entries ∷ []) counts
      → Behind (row ∷ rows) earlier all before counts
  one_more row rows earlier entries all before counts read b =
      let data_is : live_data (entries ++ b.more) ≡ live_data entries ++ live_data b.more = data_joined entries b.more in
      let deletes_are : live_deletes (entries ++ b.more) ≡ live_deletes entries ++ live_deletes b.more = deletes_joined entries b.more in
      record {
        more = entries ++ b.more;
        own = count_of entries ∷ b.own;
        joined = b.joined ∙ append_assoc earlier entries b.more;
        counted = b.counted ∙ append_assoc before (count_of entries ∷ []) b.own;
        known = (
          (
            entries,
            read,
            ap (take (length (live_data entries))) data_is
                ∙ take_at (live_data entries) (live_data b.more) (length (live_data entries)) refl,
            ap
                (take (length (live_deletes entries))) deletes_are
                ∙ take_at (live_deletes entries) (live_deletes b.more) (length (live_deletes entries)) refl,
          ),
          subst (λ (xs : List Entry). Known rows b.own xs (drop (length (live_deletes entries)) (live_deletes (entries ++ b.more)))) (sym (ap (drop (length (live_data entries))) data_is ∙ drop_at (live_data entries) (live_data b.more) (length (live_data entries)) refl))
              (subst (λ (ys : List Entry). Known rows b.own (live_data b.more) ys) (sym (ap (drop (length (live_deletes entries))) deletes_are ∙ drop_at (live_deletes entries) (live_deletes b.more) (length (live_deletes entries)) refl)) b.known),
        );
      }

  all_known : (earlier : List Entry) (before : List LiveCount) (rows : List ManifestRow) (all : List Entry)
      (counts : List LiveCount) → entries_at table p earlier rows files ≡ Ok all → counts_at table p before rows files ≡ Ok counts
      → Behind rows earlier all before counts
  unfolding entries_at counts_at
  all_known earlier before [] all counts e c =
      let read : earlier ≡ all = cc in
      let counted : before ≡ counts = cc in
      record { more = []; own = []; joined = sym read ∙ sym (append-nil earlier); counted = sym counted ∙ sym (append-nil before); known = tt }
  all_known earlier before (row ∷ rows) all counts e c =
      let read = two_steps (manifest_at table p row files) (λ entries. entries_at table p (earlier ++ entries) rows files) all e in
      let counted = two_steps (manifest_at table p row files) (λ entries. counts_at table p (before ++ count_of entries ∷ []) rows files) counts c in
      let same : counted.0 ≡ read.0 = one_value counted.0 read.0 (manifest_at table p row files) counted.1 read.1 in
      one_more row rows earlier read.0 all before counts read.1
      (all_known (earlier ++ read.0) (before ++ count_of read.0 ∷ []) rows all counts read.2 (subst (λ entries. counts_at table p (before ++ count_of entries ∷ []) rows files ≡ Ok counts) same counted.2))

  pub listed_known : (rows : List ManifestRow) (all : List Entry) (counts : List LiveCount)
      → entries_at table p [] rows files ≡ Ok all → counts_at table p [] rows files ≡ Ok counts
      → Known rows counts (live_data all) (live_deletes all)
  listed_known rows all counts e c =
      let b = all_known [] [] rows all counts e c in
      subst (λ (cs : List LiveCount). Known rows cs (live_data all) (live_deletes all)) (sym b.counted) (subst (λ (xs : List Entry). Known rows b.own (live_data xs) (live_deletes xs)) (sym b.joined) b.known)

module _ (table branch : List ℕ) (version : ℕ) (files : Files) (loaded : State) (is : IsStateOf table version branch files loaded) where
  known_by : (head : BranchState) → loaded.head ≡ head
      → Known table (parts loaded.metadata) files (manifests_of head) loaded.held (live_in head).data_files (live_in head).deletes
  known_by state.Absent h = tt
  known_by state.Empty h = tt
  known_by (state.Head snapshot rows live) h =
      let read = found_head table (parts loaded.metadata) files branch snapshot rows live (subst (λ (head : BranchState). branch_at table (parts loaded.metadata) branch files ≡ Ok head) h is.head) in
      let counts : counts_at table (parts loaded.metadata) [] rows files ≡ Ok loaded.held = subst (λ (head : BranchState). counts_at table (parts loaded.metadata) [] (manifests_of head) files ≡ Ok loaded.held) h is.held in
      subst (λ (set : LiveSet). Known table (parts loaded.metadata) files rows loaded.held set.data_files set.deletes) read.2 (listed_known table (parts loaded.metadata) files rows read.0 loaded.held read.1 counts)

  pub head_known : Known table (parts loaded.metadata) files (manifests_of loaded.head) loaded.held (live_in loaded.head).data_files (live_in loaded.head).deletes
  head_known = known_by loaded.head refl

-- ---- what was read is read again

kept_by : (f : LoadFault) (now later : Option (List ℕ)) (bytes : List ℕ) → ((b : List ℕ) → now ≡ Some b → later ≡ Some b)
    → or_fault f now ≡ Ok bytes → or_fault f later ≡ Ok bytes
kept_by f (Some b) later bytes keeps e = ap (or_fault f) (keeps b refl) ∙ e
kept_by f None later bytes keeps e = cc

file_kept_by : (path : List ℕ) (now later : Files) (name : Option (List ℕ)) (bytes : List ℕ) → KeepsFiles (Some now) (Some later)
    → (or_fault (fault.Outside path) name >>= λ n. bytes_under path n now) ≡ Ok bytes
    → (or_fault (fault.Outside path) name >>= λ n. bytes_under path n later) ≡ Ok bytes
file_kept_by path now later (Some name) bytes keeps e = kept_by (fault.Missing path) (files_map.get now name) (files_map.get later name) bytes (λ b. keeps name b) e
file_kept_by path now later None bytes keeps e = cc

-- ---- the manifests that stand

abbrev pub own_row : Bool → Bool → ManifestRow → List ManifestRow
own_row true empty row = []
own_row false true row = []
own_row false false row = row ∷ []

-- their rows
abbrev pub kept_rows : List Entry → List ManifestRow → List LiveCount → List Entry → List Entry → List ManifestRow
kept_rows removed [] counts data_files deletes = []
kept_rows removed (row ∷ rows) [] data_files deletes = []
kept_rows removed (row ∷ rows) (count ∷ counts) data_files deletes =
    own_row (has_removed removed (take count.data_files data_files)) (is_empty (take count.data_files data_files) && is_empty (take count.deletes deletes)) row
    ++ kept_rows removed rows counts (drop count.data_files data_files) (drop count.deletes deletes)

module _ (specs : List Spec) (schema : TableSchema) (removed : List Entry) (snapshot : ℤ) where
  one_stands : (b c : Bool) (s : Sorted) (row : ManifestRow) (d : Drafts)
      → (if b then record s { drafts = d } else if c then s else record s { standing = s.standing ++ row ∷ [] }).standing ≡ s.standing ++ own_row b c row
  one_stands true c s row d = sym (append-nil s.standing)
  one_stands false true s row d = sym (append-nil s.standing)
  one_stands false false s row d = refl

  pub standing_is : (s : Sorted) (rows : List ManifestRow) (counts : List LiveCount) (data_files deletes : List Entry)
      → (sorted_from specs schema removed snapshot s rows counts data_files deletes).standing ≡ s.standing ++ kept_rows removed rows counts data_files deletes
  unfolding sorted_from
  standing_is s [] counts data_files deletes = sym (append-nil s.standing)
  standing_is s (row ∷ rows) [] data_files deletes = sym (append-nil s.standing)
  standing_is s (row ∷ rows) (count ∷ counts) data_files deletes =
      let own : List Entry = take count.data_files data_files in
      let own_deletes : List Entry = take count.deletes deletes in
      let rest : List ManifestRow = kept_rows removed rows counts (drop count.data_files data_files) (drop count.deletes deletes) in
      let row_own : List ManifestRow = own_row (has_removed removed own) (is_empty own && is_empty own_deletes) row in
      standing_is (and_manifest specs schema removed snapshot s row own own_deletes) rows counts (drop count.data_files data_files) (drop count.deletes deletes)
      ∙ ap (λ (rs : List ManifestRow). rs ++ rest) (one_stands (has_removed removed own) (is_empty own && is_empty own_deletes) s row
      (finished (and_rewritten specs schema [] snapshot (and_rewritten specs schema removed snapshot
      (begun row.partition_spec_id row.content s.drafts) own) own_deletes)))
      ∙ append_assoc s.standing row_own rest

-- those of the head's that stand in a commit's list
pub standing_in : (head : State) (change : ChangeSet)
    → (sorted_in head change).standing ≡ kept_rows change.removed (manifests_of head.head) head.held (live_in head.head).data_files (live_in head.head).deletes
unfolding sorted_of
standing_in head change = standing_is head.metadata.specs (schema_of head) change.removed (numbers_in head).snapshot
    (record { drafts = added_drafts head.metadata.specs (schema_of head) (numbers_in head) change; standing = [] }) (manifests_of head.head) head.held
    (live_in head.head).data_files (live_in head.head).deletes

-- ---- what they hold

empty_is : (xs : List Entry) → is_empty xs ≡ true → xs ≡ []
empty_is [] h = refl
empty_is (x ∷ xs) h = absurd (true≢false (sym h))

first_of : (a b : Bool) → (a && b) ≡ true → a ≡ true
first_of true b h = refl
first_of false b h = h

second_of : (a b : Bool) → (a && b) ≡ true → b ≡ true
second_of true b h = h
second_of false b h = absurd (true≢false (sym h))

module _ (w : Entry → ℕ) where
  split_by : (b : Bool) (entry : Entry) (entries : List Entry)
      → total w (filter is_data entries) + total w (filter (λ entry. not (is_data entry)) entries) ≡ total w entries
      → total w (cond b (entry ∷ filter is_data entries) (filter is_data entries)) + total w (cond (not b)
      (entry ∷ filter (λ entry. not (is_data entry)) entries)
      (filter (λ entry. not (is_data entry)) entries)) ≡ w entry + total w entries
  split_by true entry entries h = omega (arith, h)
  split_by false entry entries h = omega (arith, h)

  pub split : (entries : List Entry) → total w (filter is_data entries) + total w (filter (λ entry. not (is_data entry)) entries) ≡ total w entries
  split [] = refl
  split (entry ∷ entries) = split_by (is_data entry) entry entries (split entries)

  pub live_joined : (xs ys : List Entry) → total w (filter is_live (xs ++ ys)) ≡ total w (filter is_live xs) + total w (filter is_live ys)
  live_joined xs ys = ap (total w) (filter-append is_live xs ys) ∙ total-append w (filter is_live xs) (filter is_live ys)

module _ (table : List ℕ) (p q : Parts) (now later : Files) (keeps : KeepsFiles (Some now) (Some later)) (same : (row : ManifestRow) (files : Files) → manifest_at table q row files ≡ manifest_at table p row files) where
  manifest_kept : (row : ManifestRow) (entries : List Entry) → manifest_at table p row now ≡ Ok entries → manifest_at table p row later ≡ Ok entries
  unfolding manifest_at file_at
  manifest_kept row entries e =
      let read = two_steps (file_at table p.location row.manifest_path now) (entries_in p row) entries e in
      ap (λ (r : Result (List ℕ) LoadFault). r >>= entries_in p row) (file_kept_by row.manifest_path now later (name_of table p.location row.manifest_path) read.0 keeps read.1) ∙ read.2

  -- they are read as before, and hold live what they held
  pub record Again (w : Entry → ℕ) (earlier : List Entry) (kept : List ManifestRow) (held : List Entry) : Type 0 where
    pub more : List Entry
    pub read : entries_at table q earlier kept later ≡ Ok (earlier ++ more)
    pub weighed : total w (filter is_live more) ≡ total w held

  module _ (w : Entry → ℕ) where
    one_again : (b c : Bool) (earlier : List Entry) (row : ManifestRow) (own own_deletes : List Entry) (kept : List ManifestRow)
        (held : List Entry) → (is_empty own && is_empty own_deletes) ≡ c
        → ((entries : List Entry) × (manifest_at table p row now ≡ Ok entries) × (own ≡ live_data entries) × (own_deletes ≡ live_deletes entries))
        → ((before : List Entry) → Again w before kept held)
        → Again w earlier (own_row b c row ++ kept) ((if b then [] else own ++ own_deletes) ++ held)
    unfolding entries_at
    one_again true c earlier row own own_deletes kept held is known rest = record { more = (rest earlier).more; read = (rest earlier).read; weighed = (rest earlier).weighed }
    one_again false true earlier row own own_deletes kept held is known rest =
        let none : own ≡ [] = empty_is own (first_of (is_empty own) (is_empty own_deletes) is) in
        let none_deleted : own_deletes ≡ [] = empty_is own_deletes (second_of (is_empty own) (is_empty own_deletes) is) in
        record {
          more = (rest earlier).more;
          read = (rest earlier).read;
          weighed = (rest earlier).weighed ∙ ap (λ (xs : List Entry). total w (xs ++ held)) (sym (ap (λ (xs : List Entry). xs ++ own_deletes) none ∙ none_deleted));
        }
    one_again false false earlier row own own_deletes kept held is known rest =
        let entries : List Entry = known.0 in
        let behind : Again w (earlier ++ entries) kept held = rest (earlier ++ entries) in
        let read : manifest_at table q row later ≡ Ok entries = same row later ∙ manifest_kept row entries known.1 in
        let data_files : total w own ≡ total w (live_data entries) = ap (total w) known.2 in
        let deletes : total w own_deletes ≡ total w (live_deletes entries) = ap (total w) known.3 in
        record {
          more = entries ++ behind.more;
          read = ap (λ (r : Result (List Entry) LoadFault). r >>= λ es. entries_at table q (earlier ++ es) kept later) read ∙ behind.read ∙ ap (λ (es : List Entry). Ok es) (append_assoc earlier entries behind.more);
          weighed = omega (
            arith,
            live_joined w entries behind.more,
            split w (filter is_live entries),
            behind.weighed,
            data_files,
            deletes,
            total-append w (own ++ own_deletes) held,
            total-append w own own_deletes,
          );
        }

    pub all_again : (removed earlier : List Entry) (rows : List ManifestRow) (counts : List LiveCount)
        (data_files deletes : List Entry) → Known table p now rows counts data_files deletes
        → Again w earlier (kept_rows removed rows counts data_files deletes)
        (standing_files removed rows counts data_files deletes)
    unfolding entries_at standing_files
    all_again removed earlier [] counts data_files deletes known = record { more = []; read = ap (λ (es : List Entry). Ok es) (sym (append-nil earlier)); weighed = refl }
    all_again removed earlier (row ∷ rows) [] data_files deletes known = absurd known
    all_again removed earlier (row ∷ rows) (count ∷ counts) data_files deletes known =
        one_again (has_removed removed (take count.data_files data_files)) (is_empty (take count.data_files data_files) && is_empty (take count.deletes deletes)) earlier row (take count.data_files data_files) (take count.deletes deletes)
        (kept_rows removed rows counts (drop count.data_files data_files) (drop count.deletes deletes)) (standing_files removed rows counts (drop count.data_files data_files) (drop count.deletes deletes)) refl known.0
        (λ before. all_again removed before rows counts (drop count.data_files data_files) (drop count.deletes deletes) known.1)
