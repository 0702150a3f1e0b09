-- The branch of the next version: its snapshot, the list of it, and what the manifests of the list hold live.
use Rattle.std.proofs.Common.{◌≡◌, ◌<◌, ◌+◌, ◌^◌, ℕ, ℤ, Bool, true, false, not, ◌&&◌, ◌||◌, cond, List, [], ◌∷◌, ◌++◌, map, filter, length, Option, Some, None, Result, Ok, refl, sym, ap, ◌∙◌, arith, true≢false}
use Rattle.std.specs.Prelude.{if◌then◌else◌, nat_eq}
use Rattle.std.specs.declared.cmp.Ordering.{Ordering}
use Rattle.std.specs.declared.cmp.Ordering.TheVariants.{Less, Equal, Greater}
use Rattle.std.specs.Cmp.Lexicographic.{pointwise, slice_cmp}
use Rattle.std.specs.FinMap as files_map
use Rattle.std.specs.List.{list_all}
use Rattle.std.specs.Ordering.{int_eq, is_eq, match_ordering, nat_cmp}
use Rattle.std.specs.Str.{bytes_eq}
use Rattle.std.proofs.lemmas.Int.{ints}
use Rattle.std.proofs.lemmas.Map.Text.{is_eq-slice_cmp}
use Rattle.std.proofs.lemmas.Slice.Eq.{bytes_eq-Decides}
use Rattle.plain_types.proofs.CallerLemmas.{total-append, total-map}
use Rattle.plain_types.specs.Bags.{total}
use Rattle.plain_types.specs.Steps.{◌>>=◌, by_option, fault_as, or_fault}
use Rattle.store_core.proofs.CallerLemmas.{kept-with_file}
use Rattle.store_core.specs.Files.{Files, KeepsFiles}
use Rattle.table_names.specs.declared.names.Names.{Names}
use Rattle.table_names.specs.FileNames.{NoneFrom}
use Rattle.table_names.proofs.CallerLemmas.{metadata_is}
use Rattle.manifest_files.specs.declared.entry.Entry.{Entry}
use Rattle.manifest_files.specs.declared.manifest_row.ManifestRow.{ManifestRow}
use Rattle.manifest_files.specs.Lists.{rows_of_list}
use Rattle.commit_manifests.specs.declared.commit_numbers.CommitNumbers.{CommitNumbers}
use Rattle.manifest_writer.proofs.CallerLemmas.{list_again}
use Rattle.manifest_writer.specs.ListDatum.{list_text}
use Rattle.metadata_writer.specs.PartsAfter.{branch_at as ref_at, with_ref}
use Rattle.table_metadata.specs.declared.references.RefItem.{RefItem}
use Rattle.table_metadata.specs.declared.metadata_fault.MetadataFault.TheVariants as metadata
use Rattle.table_metadata.specs.declared.snapshots.Snapshot.{Snapshot}
use Rattle.table_metadata.specs.Metadata.{Parts, parts}
use Rattle.table_metadata.specs.References.{has_snapshot}
use Rattle.table_state.specs.declared.load_fault.LoadFault.{LoadFault}
use Rattle.table_state.specs.declared.load_fault.LoadFault.TheVariants as fault
use Rattle.table_state.specs.declared.live_set.BranchState.{BranchState}
use Rattle.table_state.specs.declared.live_set.BranchState.TheVariants as state
use Rattle.table_state.specs.Files.{list_at, list_in, manifest_at, entries_in}
use Rattle.table_state.specs.Live.{branch_at, entries_at, head_at, head_of, is_data, is_live, set_of, snapshot_at as read_snapshot, without_head}
use Rattle.table_metadata.specs.ById.{snapshot_with}
use Rattle.table_names.specs.Paths.{name_of}
use Rattle.table_state.specs.declared.state.State.{State}
use Rattle.table_state.specs.States.{IsParted, IsStateOf, manifests_of}
use Rattle.table_state.proofs.CallerLemmas.{head_is_parted}
use Rattle.change_sets.specs.declared.change.ChangeSet.{ChangeSet}
use Rattle.change_sets.specs.Laid.{as_kept, laid}
use Rattle.commit_manifests.specs.declared.drafts.Draft.{Draft}
use Rattle.commit_builder.specs.Commits.{AreSpelled, commit_numbers, drafts_in, files_after, list_names, live_in, manifests_after, next_name, numbers_in, rows_in, schema_of, snapshot_in, sorted_in}
use Rattle.commit_manifests.specs.Holding.{entries_of, held_after, standing_files}
use Rattle.commit_builder.specs.NextVersion.{AreNames, CanBeLaid, HoldsChange, next_parts}
use Rattle.commit_manifests.proofs.CallerLemmas.{all_numbered, holds}
use Rattle.commit_builder.proofs.Reading.{Stand, all_read, all_stand, file_is, keeps_from, none_from, row_list, rows_listed, there}
use Rattle.commit_builder.proofs.Standing.{Again, Known, all_again, head_known, kept_rows, live_joined, split, standing_in}

-- ---- the ref

apart_by : (r x : List ℕ) (b : Bool) → bytes_eq x r ≡ b → bytes_eq r x ≡ false → bytes_eq x r ≡ false
apart_by r x true is other = absurd (true≢false (sym ((bytes_eq-Decides r x).1 (sym ((bytes_eq-Decides x r).0 is))) ∙ other))
apart_by r x false is other = is

apart : (r x : List ℕ) → slice_cmp nat_cmp r x ≡ Greater → pointwise nat_eq x r ≡ false
apart r x is = apart_by r x (bytes_eq x r) refl (sym (is_eq-slice_cmp r x) ∙ ap is_eq is)

module _ (branch : List ℕ) (id : ℤ) where
  first_is : (refs : List RefItem) → head_of branch (ref_at branch id ∷ refs) ≡ Some id
  unfolding head_of
  first_is refs = ap (λ b. if b && true then Some id else head_of branch refs) ((bytes_eq-Decides branch branch).1 refl)

  ref_is_by : (o : Ordering) (x : RefItem) (xs : List RefItem) → slice_cmp nat_cmp branch x.name ≡ o
      → head_of branch (with_ref (ref_at branch id) xs) ≡ Some id
      → head_of branch (match_ordering o (ref_at branch id ∷ x ∷ xs) (ref_at branch id ∷ xs)
      (x ∷ with_ref (ref_at branch id) xs)) ≡ Some id
  unfolding head_of
  ref_is_by Less x xs is rest = first_is (x ∷ xs)
  ref_is_by Equal x xs is rest = first_is xs
  ref_is_by Greater x xs is rest = ap (λ b. if b && not x.tag then Some x.snapshot else head_of branch (with_ref (ref_at branch id) xs)) (apart branch x.name is) ∙ rest

  ref_is : (refs : List RefItem) → head_of branch (with_ref (ref_at branch id) refs) ≡ Some id
  unfolding with_ref
  ref_is [] = first_is []
  ref_is (x ∷ xs) = ref_is_by (slice_cmp nat_cmp branch x.name) x xs refl (ref_is xs)

-- ---- the snapshot

same_id : (a : ℤ) → int_eq a a ≡ true
same_id a = grind (arith, ints)

last_by : (b : Bool) (s x : Snapshot) (found : Option Snapshot) → (b || false) ≡ false → found ≡ Some s → (if b then Some x else found) ≡ Some s
last_by true s x found none rest = absurd (true≢false none)
last_by false s x found none rest = rest

snapshot_is : (s : Snapshot) (snapshots : List Snapshot) → has_snapshot s.id snapshots ≡ false → snapshot_with s.id (snapshots ++ s ∷ []) ≡ Some s
unfolding snapshot_with
snapshot_is s [] none = ap (λ b. if b then Some s else snapshot_with s.id []) (same_id s.id)
snapshot_is s (x ∷ xs) none = one_by (int_eq x.id s.id) x xs none (snapshot_is s xs)
  where
    one_by : (b : Bool) (x : Snapshot) (xs : List Snapshot) → (b || has_snapshot s.id xs) ≡ false
        → (has_snapshot s.id xs ≡ false → snapshot_with s.id (xs ++ s ∷ []) ≡ Some s)
        → (if b then Some x else snapshot_with s.id (xs ++ s ∷ [])) ≡ Some s
    one_by true x xs none rest = absurd (true≢false none)
    one_by false x xs none rest = rest none

-- ---- the branch

module _ (table branch : List ℕ) (p : Parts) (later : Files) (s : Snapshot) where
  branch_is : (rows : List ManifestRow) (all : List Entry) → head_of branch p.refs ≡ Some s.id
      → snapshot_with s.id p.snapshots ≡ Some s → list_at table p s.list later ≡ Ok rows
      → entries_at table p [] rows later ≡ Ok all → branch_at table p branch later ≡ Ok (state.Head s.id rows (set_of all))
  unfolding branch_at head_at read_snapshot
  branch_is rows all ref found listed read =
      ap (λ (o : Option ℤ). by_option o (λ id. head_at table p branch id later) (Ok (without_head branch))) ref
      ∙ ap (λ (o : Option Snapshot). or_fault (fault.Metadata (metadata.Ref branch)) o >>= λ snapshot. read_snapshot table p snapshot later) found
      ∙ ap (λ (r : Result (List ManifestRow) LoadFault). r >>= λ found_rows. entries_at table p [] found_rows later >>= λ entries. Ok (state.Head s.id found_rows (set_of entries))) listed
      ∙ ap (λ (r : Result (List Entry) LoadFault). r >>= λ entries. Ok (state.Head s.id rows (set_of entries))) read

  list_is : (rows : List ManifestRow) (name : List ℕ) → name_of table p.location s.list ≡ Some name
      → files_map.get later name ≡ Some (list_text rows) → rows_of_list (list_text rows) ≡ Ok rows
      → list_at table p s.list later ≡ Ok rows
  unfolding list_at
  list_is rows name named stands read =
      ap (λ (r : Result (List ℕ) LoadFault). r >>= list_in s.list) (file_is table p.location later s.list name (list_text rows) named stands)
      ∙ ap (fault_as (fault.Manifest s.list)) read

-- ---- the whole

one_true : (p : Entry → Bool) (x : Entry) (xs : List Entry) (b : Bool) → p x ≡ b → list_all p xs ≡ true → list_all p (cond b (x ∷ xs) xs) ≡ true
one_true p x xs true is h = ap (λ t. t && list_all p xs) is ∙ h
one_true p x xs false is h = h

filter_true : (p : Entry → Bool) (xs : List Entry) → list_all p (filter p xs) ≡ true
filter_true p [] = refl
filter_true p (x ∷ xs) = one_true p x (filter p xs) (p x) refl (filter_true p xs)

parted_by : (table branch : List ℕ) (version : ℕ) (files : Files) (loaded : State) → IsStateOf table version branch files loaded
    → (head : BranchState) → loaded.head ≡ head
    → IsParted (manifests_of head) loaded.held (live_in head).data_files (live_in head).deletes
unfolding IsParted
parted_by table branch version files loaded is state.Absent h = (refl, refl)
parted_by table branch version files loaded is state.Empty h = (refl, refl)
parted_by table branch version files loaded is (state.Head snapshot rows live) h = head_is_parted table branch version files loaded snapshot rows live is h

module _ (head : State) (change : ChangeSet) (names : Names) (now : ℤ) (version : ℕ) (old files later : Files)
    (is : IsStateOf head.table version head.branch old head) (kept : KeepsFiles (Some old) (Some files))
    (none : NoneFrom head.table names.run names.session names.next files) (proper : AreNames names) (few : length (drafts_in head change) < 2 ^ 100)
    (spelled : AreSpelled head change names) (laid_on : CanBeLaid head change names now)
    (keeps : KeepsFiles (Some (files_after head change names files)) (Some later)) where
  abbrev p : Parts
  p = next_parts head change names now

  abbrev numbers : CommitNumbers
  numbers = commit_numbers (numbers_in head)

  abbrev drafts : List Draft
  drafts = drafts_in head change

  abbrev before : Files
  before = manifests_after head change names files

  abbrev list_name : List ℕ
  list_name = next_name head.table (list_names head change names)

  fits : names.next + length drafts < 2 ^ 128
  fits =
      let room : names.next < 2 ^ 127 = proper.room in
      omega (arith, few)

  none_after : NoneFrom head.table names.run names.session (names.next + length drafts) before
  none_after = none_from head numbers p later refl refl laid_on.schema names.run names.session proper.text proper.slash proper.run names.next drafts files none

  list_free : files_map.get before list_name ≡ None
  list_free = none_after.metadata_free (names.next + length drafts) (omega arith) fits

  -- what the manifests put stays
  manifests_kept : KeepsFiles (Some before) (Some later)
  manifests_kept = λ name bytes stands. keeps name bytes (kept-with_file before list_name (list_text (rows_in head change names)) list_free name bytes stands)

  old_kept : KeepsFiles (Some old) (Some later)
  old_kept = λ name bytes stands. manifests_kept name bytes (keeps_from head numbers p later refl refl laid_on.schema names.run names.session proper.text proper.slash proper.run names.next drafts files fits none name bytes (kept name bytes stands))

  list_stands : files_map.get later list_name ≡ Some (list_text (rows_in head change names))
  list_stands = keeps list_name (list_text (rows_in head change names)) (there before list_name (list_text (rows_in head change names)))

  listed : list_at head.table p (snapshot_in head change names now).list later ≡ Ok (rows_in head change names)
  listed = list_is head.table head.branch p later (snapshot_in head change names now) (rows_in head change names) list_name
      (metadata_is names.session names.run (names.next + length drafts) proper.text proper.slash proper.run fits head.table head.metadata.location) list_stands
      (list_again (rows_in head change names) spelled.rows laid_on.rows spelled.small)

  stand : Stand head numbers p later refl refl laid_on.schema names.run names.session proper.text proper.slash proper.run names.next drafts
  stand = all_stand head numbers p later refl refl laid_on.schema names.run names.session proper.text proper.slash proper.run names.next drafts files fits none manifests_kept

  abbrev own_rows : List ManifestRow
  own_rows = row_list head numbers p later refl refl laid_on.schema names.run names.session proper.text proper.slash proper.run names.next drafts

  abbrev kept_manifests : List ManifestRow
  kept_manifests = kept_rows change.removed (manifests_of head.head) head.held (live_in head.head).data_files (live_in head.head).deletes

  rows_are : rows_in head change names ≡ own_rows ++ kept_manifests
  rows_are =
      ap (λ (rows : List ManifestRow). rows ++ (sorted_in head change).standing) (rows_listed head numbers p later refl refl laid_on.schema names.run names.session proper.text proper.slash proper.run names.next [] drafts)
      ∙ ap (λ (rows : List ManifestRow). own_rows ++ rows) (standing_in head change)

  known : Known head.table (parts head.metadata) old (manifests_of head.head) head.held (live_in head.head).data_files (live_in head.head).deletes
  known = head_known head.table head.branch version old head is

  same_read : (row : ManifestRow) (told : Files) → manifest_at head.table p row told ≡ manifest_at head.table (parts head.metadata) row told
  unfolding manifest_at entries_in
  same_read row told = refl

  again : (w : Entry → ℕ)
      → Again head.table (parts head.metadata) p old later old_kept same_read w (entries_of drafts) kept_manifests (standing_files change.removed (manifests_of head.head) head.held (live_in head.head).data_files (live_in head.head).deletes)
  again w = all_again head.table (parts head.metadata) p old later old_kept same_read w change.removed (entries_of drafts) (manifests_of head.head) head.held (live_in head.head).data_files (live_in head.head).deletes known

  read_by : (w : Entry → ℕ) → entries_at head.table p [] (rows_in head change names) later ≡ Ok (entries_of drafts ++ (again w).more)
  read_by w =
      ap (λ (rows : List ManifestRow). entries_at head.table p [] rows later) rows_are
      ∙ all_read head numbers p later refl refl laid_on.schema names.run names.session proper.text proper.slash proper.run names.next drafts [] kept_manifests fits laid_on.manifests spelled.manifests
      (all_numbered head.metadata.specs (schema_of head) (numbers_in head) change (manifests_of head.head) head.held (live_in head.head) refl) stand
      ∙ (again w).read

  -- the entries that are read, however they are weighed
  abbrev nothing_weighs : Entry → ℕ
  nothing_weighs entry = 0

  abbrev all : List Entry
  all = entries_of drafts ++ (again nothing_weighs).more

  same_more : (w : Entry → ℕ) → entries_of drafts ++ (again w).more ≡ all
  same_more w = one_read (read_by w) (read_by nothing_weighs)
    where
      one_read : {X F : Type 0} {r : Result X F} {a b : X} → r ≡ Ok a → r ≡ Ok b → a ≡ b
      one_read h k = cc

  abbrev weight : (Entry → ℕ) → Entry → ℕ
  weight w entry = w (as_kept entry)

  live_weighed : (w : Entry → ℕ) → total (weight w) (filter is_live all) ≡ total (weight w)
      (held_after head.metadata.specs (schema_of head)
      (numbers_in head) change (manifests_of head.head) head.held (live_in head.head))
  live_weighed w =
      ap (λ (es : List Entry). total (weight w) (filter is_live es)) (sym (same_more (weight w)))
      ∙ live_joined (weight w) (entries_of drafts) (again (weight w)).more
      ∙ ap (λ n. total (weight w) (filter is_live (entries_of drafts)) + n) (again (weight w)).weighed
      ∙ sym (total-append (weight w) (filter is_live (entries_of drafts)) (standing_files change.removed (manifests_of head.head) head.held (live_in head.head).data_files (live_in head.head).deletes))

  set_weighed : (w : Entry → ℕ) → total w (map as_kept ((set_of all).data_files ++ (set_of all).deletes)) ≡ total (weight w) (filter is_live all)
  set_weighed w =
      total-map w as_kept ((set_of all).data_files ++ (set_of all).deletes)
      ∙ total-append (weight w) (set_of all).data_files (set_of all).deletes
      ∙ split (weight w) (filter is_live all)

  held_weighed : (w : Entry → ℕ)
      → total w (map as_kept ((set_of all).data_files ++ (set_of all).deletes)) ≡ total w (map as_kept ((laid (numbers_in head) (live_in head.head) change).data_files ++ (laid (numbers_in head) (live_in head.head) change).deletes))
  held_weighed w =
      set_weighed w ∙ live_weighed w
      ∙ sym (total-map w as_kept (held_after head.metadata.specs (schema_of head) (numbers_in head) change (manifests_of head.head) head.held (live_in head.head)))
      ∙ holds head.metadata.specs (schema_of head) w (numbers_in head) change (manifests_of head.head) head.held (live_in head.head) (parted_by head.table head.branch version old head is head.head refl)

  pub next_holds : HoldsChange head change names now later
  next_holds = record {
    live = set_of all;
    branch = branch_is head.table head.branch p later (snapshot_in head change names now) (rows_in head change names) all
        (ref_is head.branch (snapshot_in head change names now).id head.metadata.refs)
        (snapshot_is (snapshot_in head change names now) head.metadata.snapshots laid_on.follows.new) listed (read_by nothing_weighs);
    of_data = filter_true is_data (filter is_live all);
    of_deletes = filter_true (λ entry. not (is_data entry)) (filter is_live all);
    laid = held_weighed;
  }
