-- What is counted manifest by manifest parts the live set.
use Rattle.std.proofs.Common.{◌≡◌, ℕ, nat_eq, ℤ, Bool, true, false, codes, List, [], ◌∷◌, ◌++◌, drop, length, Option, Some, None, Result, Ok, refl, sym, ◌∙◌, subst}
use Rattle.std.specs.Prelude.{if◌then◌else◌}
use Rattle.std.specs.Cmp.Lexicographic.{pointwise}
use Rattle.std.proofs.lemmas.List.{append-nil, append_assoc, drop_at}
use Rattle.plain_types.specs.Steps.{◌>>=◌, or_fault, by_option}
use Rattle.store_core.specs.Files.{Files}
use Rattle.plain_types.proofs.CallerLemmas.{one_value, two_steps}
use Rattle.manifest_files.specs.declared.entry.Entry.{Entry}
use Rattle.manifest_files.specs.declared.manifest_row.ManifestRow.{ManifestRow}
use Rattle.table_metadata.specs.declared.metadata_fault.MetadataFault.TheVariants as metadata
use Rattle.table_metadata.specs.declared.snapshots.Snapshot.{Snapshot}
use Rattle.table_metadata.specs.Metadata.{Parts, parts}
use Rattle.table_state.specs.declared.load_fault.LoadFault.{LoadFault}
use Rattle.table_state.specs.declared.load_fault.LoadFault.TheVariants as fault
use Rattle.table_state.specs.declared.live_set.BranchState.{BranchState}
use Rattle.table_state.specs.declared.live_set.BranchState.TheVariants as state
use Rattle.table_state.specs.declared.live_set.LiveSet.{LiveSet}
use Rattle.table_state.specs.Files.{manifest_at, list_at}
use Rattle.table_state.specs.Live.{entries_at, set_of, head_of, snapshot_at, head_at, without_head, branch_at}
use Rattle.table_metadata.specs.ById.{snapshot_with}
use Rattle.table_state.specs.declared.state.LiveCount.{LiveCount}
use Rattle.table_state.specs.declared.state.State.{State}
use Rattle.table_state.specs.Gathering.{count_of, live_data, live_deletes}
use Rattle.table_state.specs.States.{manifests_of, counts_at, IsParted, IsStateOf}
use Rattle.table_state.proofs.GatheringLaws.{data_joined, deletes_joined}

-- the entries and the counts that come behind the earlier ones
record Behind (rows : List ManifestRow) (earlier all : List Entry) (before counts : List LiveCount) : Type 0 where
  more : List Entry
  own : List LiveCount
  joined : all ≡ earlier ++ more
  counted : counts ≡ before ++ own
  parted : IsParted rows own (live_data more) (live_deletes more)

drop_own : (own more : List Entry) → drop (length own) (own ++ more) ≡ more
drop_own own more = drop_at own more (length own) refl

one_more : (row : ManifestRow) (rows : List ManifestRow) (earlier entries all : List Entry) (before counts : List LiveCount)
    → Behind rows (earlier ++ entries) all (before ++ count_of entries ∷ []) counts
    → Behind (row ∷ rows) earlier all before counts
unfolding IsParted
one_more row rows earlier entries all before counts b = record {
  more = entries ++ b.more;
  own = count_of entries ∷ b.own;
  joined = b.joined ∙ append_assoc earlier entries b.more;
  counted = b.counted ∙ append_assoc before (count_of entries ∷ []) b.own;
  parted = subst (λ xs. IsParted rows b.own (drop (length (live_data entries)) xs) (drop (length (live_deletes entries)) (live_deletes (entries ++ b.more)))) (sym (data_joined entries b.more))
      (subst (λ ys. IsParted rows b.own (drop (length (live_data entries)) (live_data entries ++ live_data b.more)) (drop (length (live_deletes entries)) ys)) (sym (deletes_joined entries b.more))
      (subst (λ xs. IsParted rows b.own xs (drop (length (live_deletes entries)) (live_deletes entries ++ live_deletes b.more))) (sym (drop_own (live_data entries) (live_data b.more)))
      (subst (λ ys. IsParted rows b.own (live_data b.more) ys) (sym (drop_own (live_deletes entries) (live_deletes b.more))) b.parted)));
}

none_more : (earlier all : List Entry) (before counts : List LiveCount) → earlier ≡ all → before ≡ counts → Behind [] earlier all before counts
unfolding IsParted
none_more earlier all before counts h k = record { more = []; own = []; joined = sym h ∙ sym (append-nil earlier); counted = sym k ∙ sym (append-nil before); parted = (refl, refl) }

module _ (table : List ℕ) (p : Parts) (files : Files) where
  all_parted : (earlier : List Entry) (before : List LiveCount) (rows : List ManifestRow) (all : List Entry)
      (counts : List LiveCount) → entries_at table p earlier rows files ≡ Ok all → counts_at table p before rows files ≡ Ok counts
      → Behind rows earlier all before counts
  unfolding entries_at counts_at
  all_parted earlier before [] all counts e c =
      let read : earlier ≡ all = cc in
      let counted : before ≡ counts = cc in
      none_more earlier all before counts read counted
  all_parted earlier before (row ∷ rows) all counts e c =
      let read = two_steps (manifest_at table p row files) (λ entries. entries_at table p (earlier ++ entries) rows files) all e in
      let counted = two_steps (manifest_at table p row files) (λ entries. counts_at table p (before ++ count_of entries ∷ []) rows files) counts c in
      let same : counted.0 ≡ read.0 = one_value counted.0 read.0 (manifest_at table p row files) counted.1 read.1 in
      one_more row rows earlier read.0 all before counts
      (all_parted (earlier ++ read.0) (before ++ count_of read.0 ∷ []) rows all counts read.2 (subst (λ entries. counts_at table p (before ++ count_of entries ∷ []) rows files ≡ Ok counts) same counted.2))

  head_parted : (rows : List ManifestRow) (all : List Entry) (counts : List LiveCount) → entries_at table p [] rows files ≡ Ok all
      → counts_at table p [] rows files ≡ Ok counts → IsParted rows counts (live_data all) (live_deletes all)
  head_parted rows all counts e c =
      let b = all_parted [] [] rows all counts e c in
      subst (λ cs. IsParted rows cs (live_data all) (live_deletes all)) (sym b.counted) (subst (λ xs. IsParted rows b.own (live_data xs) (live_deletes xs)) (sym b.joined) b.parted)

  in_snapshot : (snapshot : Snapshot) (id : ℤ) (rows : List ManifestRow) (live : LiveSet)
      → snapshot_at table p snapshot files ≡ Ok (state.Head id rows live) → (all : List Entry)
      × (entries_at table p [] rows files ≡ Ok all) × (set_of all ≡ live)
  unfolding snapshot_at
  in_snapshot snapshot id rows live e =
      let listed = two_steps (list_at table p snapshot.list files) (λ found. entries_at table p [] found files >>= λ all. Ok (state.Head snapshot.id found (set_of all))) (state.Head id rows live) e in
      let read = two_steps (entries_at table p [] listed.0 files) (λ all. Ok (state.Head snapshot.id listed.0 (set_of all))) (state.Head id rows live) listed.2 in
      let same : listed.0 ≡ rows = cc in
      let set : set_of read.0 ≡ live = cc in
      (read.0, subst (λ found. entries_at table p [] found files ≡ Ok read.0) same read.1, set)

  no_head : {A : Type 0} (b : Bool) (id : ℤ) (rows : List ManifestRow) (live : LiveSet)
      → (let r : Result BranchState LoadFault = Ok (if b then state.Empty else state.Absent) in r) ≡ Ok (state.Head id rows live)
      → A
  no_head true id rows live e = absurd cc
  no_head false id rows live e = absurd cc

  in_branch : (branch : List ℕ) (found : Option ℤ) (id : ℤ) (rows : List ManifestRow) (live : LiveSet)
      → by_option found (λ ref. head_at table p branch ref files) (Ok (without_head branch)) ≡ Ok (state.Head id rows live)
      → (all : List Entry) × (entries_at table p [] rows files ≡ Ok all) × (set_of all ≡ live)
  unfolding head_at
  in_branch branch (Some ref) id rows live e =
      let found = two_steps (or_fault (fault.Metadata (metadata.Ref branch)) (snapshot_with ref p.snapshots)) (λ snapshot. snapshot_at table p snapshot files) (state.Head id rows live) e in
      in_snapshot found.0 id rows live found.2
  in_branch branch None id rows live e = no_head (pointwise nat_eq branch (codes "main")) id rows live e

  listed_in : (snapshot : Snapshot) (id : ℤ) (rows : List ManifestRow) (live : LiveSet)
      → snapshot_at table p snapshot files ≡ Ok (state.Head id rows live) → (path : List ℕ)
      × (list_at table p path files ≡ Ok rows)
  unfolding snapshot_at
  listed_in snapshot id rows live e =
      let listed = two_steps (list_at table p snapshot.list files) (λ found. entries_at table p [] found files >>= λ all. Ok (state.Head snapshot.id found (set_of all))) (state.Head id rows live) e in
      let read = two_steps (entries_at table p [] listed.0 files) (λ all. Ok (state.Head snapshot.id listed.0 (set_of all))) (state.Head id rows live) listed.2 in
      let same : listed.0 ≡ rows = cc in
      (snapshot.list, subst (λ found. list_at table p snapshot.list files ≡ Ok found) same listed.1)

  listed_of : (branch : List ℕ) (found : Option ℤ) (id : ℤ) (rows : List ManifestRow) (live : LiveSet)
      → by_option found (λ ref. head_at table p branch ref files) (Ok (without_head branch)) ≡ Ok (state.Head id rows live)
      → (path : List ℕ) × (list_at table p path files ≡ Ok rows)
  unfolding head_at
  listed_of branch (Some ref) id rows live e =
      let found = two_steps (or_fault (fault.Metadata (metadata.Ref branch)) (snapshot_with ref p.snapshots)) (λ snapshot. snapshot_at table p snapshot files) (state.Head id rows live) e in
      listed_in found.0 id rows live found.2
  listed_of branch None id rows live e = no_head (pointwise nat_eq branch (codes "main")) id rows live e

  -- the rows of a head are those of a list
  pub found_list : (branch : List ℕ) (id : ℤ) (rows : List ManifestRow) (live : LiveSet)
      → branch_at table p branch files ≡ Ok (state.Head id rows live) → (path : List ℕ) × (list_at table p path files ≡ Ok rows)
  unfolding branch_at
  found_list branch id rows live e = listed_of branch (head_of branch p.refs) id rows live e

  pub found_head : (branch : List ℕ) (id : ℤ) (rows : List ManifestRow) (live : LiveSet)
      → branch_at table p branch files ≡ Ok (state.Head id rows live) → (all : List Entry)
      × (entries_at table p [] rows files ≡ Ok all) × (set_of all ≡ live)
  unfolding branch_at
  found_head branch id rows live e = in_branch branch (head_of branch p.refs) id rows live e

pub head_is_parted : (table branch : List ℕ) (version : ℕ) (files : Files) (loaded : State) (snapshot : ℤ)
    (rows : List ManifestRow) (live : LiveSet) → IsStateOf table version branch files loaded
    → loaded.head ≡ state.Head snapshot rows live → IsParted rows loaded.held live.data_files live.deletes
head_is_parted table branch version files loaded snapshot rows live is h =
    let read = found_head table (parts loaded.metadata) files branch snapshot rows live (subst (λ (head : BranchState). branch_at table (parts loaded.metadata) branch files ≡ Ok head) h is.head) in
    let counts : counts_at table (parts loaded.metadata) [] rows files ≡ Ok loaded.held = subst (λ (head : BranchState). counts_at table (parts loaded.metadata) [] (manifests_of head) files ≡ Ok loaded.held) h is.held in
    let parted = head_parted table (parts loaded.metadata) files rows read.0 loaded.held read.1 counts in
    subst (λ (set : LiveSet). IsParted rows loaded.held set.data_files set.deletes) read.2 parted
