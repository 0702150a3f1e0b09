-- The rows of the next version.
use Rattle.std.proofs.Common.{◌≡◌, ◌+◌, ◌<◌, ◌^◌, ℕ, ℤ, Bool, true, false, not, ◌&&◌, cond, List, [], ◌∷◌, ◌++◌, map, filter, length, Option, Some, Result, Ok, refl, sym, ap, subst, ◌∙◌, arith, true≢false}
use Rattle.std.specs.FinMap as files_map
use Rattle.std.specs.List.{list_all}
use Rattle.change_sets.proofs.CallerLemmas.{same_rows}
use Rattle.plain_types.specs.Bags.{SameBag}
use Rattle.plain_types.specs.Steps.{◌>>=◌, fault_as, or_fault}
use Rattle.row_values.specs.declared.value.Value.{Value}
use Rattle.store_core.proofs.CallerLemmas.{kept-with_file}
use Rattle.store_core.specs.Files.{Files, KeepsFiles}
use Rattle.table_names.specs.declared.names.Names.{Names}
use Rattle.table_names.specs.FileNames.{NoneFrom}
use Rattle.manifest_files.specs.declared.entry.Entry.{Entry}
use Rattle.table_metadata.specs.Metadata.{Parts, metadata_of, parts}
use Rattle.table_names.specs.Versions.{version_name}
use Rattle.table_state.specs.declared.live_set.BranchState.{BranchState}
use Rattle.table_state.specs.declared.live_set.BranchState.TheVariants as state
use Rattle.table_state.specs.declared.live_set.LiveSet.{LiveSet}
use Rattle.table_state.specs.declared.load_fault.LoadFault.{LoadFault}
use Rattle.table_state.specs.declared.load_fault.LoadFault.TheVariants as fault
use Rattle.table_state.specs.Files.{data_file_at, rows_in as decoded_rows, version_at}
use Rattle.table_state.specs.Live.{branch_at, data_files_of, data_rows, is_data, is_live, rows_at, rows_of_branch}
use Rattle.table_state.proofs.CallerLemmas.{found_head}
use Rattle.table_state.specs.declared.state.State.{State}
use Rattle.table_state.specs.States.{IsStateOf}
use Rattle.change_sets.specs.declared.change.ChangeSet.{ChangeSet}
use Rattle.change_sets.specs.Laid.{as_added, laid, without}
use Rattle.change_sets.specs.Same.{is_among}
use Rattle.commit_builder.proofs.NextHead.{next_holds}
use Rattle.commit_builder.proofs.Reading.{keeps_from, none_from}
use Rattle.commit_builder.specs.declared.commit.Prepared.{Prepared}
use Rattle.commit_builder.specs.Commits.{AreSpelled, commit_numbers, drafts_in, files_after, list_names, live_in, manifests_after, next_name, numbers_in, rows_in}
use Rattle.manifest_writer.specs.ListDatum.{list_text}
use Rattle.commit_builder.specs.NextVersion.{AreNames, CanBeLaid, HoldsChange, next_parts}
use Rattle.commit_builder.specs.Preparing.{Prepares}
use Rattle.commit_builder.proofs.Parts.{first, rows_joined, rows_kept, rows_of_added, same_data, second}
use Rattle.commit_builder.specs.Contents.{HasContents}

-- ---- what the live sets hold

both : (a b : Bool) → a ≡ true → b ≡ true → (a && b) ≡ true
both true b h k = k
both false b h k = absurd (true≢false (sym h))

joined : (p : Entry → Bool) (xs ys : List Entry) → list_all p xs ≡ true → list_all p ys ≡ true → list_all p (xs ++ ys) ≡ true
joined p [] ys h k = k
joined p (x ∷ xs) ys h k = both (p x) (list_all p (xs ++ ys)) (first (p x) (list_all p xs) h) (joined p xs ys (second (p x) (list_all p xs) h) k)

one_more : (p : Entry → Bool) (b : Bool) (x : Entry) (rest : List Entry) → p x ≡ true → list_all p rest ≡ true → list_all p (cond b (x ∷ rest) rest) ≡ true
one_more p true x rest h k = both (p x) (list_all p rest) h k
one_more p false x rest h k = k

filtered : (p q : Entry → Bool) (xs : List Entry) → list_all p xs ≡ true → list_all p (filter q xs) ≡ true
filtered p q [] h = refl
filtered p q (x ∷ xs) h = one_more p (q x) x (filter q xs) (first (p x) (list_all p xs) h) (filtered p q xs (second (p x) (list_all p xs) h))

mapped : (p : Entry → Bool) (f : Entry → Entry) → ((x : Entry) → p (f x) ≡ p x) → (xs : List Entry) → list_all p xs ≡ true → list_all p (map f xs) ≡ true
mapped p f same [] h = refl
mapped p f same (x ∷ xs) h = both (p (f x)) (list_all p (map f xs)) (same x ∙ first (p x) (list_all p xs) h) (mapped p f same xs (second (p x) (list_all p xs) h))

kept_one : (p : Entry → Bool) (x : Entry) (rest : List Entry) (b : Bool) → p x ≡ b → list_all p rest ≡ true → list_all p (cond b (x ∷ rest) rest) ≡ true
kept_one p x rest true is k = both (p x) (list_all p rest) is k
kept_one p x rest false is k = k

only_kept : (p : Entry → Bool) (xs : List Entry) → list_all p (filter p xs) ≡ true
only_kept p [] = refl
only_kept p (x ∷ xs) = kept_one p x (filter p xs) (p x) refl (only_kept p xs)

module _ (table branch : List ℕ) (version : ℕ) (files : Files) (loaded : State) (is : IsStateOf table version branch files loaded) where
  abbrev HoldsParts : LiveSet → Type 0
  HoldsParts live = (list_all is_data live.data_files ≡ true) × (list_all (λ entry. not (is_data entry)) live.deletes ≡ true)

  parts_by : (head : BranchState) → loaded.head ≡ head → HoldsParts (live_in head)
  parts_by state.Absent h = (refl, refl)
  parts_by state.Empty h = (refl, refl)
  parts_by (state.Head snapshot rows live) h =
      let read = found_head table (parts loaded.metadata) files branch snapshot rows live (subst (λ (head : BranchState). branch_at table (parts loaded.metadata) branch files ≡ Ok head) h is.head) in
      subst HoldsParts read.2 (only_kept is_data (filter is_live read.0), only_kept (λ entry. not (is_data entry)) (filter is_live read.0))

  pub head_parts : HoldsParts (live_in loaded.head)
  head_parts = parts_by loaded.head refl

-- ---- the whole

module _ (head : State) (change : ChangeSet) (names : Names) (now : ℤ) (old files later : Files) (prepared : Prepared)
    (left written : List (List Value)) (is : IsStateOf head.table head.version head.branch old head) (kept : KeepsFiles (Some old) (Some files))
    (none : NoneFrom head.table names.run names.session names.next files) (proper : AreNames names) (few : length (drafts_in head change) < 2 ^ 100)
    (spelled : AreSpelled head change names) (laid_on : CanBeLaid head change names now) (contents : HasContents change)
    (prepares : Prepares head head.branch change names now prepared) (keeps : KeepsFiles (Some (files_after head change names files)) (Some later))
    (stands : files_map.get later (version_name head.table (head.version + 1)) ≡ Some prepared.bytes)
    (left_read : data_rows head.table (parts head.metadata) [] (without change.removed (live_in head.head).data_files) old ≡ Ok left)
    (written_read : data_rows head.table (parts head.metadata) [] change.added_data files ≡ Ok written) where
  abbrev p : Parts
  p = next_parts head change names now

  holds : HoldsChange head change names now later
  holds = next_holds head change names now head.version old files later is kept none proper few spelled laid_on keeps

  fits : names.next + length (drafts_in head change) < 2 ^ 128
  fits =
      let room : names.next < 2 ^ 127 = proper.room in
      omega (arith, few)

  abbrev before : Files
  before = manifests_after head change names files

  none_after : NoneFrom head.table names.run names.session (names.next + length (drafts_in head change)) before
  none_after = none_from head (commit_numbers (numbers_in head)) p later refl refl laid_on.schema names.run names.session proper.text proper.slash proper.run names.next (drafts_in head change) files none

  -- what was there before the commit stays
  files_kept : KeepsFiles (Some files) (Some later)
  files_kept = λ name bytes there.
      keeps name bytes (kept-with_file before (next_name head.table (list_names head change names)) (list_text (rows_in head change names)) (none_after.metadata_free (names.next + length (drafts_in head change)) (omega arith) fits) name bytes
      (keeps_from head (commit_numbers (numbers_in head)) p later refl refl laid_on.schema names.run names.session proper.text proper.slash proper.run names.next (drafts_in head change) files fits none name bytes there))

  old_kept : KeepsFiles (Some old) (Some later)
  old_kept = λ name bytes there. files_kept name bytes (kept name bytes there)

  same_read : (path : List ℕ) (told : Files) → data_file_at head.table p path told ≡ data_file_at head.table (parts head.metadata) path told
  unfolding data_file_at decoded_rows
  same_read path told = refl

  abbrev after : LiveSet
  after = laid (numbers_in head) (live_in head.head) change

  left_again : data_rows head.table p [] (without change.removed (live_in head.head).data_files) later ≡ Ok left
  left_again = rows_kept head.table (parts head.metadata) p old later old_kept same_read [] (without change.removed (live_in head.head).data_files) left left_read

  written_again : data_rows head.table p [] (map (as_added (numbers_in head)) change.added_data) later ≡ Ok written
  written_again =
      rows_of_added head.table p later (numbers_in head) [] change.added_data
      ∙ rows_kept head.table (parts head.metadata) p files later files_kept same_read [] change.added_data written written_read

  laid_read : data_rows head.table p [] after.data_files later ≡ Ok (left ++ written)
  laid_read = rows_joined head.table p later (without change.removed (live_in head.head).data_files) (map (as_added (numbers_in head)) change.added_data) left written left_again written_again

  after_parts : (list_all is_data after.data_files ≡ true) × (list_all (λ entry. not (is_data entry)) after.deletes ≡ true)
  after_parts =
      let own = head_parts head.table head.branch head.version old head is in (
        joined is_data (without change.removed (live_in head.head).data_files) (map (as_added (numbers_in head)) change.added_data)
            (filtered is_data (λ entry. not (is_among change.removed entry)) (live_in head.head).data_files own.0)
            (mapped is_data (as_added (numbers_in head)) (λ entry. refl) change.added_data contents.added_data),
        joined (λ entry. not (is_data entry)) (live_in head.head).deletes (map (as_added (numbers_in head)) change.added_deletes) own.1 (mapped (λ entry. not (is_data entry)) (as_added (numbers_in head)) (λ entry. refl) change.added_deletes contents.added_deletes),
      )

  found : (rows : List (List Value)) × (data_rows head.table p [] holds.live.data_files later ≡ Ok rows) × SameBag rows (left ++ written)
  found = same_rows head.table p later holds.live.data_files after.data_files (left ++ written)
      (same_data holds.live.data_files holds.live.deletes after.data_files after.deletes holds.of_data holds.of_deletes after_parts.0 after_parts.1 holds.laid) laid_read

  version_read : version_at head.table (head.version + 1) later ≡ Ok p
  unfolding version_at
  version_read =
      ap (λ (o : Option (List ℕ)). or_fault (fault.Missing (version_name head.table (head.version + 1))) o >>= λ bytes. fault_as fault.Metadata (metadata_of bytes)) stands
      ∙ ap (fault_as fault.Metadata) (prepares.read is.metadata.bytes is.metadata.read laid_on.follows)

  pub next_rows : (rows : List (List Value)) × (rows_of_branch head.table (head.version + 1) head.branch later ≡ Ok rows) × SameBag rows (left ++ written)
  unfolding rows_of_branch rows_at
  next_rows = (
    found.0,
    ap (λ (r : Result Parts LoadFault). r >>= λ q. rows_at head.table q head.branch later) version_read
        ∙ ap (λ (r : Result BranchState LoadFault). r >>= λ b. data_rows head.table p [] (data_files_of b) later) holds.branch ∙ found.1,
    found.2,
  )
