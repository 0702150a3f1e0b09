-- What is counted file by file of a branch that was loaded is how many rows the branch has, where they can be read.
use Rattle.std.proofs.Common.{◌≡◌, ◌≢◌, ◌≤◌, ℕ, ◌+◌, ◌-◌, List, [], ◌∷◌, ◌++◌, length, take, drop, append-nil, length-append, get_or, Option, Some, Result, Ok, Err, refl, sym, ap, subst, ◌∙◌, arith}
use Rattle.std.proofs.lemmas.List.{take_at}
use Rattle.std.specs.Option.{ForSome}
use Rattle.std.specs.Result.{IfErr, IfOk}
use Rattle.plain_types.specs.Steps.{◌>>=◌, fault_as, or_fault}
use Rattle.row_values.specs.declared.value.Value.{Value}
use Rattle.store_core.specs.Files.{Files}
use Rattle.avro_container.specs.declared.container.Container.{Container}
use Rattle.avro_container.specs.Container.{container_of}
use Rattle.avro_rows.specs.Rows.{rows_of}
use Rattle.avro_rows.proofs.CallerLemmas.{rows_of_count}
use Rattle.manifest_files.specs.declared.entry.Entry.{Entry}
use Rattle.plain_types.proofs.CallerLemmas.{one_value, two_steps}
use Rattle.table_metadata.specs.Metadata.{Parts, metadata_of, parts}
use Rattle.table_names.specs.Versions.{version_name, version_of}
use Rattle.table_state.specs.declared.live_set.BranchState.{BranchState}
use Rattle.table_state.specs.declared.load_fault.LoadFault.{LoadFault}
use Rattle.table_state.specs.declared.load_fault.LoadFault.TheVariants as fault
use Rattle.table_state.specs.Files.{current_schema, data_file_at, file_at, rows_in, version_at}
use Rattle.table_state.specs.Live.{branch_at, data_files_of, data_rows, live_of, rows_at, rows_of_branch}
use Rattle.table_state.specs.declared.state.State.{State}
use Rattle.branch_commit.specs.Current.{IsCurrent, current_branch}
use Rattle.schedule_runner.specs.Rows.{current_rows}

abbrev pub Rows : Type 0
Rows = List (List Value)

-- a reading that succeeds, by faults of another kind
read_ok : {A E F : Type 0} (name : F → E) (r : Result A F) (a : A) → fault_as name r ≡ Ok a → r ≡ Ok a
read_ok name (Ok x) a e = cc
read_ok name (Err f) a e = absurd cc

never_both : {A E : Type 0} (r : Result A E) (a : A) (f : E) → r ≡ Err f → r ≡ Ok a → ⊥
never_both r a f failed found = absurd cc

-- ---- a data file

module _ (table : List ℕ) (p : Parts) (path : List ℕ) (files : Files) (rows : Rows) where
  pub file_fails : (location : List ℕ) (f : LoadFault) → location ≡ p.location → file_at table location path files ≡ Err f
      → data_file_at table p path files ≡ Ok rows → ⊥
  unfolding data_file_at
  file_fails location f same failed read =
      let s = two_steps (file_at table p.location path files) (rows_in p path) rows read in
      never_both (file_at table location path files) s.0 f failed (ap (λ (at : List ℕ). file_at table at path files) same ∙ s.1)

  pub file_counted : (location bytes : List ℕ) (count : ℕ) → location ≡ p.location → file_at table location path files ≡ Ok bytes
      → ((c : Container) → container_of bytes ≡ Ok c → count ≡ length c.datums) → data_file_at table p path files ≡ Ok rows
      → count ≡ length rows
  unfolding data_file_at rows_in
  file_counted location bytes count same_place found counts read =
      let s = two_steps (file_at table p.location path files) (rows_in p path) rows read in
      let same : s.0 ≡ bytes = one_value s.0 bytes (file_at table location path files) (ap (λ (at : List ℕ). file_at table at path files) same_place ∙ s.1) found in
      let c = two_steps (fault_as (fault.Container path) (container_of s.0)) (λ container. current_schema p >>= λ schema. fault_as (fault.Rows path) (rows_of container schema.columns)) rows s.2 in
      let schema = two_steps (current_schema p) (λ schema. fault_as (fault.Rows path) (rows_of c.0 schema.columns)) rows c.2 in
      let whole : container_of bytes ≡ Ok c.0 = ap container_of (sym same) ∙ read_ok (fault.Container path) (container_of s.0) c.0 c.1 in
      counts c.0 whole ∙ sym (rows_of_count c.0 schema.0.columns rows (read_ok (fault.Rows path) (rows_of c.0 schema.0.columns) rows schema.2))

-- ---- data files

all_of : (xs : List Entry) → take (length xs) xs ≡ xs
all_of xs = ap (take (length xs)) (sym (append-nil xs)) ∙ take_at xs [] (length xs) refl

pub first_and_rest : (xs : List Entry) (x : Entry) → x ≡ get_or xs 0 x → 1 ≤ length xs → xs ≡ x ∷ take (length xs - 1) (drop 1 xs)
first_and_rest [] x e some = absurd (omega arith)
first_and_rest (y ∷ ys) x e some =
    let left : length (y ∷ ys) - 1 ≡ length ys = omega arith in
    ap (λ z. z ∷ ys) (sym e) ∙ ap (λ zs. x ∷ zs) (sym (all_of ys)) ∙ ap (λ n. x ∷ take n ys) (sym left)

module _ (table : List ℕ) (p : Parts) (entries : List Entry) (files : Files) where
  -- so many rows are counted, where the data files that are left can be read behind them
  abbrev pub Counts : ℕ → List Entry → Type 0
  Counts count rest = (rows : Rows) → data_rows table p [] entries files ≡ Ok rows → (earlier : Rows) × (length earlier ≡ count) × (data_rows table p earlier rest files ≡ Ok rows)

  pub goes_on : (count : ℕ) (entry : Entry) (all rest : List Entry) → all ≡ entry ∷ rest → (path : List ℕ) → path ≡ entry.path
      → (more n : ℕ) → ((rows : Rows) → data_file_at table p path files ≡ Ok rows → more ≡ length rows) → n ≡ count + more
      → Counts count all → Counts n rest
  unfolding data_rows
  goes_on count entry all rest is path named more n counted sum so_far = λ rows read.
      let left = subst (λ (own : List Entry). Counts count own) is so_far rows read in
      let s = two_steps (data_file_at table p entry.path files) (λ found. data_rows table p (left.0 ++ found) rest files) rows left.2 in
      let here : more ≡ length s.0 = counted s.0 (ap (λ (at : List ℕ). data_file_at table p at files) named ∙ s.1) in
      (left.0 ++ s.0, omega (arith, length-append left.0 s.0, left.1), s.2)

  pub ends : (count : ℕ) (left : List Entry) → left ≡ [] → Counts count left → (rows : Rows)
      → data_rows table p [] entries files ≡ Ok rows → count ≡ length rows
  unfolding data_rows
  ends count none is so_far rows read =
      let left = subst (λ (own : List Entry). Counts count own) is so_far rows read in
      let same : left.0 ≡ rows = one_value left.0 rows (data_rows table p left.0 [] files) refl left.2 in
      sym left.1 ∙ ap length same

  pub fails : (count : ℕ) (entry : Entry) (all rest : List Entry) → all ≡ entry ∷ rest → (path : List ℕ) → path ≡ entry.path
      → ((rows : Rows) → data_file_at table p path files ≡ Ok rows → ⊥) → Counts count all → (rows : Rows)
      → data_rows table p [] entries files ≡ Ok rows → ⊥
  unfolding data_rows
  fails count entry all rest is path named unread so_far rows read =
      let left = subst (λ (own : List Entry). Counts count own) is so_far rows read in
      let s = two_steps (data_file_at table p entry.path files) (λ found. data_rows table p (left.0 ++ found) rest files) rows left.2 in
      unread s.0 (ap (λ (at : List ℕ). data_file_at table p at files) named ∙ s.1)

-- ---- a branch

module _ (table branch : List ℕ) (files : Files) where
  live_fails : (f : LoadFault) (version : ℕ) (rows : Rows) → live_of table version branch files ≡ Err f
      → rows_of_branch table version branch files ≡ Ok rows → ⊥
  unfolding live_of rows_of_branch rows_at
  live_fails f version rows failed read =
      let p = two_steps (version_at table version files) (λ p. rows_at table p branch files) rows read in
      let b = two_steps (branch_at table p.0 branch files) (λ found. data_rows table p.0 [] (data_files_of found) files) rows p.2 in
      let found : live_of table version branch files ≡ Ok b.0 = ap (λ (r : Result Parts LoadFault). r >>= λ q. branch_at table q branch files) p.1 ∙ b.1 in
      never_both (live_of table version branch files) b.0 f failed found

  branch_fails : (f : LoadFault) (rows : Rows) → current_branch table branch files ≡ Err f → current_rows table branch files ≡ Ok rows → ⊥
  branch_fails f rows failed read =
      let v = two_steps (or_fault (fault.Missing table) (version_of table files)) (λ version. rows_of_branch table version branch files) rows read in
      live_fails f v.0 rows (ap (λ (r : Result ℕ LoadFault). r >>= λ version. live_of table version branch files) (sym v.1) ∙ failed) v.2

  -- and where it was loaded
  module _ (state : State) (is : IsCurrent table branch files state) where
    version_is : version_at table state.version files ≡ Ok (parts state.metadata)
    unfolding version_at
    version_is =
        ap (λ (o : Option (List ℕ)). or_fault (fault.Missing (version_name table state.version)) o >>= λ bytes. fault_as fault.Metadata (metadata_of bytes)) is.state.metadata.stands
        ∙ ap (fault_as fault.Metadata) is.state.metadata.read.read

    rows_are : current_rows table branch files ≡ data_rows table (parts state.metadata) [] (data_files_of state.head) files
    unfolding rows_of_branch rows_at
    rows_are =
        ap (λ (o : Option ℕ). or_fault (fault.Missing table) o >>= λ version. rows_of_branch table version branch files) is.current
        ∙ ap (λ (r : Result Parts LoadFault). r >>= λ p. rows_at table p branch files) version_is
        ∙ ap (λ (r : Result BranchState LoadFault). r >>= λ found. data_rows table (parts state.metadata) [] (data_files_of found) files) is.state.head

-- ---- of a store that may tell its files

module _ (table branch : List ℕ) (told : Option Files) where
  pub none_loaded : (f : LoadFault) → ForSome told (λ files. current_branch table branch files ≡ Err f)
      → ForSome told (λ files. (rows : Rows) → current_rows table branch files ≡ Ok rows → ⊥)
  none_loaded f why files is = λ rows read. branch_fails table branch files f rows (why files is) read

  -- and still tells the same where the data files of the branch are counted
  module _ (state : State) (loaded : ForSome told (λ files. IsCurrent table branch files state)) (now : Option Files) (still : now ≡ told) (entries : List Entry) (of_head : entries ≡ data_files_of state.head) where
    of_files : (files : Files) → told ≡ Some files → (rows : Rows) → current_rows table branch files ≡ Ok rows
        → data_rows table (parts state.metadata) [] entries files ≡ Ok rows
    of_files files is rows read = subst (λ (own : List Entry). data_rows table (parts state.metadata) [] own files ≡ Ok rows) (sym of_head) (sym (rows_are table branch files state (loaded files is)) ∙ read)

    pub all_counted : (r : Result ℕ LoadFault) → IfOk r (λ count. ForSome now (λ files. (rows : Rows)
        → data_rows table (parts state.metadata) [] entries files ≡ Ok rows → count ≡ length rows))
        → IfOk r (λ count. ForSome told (λ files. (rows : Rows) → current_rows table branch files ≡ Ok rows
        → count ≡ length rows))
    all_counted (Ok count) h = λ files is rows read. h files (still ∙ is) rows (of_files files is rows read)
    all_counted (Err f) h = tt

    pub none_counted : (r : Result ℕ LoadFault) → IfErr r (λ f. f ≢ fault.Store → f ≢ fault.Memory
        → ForSome now (λ files. (rows : Rows) → data_rows table (parts state.metadata) [] entries files ≡ Ok rows → ⊥))
        → IfErr r (λ f. f ≢ fault.Store → f ≢ fault.Memory
        → ForSome told (λ files. (rows : Rows) → current_rows table branch files ≡ Ok rows → ⊥))
    none_counted (Ok count) h = tt
    none_counted (Err f) h = λ store memory files is rows read. h store memory files (still ∙ is) rows (of_files files is rows read)
