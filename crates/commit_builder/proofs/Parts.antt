-- Data files, and delete files, of files that are the same as a bag.
use Rattle.std.proofs.Common.{◌≡◌, ◌+◌, ℕ, Bool, true, false, not, cond, ◌&&◌, List, [], ◌∷◌, ◌++◌, map, Option, Some, None, Result, Ok, Err, refl, sym, ap, ◌∙◌, append-nil, append_assoc, arith, true≢false}
use Rattle.std.specs.FinMap as files_map
use Rattle.std.specs.List.{list_all}
use Rattle.plain_types.proofs.CallerLemmas.{total-append, total-map, two_steps}
use Rattle.plain_types.specs.Bags.{SameBag, total}
use Rattle.plain_types.specs.Steps.{◌>>=◌, or_fault}
use Rattle.row_values.specs.declared.value.Value.{Value}
use Rattle.store_core.specs.Files.{Files, KeepsFiles}
use Rattle.manifest_files.specs.declared.entry.Entry.{Entry}
use Rattle.table_metadata.specs.Metadata.{Parts}
use Rattle.table_state.specs.declared.load_fault.LoadFault.{LoadFault}
use Rattle.table_state.specs.declared.load_fault.LoadFault.TheVariants as fault
use Rattle.table_state.specs.Files.{bytes_under, data_file_at, file_at, rows_in}
use Rattle.table_state.specs.Live.{data_rows, is_data}
use Rattle.table_names.specs.Paths.{name_of}
use Rattle.change_sets.specs.declared.change.AddedAs.{AddedAs}
use Rattle.change_sets.specs.Laid.{as_added, as_kept}

-- ---- parted by what they hold

pub first : (a b : Bool) → (a && b) ≡ true → a ≡ true
first true b h = refl
first false b h = h

pub second : (a b : Bool) → (a && b) ≡ true → b ≡ true
second true b h = h
second false b h = absurd (true≢false (sym h))

module _ (w : Entry → ℕ) where
  -- the weight of a data file, and 0 of another
  abbrev of_data : Entry → ℕ
  of_data entry = cond (is_data entry) (w entry) 0

  data_weigh : (entries : List Entry) → list_all is_data entries ≡ true → total of_data entries ≡ total w entries
  data_weigh [] h = refl
  data_weigh (entry ∷ entries) h = omega (arith, ap (λ b. cond b (w entry) 0) (first (is_data entry) (list_all is_data entries) h), data_weigh entries (second (is_data entry) (list_all is_data entries) h))

  one_not : (b : Bool) (n : ℕ) → not b ≡ true → cond b n 0 ≡ 0
  one_not true n h = absurd (true≢false (sym h))
  one_not false n h = refl

  others_weigh : (entries : List Entry) → list_all (λ entry. not (is_data entry)) entries ≡ true → total of_data entries ≡ 0
  others_weigh [] h = refl
  others_weigh (entry ∷ entries) h = omega (arith, one_not (is_data entry) (w entry) (first (not (is_data entry)) (list_all (λ e. not (is_data e)) entries) h), others_weigh entries (second (not (is_data entry)) (list_all (λ e. not (is_data e)) entries) h))

all_kept : (p : Entry → Bool) → ((entry : Entry) → p (as_kept entry) ≡ p entry) → (entries : List Entry)
    → list_all p entries ≡ true → list_all p (map as_kept entries) ≡ true
all_kept p same [] h = refl
all_kept p same (entry ∷ entries) h =
    ap (λ b. b && list_all p (map as_kept entries)) (same entry ∙ first (p entry) (list_all p entries) h)
    ∙ all_kept p same entries (second (p entry) (list_all p entries) h)

-- the data files of both
data_part : (w : Entry → ℕ) (data_files deletes : List Entry) → list_all is_data data_files ≡ true
    → list_all (λ entry. not (is_data entry)) deletes ≡ true
    → total (of_data w) (map as_kept (data_files ++ deletes)) ≡ total w (map as_kept data_files)
data_part w data_files deletes h k =
    total-map (of_data w) as_kept (data_files ++ deletes)
    ∙ total-append (λ entry. of_data w (as_kept entry)) data_files deletes
    ∙ ap (λ n. n + total (λ entry. of_data w (as_kept entry)) deletes) (sym (total-map (of_data w) as_kept data_files) ∙ data_weigh w (map as_kept data_files) (all_kept is_data (λ entry. refl) data_files h))
    ∙ ap (λ n. total w (map as_kept data_files) + n) (sym (total-map (of_data w) as_kept deletes) ∙ others_weigh w (map as_kept deletes) (all_kept (λ entry. not (is_data entry)) (λ entry. refl) deletes k))
    ∙ omega arith

pub same_data : (data_files deletes others other_deletes : List Entry) → list_all is_data data_files ≡ true
    → list_all (λ entry. not (is_data entry)) deletes ≡ true → list_all is_data others ≡ true
    → list_all (λ entry. not (is_data entry)) other_deletes ≡ true
    → SameBag (map as_kept (data_files ++ deletes)) (map as_kept (others ++ other_deletes)) → SameBag (map as_kept data_files) (map as_kept others)
same_data data_files deletes others other_deletes h k l m same = λ w. sym (data_part w data_files deletes h k) ∙ same (of_data w) ∙ data_part w others other_deletes l m

-- ---- rows of files one after another

abbrev Read : Type 0
Read = Result (List (List Value)) LoadFault

same_next : (r : Read) (f g : List (List Value) → Read) → ((rows : List (List Value)) → f rows ≡ g rows) → (r >>= f) ≡ (r >>= g)
same_next (Ok rows) f g same = same rows
same_next (Err e) f g same = refl

module _ (table : List ℕ) (parts : Parts) (files : Files) where
  -- behind other rows
  rows_behind : (front before : List (List Value)) (entries : List Entry) (rows : List (List Value))
      → data_rows table parts before entries files ≡ Ok rows
      → data_rows table parts (front ++ before) entries files ≡ Ok (front ++ rows)
  unfolding data_rows
  rows_behind front before [] rows e =
      let same : before ≡ rows = cc in
      ap (λ (rs : List (List Value)). Ok (front ++ rs)) same
  rows_behind front before (entry ∷ entries) rows e =
      let read = two_steps (data_file_at table parts entry.path files) (λ found. data_rows table parts (before ++ found) entries files) rows e in
      ap (λ (r : Read). r >>= λ found. data_rows table parts ((front ++ before) ++ found) entries files) read.1
      ∙ ap (λ (rs : List (List Value)). data_rows table parts rs entries files) (append_assoc front before read.0)
      ∙ rows_behind front (before ++ read.0) entries rows read.2

  rows_then : (earlier : List (List Value)) (xs ys : List Entry) (middle rows : List (List Value))
      → data_rows table parts earlier xs files ≡ Ok middle → data_rows table parts middle ys files ≡ Ok rows
      → data_rows table parts earlier (xs ++ ys) files ≡ Ok rows
  unfolding data_rows
  rows_then earlier [] ys middle rows h k =
      let same : earlier ≡ middle = cc in
      ap (λ (rs : List (List Value)). data_rows table parts rs ys files) same ∙ k
  rows_then earlier (x ∷ xs) ys middle rows h k =
      let read = two_steps (data_file_at table parts x.path files) (λ found. data_rows table parts (earlier ++ found) xs files) middle h in
      ap (λ (r : Read). r >>= λ found. data_rows table parts (earlier ++ found) (xs ++ ys) files) read.1 ∙ rows_then (earlier ++ read.0) xs ys middle rows read.2 k

  -- the rows of both
  pub rows_joined : (xs ys : List Entry) (left right : List (List Value)) → data_rows table parts [] xs files ≡ Ok left
      → data_rows table parts [] ys files ≡ Ok right → data_rows table parts [] (xs ++ ys) files ≡ Ok (left ++ right)
  rows_joined xs ys left right h k =
      rows_then [] xs ys left (left ++ right) h
      (ap (λ (rs : List (List Value)). data_rows table parts rs ys files) (sym (append-nil left)) ∙ rows_behind left [] ys right k)

  -- whatever their numbers
  pub rows_of_added : (numbers : AddedAs) (earlier : List (List Value)) (entries : List Entry)
      → data_rows table parts earlier (map (as_added numbers) entries) files ≡ data_rows table parts earlier entries files
  unfolding data_rows
  rows_of_added numbers earlier [] = refl
  rows_of_added numbers earlier (entry ∷ entries) =
      same_next (data_file_at table parts entry.path files) (λ rows. data_rows table parts (earlier ++ rows) (map (as_added numbers) entries) files) (λ rows. data_rows table parts (earlier ++ rows) entries files) (λ rows. rows_of_added numbers (earlier ++ rows) entries)

-- ---- rows that are read again

kept_by : (f : LoadFault) (now later : Option (List ℕ)) (bytes : List ℕ) → ((b : List ℕ) → now ≡ Some b → later ≡ Some b)
    → or_fault f now ≡ Ok bytes → or_fault f later ≡ Ok bytes
kept_by f (Some b) later bytes keeps e = ap (or_fault f) (keeps b refl) ∙ e
kept_by f None later bytes keeps e = cc

pub file_kept_by : (path : List ℕ) (now later : Files) (name : Option (List ℕ)) (bytes : List ℕ)
    → KeepsFiles (Some now) (Some later) → (or_fault (fault.Outside path) name >>= λ n. bytes_under path n now) ≡ Ok bytes
    → (or_fault (fault.Outside path) name >>= λ n. bytes_under path n later) ≡ Ok bytes
file_kept_by path now later (Some name) bytes keeps e = kept_by (fault.Missing path) (files_map.get now name) (files_map.get later name) bytes (λ b. keeps name b) e
file_kept_by path now later None bytes keeps e = cc

-- in files that keep them, with the metadata of another version of the same location and schema
module _ (table : List ℕ) (p q : Parts) (now later : Files) (keeps : KeepsFiles (Some now) (Some later)) (same : (path : List ℕ) (files : Files) → data_file_at table q path files ≡ data_file_at table p path files) where
  data_file_kept : (path : List ℕ) (rows : List (List Value)) → data_file_at table p path now ≡ Ok rows → data_file_at table q path later ≡ Ok rows
  unfolding data_file_at file_at
  data_file_kept path rows e =
      let read = two_steps (file_at table p.location path now) (rows_in p path) rows e in
      same path later ∙ ap (λ (r : Result (List ℕ) LoadFault). r >>= rows_in p path) (file_kept_by path now later (name_of table p.location path) read.0 keeps read.1) ∙ read.2

  pub rows_kept : (earlier : List (List Value)) (entries : List Entry) (rows : List (List Value))
      → data_rows table p earlier entries now ≡ Ok rows → data_rows table q earlier entries later ≡ Ok rows
  unfolding data_rows
  rows_kept earlier [] rows e = e
  rows_kept earlier (entry ∷ entries) rows e =
      let read = two_steps (data_file_at table p entry.path now) (λ found. data_rows table p (earlier ++ found) entries now) rows e in
      ap (λ (r : Read). r >>= λ found. data_rows table q (earlier ++ found) entries later) (data_file_kept entry.path read.0 read.1) ∙ rows_kept (earlier ++ read.0) entries rows read.2
