-- What is printed of a plain table are the rows of its branch `main`.
use Rattle.std.proofs.Common.{◌≡◌, ℕ, ℤ, List, [], ◌∷◌, ◌++◌, Bool, true, false, cond, ◌&&◌, Option, Some, None, Result, Ok, Err, codes, filter, refl, ap, subst, ◌∙◌}
use Rattle.std.specs.FinMap as map
use Rattle.std.specs.List.{list_all}
use Rattle.std.proofs.lemmas.List.Elements.{filter-append}
use Rattle.plain_types.specs.Steps.{◌>>=◌, or_fault, by_option, fault_as}
use Rattle.row_values.specs.declared.value.Value.{Value}
use Rattle.store_core.specs.Files.{Files}
use Rattle.table_state.proofs.CallerLemmas.{two_steps}
use Rattle.manifest_files.specs.declared.entry.Entry.{Entry}
use Rattle.manifest_files.specs.declared.manifest_row.ManifestRow.{ManifestRow}
use Rattle.table_metadata.specs.Metadata.{Parts, metadata_of}
use Rattle.table_metadata.specs.declared.metadata_fault.MetadataFault.TheVariants as metadata
use Rattle.table_metadata.specs.declared.snapshots.Snapshot.{Snapshot}
use Rattle.table_state.specs.declared.load_fault.LoadFault.TheVariants as fault
use Rattle.table_state.specs.declared.live_set.BranchState.TheVariants as state
use Rattle.table_names.specs.Versions.{version_name, version_of}
use Rattle.table_state.specs.Files.{bytes_under, version_at, list_at, manifest_at, data_file_at}
use Rattle.table_state.specs.Live.{is_live, is_data, set_of, entries_at, head_of, snapshot_at, head_at, without_head, branch_at, data_rows, data_files_of, rows_at, rows_of_branch}
use Rattle.table_metadata.specs.ById.{snapshot_with}
use Rattle.table_state.specs.Form.{has_form, is_data_manifest}
use Rattle.dml_program.specs.declared.status.TableKind.TheVariants.{NoVersion, Later}
use Rattle.dml_program.specs.Opening.{Fault, table_rows}
use Rattle.dml_program.specs.Twice.{twice}
use Rattle.dml_program.specs.TableInForm.{or_path, if_form, list_in_form, manifest_in_form, entries_in_form, file_in_form, rows_in_form, if_once, snapshot_in_form, main_in_form, metadata_in_form, version_in_form}

-- ---- steps

-- the same value under another fault
pub unfault : {A E F : Type 0} (f : E → F) (r : Result A E) (a : A) → fault_as f r ≡ Ok a → r ≡ Ok a
unfault f (Ok b) a e = cc
unfault f (Err x) a e = cc

pub refault : {A E F : Type 0} (f : E) (g : F) (o : Option A) (a : A) → or_fault f o ≡ Ok a → or_fault g o ≡ Ok a
refault f g (Some b) a e = cc
refault f g None a e = cc

pub formed : {A : Type 0} (path : List ℕ) (a : A) (b : Bool) (x : A) → if_form path a b ≡ Ok x → (a ≡ x) × (b ≡ true)
formed path a true x e = (cc, refl)
formed path a false x e = cc

unless_found : {A : Type 0} (path : Option (List ℕ)) (a : A) (x : A) → by_option path Err (Ok a) ≡ Ok x → a ≡ x
unless_found (Some path) a x e = cc
unless_found None a x e = cc

pub then_ok : {A B E : Type 0} (r : Result A E) (f : A → Result B E) (a : A) → r ≡ Ok a → (r >>= f) ≡ f a
then_ok r f a e = ap (λ s. s >>= f) e

abbrev read_as : {A : Type 0} → A → Result A (List ℕ)
read_as a = Ok a

one_ok : {A : Type 0} (a b : A) → read_as a ≡ read_as b → a ≡ b
one_ok a b e = cc

-- ---- entries

keep_one : {X : Type 0} (p q : X → Bool) (x : X) (xs : List X) (b c : Bool) → p x ≡ b → q x ≡ c → (b && list_all p xs) ≡ true
    → (list_all p xs ≡ true → filter p (filter q xs) ≡ filter q xs)
    → filter p (cond c (x ∷ filter q xs) (filter q xs)) ≡ cond c (x ∷ filter q xs) (filter q xs)
keep_one p q x xs true true px qx all more = rw (px) (ap (λ ys. x ∷ ys) (more all))
keep_one p q x xs true false px qx all more = more all
keep_one p q x xs false c px qx all more = cc

-- a test that holds of all leaves nothing out
all_kept : {X : Type 0} (p q : X → Bool) (xs : List X) → list_all p xs ≡ true → filter p (filter q xs) ≡ filter q xs
all_kept p q [] all = refl
all_kept p q (x ∷ xs) all = keep_one p q x xs (p x) (q x) refl refl all (all_kept p q xs)

module _ (table : List ℕ) (parts : Parts) (files : Files) where
  read_list : (path : List ℕ) (rows : List ManifestRow) → list_in_form table parts path files ≡ Ok rows → list_at table parts path files ≡ Ok rows
  unfolding list_in_form
  read_list path rows e =
      let s = two_steps (or_path path (list_at table parts path files)) (λ found. if_form path found (list_all is_data_manifest found)) rows e in
      let f = formed path s.0 (list_all is_data_manifest s.0) rows s.2 in
      unfault (λ g. path) (list_at table parts path files) s.0 s.1 ∙ ap Ok f.0

  read_manifest : (row : ManifestRow) (live : List Entry) → manifest_in_form table parts row files ≡ Ok live
      → (entries : List Entry) × (manifest_at table parts row files ≡ Ok entries) × (filter is_live entries ≡ live)
      × (list_all is_data entries ≡ true)
  unfolding manifest_in_form
  read_manifest row live e =
      let s = two_steps (or_path row.manifest_path (manifest_at table parts row files)) (λ found. if_form row.manifest_path (filter is_live found) (list_all is_data found)) live e in
      let f = formed row.manifest_path (filter is_live s.0) (list_all is_data s.0) live s.2 in
      (s.0, unfault (λ g. row.manifest_path) (manifest_at table parts row files) s.0 s.1, f.0, f.1)

  joined : (before earlier entries live : List Entry) → filter is_data (filter is_live before) ≡ earlier
      → filter is_live entries ≡ live → list_all is_data entries ≡ true
      → filter is_data (filter is_live (before ++ entries)) ≡ earlier ++ live
  joined before earlier entries live same kept all =
      ap (filter is_data) (filter-append is_live before entries) ∙ filter-append is_data (filter is_live before) (filter is_live entries)
      ∙ ap (λ xs. xs ++ filter is_data (filter is_live entries)) same ∙ ap (λ xs. earlier ++ xs) (all_kept is_data is_live entries all ∙ kept)

  read_entries : (before earlier : List Entry) → filter is_data (filter is_live before) ≡ earlier
      → (rows : List ManifestRow) (live : List Entry) → entries_in_form table parts earlier rows files ≡ Ok live
      → (all : List Entry) × (entries_at table parts before rows files ≡ Ok all) × (filter is_data (filter is_live all) ≡ live)
  unfolding entries_in_form entries_at
  read_entries before earlier same [] live e = (before, refl, same ∙ one_ok earlier live e)
  read_entries before earlier same (row ∷ rows) live e =
      let s = two_steps (manifest_in_form table parts row files) (λ entries. entries_in_form table parts (earlier ++ entries) rows files) live e in
      let m = read_manifest row s.0 s.1 in
      let r = read_entries (before ++ m.0) (earlier ++ s.0) (joined before earlier m.0 s.0 same m.2 m.3) rows live s.2 in
      (r.0, then_ok (manifest_at table parts row files) (λ entries. entries_at table parts (before ++ entries) rows files) m.0 m.1 ∙ r.1, r.2)

  read_rows : (earlier : List (List Value)) (entries : List Entry) (rows : List (List Value))
      → rows_in_form table parts earlier entries files ≡ Ok rows → data_rows table parts earlier entries files ≡ Ok rows
  unfolding rows_in_form data_rows
  read_rows earlier [] rows e = cc
  read_rows earlier (entry ∷ entries) rows e =
      let s = two_steps (file_in_form table parts entry.path files) (λ more. rows_in_form table parts (earlier ++ more) entries files) rows e in
      then_ok (data_file_at table parts entry.path files) (λ more. data_rows table parts (earlier ++ more) entries files) s.0 (unfault (λ g. entry.path) (data_file_at table parts entry.path files) s.0 s.1)
      ∙ read_rows (earlier ++ s.0) entries rows s.2

  read_snapshot : (snapshot : Snapshot) (rows : List (List Value)) → snapshot_in_form table parts snapshot files ≡ Ok rows
      → (snapshot_at table parts snapshot files >>= λ found. data_rows table parts [] (data_files_of found) files) ≡ Ok rows
  unfolding snapshot_in_form snapshot_at
  read_snapshot snapshot rows e =
      let s = two_steps (list_in_form table parts snapshot.list files) (λ listed. entries_in_form table parts [] listed files >>= λ live. rows_in_form table parts [] live files >>= if_once live) rows e in
      let t = two_steps (entries_in_form table parts [] s.0 files) (λ live. rows_in_form table parts [] live files >>= if_once live) rows s.2 in
      let u = two_steps (rows_in_form table parts [] t.0 files) (if_once t.0) rows t.2 in
      let r = read_entries [] [] refl s.0 t.0 t.1 in
      let listed = read_list snapshot.list s.0 s.1 in
      ap (λ found. found >>= λ b. data_rows table parts [] (data_files_of b) files)
      (then_ok (list_at table parts snapshot.list files) (λ found. entries_at table parts [] found files >>= λ entries. Ok (state.Head snapshot.id found (set_of entries))) s.0 listed
      ∙ then_ok (entries_at table parts [] s.0 files) (λ entries. Ok (state.Head snapshot.id s.0 (set_of entries))) r.0 r.1)
      ∙ ap (λ live. data_rows table parts [] live files) r.2 ∙ read_rows [] t.0 u.0 u.1 ∙ ap Ok (unless_found (twice t.0) u.0 rows u.2)

  main_found : (name : List ℕ) (head : Option ℤ) (rows : List (List Value))
      → by_option head (λ id. or_fault name (snapshot_with id parts.snapshots) >>= λ snapshot. snapshot_in_form table parts snapshot files)
      (Ok []) ≡ Ok rows
      → (by_option head (λ id. head_at table parts (codes "main") id files) (Ok (without_head (codes "main"))) >>= λ found. data_rows table parts [] (data_files_of found) files) ≡ Ok rows
  unfolding head_at data_rows
  main_found name None rows e = cc
  main_found name (Some id) rows e =
      let s = two_steps (or_fault name (snapshot_with id parts.snapshots)) (λ snapshot. snapshot_in_form table parts snapshot files) rows e in
      ap (λ found. found >>= λ b. data_rows table parts [] (data_files_of b) files)
      (then_ok (or_fault (fault.Metadata (metadata.Ref (codes "main"))) (snapshot_with id parts.snapshots)) (λ snapshot. snapshot_at table parts snapshot files) s.0 (refault name (fault.Metadata (metadata.Ref (codes "main"))) (snapshot_with id parts.snapshots) s.0 s.1))
      ∙ read_snapshot s.0 rows s.2

  read_main : (name : List ℕ) (rows : List (List Value)) → main_in_form name table parts files ≡ Ok rows → rows_at table parts (codes "main") files ≡ Ok rows
  unfolding main_in_form rows_at branch_at
  read_main name rows e = main_found name (head_of (codes "main") parts.refs) rows e

pub read_metadata : (name : List ℕ) (version : ℕ) (bytes : List ℕ) (parts : Parts) → metadata_in_form name version bytes ≡ Ok parts → metadata_of bytes ≡ Ok parts
unfolding metadata_in_form
read_metadata name version bytes parts e =
    let s = two_steps (or_path name (metadata_of bytes)) (λ found. if_form name found (has_form version found)) parts e in
    unfault (λ g. name) (metadata_of bytes) s.0 s.1 ∙ ap Ok (formed name s.0 (has_form version s.0) parts s.2).0

pub read_version : (table : List ℕ) (version : ℕ) (files : Files) (rows : List (List Value))
    → version_in_form table version files ≡ Ok rows → rows_of_branch table version (codes "main") files ≡ Ok rows
unfolding version_in_form rows_of_branch version_at
read_version table version files rows e =
    let name = version_name table version in
    let s = two_steps (or_fault name (map.get files name)) (λ bytes. metadata_in_form name version bytes >>= λ parts. main_in_form name table parts files) rows e in
    let t = two_steps (metadata_in_form name version s.0) (λ parts. main_in_form name table parts files) rows s.2 in
    ap (λ found. found >>= λ parts. rows_at table parts (codes "main") files)
    (then_ok (bytes_under name name files) (λ bytes. fault_as fault.Metadata (metadata_of bytes)) s.0 (refault name (fault.Missing name) (map.get files name) s.0 s.1) ∙ ap (fault_as fault.Metadata) (read_metadata name version s.0 t.0 t.1))
    ∙ read_main table t.0 files name rows t.2

-- the metadata that is read for the rows is the version's, and of the form that is read
pub version_is : (table : List ℕ) (version : ℕ) (files : Files) (name bytes : List ℕ) (parts : Parts)
    → name ≡ version_name table version → or_fault name (map.get files name) ≡ Ok bytes
    → metadata_in_form name version bytes ≡ Ok parts → version_at table version files ≡ Ok parts
unfolding version_at
version_is table version files name bytes parts is there read =
    let named = version_name table version in
    let stands : bytes_under named named files ≡ Ok bytes = subst (λ (n : List ℕ). or_fault (fault.Missing n) (map.get files n) ≡ Ok bytes) is (refault name (fault.Missing name) (map.get files name) bytes there) in
    then_ok (bytes_under named named files) (λ b. fault_as fault.Metadata (metadata_of b)) bytes stands ∙ ap (fault_as fault.Metadata) (read_metadata name version bytes parts read)

pub form_is : (table : List ℕ) (version : ℕ) (files : Files) (rows : List (List Value))
    → version_in_form table version files ≡ Ok rows → (parts : Parts) × (version_at table version files ≡ Ok parts)
    × (has_form version parts ≡ true)
unfolding version_in_form metadata_in_form
form_is table version files rows e =
    let name = version_name table version in
    let s = two_steps (or_fault name (map.get files name)) (λ bytes. metadata_in_form name version bytes >>= λ parts. main_in_form name table parts files) rows e in
    let t = two_steps (metadata_in_form name version s.0) (λ parts. main_in_form name table parts files) rows s.2 in
    let u = two_steps (or_path name (metadata_of s.0)) (λ found. if_form name found (has_form version found)) t.0 t.1 in
    let f = formed name u.0 (has_form version u.0) t.0 u.2 in
    (t.0, version_is table version files name s.0 t.0 refl s.1 t.1, subst (λ (p : Parts). has_form version p ≡ true) f.0 f.1)

-- the current version of a table whose rows can be read
pub version_of_rows : (table : List ℕ) (files : Files) (rows : List (List Value)) → table_rows table files ≡ Ok rows
    → (version : ℕ) × (version_of table files ≡ Some version) × (version_in_form table version files ≡ Ok rows)
unfolding table_rows
version_of_rows table files rows e = of_found table files rows (version_of table files) refl e
  where
    of_found : (table : List ℕ) (files : Files) (rows : List (List Value)) (current : Option ℕ) → version_of table files ≡ current
        → by_option current (λ version. fault_as {F = Fault} (λ path. (Later, path)) (version_in_form table version files))
        (Err (NoVersion, table)) ≡ Ok rows
        → (version : ℕ) × (version_of table files ≡ Some version) × (version_in_form table version files ≡ Ok rows)
    of_found table files rows (Some version) is e = (version, is, unfault {F = Fault} (λ path. (Later, path)) (version_in_form table version files) rows e)
    of_found table files rows None is e = cc

pub rows_of_main : (table : List ℕ) (files : Files) (rows : List (List Value)) → table_rows table files ≡ Ok rows → (version : ℕ)
    × (version_of table files ≡ Some version) × (rows_of_branch table version (codes "main") files ≡ Ok rows)
rows_of_main table files rows e =
    let found = version_of_rows table files rows e in
    (found.0, found.1, read_version table found.0 files rows found.2)
