-- Copy-on-write by the decisions of a statement leaves the rows that the statement leaves.
use Rattle.std.proofs.Common.{◌≡◌, ℕ, ◌+◌, ◌⊎◌, ⊎_elim, ◌&&◌, ◌||◌, not, Bool, true, false, cond, List, [], ◌∷◌, ◌++◌, append_assoc, append-nil, map, filter, flat_map, take, drop, length, Ok, refl, sym, ap, ◌∙◌, subst, inl, inr, arith, IsTrue}
use Rattle.std.specs.Prelude.{if◌then◌else◌}
use Rattle.std.specs.List.{list_any}
use Rattle.std.proofs.lemmas.Bool.{or_left, or_right}
use Rattle.std.proofs.lemmas.Grind.{flat_map-append}
use Rattle.std.proofs.lemmas.List.{take-append-drop}
use Rattle.std.proofs.lemmas.List.Folds.{list_any-append}
use Rattle.plain_types.specs.Bags.{In, SameBag, total}
use Rattle.plain_types.specs.Steps.{◌>>=◌}
use Rattle.plain_types.proofs.CallerLemmas.{In-append, In-append_left, In-append_right, In-filter, In-flat_map_from, SameBag-list_any, total-append, total-filter, total-flat_map, total-plus, total-weights, total-zero, one_value, two_steps}
use Rattle.row_values.specs.declared.value.Value.{Value}
use Rattle.sql_predicates.specs.declared.pred.Pred.{Pred}
use Rattle.sql_statements.specs.declared.effect.Effect.TheVariants as effects
use Rattle.sql_statements.specs.declared.statement.Source.{Source}
use Rattle.sql_statements.specs.declared.statement.Statement.{Statement}
use Rattle.sql_statements.specs.Clauses.{holds_on}
use Rattle.sql_statements.specs.Effects.{effect, insertions, remains, rows_after}
use Rattle.sql_statements.specs.Fits.{are_wide}
use Rattle.sql_statements.specs.NewRows.{row_of as row_made}
use Rattle.store_core.specs.Files.{Files}
use Rattle.manifest_files.specs.declared.entry.Entry.{Entry}
use Rattle.table_metadata.specs.Metadata.{Parts}
use Rattle.table_state.specs.Files.{data_file_at}
use Rattle.table_state.specs.Live.{data_rows}
use Rattle.change_sets.specs.declared.scanned.ScannedFile.{ScannedFile}
use Rattle.change_sets.specs.Laid.{without}
use Rattle.change_sets.specs.Same.{is_among, same_file}
use Rattle.change_sets.specs.Scanned.{entry_of, rows_in, rows_in_all}
use Rattle.table_scan.specs.Parting.{IsParted}
use Rattle.table_scan.specs.Scanning.{file_at, files_at, has_hit, in_path_order, place_of, rows_from, scanned_at, with_file, with_rows}
use Rattle.table_scan.proofs.RowLaws.{rows_stay}
use Rattle.change_sets.specs.Deciding.{copied_of, removed_of, written_of}
use Rattle.table_scan.specs.Decisions.{decision_for, decisions_of, hit_rows}
use Rattle.table_scan.proofs.FileDecisions.{KeepsMissed, changes, changes_file, copied_is, file_stays, left_in, removed_is, unchanged}
use Rattle.table_scan.proofs.WidthLaws.{wide_parts}

-- ---- tests of lists

none_any : {X : Type 0} (test : X → Bool) (xs : List X) → ((x : X) → In x xs → test x ≡ false) → list_any test xs ≡ false
none_any test [] none = refl
none_any test (x ∷ xs) none = ap (λ b. b || list_any test xs) (none x (inl refl)) ∙ none_any test xs (λ y there. none y (inr there))

some_any : {X : Type 0} (test : X → Bool) (x : X) (xs : List X) → In x xs → test x ≡ true → list_any test xs ≡ true
some_any test x [] there is = absurd there
some_any test x (y ∷ xs) (inl here) is = or_left (test y) (list_any test xs) (sym (ap test here) ∙ is)
some_any test x (y ∷ xs) (inr later) is = or_right (test y) (list_any test xs) (some_any test x xs later is)

any_of_filter : {X : Type 0} (test other : X → Bool) (xs : List X) → list_any test (filter other xs) ≡ list_any (λ x. other x && test x) xs
any_of_filter test other [] = refl
any_of_filter {X} test other (x ∷ xs) = by (other x) (any_of_filter test other xs)
  where
    by : (b : Bool) → list_any test (filter other xs) ≡ list_any (λ x. other x && test x) xs
        → list_any test (cond b (x ∷ filter other xs) (filter other xs)) ≡ ((b && test x) || list_any (λ x. other x && test x) xs)
    by true e = ap (λ c. test x || c) e
    by false e = e

or_false : (b : Bool) → (b || false) ≡ b
or_false true = refl
or_false false = refl

and_false : (b : Bool) → (b && false) ≡ false
and_false true = refl
and_false false = refl

among_is : (files : List ScannedFile) (entry : Entry)
    → is_among (map entry_of files) entry ≡ list_any (λ (file : ScannedFile). same_file file.entry entry) files
unfolding is_among
among_is [] entry = refl
among_is (file ∷ files) entry = by (same_file file.entry entry) (among_is files entry)
  where
    by : (b : Bool) → is_among (map entry_of files) entry ≡ list_any (λ (file : ScannedFile). same_file file.entry entry) files
        → (if b then true else is_among (map entry_of files) entry) ≡ (b || list_any (λ (file : ScannedFile). same_file file.entry entry) files)
    by true e = refl
    by false e = e

-- ---- what is scanned is read

in_one : (file : ScannedFile) (files : List ScannedFile) (one : ScannedFile) → In one (with_file file files) → (one ≡ file) ⊎ In one files
in_one file files one there =
    let at = place_of file.entry.path files in
    let whole : (take at files ++ drop at files) ≡ files = take-append-drop at files in
    ⊎_elim (λ before. inr (subst (In one) whole (In-append_left one (take at files) (drop at files) before)))
    (λ back. ⊎_elim (λ same. inl same) (λ behind. inr (subst (In one) whole (In-append_right one (take at files) (drop at files) behind))) back)
    (In-append one (take at files) (file ∷ drop at files) there)

in_order : (ordered files : List ScannedFile) (one : ScannedFile) → In one (in_path_order ordered files) → In one ordered ⊎ In one files
unfolding in_path_order
in_order ordered [] one there = inl there
in_order ordered (file ∷ files) one there =
    ⊎_elim (λ placed. ⊎_elim (λ same. inr (inl same)) (λ old. inl old) (in_one file ordered one placed)) (λ later. inr (inr later)) (in_order (with_file file ordered) files one there)

-- the statement keeps each of these rows of which the filter is not True
abbrev KeepsOutside : Pred → List Source → Statement → List (List Value) → Type 0
KeepsOutside pred sources s rows = (row : List Value) → In row rows → holds_on pred row ≡ false → effect sources s row ≡ effects.Keep

kept_from : (pred : Pred) (sources : List Source) (s : Statement) (at : ℕ) (rows : List (List Value))
    → KeepsOutside pred sources s rows → KeepsMissed sources s (rows_from pred at rows)
kept_from pred sources s at [] keeps = tt
kept_from pred sources s at (row ∷ rows) keeps = (keeps row (inl refl), kept_from pred sources s (at + 1) rows (λ one there. keeps one (inr there)))

module _ (table : List ℕ) (parts : Parts) (pred : Pred) (files : Files) where
  -- the file has the rows that stand at its path
  abbrev pub IsRead : ScannedFile → Type 0
  IsRead file = (rows : List (List Value)) × (data_file_at table parts file.entry.path files ≡ Ok rows) × (file ≡ with_rows pred file.entry rows)

  abbrev pub AreRead : List ScannedFile → Type 0
  AreRead read = (file : ScannedFile) → In file read → IsRead file

  is_read : (entry : Entry) (file : ScannedFile) → file_at table parts pred entry files ≡ Ok file → IsRead file
  unfolding file_at
  is_read entry file e =
      let s = two_steps (data_file_at table parts entry.path files) (λ rows. Ok (with_rows pred entry rows)) file e in
      let same : with_rows pred entry s.0 ≡ file = cc in
      subst IsRead same (s.0, s.1, refl)

  one_more : (earlier : List ScannedFile) (file : ScannedFile) → AreRead earlier → IsRead file → AreRead (earlier ++ file ∷ [])
  one_more earlier file are is one there =
      ⊎_elim (λ old. are one old) (λ last. ⊎_elim (λ same. subst IsRead (sym same) is) (λ none. absurd none) last) (In-append one earlier (file ∷ []) there)

  are_read : (earlier : List ScannedFile) (entries : List Entry) (all : List ScannedFile)
      → files_at table parts pred earlier entries files ≡ Ok all → AreRead earlier → AreRead all
  unfolding files_at
  are_read earlier [] all e are =
      let same : earlier ≡ all = cc in
      subst AreRead same are
  are_read earlier (entry ∷ entries) all e are =
      let s = two_steps (file_at table parts pred entry files) (λ file. files_at table parts pred (earlier ++ file ∷ []) entries files) all e in
      are_read (earlier ++ s.0 ∷ []) entries all s.2 (one_more earlier s.0 are (is_read entry s.0 s.1))

  kept_read : (sources : List Source) (s : Statement) (file : ScannedFile) → IsRead file
      → KeepsOutside pred sources s (rows_in file) → KeepsMissed sources s file.rows
  kept_read sources s file (rows, at, is) keeps = subst (λ (one : ScannedFile). KeepsMissed sources s one.rows) (sym is) (kept_from pred sources s 0 rows (subst (KeepsOutside pred sources s) (ap rows_in is ∙ rows_stay pred rows) keeps))

  own_rows : (file : ScannedFile) → IsRead file → data_file_at table parts file.entry.path files ≡ Ok (rows_in file)
  own_rows file (rows, at, is) = at ∙ ap Ok (sym (ap rows_in is ∙ rows_stay pred rows))

  -- a path has one list of rows
  same_rows : (file other : ScannedFile) → IsRead file → IsRead other → file.entry.path ≡ other.entry.path → rows_in file ≡ rows_in other
  same_rows file other is are path = one_value (rows_in file) (rows_in other) (data_file_at table parts file.entry.path files) (own_rows file is) (ap (λ at. data_file_at table parts at files) path ∙ own_rows other are)

  rows_read : (earlier : List (List Value)) (read : List ScannedFile) → AreRead read
      → data_rows table parts earlier (map entry_of read) files ≡ Ok (earlier ++ rows_in_all read)
  unfolding data_rows
  rows_read earlier [] are = ap Ok (sym (append-nil earlier))
  rows_read earlier (file ∷ read) are =
      ap (λ r. r >>= λ found. data_rows table parts (earlier ++ found) (map entry_of read) files) (own_rows file (are file (inl refl)))
      ∙ rows_read (earlier ++ rows_in file) read (λ one there. are one (inr there))
      ∙ ap Ok (append_assoc earlier (rows_in file) (rows_in_all read))

  scanned_are_read : (all scanned : List ScannedFile) → AreRead all → in_path_order [] (filter has_hit all) ≡ scanned → AreRead scanned
  scanned_are_read all scanned are ordered one there =
      ⊎_elim (λ none. absurd none) (λ within. are one (In-filter one has_hit all within).0) (in_order [] (filter has_hit all) one (subst (In one) (sym ordered) there))

  -- the files of a scan have the rows that stand at their paths
  pub scan_is_read : (entries : List Entry) (scanned : List ScannedFile) → scanned_at table parts pred entries files ≡ Ok scanned → AreRead scanned
  scan_is_read entries scanned is =
      let t = two_steps (files_at table parts pred [] entries files) (λ all. Ok (in_path_order [] (filter has_hit all))) scanned is in
      let ordered : in_path_order [] (filter has_hit t.0) ≡ scanned = cc in
      scanned_are_read t.0 scanned (are_read [] entries t.0 t.1 (λ file there. absurd there)) ordered

-- ---- what is left

module _ (sources : List Source) (s : Statement) where
  abbrev others_missed : List ScannedFile → Type 0
  others_missed others = (file : ScannedFile) → In file others → changes_file sources s file ≡ false

  left_rows : (files : List ScannedFile) → flat_map (remains sources s) (rows_in_all files) ≡ flat_map (left_in sources s) files
  left_rows [] = refl
  left_rows (file ∷ files) = flat_map-append (remains sources s) (rows_in file) (rows_in_all files) ∙ ap (λ (more : List (List Value)). left_in sources s file ++ more) (left_rows files)

  module _ (all scanned others : List ScannedFile) (parted : SameBag all (scanned ++ others)) (missed : others_missed others) where
    any_over : (test : ScannedFile → Bool)
        → list_any (λ file. changes_file sources s file && test file) scanned ≡ list_any (λ file. changes_file sources s file && test file) all
    any_over test =
        let both : ScannedFile → Bool = λ file. changes_file sources s file && test file in
        let none : list_any both others ≡ false = none_any both others (λ file there. ap (λ b. b && test file) (missed file there)) in
        sym (SameBag-list_any both all (scanned ++ others) parted ∙ list_any-append both scanned others ∙ ap (λ b. list_any both scanned || b) none ∙ or_false (list_any both scanned))

    module _ (weight : List Value → ℕ) where
      abbrev kept_weight : ScannedFile → ℕ
      kept_weight file = cond (not (changes_file sources s file)) (total weight (rows_in file)) 0

      abbrev copied_weight : ScannedFile → ℕ
      copied_weight file = cond (changes_file sources s file) (total weight (left_in sources s file)) 0

      one_weight : (file : ScannedFile) → kept_weight file + copied_weight file ≡ total weight (left_in sources s file)
      one_weight file = by (changes_file sources s file) (λ none. ap (total weight) (file_stays sources s file none))
        where
          by : (b : Bool) → (b ≡ false → total weight (left_in sources s file) ≡ total weight (rows_in file))
              → cond (not b)
              (total weight (rows_in file)) 0 + cond b (total weight (left_in sources s file)) 0 ≡ total weight (left_in sources s file)
          by true same = omega arith
          by false same =
              let own : total weight (left_in sources s file) ≡ total weight (rows_in file) = same refl in
              omega arith

      kept_total : total weight (rows_in_all (filter (λ file. not (changes_file sources s file)) all)) ≡ total kept_weight all
      kept_total = total-flat_map weight rows_in (filter (λ file. not (changes_file sources s file)) all) ∙ total-filter (λ file. total weight (rows_in file)) (λ file. not (changes_file sources s file)) all

      others_total : total copied_weight others ≡ 0
      others_total = total-weights copied_weight (λ file. 0) others (λ file there. ap (λ b. cond b (total weight (left_in sources s file)) 0) (missed file there)) ∙ total-zero others

      copied_total : total weight (flat_map (left_in sources s) (filter (changes_file sources s) scanned)) ≡ total copied_weight all
      copied_total =
          let own = total-flat_map weight (left_in sources s) (filter (changes_file sources s) scanned) ∙ total-filter (λ file. total weight (left_in sources s file)) (changes_file sources s) scanned in
          omega (arith, own, parted copied_weight, total-append copied_weight scanned others, others_total)

      pub weighed : total weight (rows_in_all (filter (λ file. not (changes_file sources s file)) all)) + total weight (flat_map (left_in sources s)
          (filter (changes_file sources s) scanned)) ≡ total weight (flat_map (remains sources s) (rows_in_all all))
      weighed =
          let whole = total-weights (λ file. kept_weight file + copied_weight file) (λ file. total weight (left_in sources s file)) all (λ file there. one_weight file) in
          let left = ap (total weight) (left_rows all) ∙ total-flat_map weight (left_in sources s) all in
          omega (arith, kept_total, copied_total, total-plus kept_weight copied_weight all, whole, left)

-- ---- the files that stay

left_entries : (removed : List Entry) (stays : ScannedFile → Bool) (files : List ScannedFile)
    → ((file : ScannedFile) → In file files → is_among removed file.entry ≡ not (stays file))
    → without removed (map entry_of files) ≡ map entry_of (filter stays files)
left_entries removed stays [] are = refl
left_entries removed stays (file ∷ files) are =
    ap (λ b. cond (not b) (file.entry ∷ without removed (map entry_of files)) (without removed (map entry_of files))) (are file (inl refl))
    ∙ ap (λ (more : List Entry). cond (not (not (stays file))) (file.entry ∷ more) more) (left_entries removed stays files (λ one there. are one (inr there)))
    ∙ by (stays file) (filter stays files)
  where
    by : (b : Bool) (more : List ScannedFile) → cond (not (not b)) (file.entry ∷ map entry_of more)
        (map entry_of more) ≡ map entry_of (cond b (file ∷ more) more)
    by true more = refl
    by false more = refl

not_not : (b : Bool) → b ≡ not (not b)
not_not true = refl
not_not false = refl

-- ---- the law

-- entries of one file, told by a test that each entry passes with itself, and only entries of one path pass together
module _ (itself : (entry : Entry) → same_file entry entry ≡ true) (paths : (one other : Entry) → same_file one other ≡ true → one.path ≡ other.path) where
  module _ (table : List ℕ) (parts : Parts) (pred : Pred) (files : Files) (sources : List Source) (s : Statement) where
    -- a file is among those that are removed where the statement changes it
    among_changed : (all scanned others : List ScannedFile) → SameBag all (scanned ++ others) → others_missed sources s others
        → AreRead table parts pred files all → (file : ScannedFile) → In file all
        → is_among (map entry_of (filter (changes_file sources s) scanned)) file.entry ≡ changes_file sources s file
    among_changed all scanned others parted missed are file there =
        among_is (filter (changes_file sources s) scanned) file.entry
        ∙ any_of_filter (λ (one : ScannedFile). same_file one.entry file.entry) (changes_file sources s) scanned
        ∙ any_over sources s all scanned others parted missed (λ (one : ScannedFile). same_file one.entry file.entry)
        ∙ by (changes_file sources s file) refl
      where
        apart : (one : ScannedFile) → In one all → changes_file sources s file ≡ false → (b : Bool)
            → same_file one.entry file.entry ≡ b → (changes_file sources s one && b) ≡ false
        apart one within none true same = ap (λ c. c && true) (ap (list_any (changes sources s)) (same_rows table parts pred files one file (are one within) (are file there) (paths one.entry file.entry same)) ∙ none)
        apart one within none false same = and_false (changes_file sources s one)

        by : (b : Bool) → changes_file sources s file ≡ b
            → list_any (λ (one : ScannedFile). changes_file sources s one && same_file one.entry file.entry) all ≡ b
        by true is = some_any (λ (one : ScannedFile). changes_file sources s one && same_file one.entry file.entry) file all there (ap (λ b. b && same_file file.entry file.entry) is ∙ itself file.entry)
        by false is = none_any (λ (one : ScannedFile). changes_file sources s one && same_file one.entry file.entry) all (λ one within. apart one within is (same_file one.entry file.entry) refl)

    abbrev Leaves : ℕ → List Entry → List ScannedFile → List (List Value) → Type 0
    Leaves width entries scanned rows = (rest : List (List Value))
        × (data_rows table parts [] (without (removed_of scanned (decisions_of sources s width scanned rows).rows) entries) files ≡ Ok rest)
        × SameBag (rest ++ written_of scanned (decisions_of sources s width scanned rows)) (rows_after width sources s rows)

    of_files : (width : ℕ) (all scanned others : List ScannedFile) → SameBag all (scanned ++ others)
        → others_missed sources s others → AreRead table parts pred files all → AreRead table parts pred files scanned
        → KeepsOutside pred sources s (rows_in_all scanned) → Leaves width (map entry_of all) scanned (rows_in_all all)
    of_files width all scanned others parted missed are read keeps =
        let kept = λ (file : ScannedFile) (there : In file scanned). kept_read table parts pred files sources s file (read file there) (λ row within. keeps row (In-flat_map_from row file rows_in scanned there within)) in
        let stays : ScannedFile → Bool = λ file. not (changes_file sources s file) in
        let removed : removed_of scanned (map (decision_for sources s) (hit_rows scanned)) ≡ map entry_of (filter (changes_file sources s) scanned) = removed_is sources s scanned kept in
        let copied : copied_of scanned (map (decision_for sources s) (hit_rows scanned)) ≡ flat_map (left_in sources s) (filter (changes_file sources s) scanned) = copied_is sources s scanned kept in
        let left = left_entries (map entry_of (filter (changes_file sources s) scanned)) stays all (λ file there. among_changed all scanned others parted missed are file there ∙ not_not (changes_file sources s file)) in
        let rest = rows_in_all (filter stays all) in (
          rest,
          ap (λ (gone : List Entry). data_rows table parts [] (without gone (map entry_of all)) files) removed
              ∙ ap (λ (entries : List Entry). data_rows table parts [] entries files) left
              ∙ rows_read table parts pred files [] (filter stays all) (λ file there. are file (In-filter file stays all there).0),
          λ weight.
              let made = map row_made (insertions width sources s (rows_in_all all)) in
              let copies = copied_of scanned (map (decision_for sources s) (hit_rows scanned)) in
              omega (
                arith,
                weighed sources s all scanned others parted missed weight,
                ap (total weight) copied,
                total-append weight rest (copies ++ made),
                total-append weight copies made,
                total-append weight (flat_map (remains sources s) (rows_in_all all)) made,
              ),
        )

    pub leaves : (entries : List Entry) (scanned : List ScannedFile) (width : ℕ) (rows : List (List Value))
        → IsParted table parts pred entries files scanned → scanned_at table parts pred entries files ≡ Ok scanned
        → data_rows table parts [] entries files ≡ Ok rows
        → ((row : List Value) → length row ≡ width → holds_on pred row ≡ false → effect sources s row ≡ effects.Keep) → IsTrue (are_wide width rows) → Leaves width entries scanned rows
    leaves entries scanned width rows p is found outside wide =
        let t = two_steps (files_at table parts pred [] entries files) (λ all. Ok (in_path_order [] (filter has_hit all))) scanned is in
        let same : t.0 ≡ p.all = one_value t.0 p.all (files_at table parts pred [] entries files) t.1 p.read in
        let are : AreRead table parts pred files t.0 = are_read table parts pred files [] entries t.0 t.1 (λ file there. absurd there) in
        let all_rows : rows_in_all t.0 ≡ rows = ap rows_in_all same ∙ one_value (rows_in_all p.all) rows (data_rows table parts [] entries files) p.of_rows found in
        let bags = subst (λ (found : List (List Value)). SameBag found (rows_in_all scanned ++ rows_in_all p.others)) (one_value (rows_in_all p.all) rows (data_rows table parts [] entries files) p.of_rows found) p.rows_parted in
        let parts_wide = wide_parts width rows (rows_in_all scanned) (rows_in_all p.others) bags wide in
        let left_out : (row : List Value) → In row (rows_in_all p.others) → changes sources s row ≡ false = λ row among. unchanged sources s row (outside row (parts_wide.1 row among) (p.missed row among)) in
        let missed : others_missed sources s p.others = λ file there. none_any (changes sources s) (rows_in file) (λ row within. left_out row (In-flat_map_from row file rows_in p.others there within)) in
        let parted : SameBag t.0 (scanned ++ p.others) = subst (λ (one : List ScannedFile). SameBag one (scanned ++ p.others)) (sym same) p.parted in
        let whole : map entry_of t.0 ≡ entries = ap (map entry_of) same ∙ p.of_entries in
        subst (λ (one : List (List Value)). Leaves width entries scanned one) all_rows
        (subst (λ (one : List Entry). Leaves width one scanned (rows_in_all t.0)) whole
        (of_files width t.0 scanned p.others parted missed are (scan_is_read table parts pred files entries scanned is)
        (λ row there. outside row (parts_wide.0 row there))))
