-- The rows of data files, weighed file by file.
use Rattle.std.proofs.Common.{◌≡◌, ℕ, List, [], ◌∷◌, ◌++◌, map, Result, Ok, Err, refl, sym, ap, ◌∙◌, append_assoc, append-nil, arith}
use Rattle.plain_types.proofs.CallerLemmas.{total-append, total-map, two_steps}
use Rattle.plain_types.specs.Bags.{SameBag, total}
use Rattle.plain_types.specs.Steps.{◌>>=◌}
use Rattle.row_values.specs.declared.value.Value.{Value}
use Rattle.store_core.specs.Files.{Files}
use Rattle.manifest_files.specs.declared.entry.Entry.{Entry}
use Rattle.table_metadata.specs.Metadata.{Parts}
use Rattle.table_state.specs.declared.load_fault.LoadFault.{LoadFault}
use Rattle.table_state.specs.Files.{data_file_at}
use Rattle.table_state.specs.Live.{data_rows}
use Rattle.change_sets.specs.Laid.{as_kept}

abbrev Read : Type 0
Read = Result (List (List Value)) LoadFault

-- the rows of a file that is read, and none of another
abbrev rows_of : Read → List (List Value)
rows_of (Ok rows) = rows
rows_of (Err f) = []

-- 1 for a file that isn't read
abbrev unread : Read → ℕ
unread (Ok rows) = 0
unread (Err f) = 1

module _ (table : List ℕ) (parts : Parts) (files : Files) where
  abbrev own : Entry → List (List Value)
  own entry = rows_of (data_file_at table parts entry.path files)

  abbrev lacking : Entry → ℕ
  lacking entry = unread (data_file_at table parts entry.path files)

  abbrev all : List Entry → List (List Value)
  all [] = []
  all (entry ∷ entries) = own entry ++ all entries

  read_one : (r : Read) (next : List (List Value) → Read) (rows : List (List Value)) → unread r ≡ 0 → next (rows_of r) ≡ Ok rows → (r >>= next) ≡ Ok rows
  read_one (Ok own_rows) next rows h e = e
  read_one (Err f) next rows h e = absurd (omega arith)

  read_all : (earlier : List (List Value)) (entries : List Entry) → total lacking entries ≡ 0
      → data_rows table parts earlier entries files ≡ Ok (earlier ++ all entries)
  unfolding data_rows
  read_all earlier [] h = ap Ok (sym (append-nil earlier))
  read_all earlier (entry ∷ entries) h =
      read_one (data_file_at table parts entry.path files) (λ rows. data_rows table parts (earlier ++ rows) entries files) (earlier ++ (own entry ++ all entries)) (omega arith)
      (read_all (earlier ++ own entry) entries (omega arith) ∙ ap Ok (append_assoc earlier (own entry) (all entries)))

  none_lacking : (earlier : List (List Value)) (entries : List Entry) (rows : List (List Value))
      → data_rows table parts earlier entries files ≡ Ok rows → total lacking entries ≡ 0
  unfolding data_rows
  none_lacking earlier [] rows e = refl
  none_lacking earlier (entry ∷ entries) rows e =
      let read = two_steps (data_file_at table parts entry.path files) (λ found. data_rows table parts (earlier ++ found) entries files) rows e in
      let first : lacking entry ≡ 0 = ap unread read.1 in
      omega (arith, first, none_lacking (earlier ++ read.0) entries rows read.2)

  all_weigh : (w : List Value → ℕ) (entries : List Entry) → total w (all entries) ≡ total (λ entry. total w (own entry)) entries
  all_weigh w [] = refl
  all_weigh w (entry ∷ entries) = omega (arith, total-append w (own entry) (all entries), all_weigh w entries)

  -- what a weight of the path alone gives
  by_path : (v : List ℕ → ℕ) (others entries : List Entry) → SameBag (map as_kept others) (map as_kept entries)
      → total (λ entry. v entry.path) others ≡ total (λ entry. v entry.path) entries
  by_path v others entries same =
      sym (total-map (λ entry. v entry.path) as_kept others) ∙ same (λ entry. v entry.path) ∙ total-map (λ entry. v entry.path) as_kept entries

  pub same_rows : (others entries : List Entry) (rows : List (List Value)) → SameBag (map as_kept others) (map as_kept entries)
      → data_rows table parts [] entries files ≡ Ok rows → (found : List (List Value))
      × (data_rows table parts [] others files ≡ Ok found) × SameBag found rows
  same_rows others entries rows same e =
      let none : total lacking entries ≡ 0 = none_lacking [] entries rows e in
      let none_of_others : total lacking others ≡ 0 = by_path (λ path. unread (data_file_at table parts path files)) others entries same ∙ none in
      let whole : rows ≡ all entries = one_read (sym e ∙ read_all [] entries none) in
      (all others, read_all [] others none_of_others, λ w. all_weigh w others ∙ by_path (λ path. total w (rows_of (data_file_at table parts path files))) others entries same ∙ sym (all_weigh w entries) ∙ ap (total w) (sym whole))
    where
      one_read : {a b : List (List Value)} → (let r : Read = Ok a in r) ≡ Ok b → a ≡ b
      one_read h = cc
