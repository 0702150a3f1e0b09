-- One manifest more of those that are put under the next names.
use Rattle.std.proofs.Common.{◌≡◌, ◌≤◌, ◌-◌, List, [], ◌∷◌, ◌++◌, length, take, drop, ℕ, Option, Some, None, option_map, Result, Ok, Err, OnOk, get_or, refl, sym, ap, ◌∙◌, append-nil, arith}
use Rattle.std.proofs.lemmas.List.{take_at}
use Rattle.row_values.specs.declared.schema.TableSchema.{TableSchema}
use Rattle.store_core.specs.Files.{Files, with_file}
use Rattle.table_names.specs.declared.names.Names.{Names}
use Rattle.manifest_files.specs.declared.manifest_row.ManifestRow.{ManifestRow}
use Rattle.commit_manifests.specs.declared.commit_numbers.CommitNumbers.{CommitNumbers}
use Rattle.table_state.specs.declared.state.State.{State}
use Rattle.commit_manifests.specs.declared.drafts.Draft.{Draft}
use Rattle.manifest_writer.specs.ListDatum.{list_text}
use Rattle.change_sets.specs.declared.change.ChangeSet.{ChangeSet}
use Rattle.commit_builder.specs.Commits.{drawn, files_after, files_from, list_names, manifests_after, next_name, row_in, rows_from, rows_in, text_in}

module _ (head : State) (schema : TableSchema) (numbers : CommitNumbers) (names later : Names) (draft : Draft) (rest after : List Draft) where
  pub rows_step : (rows pushed : List ManifestRow) (row : ManifestRow) → rest ≡ draft ∷ after → later ≡ drawn names
      → row ≡ row_in head schema numbers names draft → pushed ≡ rows ++ row ∷ []
      → rows_from head schema numbers later pushed after ≡ rows_from head schema numbers names rows rest
  unfolding rows_from
  rows_step rows pushed row is_rest is_later is_row is_pushed =
      ap (λ (n : Names). rows_from head schema numbers n pushed after) is_later
      ∙ ap (λ (r : List ManifestRow). rows_from head schema numbers (drawn names) r after) (is_pushed ∙ ap (λ (one : ManifestRow). rows ++ one ∷ []) is_row)
      ∙ ap (λ (drafts : List Draft). rows_from head schema numbers names rows drafts) (sym is_rest)

  pub files_step : (old new : Option Files) (bytes : List ℕ) → rest ≡ draft ∷ after → later ≡ drawn names
      → bytes ≡ text_in head schema draft → new ≡ option_map (with_file (next_name head.table names) bytes) old
      → option_map (λ files. files_from head schema numbers later files after) new ≡ option_map (λ files. files_from head schema numbers names files rest) old
  unfolding files_from
  files_step (Some files) new bytes is_rest is_later is_bytes is_new =
      ap (λ (held : Option Files). option_map (λ files. files_from head schema numbers later files after) held) (is_new ∙ ap (λ (b : List ℕ). Some (with_file (next_name head.table names) b files)) is_bytes)
      ∙ ap (λ (n : Names). Some (files_from head schema numbers n (with_file (next_name head.table names) (text_in head schema draft) files) after)) is_later
      ∙ ap (λ (drafts : List Draft). Some (files_from head schema numbers names files drafts)) (sym is_rest)
  files_step None new bytes is_rest is_later is_bytes is_new =
      ap (λ (held : Option Files). option_map (λ files. files_from head schema numbers later files after) held) is_new

-- ---- the first of a list, and the others

all_of : (xs : List Draft) → take (length xs) xs ≡ xs
all_of xs = ap (take (length xs)) (sym (append-nil xs)) ∙ take_at xs [] (length xs) refl

pub first_and_rest : (xs : List Draft) (x : Draft) → x ≡ get_or xs 0 x → 1 ≤ length xs → xs ≡ x ∷ take (length xs - 1) (drop 1 xs)
first_and_rest [] x e some = absurd (omega arith)
first_and_rest (y ∷ ys) x e some =
    let left : length (y ∷ ys) - 1 ≡ length ys = omega arith in
    ap (λ z. z ∷ ys) (sym e) ∙ ap (λ zs. x ∷ zs) (sym (all_of ys)) ∙ ap (λ n. x ∷ take n ys) (sym left)

-- ---- the list

pub list_step : (head : State) (change : ChangeSet) (names later : Names) (rows : List ManifestRow)
    (old middle new : Option Files) → later ≡ list_names head change names → rows ≡ rows_in head change names
    → middle ≡ option_map (manifests_after head change names) old
    → new ≡ option_map (with_file (next_name head.table later) (list_text rows)) middle
    → new ≡ option_map (files_after head change names) old
list_step head change names later rows (Some files) middle new is_later is_rows is_middle is_new =
    is_new
    ∙ ap (λ (held : Option Files). option_map (with_file (next_name head.table later) (list_text rows)) held) is_middle
    ∙ ap (λ (n : Names). Some (with_file (next_name head.table n) (list_text rows) (manifests_after head change names files))) is_later
    ∙ ap (λ (r : List ManifestRow). Some (with_file (next_name head.table (list_names head change names)) (list_text r) (manifests_after head change names files))) is_rows
list_step head change names later rows None middle new is_later is_rows is_middle is_new =
    is_new ∙ ap (λ (held : Option Files). option_map (with_file (next_name head.table later) (list_text rows)) held) is_middle

pub on_ok : {T E P Q : Type 0} (r : Result T E) → OnOk r P → (P → Q) → OnOk r Q
on_ok (Ok x) p f = f p
on_ok (Err e) p f = p
