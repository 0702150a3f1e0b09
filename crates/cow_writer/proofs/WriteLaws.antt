-- One file more is written.
use Rattle.std.proofs.Common.{◌≡◌, ◌≤◌, ◌<◌, ◌-◌, ◌^◌, ℕ, true, List, [], ◌∷◌, ◌++◌, length, get_or, take, drop, append_assoc, append-nil, Option, Some, None, option_map, refl, sym, ap, ◌∙◌, subst, arith}
use Rattle.std.specs.List.{list_all}
use Rattle.std.proofs.lemmas.Bool.{and_parts}
use Rattle.std.proofs.lemmas.List.{take_all}
use Rattle.row_values.specs.declared.schema.Column.{Column}
use Rattle.row_values.specs.declared.value.Value.{Value}
use Rattle.row_values.specs.Rows.{is_row}
use Rattle.store_core.specs.Files.{Files, with_file}
use Rattle.table_names.specs.declared.names.Names.{Names}
use Rattle.manifest_files.specs.declared.entry.Entry.{Entry}
use Rattle.row_writer.specs.RowsText.{rows_text}
use Rattle.table_metadata.specs.declared.metadata.Metadata.{Metadata}
use Rattle.cow_writer.specs.Copies.{behind, entries_from, entry_at, files_from, next_name}
use Rattle.cow_writer.specs.Reading.{AreShort}

abbrev Piece : Type 0
Piece = List (List Value)

-- what is behind the first of a list
abbrev pub later_of : List Piece → List Piece
later_of rest = take (length rest - 1) (drop 1 rest)

pub first_and_later : (rest : List Piece) (piece : Piece) → 1 ≤ length rest → piece ≡ get_or rest 0 piece → rest ≡ piece ∷ later_of rest
first_and_later [] piece some is = absurd (omega arith)
first_and_later (first ∷ rest) piece some is =
    let count : length (first ∷ rest) - 1 ≡ length rest = omega arith in
    let all : take (length (first ∷ rest) - 1) rest ≡ rest = ap (λ n. take n rest) count ∙ take_all (length rest) rest (omega arith) in
    let one : first ≡ piece = sym is in
    ap (λ (p : Piece). p ∷ rest) one ∙ ap (λ more. piece ∷ more) (sym all)

pub nothing_left : {X : Type 0} (xs : List X) → length xs < 1 → xs ≡ []
nothing_left [] few = refl
nothing_left (x ∷ xs) few = absurd (omega arith)

module _ (m : Metadata) (names later : Names) (entries next all : List Entry) (rest : List Piece) (piece : Piece) (entry : Entry) where
  pub entries_step : rest ≡ piece ∷ later_of rest → entry ≡ entry_at m names piece → later ≡ behind 1 names
      → next ≡ entries ++ entry ∷ [] → entries ++ entries_from m names rest ≡ all
      → next ++ entries_from m later (later_of rest) ≡ all
  unfolding entries_from
  entries_step is one drawn more h =
      ap (λ xs. xs ++ entries_from m later (later_of rest)) more
      ∙ append_assoc entries (entry ∷ []) (entries_from m later (later_of rest))
      ∙ ap (λ (e : Entry). entries ++ e ∷ entries_from m later (later_of rest)) one
      ∙ ap (λ (n : Names). entries ++ entry_at m names piece ∷ entries_from m n (later_of rest)) drawn
      ∙ sym (ap (λ (left : List Piece). entries ++ entries_from m names left) is)
      ∙ h

pub entries_end : (m : Metadata) (names : Names) (entries all : List Entry) (rest : List Piece) → length rest < 1
    → entries ++ entries_from m names rest ≡ all → entries ≡ all
unfolding entries_from
entries_end m names entries all rest none h = sym (append-nil entries) ∙ sym (ap (λ (left : List Piece). entries ++ entries_from m names left) (nothing_left rest none)) ∙ h

module _ (columns : List Column) (table : List ℕ) (names later : Names) (rest : List Piece) (piece : Piece) where
  composed : (old : Option Files) (f g : Files → Files) → option_map f (option_map g old) ≡ option_map (λ files. f (g files)) old
  composed (Some files) f g = refl
  composed None f g = refl

  pub files_step : (old new all : Option Files) → rest ≡ piece ∷ later_of rest → later ≡ behind 1 names
      → new ≡ option_map (with_file (next_name table names) (rows_text columns piece)) old
      → option_map (λ files. files_from columns table names files rest) old ≡ all
      → option_map (λ files. files_from columns table later files (later_of rest)) new ≡ all
  unfolding files_from
  files_step old new all is drawn put h =
      ap (option_map (λ files. files_from columns table later files (later_of rest))) put
      ∙ composed old (λ files. files_from columns table later files (later_of rest)) (with_file (next_name table names) (rows_text columns piece))
      ∙ ap (λ (n : Names). option_map (λ files. files_from columns table n (with_file (next_name table names) (rows_text columns piece) files) (later_of rest)) old) drawn
      ∙ sym (ap (λ (left : List Piece). option_map (λ files. files_from columns table names files left) old) is)
      ∙ h

same_files : (old : Option Files) → option_map (λ files. files) old ≡ old
same_files (Some files) = refl
same_files None = refl

pub files_end : (columns : List Column) (table : List ℕ) (names : Names) (rest : List Piece) (old all : Option Files)
    → length rest < 1 → option_map (λ files. files_from columns table names files rest) old ≡ all → old ≡ all
unfolding files_from
files_end columns table names rest old all none h =
    sym (same_files old) ∙ sym (ap (λ (left : List Piece). option_map (λ files. files_from columns table names files left) old) (nothing_left rest none)) ∙ h

pub rows_step : (columns : List Column) (rest : List Piece) (piece : Piece) → rest ≡ piece ∷ later_of rest
    → list_all (list_all (is_row columns)) rest ≡ true → (list_all (is_row columns) piece ≡ true)
    × (list_all (list_all (is_row columns)) (later_of rest) ≡ true)
rows_step columns rest piece is h = and_parts (list_all (is_row columns) piece) (list_all (list_all (is_row columns)) (later_of rest)) (sym (ap (list_all (list_all (is_row columns))) is) ∙ h)

pub short_step : (columns : List Column) (rest all : List Piece) (piece : Piece) → rest ≡ piece ∷ later_of rest
    → length (rows_text columns piece) < 2 ^ 63 → (AreShort columns rest → AreShort columns all)
    → AreShort columns (later_of rest) → AreShort columns all
short_step columns rest all piece is short h later = h (subst (AreShort columns) (sym is) (short, later))
