-- What items have by their form: a tuple has a literal for each column, and a session has a plain name.
use Rattle.std.proofs.Common.{◌≡◌, ℕ, ◌+◌, ◌==◌, Bool, true, List, [], ◌∷◌, ◌++◌, length, length-append, Ok, Err, arith}
use Rattle.std.specs.Prelude.{⊤, if◌then◌else◌}
use Rattle.std.specs.List.{AllByRecursion}
use Rattle.std.proofs.lemmas.Bool.{eqb-true}
use Rattle.plain_types.specs.Steps.{◌>>=◌}
use Rattle.row_values.specs.declared.schema.Column.{Column}
use Rattle.script_words.specs.declared.word.Placed.{Placed}
use Rattle.dml_parser.specs.declared.form.Beginning.{Beginning}
use Rattle.dml_parser.specs.declared.form.Beginning.TheVariants as begin
use Rattle.dml_parser.specs.declared.form.Within.{Within}
use Rattle.dml_parser.specs.declared.front.Later.TheVariants as later
use Rattle.dml_parser.specs.declared.front.Wanted.TheVariants as wanted
use Rattle.dml_parser.specs.declared.raw.Item.{Item}
use Rattle.dml_parser.specs.declared.raw.Item.TheVariants.{Session, Insert, Delete}
use Rattle.dml_parser.specs.declared.raw.Literal.{Literal}
use Rattle.dml_parser.specs.declared.raw.PlacedName.{PlacedName}
use Rattle.dml_parser.specs.declared.script.ScriptFault.TheVariants as fault
use Rattle.dml_parser.specs.Answer.{Parsed}
use Rattle.dml_parser.specs.Front.{line_of, refuse_later, skipped, wanted_at}
use Rattle.dml_parser.specs.Grammar.{begun_by, beginning_of, delete_at, filter_at, insert_at, item_at, more_at, row_at, rows_at, session_at, table_at, tuple_at}
use Rattle.dml_parser.specs.Literals.{expression_at, is_session_name, name_at, session_name_at, unquoted}
use Rattle.dml_parser.specs.Read.{IsPlainName}
use Rattle.dml_parser.proofs.Stepwise.{all_pushed, carried, either}
use Rattle.plain_types.proofs.CallerLemmas.{two_steps}
use Rattle.dml_parser.proofs.ValueLaws.{HasWidth}

-- ---- tuples

abbrev after_more : List Column → List Literal → ℕ → Bool × List Placed → Parsed (List Literal × List Placed)
after_more columns row line more = if more.0 then row_at columns row more.1 else (if length columns == 0 then Ok (row, more.1) else Err (fault.Form line))

abbrev IsWide : List Column → List Literal → List Literal × List Placed → Type 0
IsWide columns row all = length all.0 ≡ length row + length columns

row_end : (columns : List Column) (row : List Literal) (line : ℕ) (more : Bool × List Placed) (all : List Literal × List Placed)
    → (row_at columns row more.1 ≡ Ok all → IsWide columns row all) → after_more columns row line more ≡ Ok all
    → IsWide columns row all
row_end columns row line more all further = either more.0 (row_at columns row more.1) (if length columns == 0 then Ok (row, more.1) else Err (fault.Form line)) all (λ _ h. further h) (λ _ h. ended h)
  where
    last : (length columns == 0) ≡ true → IsWide columns row (row, more.1)
    last e = let none = eqb-true (length columns) 0 e in omega (arith, none)

    ended : (if length columns == 0 then Ok (row, more.1) else Err (fault.Form line)) ≡ Ok all → IsWide columns row all
    ended = either (length columns == 0) (Ok (row, more.1)) (Err (fault.Form line)) all (λ e h. carried (IsWide columns row) (row, more.1) all h (last e)) (λ _ h. cc)

one_wider : (column : Column) (columns : List Column) (row : List Literal) (literal : Literal) (all : List Literal × List Placed)
    → IsWide columns (row ++ literal ∷ []) all → IsWide (column ∷ columns) row all
one_wider column columns row literal all wide =
    let longer = length-append row (literal ∷ []) in
    omega (arith, wide, longer)

row_width : (columns : List Column) (row : List Literal) (words : List Placed) (all : List Literal × List Placed)
    → row_at columns row words ≡ Ok all → IsWide columns row all
unfolding row_at
row_width [] row words all h = cc
row_width (column ∷ columns) row words all h =
    let l = two_steps (expression_at words) (λ literal. more_at literal.1 >>= after_more columns (row ++ literal.0 ∷ []) (line_of literal.1)) all h in
    let m = two_steps (more_at l.0.1) (after_more columns (row ++ l.0.0 ∷ []) (line_of l.0.1)) all l.2 in
    one_wider column columns row l.0.0 all
    (row_end columns (row ++ l.0.0 ∷ []) (line_of l.0.1) m.0 all (λ e. row_width columns (row ++ l.0.0 ∷ []) m.0.1 all e) m.2)

tuple_width : (columns : List Column) (words : List Placed) (all : List Literal × List Placed) → tuple_at columns words ≡ Ok all → HasWidth columns all.0
unfolding tuple_at
tuple_width columns words all h =
    let s = two_steps (wanted_at wanted.Open words) (row_at columns []) all h in
    let wide = row_width columns [] s.0 all s.2 in
    omega (arith, wide)

abbrev AreWide : List Column → List (List Literal) × List Placed → Type 0
AreWide columns all = AllByRecursion (HasWidth columns) all.0

abbrev after_tuple : List Column → List Placed → List (List Literal) → List Literal × List Placed → Parsed (List (List Literal) × List Placed)
after_tuple columns bound rows row =
    if (skipped wanted.Comma row.1).0 then rows_at columns bound (rows ++ row.0 ∷ []) (skipped wanted.Comma row.1).1 else Ok (rows ++ row.0 ∷ [], row.1)

rows_end : (columns : List Column) (bound : List Placed) (rows : List (List Literal)) (row : List Literal × List Placed)
    (all : List (List Literal) × List Placed) → AllByRecursion (HasWidth columns) (rows ++ row.0 ∷ [])
    → (rows_at columns bound (rows ++ row.0 ∷ []) (skipped wanted.Comma row.1).1 ≡ Ok all → AreWide columns all)
    → after_tuple columns bound rows row ≡ Ok all → AreWide columns all
rows_end columns bound rows row all wide further =
    either (skipped wanted.Comma row.1).0 (rows_at columns bound (rows ++ row.0 ∷ []) (skipped wanted.Comma row.1).1) (Ok (rows ++ row.0 ∷ [], row.1)) all
    (λ _ h. further h)
    (λ _ h. carried (AreWide columns) (rows ++ row.0 ∷ [], row.1) all h wide)

rows_width : (columns : List Column) (bound : List Placed) (rows : List (List Literal)) (words : List Placed)
    (all : List (List Literal) × List Placed) → AllByRecursion (HasWidth columns) rows → rows_at columns bound rows words ≡ Ok all
    → AreWide columns all
unfolding rows_at
rows_width columns [] rows words all are h = cc
rows_width columns (word ∷ bound) rows words all are h =
    let s = two_steps (tuple_at columns words) (after_tuple columns bound rows) all h in
    let wide = all_pushed (HasWidth columns) rows s.0.0 are (tuple_width columns words s.0 s.1) in
    rows_end columns bound rows s.0 all wide (λ e. rows_width columns bound (rows ++ s.0.0 ∷ []) (skipped wanted.Comma s.0.1).1 all wide e) s.2

-- ---- items

abbrev pub IsFormed : List Column → Item → Type 0
IsFormed columns (Session name) = IsPlainName name
IsFormed columns (Insert rows) = AllByRecursion (HasWidth columns) rows
IsFormed columns (Delete filter) = ⊤

abbrev IsFormedOf : List Column → Item × List Placed → Type 0
IsFormedOf columns all = IsFormed columns all.0

insert_formed : (columns : List Column) (words : List Placed) (all : Item × List Placed) → insert_at columns words ≡ Ok all → IsFormedOf columns all
unfolding insert_at
insert_formed columns words all h =
    let into = two_steps (wanted_at wanted.Into words) _ all h in
    let table = two_steps (table_at into.0) _ all into.2 in
    let group = two_steps (refuse_later later.Group table.0) _ all table.2 in
    let values = two_steps (wanted_at wanted.Values table.0) _ all group.2 in
    let rows = two_steps (rows_at columns values.0 [] values.0) _ all values.2 in
    let rest = two_steps (wanted_at wanted.Semicolon rows.0.1) _ all rows.2 in
    carried (IsFormedOf columns) (Insert rows.0.0, rest.0) all rest.2 (rows_width columns values.0 [] values.0 rows.0 tt rows.1)

delete_formed : (columns : List Column) (words : List Placed) (all : Item × List Placed) → delete_at words ≡ Ok all → IsFormedOf columns all
unfolding delete_at
delete_formed columns words all h =
    let from = two_steps (wanted_at wanted.From words) _ all h in
    let table = two_steps (table_at from.0) _ all from.2 in
    let filter = two_steps (filter_at table.0) _ all table.2 in
    let rest = two_steps (wanted_at wanted.Semicolon filter.0.1) _ all filter.2 in
    carried (IsFormedOf columns) (Delete filter.0.0, rest.0) all rest.2 tt

name_is_plain : (words : List Placed) (name : PlacedName × List Placed) → session_name_at words ≡ Ok name → IsPlainName name.0.text
unfolding session_name_at
name_is_plain words name h =
    let plain = two_steps (unquoted words) _ name h in
    let s = two_steps (name_at words) _ name plain.2 in
    either (is_session_name s.0.0.text) (Ok s.0) (Err (fault.Form s.0.0.line)) name (λ e h. carried (λ n. IsPlainName n.0.text) s.0 name h e) (λ _ h. cc) s.2

session_formed : (columns : List Column) (words : List Placed) (all : Item × List Placed) → session_at words ≡ Ok all → IsFormedOf columns all
unfolding session_at
session_formed columns words all h =
    let name = two_steps (session_name_at words) _ all h in
    let rest = two_steps (wanted_at wanted.Semicolon name.0.1) _ all name.2 in
    carried (IsFormedOf columns) (Session name.0.0.text, rest.0) all rest.2 (name_is_plain words name.0 name.1)

begun_formed : (columns : List Column) (b : Beginning) (line : ℕ) (rest : List Placed) (all : Item × List Placed)
    → begun_by columns b line rest ≡ Ok all → IsFormedOf columns all
begun_formed columns begin.Session line rest all h = session_formed columns rest all h
begun_formed columns begin.Insert line rest all h = insert_formed columns rest all h
begun_formed columns begin.Delete line rest all h = delete_formed columns rest all h
begun_formed columns begin.Later line rest all h = cc
begun_formed columns begin.Nothing line rest all h = cc

pub item_is_formed : (columns : List Column) (w : Within) (words : List Placed) (all : Item × List Placed)
    → item_at columns w words ≡ Ok all → IsFormed columns all.0
unfolding item_at
item_is_formed columns w [] all h = cc
item_is_formed columns w (first ∷ rest) all h = begun_formed columns (beginning_of w first.word) first.line rest all h
