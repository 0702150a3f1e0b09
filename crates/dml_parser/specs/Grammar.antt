-- The grammar of an item, with the first word that is out of form.
--
--   item      = SESSION name | INSERT INTO t VALUES tuple {"," tuple} | DELETE FROM t [WHERE column "=" literal], then ";"
--   tuple     = "(" literal {"," literal} ")", with one literal for each column of the table
--   column    = name | name "." name
--
-- Forms that the whole language has and that are not read yet are told by the first word that is none of these.
use Rattle.std.specs.Prelude.{ℕ, ◌==◌, not, nat_eq, codes, length, List, [], ◌∷◌, ◌++◌, Bool, true, false, Option, Some, None, Ok, Err, if◌then◌else◌}
use Rattle.std.specs.Cmp.Lexicographic.{pointwise}
use Rattle.plain_types.specs.Steps.{◌>>=◌, fault_if}
use Rattle.row_values.specs.declared.schema.Column.{Column}
use Rattle.script_words.specs.declared.keyword.Keyword.TheVariants as key
use Rattle.script_words.specs.declared.word.Word.{Word}
use Rattle.script_words.specs.declared.word.Word.TheVariants.{Key}
use Rattle.script_words.specs.declared.word.Placed.{Placed}
use Rattle.dml_parser.specs.declared.raw.ColumnName.{ColumnName}
use Rattle.dml_parser.specs.declared.raw.Equality.{Equality}
use Rattle.dml_parser.specs.declared.raw.Item.{Item}
use Rattle.dml_parser.specs.declared.raw.Item.TheVariants.{Session, Insert, Delete}
use Rattle.dml_parser.specs.declared.raw.Literal.{Literal}
use Rattle.dml_parser.specs.declared.raw.PlacedName.{PlacedName}
use Rattle.dml_parser.specs.declared.front.Wanted.TheVariants as wanted
use Rattle.dml_parser.specs.declared.front.Later.TheVariants as later
use Rattle.dml_parser.specs.declared.form.Within.{Within}
use Rattle.dml_parser.specs.declared.form.Within.TheVariants as within
use Rattle.dml_parser.specs.declared.form.Beginning.{Beginning}
use Rattle.dml_parser.specs.declared.form.Beginning.TheVariants as begin
use Rattle.dml_parser.specs.declared.script.ScriptFault.TheVariants as fault
use Rattle.dml_parser.specs.Answer.{Parsed}
use Rattle.dml_parser.specs.Front.{line_of, refuse_later, skipped, wanted_at}
use Rattle.dml_parser.specs.Literals.{expression_at, literal_at, name_at, session_name_at}

abbrev pub is_table_name : List ℕ → Bool
is_table_name name = pointwise nat_eq name (codes "t")

-- what follows the table's name; a branch is not read yet
unfoldable pub table_at : List Placed → Parsed (List Placed)
table_at words = do
  name ← name_at words
  _ ← fault_if (fault.Form name.0.line) (not (is_table_name name.0.text))
  _ ← refuse_later later.Branch name.1
  Ok name.1

-- a comma, and true, or the parenthesis that closes the tuple; operators are not read yet
unfoldable pub more_at : List Placed → Parsed (Bool × List Placed)
more_at words = do
  _ ← refuse_later later.Arithmetic words
  if (skipped wanted.Comma words).0 then Ok (true, (skipped wanted.Comma words).1)
      else (wanted_at wanted.Close words >>= λ rest. Ok (false, rest))

-- one literal for each column: a tuple that is too short shows at its end, one that is too long at the first literal beyond
unfoldable pub row_at : List Column → List Literal → List Placed → Parsed (List Literal × List Placed)
row_at [] row words = Err (fault.Form (line_of words))
row_at (column ∷ columns) row words = do
  literal ← expression_at words
  more ← more_at literal.1
  if more.0 then row_at columns (row ++ literal.0 ∷ []) more.1
      else (if length columns == 0 then Ok (row ++ literal.0 ∷ [], more.1) else Err (fault.Form (line_of literal.1)))

unfoldable pub tuple_at : List Column → List Placed → Parsed (List Literal × List Placed)
tuple_at columns words = do
  rest ← wanted_at wanted.Open words
  row_at columns [] rest

-- tuples with commas between them, fewer than there are words
unfoldable pub rows_at : List Column → List Placed → List (List Literal) → List Placed → Parsed (List (List Literal) × List Placed)
rows_at columns [] rows words = Err (fault.Form (line_of words))
rows_at columns (_ ∷ bound) rows words = do
  row ← tuple_at columns words
  if (skipped wanted.Comma row.1).0 then rows_at columns bound (rows ++ row.0 ∷ []) (skipped wanted.Comma row.1).1
      else Ok (rows ++ row.0 ∷ [], row.1)

-- what follows INSERT; names of columns are not read yet
unfoldable pub insert_at : List Column → List Placed → Parsed (Item × List Placed)
insert_at columns words = do
  words ← wanted_at wanted.Into words
  words ← table_at words
  _ ← refuse_later later.Group words
  words ← wanted_at wanted.Values words
  rows ← rows_at columns words [] words
  rest ← wanted_at wanted.Semicolon rows.1
  Ok (Insert rows.0, rest)

unfoldable pub qualified_at : PlacedName → List Placed → Parsed (ColumnName × List Placed)
qualified_at name words =
    if (skipped wanted.Point words).0
    then (name_at (skipped wanted.Point words).1 >>= λ column. Ok (record { table = Some name; column = column.0 }, column.1))
    else Ok (record { table = None; column = name }, words)

unfoldable pub column_at : List Placed → Parsed (ColumnName × List Placed)
column_at words = do
  _ ← refuse_later later.Predicate words
  name ← name_at words
  qualified_at name.0 name.1

-- a column that equals a literal; other predicates are not read yet
unfoldable pub equality_at : List Placed → Parsed (Equality × List Placed)
equality_at words = do
  column ← column_at words
  _ ← refuse_later later.Comparison column.1
  rest ← wanted_at wanted.Equal column.1
  literal ← literal_at rest
  _ ← refuse_later later.Junction literal.1
  Ok (record { column = column.0; literal = literal.0 }, literal.1)

unfoldable pub filter_at : List Placed → Parsed (Option Equality × List Placed)
filter_at words =
    if (skipped wanted.Where words).0
    then (equality_at (skipped wanted.Where words).1 >>= λ equality. Ok (Some equality.0, equality.1))
    else Ok (None, words)

-- what follows DELETE
unfoldable pub delete_at : List Placed → Parsed (Item × List Placed)
delete_at words = do
  words ← wanted_at wanted.From words
  words ← table_at words
  filter ← filter_at words
  rest ← wanted_at wanted.Semicolon filter.1
  Ok (Delete filter.0, rest)

-- what follows SESSION
unfoldable pub session_at : List Placed → Parsed (Item × List Placed)
session_at words = do
  name ← session_name_at words
  rest ← wanted_at wanted.Semicolon name.1
  Ok (Session name.0.text, rest)

-- what a word begins: statements stand in a session alone, and a second session is not read yet
abbrev pub beginning_of : Within → Word → Beginning
beginning_of within.Script (Key key.Session) = begin.Session
beginning_of within.Script (Key key.Source) = begin.Later
beginning_of within.Script (Key key.Schedule) = begin.Later
beginning_of within.Session (Key key.Insert) = begin.Insert
beginning_of within.Session (Key key.Delete) = begin.Delete
beginning_of within.Session (Key key.Session) = begin.Later
beginning_of within.Session (Key key.Source) = begin.Later
beginning_of within.Session (Key key.Schedule) = begin.Later
beginning_of within.Session (Key key.Update) = begin.Later
beginning_of within.Session (Key key.Merge) = begin.Later
beginning_of within.Session (Key key.Alter) = begin.Later
beginning_of within.Session (Key key.Select) = begin.Later
beginning_of _ _ = begin.Nothing

abbrev pub begun_by : List Column → Beginning → ℕ → List Placed → Parsed (Item × List Placed)
begun_by columns begin.Session line rest = session_at rest
begun_by columns begin.Insert line rest = insert_at columns rest
begun_by columns begin.Delete line rest = delete_at rest
begun_by columns begin.Later line rest = Err (fault.Later line)
begun_by columns begin.Nothing line rest = Err (fault.Form line)

-- the item in front, and what follows its semicolon
unfoldable pub item_at : List Column → Within → List Placed → Parsed (Item × List Placed)
item_at columns w [] = Err (fault.Form 1)
item_at columns w (first ∷ rest) = begun_by columns (beginning_of w first.word) first.line rest
