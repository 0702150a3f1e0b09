-- The script that bytes are, or the first fault: of the bytes as a whole, and then of the first item that has one.
--
--   script = { item ";" }
--
-- In an item a word that is none comes first, then what is out of form, unknown names, values of another kind, and limits.
use Rattle.std.specs.Prelude.{ℕ, nat_lt, length, List, [], ◌∷◌, ◌++◌, Bool, true, false, Option, Some, None, Ok, Err, ⊤, if◌then◌else◌}
use Rattle.plain_types.specs.Steps.{◌>>=◌}
use Rattle.row_values.specs.declared.schema.Column.{Column}
use Rattle.row_values.specs.declared.schema.TableSchema.{TableSchema}
use Rattle.script_words.specs.declared.word.Mark.TheVariants as mark
use Rattle.script_words.specs.declared.word.Word.{Word}
use Rattle.script_words.specs.declared.word.Word.TheVariants.{Bad, End, Mark}
use Rattle.script_words.specs.declared.word.Placed.{Placed}
use Rattle.script_words.specs.Words.{words_of}
use Rattle.sql_statements.specs.declared.statement.Statement.{Statement}
use Rattle.dml_parser.specs.declared.form.Within.{Within}
use Rattle.dml_parser.specs.declared.form.Within.TheVariants as within_what
use Rattle.dml_parser.specs.declared.raw.Item.{Item}
use Rattle.dml_parser.specs.declared.raw.Item.TheVariants as item
use Rattle.dml_parser.specs.declared.read.Progress.{Progress}
use Rattle.dml_parser.specs.declared.script.Script.{Script}
use Rattle.dml_parser.specs.declared.script.SessionItem.{SessionItem}
use Rattle.dml_parser.specs.declared.script.ScriptFault.TheVariants as fault
use Rattle.dml_parser.specs.Answer.{Parsed}
use Rattle.dml_parser.specs.Front.{line_of}
use Rattle.dml_parser.specs.Grammar.{item_at}
use Rattle.dml_parser.specs.Items.{delete_of, insert_of}
use Rattle.dml_parser.specs.Values.{text_of}

abbrev pub is_bad : Word → Bool
is_bad Bad = true
is_bad _ = false

abbrev pub is_end : Word → Bool
is_end End = true
is_end _ = false

abbrev pub is_semicolon : Word → Bool
is_semicolon (Mark mark.Semicolon) = true
is_semicolon _ = false

-- everything up to the item's semicolon is a word
unfoldable pub tokens_stand : List Placed → Parsed ⊤
tokens_stand [] = Ok tt
tokens_stand (first ∷ rest) =
    if is_bad first.word then Err (fault.Token first.line) else (if is_semicolon first.word then Ok tt else tokens_stand rest)

-- where the next item stands
abbrev pub within : Option (List ℕ) → Within
within None = within_what.Script
within (Some name) = within_what.Session

abbrev pub started : Progress
started = record { session = None; statements = [] }

abbrev pub with_session : Progress → List ℕ → Progress
with_session p name = record { session = Some name; statements = p.statements }

abbrev pub with_statement : Progress → Statement → Progress
with_statement p statement = record { session = p.session; statements = p.statements ++ statement ∷ [] }

-- what was read after one more item, which begins on this line
unfoldable pub after_item : List Column → Progress → ℕ → Item → Parsed Progress
after_item columns p line (item.Session name) = text_of name >>= λ text. Ok (with_session p text)
after_item columns p line (item.Insert rows) = insert_of columns (length p.statements) line rows >>= λ statement. Ok (with_statement p statement)
after_item columns p line (item.Delete equality) = delete_of columns (length p.statements) line equality >>= λ statement. Ok (with_statement p statement)

-- what was read after the item in front, and what follows it
unfoldable pub read_item : List Column → Progress → List Placed → Parsed (Progress × List Placed)
read_item columns p words = do
  _ ← tokens_stand words
  item ← item_at columns (within p.session) words
  after ← after_item columns p (line_of words) item.0
  Ok (after, item.1)

abbrev pub ends : List Placed → Bool
ends [] = true
ends (first ∷ rest) = is_end first.word

-- what was read of all items, fewer than there are words
unfoldable pub read_items : List Column → List Placed → Progress → List Placed → Parsed Progress
read_items columns [] p words = Ok p
read_items columns (_ ∷ bound) p words =
    if ends words then Ok p else (read_item columns p words >>= λ x. read_items columns bound x.0 x.1)

abbrev pub sessions_of : Option (List ℕ) → List Statement → List SessionItem
sessions_of None statements = []
sessions_of (Some name) statements = record { name = name; statements = statements } ∷ []

abbrev pub script_in : Progress → Script
script_in p = record { sessions = sessions_of p.session p.statements }

unfoldable pub script_in_text : List Column → List ℕ → Parsed Script
script_in_text columns text = do
  p ← read_items columns (words_of text) started (words_of text)
  Ok (script_in p)

-- the script that the bytes are, on a table of this schema: at most 1 MiB of UTF-8
unfoldable pub script_of : List ℕ → TableSchema → Parsed Script
script_of bytes schema =
    if nat_lt 1048576 (length bytes) then Err (fault.Limit 1) else (text_of bytes >>= script_in_text schema.columns)
