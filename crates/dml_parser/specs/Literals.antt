-- Literals and names. A literal is NULL, TRUE, FALSE, a number or a string; those of DATE, TIMESTAMP and X are not read yet.
use Rattle.std.specs.Prelude.{ℕ, ◌&&◌, nat_lt, nat_le, length, List, [], ◌∷◌, Bool, true, false, Ok, Err, ⊤, if◌then◌else◌}
use Rattle.plain_types.specs.Steps.{◌>>=◌, fault_if}
use Rattle.script_words.specs.PlainNames.{is_plain_name}
use Rattle.script_words.specs.declared.keyword.Keyword.{Keyword}
use Rattle.script_words.specs.declared.keyword.Keyword.TheVariants as key
use Rattle.script_words.specs.declared.word.Word.{Word}
use Rattle.script_words.specs.declared.word.Word.TheVariants as word
use Rattle.script_words.specs.declared.word.Placed.{Placed}
use Rattle.dml_parser.specs.declared.raw.Literal.{Literal}
use Rattle.dml_parser.specs.declared.raw.PlacedName.{PlacedName}
use Rattle.dml_parser.specs.declared.raw.Spelling.{Spelling}
use Rattle.dml_parser.specs.declared.raw.Spelling.TheVariants as spelling
use Rattle.dml_parser.specs.declared.front.Later.TheVariants as later
use Rattle.dml_parser.specs.declared.script.ScriptFault.{ScriptFault}
use Rattle.dml_parser.specs.declared.script.ScriptFault.TheVariants as fault
use Rattle.dml_parser.specs.Answer.{Parsed}
use Rattle.dml_parser.specs.Front.{refuse_later}

abbrev pub is_long_name : List ℕ → Bool
is_long_name name = nat_lt 64 (length name)

-- a name in the place of a literal: an expression with columns, which is not read yet
abbrev pub name_fault : List ℕ → ℕ → ScriptFault
name_fault name line = if is_long_name name then fault.Form line else fault.Later line

abbrev pub key_spelling : Keyword → ℕ → Parsed Spelling
key_spelling key.Null line = Ok spelling.Null
key_spelling key.True line = Ok (spelling.Bool true)
key_spelling key.False line = Ok (spelling.Bool false)
key_spelling key.Date line = Err (fault.Later line)
key_spelling key.Timestamp line = Err (fault.Later line)
key_spelling key.X line = Err (fault.Later line)
key_spelling _ line = Err (fault.Form line)

unfoldable pub spelling_of : Word → ℕ → Parsed Spelling
spelling_of (word.Key k) line = key_spelling k line
spelling_of (word.Name name) line = Err (name_fault name line)
spelling_of (word.Quoted name) line = Err (name_fault name line)
spelling_of (word.Number number) line = Ok (spelling.Number number)
spelling_of (word.Text text) line = Ok (spelling.Text text)
spelling_of _ line = Err (fault.Form line)

-- the literal in front, and what follows it
unfoldable pub literal_at : List Placed → Parsed (Literal × List Placed)
literal_at [] = Err (fault.Form 1)
literal_at (first ∷ rest) = do
  s ← spelling_of first.word first.line
  Ok (record { line = first.line; spelling = s }, rest)

-- the expression in front, of which only literals are read yet
unfoldable pub expression_at : List Placed → Parsed (Literal × List Placed)
expression_at words = do
  _ ← refuse_later later.Group words
  literal_at words

abbrev pub placed_name : Word → ℕ → Parsed PlacedName
placed_name (word.Name name) line = if is_long_name name then Err (fault.Form line) else Ok (record { line = line; text = name })
placed_name (word.Quoted name) line = if is_long_name name then Err (fault.Form line) else Ok (record { line = line; text = name })
placed_name _ line = Err (fault.Form line)

-- the name in front, and what follows it
unfoldable pub name_at : List Placed → Parsed (PlacedName × List Placed)
name_at [] = Err (fault.Form 1)
name_at (first ∷ rest) = do
  name ← placed_name first.word first.line
  Ok (name, rest)

abbrev pub is_session_name : List ℕ → Bool
is_session_name name = nat_le (length name) 32 && is_plain_name name

abbrev pub is_quoted : Word → Bool
is_quoted (word.Quoted name) = true
is_quoted _ = false

-- a session's name stands without backquotes
unfoldable pub unquoted : List Placed → Parsed ⊤
unquoted [] = Ok tt
unquoted (first ∷ rest) = fault_if (fault.Form first.line) (is_quoted first.word)

-- the session's name in front, and what follows it
unfoldable pub session_name_at : List Placed → Parsed (PlacedName × List Placed)
session_name_at words = do
  _ ← unquoted words
  name ← name_at words
  if is_session_name name.0.text then Ok name else Err (fault.Form name.0.line)
