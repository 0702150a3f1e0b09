-- What was read of a script so far, and its steps.
use Rattle.std.specs.Prelude.{ℕ, ◌+◌, ◌-◌, ◌^◌, min, List, [], ◌∷◌, ◌++◌, Bool, true, false}
use Rattle.script_words.specs.declared.keyword.Keyword.TheVariants as key
use Rattle.script_words.specs.declared.word.Mark.TheVariants as mark
use Rattle.script_words.specs.declared.word.Word.{Word}
use Rattle.script_words.specs.declared.word.Word.TheVariants.{Key, Name, Quoted, Number, Text, Mark, End}
use Rattle.script_words.specs.declared.word.Placed.{Placed}
use Rattle.script_words.specs.declared.lexer.State.{State}
use Rattle.script_words.specs.declared.lexer.State.TheVariants as state
use Rattle.script_words.specs.declared.lexer.Lexer.{Lexer}

-- the word is a name, a literal or a closing parenthesis
abbrev pub is_operand : Word → Bool
is_operand (Name bytes) = true
is_operand (Quoted bytes) = true
is_operand (Number bytes) = true
is_operand (Text bytes) = true
is_operand (Mark mark.Close) = true
is_operand (Key key.Null) = true
is_operand (Key key.True) = true
is_operand (Key key.False) = true
is_operand _ = false

-- before the first byte
abbrev pub fresh : Lexer
fresh = record { state = state.Between; line = 1; begun = 1; last = 1; operand = false; held = []; words = [] }

-- a word begins here
abbrev pub started : State → Lexer → Lexer
started s l = record { state = s; line = l.line; begun = l.line; last = l.last; operand = l.operand; held = l.held; words = l.words }

abbrev pub turned : State → Lexer → Lexer
turned s l = record { state = s; line = l.line; begun = l.begun; last = l.last; operand = l.operand; held = l.held; words = l.words }

-- one more byte of the word in hand
abbrev pub kept : ℕ → Lexer → Lexer
kept byte l = record { state = l.state; line = l.line; begun = l.begun; last = l.last; operand = l.operand; held = l.held ++ byte ∷ []; words = l.words }

-- the text of the word in hand is taken
abbrev pub emptied : Lexer → Lexer
emptied l = record { state = l.state; line = l.line; begun = l.begun; last = l.last; operand = l.operand; held = []; words = l.words }

-- the word in hand is this one, on the line that it began on
abbrev pub put : Word → Lexer → Lexer
put word l = record { state = state.Between; line = l.line; begun = l.begun; last = l.begun; operand = is_operand word; held = l.held; words = l.words ++ record { word = word; line = l.begun } ∷ [] }

-- the line ends here
abbrev pub next_line : Lexer → Lexer
next_line l = record { state = l.state; line = min (l.line + 1) (2 ^ 32 - 1); begun = l.begun; last = l.last; operand = l.operand; held = l.held; words = l.words }

-- the words, with the end on the line of the last word
abbrev pub ended : Lexer → List Placed
ended l = l.words ++ record { word = End; line = l.last } ∷ []
