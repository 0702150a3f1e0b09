-- The word in front: what has to stand there, and what stands there in a form that is not read yet.
use Rattle.std.specs.Prelude.{ℕ, List, [], ◌∷◌, Bool, true, false, Ok, Err, ⊤, if◌then◌else◌}
use Rattle.plain_types.specs.Steps.{fault_if}
use Rattle.script_words.specs.declared.keyword.Keyword.TheVariants as key
use Rattle.script_words.specs.declared.word.Mark.TheVariants as mark
use Rattle.script_words.specs.declared.word.Word.{Word}
use Rattle.script_words.specs.declared.word.Word.TheVariants.{Key, Number, Text, Mark}
use Rattle.script_words.specs.declared.word.Placed.{Placed}
use Rattle.dml_parser.specs.declared.front.Wanted.{Wanted}
use Rattle.dml_parser.specs.declared.front.Wanted.TheVariants as wanted
use Rattle.dml_parser.specs.declared.front.Later.{Later}
use Rattle.dml_parser.specs.declared.front.Later.TheVariants as later
use Rattle.dml_parser.specs.declared.script.ScriptFault.TheVariants as fault
use Rattle.dml_parser.specs.Answer.{Parsed}

-- the line of the word in front; words always have an end
abbrev pub line_of : List Placed → ℕ
line_of [] = 1
line_of (first ∷ rest) = first.line

abbrev pub is_wanted : Wanted → Word → Bool
is_wanted wanted.From (Key key.From) = true
is_wanted wanted.Into (Key key.Into) = true
is_wanted wanted.Values (Key key.Values) = true
is_wanted wanted.Where (Key key.Where) = true
is_wanted wanted.Open (Mark mark.Open) = true
is_wanted wanted.Close (Mark mark.Close) = true
is_wanted wanted.Comma (Mark mark.Comma) = true
is_wanted wanted.Semicolon (Mark mark.Semicolon) = true
is_wanted wanted.Point (Mark mark.Point) = true
is_wanted wanted.Equal (Mark mark.Equal) = true
is_wanted _ _ = false

-- whether the word is in front, and what follows it
abbrev pub skipped : Wanted → List Placed → Bool × List Placed
skipped w [] = (false, [])
skipped w (first ∷ rest) = if is_wanted w first.word then (true, rest) else (false, first ∷ rest)

-- what follows the word, which has to be in front
unfoldable pub wanted_at : Wanted → List Placed → Parsed (List Placed)
wanted_at w words = if (skipped w words).0 then Ok (skipped w words).1 else Err (fault.Form (line_of words))

abbrev pub is_later : Later → Word → Bool
is_later later.Branch (Mark mark.Point) = true
is_later later.Group (Mark mark.Open) = true
is_later later.Arithmetic (Mark mark.Plus) = true
is_later later.Arithmetic (Mark mark.Minus) = true
is_later later.Arithmetic (Mark mark.Star) = true
is_later later.Comparison (Mark mark.NotEqual) = true
is_later later.Comparison (Mark mark.Less) = true
is_later later.Comparison (Mark mark.LessOrEqual) = true
is_later later.Comparison (Mark mark.Greater) = true
is_later later.Comparison (Mark mark.GreaterOrEqual) = true
is_later later.Comparison (Key key.Is) = true
is_later later.Comparison (Key key.In) = true
is_later later.Comparison (Key key.Between) = true
is_later later.Comparison (Key key.Not) = true
is_later later.Junction (Key key.And) = true
is_later later.Junction (Key key.Or) = true
is_later later.Predicate (Mark mark.Open) = true
is_later later.Predicate (Key key.Not) = true
is_later later.Predicate (Key key.True) = true
is_later later.Predicate (Key key.False) = true
is_later later.Predicate (Key key.Null) = true
is_later later.Predicate (Key key.Date) = true
is_later later.Predicate (Key key.Timestamp) = true
is_later later.Predicate (Key key.X) = true
is_later later.Predicate (Number spelling) = true
is_later later.Predicate (Text text) = true
is_later _ _ = false

-- such a form is not read yet
unfoldable pub refuse_later : Later → List Placed → Parsed ⊤
refuse_later l [] = Ok tt
refuse_later l (first ∷ rest) = fault_if (fault.Later first.line) (is_later l first.word)
