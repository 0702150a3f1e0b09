-- The words of a script, each with the line that it begins on. A script is read byte by byte: what a byte does depends on
-- where within a word the reading is. Blanks and comments, from `--` to the line's end, stand between words.
use Rattle.std.specs.Prelude.{ℕ, ◌==◌, ◌||◌, ◌&&◌, not, nat_le, length, if◌then◌else◌, List, [], ◌∷◌, Bool, Option, Some, None}
use Rattle.std.specs.Str.{byte}
use Rattle.script_words.specs.declared.keyword.Keyword.{Keyword}
use Rattle.script_words.specs.declared.word.Mark.{Mark}
use Rattle.script_words.specs.declared.word.Mark.TheVariants as mark
use Rattle.script_words.specs.declared.word.Word.{Word}
use Rattle.script_words.specs.declared.word.Word.TheVariants as word
use Rattle.script_words.specs.declared.word.Placed.{Placed}
use Rattle.script_words.specs.declared.lexer.State.{State}
use Rattle.script_words.specs.declared.lexer.State.TheVariants as state
use Rattle.script_words.specs.declared.lexer.Lexer.{Lexer}
use Rattle.script_words.specs.declared.states.First.{First}
use Rattle.script_words.specs.declared.states.First.TheVariants as first
use Rattle.script_words.specs.Keywords.{keyword_of}
use Rattle.script_words.specs.Lexer.{emptied, ended, fresh, kept, next_line, put, started, turned}

-- a space, a tab, a line feed or a carriage return
abbrev pub is_blank : ℕ → Bool
is_blank b = b == 32 || (b == 9 || (b == 10 || b == 13))

abbrev pub is_digit : ℕ → Bool
is_digit b = nat_le 48 b && nat_le b 57

abbrev pub is_name_start : ℕ → Bool
is_name_start b = (nat_le 65 b && nat_le b 90) || ((nat_le 97 b && nat_le b 122) || b == byte "_")

abbrev pub mark_of : ℕ → First
mark_of b =
    if b == byte "(" then first.Mark mark.Open
    else (if b == byte ")" then first.Mark mark.Close
    else (if b == byte "," then first.Mark mark.Comma
    else (if b == byte ";" then first.Mark mark.Semicolon
    else (if b == byte "." then first.Mark mark.Point
    else (if b == byte "*" then first.Mark mark.Star
    else (if b == byte "=" then first.Mark mark.Equal
    else (if b == byte "+" then first.Mark mark.Plus
    else first.Nothing)))))))

abbrev pub opening_of : ℕ → First
opening_of b =
    if b == byte "'" then first.Left state.Text
    else (if b == byte "`" then first.Left state.Backquoted
    else (if b == byte "-" then first.Left state.Dash
    else (if b == byte "<" then first.Left state.Less
    else (if b == byte ">" then first.Left state.Greater
    else (if b == byte "!" then first.Left state.Exclamation
    else mark_of b)))))

-- what a byte between words begins
abbrev pub first_of : ℕ → First
first_of b =
    if is_blank b then first.Blank
    else (if is_name_start b then first.Kept state.Name
    else (if is_digit b then first.Kept state.Digits
    else opening_of b))

abbrev pub or_name : List ℕ → Option Keyword → Word
or_name name (Some key) = word.Key key
or_name name None = word.Name name

-- the keyword that a text is, or the name
unfoldable pub named : List ℕ → Word
named name = or_name name (keyword_of name)

abbrev pub put_name : Lexer → Lexer
put_name l = put (named l.held) (emptied l)

abbrev pub put_number : Lexer → Lexer
put_number l = put (word.Number l.held) (emptied l)

abbrev pub put_text : Lexer → Lexer
put_text l = put (word.Text l.held) (emptied l)

abbrev pub put_mark : Mark → Lexer → Lexer
put_mark m l = put (word.Mark m) l

-- No word begins so, and none is read any more.
abbrev pub refused : Lexer → Lexer
refused l = turned state.Stopped (put word.Bad l)

abbrev pub begun_by : ℕ → Lexer → First → Lexer
begun_by b l first.Blank = l
begun_by b l (first.Kept s) = kept b (started s l)
begun_by b l (first.Left s) = started s l
begun_by b l (first.Mark m) = put_mark m (started state.Between l)
begun_by b l first.Nothing = refused (started state.Between l)

unfoldable pub between : ℕ → Lexer → Lexer
between b l = begun_by b l (first_of b)

unfoldable pub in_comment : ℕ → Lexer → Lexer
in_comment b l = if b == 10 then turned state.Between l else l

unfoldable pub in_name : ℕ → Lexer → Lexer
in_name b l = if is_name_start b || is_digit b then kept b l else between b (put_name l)

-- A name between backquotes has at least one character.
unfoldable pub in_backquotes : ℕ → Lexer → Lexer
in_backquotes b l =
    if b == byte "`" then (if length l.held == 0 then refused l else put (word.Quoted l.held) (emptied l)) else kept b l

unfoldable pub in_text : ℕ → Lexer → Lexer
in_text b l = if b == byte "'" then turned state.Quote l else kept b l

-- A quote after a quote belongs to the string.
unfoldable pub after_quote : ℕ → Lexer → Lexer
after_quote b l = if b == byte "'" then kept b (turned state.Text l) else between b (put_text l)

unfoldable pub in_digits : ℕ → Lexer → Lexer
in_digits b l =
    if is_digit b then kept b l else (if b == byte "." then turned state.Point l else between b (put_number l))

-- A point behind digits belongs to the number where a digit follows.
unfoldable pub after_point : ℕ → Lexer → Lexer
after_point b l =
    if is_digit b then kept b (kept (byte ".") (turned state.Fraction l)) else between b (put_mark mark.Point (put_number l))

unfoldable pub in_fraction : ℕ → Lexer → Lexer
in_fraction b l = if is_digit b then kept b l else between b (put_number l)

-- A minus directly before a digit begins a number, except behind what may stand on the left of an operator.
unfoldable pub after_dash : ℕ → Lexer → Lexer
after_dash b l =
    if b == byte "-" then turned state.Comment l
    else (if is_digit b && not l.operand then kept b (kept (byte "-") (turned state.Digits l))
    else between b (put_mark mark.Minus l))

unfoldable pub after_less : ℕ → Lexer → Lexer
after_less b l =
    if b == byte ">" then put_mark mark.NotEqual l
    else (if b == byte "=" then put_mark mark.LessOrEqual l
    else between b (put_mark mark.Less l))

unfoldable pub after_greater : ℕ → Lexer → Lexer
after_greater b l = if b == byte "=" then put_mark mark.GreaterOrEqual l else between b (put_mark mark.Greater l)

unfoldable pub after_exclamation : ℕ → Lexer → Lexer
after_exclamation b l = if b == byte "=" then put_mark mark.NotEqual l else refused l

-- what a byte does in a state
unfoldable pub step_in : State → ℕ → Lexer → Lexer
step_in state.Between b l = between b l
step_in state.Comment b l = in_comment b l
step_in state.Name b l = in_name b l
step_in state.Backquoted b l = in_backquotes b l
step_in state.Text b l = in_text b l
step_in state.Quote b l = after_quote b l
step_in state.Digits b l = in_digits b l
step_in state.Point b l = after_point b l
step_in state.Fraction b l = in_fraction b l
step_in state.Dash b l = after_dash b l
step_in state.Less b l = after_less b l
step_in state.Greater b l = after_greater b l
step_in state.Exclamation b l = after_exclamation b l
step_in state.Stopped b l = l

-- A line ends with its line feed.
unfoldable pub step : ℕ → Lexer → Lexer
step b l = if b == 10 then next_line (step_in l.state b l) else step_in l.state b l

-- The bytes one after another.
unfoldable pub run : List ℕ → Lexer → Lexer
run [] l = l
run (b ∷ bytes) l = run bytes (step b l)

-- what the end of the script does in a state
unfoldable pub finished_in : State → Lexer → Lexer
finished_in state.Between l = l
finished_in state.Comment l = l
finished_in state.Stopped l = l
finished_in state.Name l = put_name l
finished_in state.Backquoted l = refused l
finished_in state.Text l = refused l
finished_in state.Exclamation l = refused l
finished_in state.Quote l = put_text l
finished_in state.Digits l = put_number l
finished_in state.Fraction l = put_number l
finished_in state.Point l = put_mark mark.Point (put_number l)
finished_in state.Dash l = put_mark mark.Minus l
finished_in state.Less l = put_mark mark.Less l
finished_in state.Greater l = put_mark mark.Greater l

abbrev pub finished : Lexer → List Placed
finished l = ended (finished_in l.state l)

-- the words of a script, and the end after them
unfoldable pub words_of : List ℕ → List Placed
words_of text = finished (run text fresh)
