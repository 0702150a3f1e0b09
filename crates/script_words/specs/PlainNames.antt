-- Names that need no backquotes, unless they are keywords.
use Rattle.std.specs.Prelude.{ℕ, not, ◌&&◌, List, [], ◌∷◌, Bool, true, false, if◌then◌else◌}
use Rattle.script_words.specs.Words.{is_digit, is_name_start}

unfoldable pub are_name_bytes : List ℕ → Bool
are_name_bytes [] = true
are_name_bytes (b ∷ bytes) = if not (is_name_start b) && not (is_digit b) then false else are_name_bytes bytes

-- a letter or a low line, and then letters, digits and low lines
abbrev pub is_plain_name : List ℕ → Bool
is_plain_name [] = false
is_plain_name (b ∷ bytes) = is_name_start b && are_name_bytes bytes
