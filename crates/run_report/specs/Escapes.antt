-- A text within one line.
use Rattle.std.specs.Prelude.{ℕ, ◌==◌, if◌then◌else◌, List, [], ◌∷◌}
use Rattle.std.specs.List.{flat_map}

-- a line feed is written as the two characters `\n`
abbrev pub escaped_byte : ℕ → List ℕ
escaped_byte b = if b == 10 then 92 ∷ 110 ∷ [] else b ∷ []

abbrev pub escaped : List ℕ → List ℕ
escaped text = flat_map escaped_byte text
