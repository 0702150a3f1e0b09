-- The one list in byte order that a bag of texts has. Texts compare by their unsigned bytes, a front before the whole.
use Rattle.std.specs.Prelude.{ℕ, List, [], ◌∷◌, if◌then◌else◌}
use Rattle.std.specs.Ordering.{nat_cmp, is_le}
use Rattle.std.specs.Cmp.Lexicographic.{slice_cmp}

-- texts in byte order, with one more at its place
abbrev pub with_text : List ℕ → List (List ℕ) → List (List ℕ)
with_text text [] = text ∷ []
with_text text (first ∷ texts) = if is_le (slice_cmp nat_cmp text first) then text ∷ first ∷ texts else first ∷ with_text text texts

-- the texts in byte order, repeated ones repeated
abbrev pub in_byte_order : List (List ℕ) → List (List ℕ)
in_byte_order [] = []
in_byte_order (text ∷ texts) = with_text text (in_byte_order texts)
