-- What a call leaves that writes at the end of a list.
use Rattle.std.specs.Prelude.{◌≡◌, ◌++◌, List, Result, Ok, Err}

-- the front stands at the beginning of the list
abbrev pub IsFront : {A : Type 0} → List A → List A → Type 0
IsFront {A = A} front list = (rest : List A) × (list ≡ front ++ rest)

-- Done: what was there, and behind it the items. Failed: what was there, and behind it nothing or something.
abbrev pub Appends : {A X E : Type 0} → List A → List A → List A → Result X E → Type 0
Appends old new items (Ok x) = new ≡ old ++ items
Appends old new items (Err f) = IsFront old new
