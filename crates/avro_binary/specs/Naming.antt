-- Full names and namespaces (Avro 1.11.1, 'Names'), and the named types met so far.
use Rattle.std.specs.Prelude.{ℕ, ◌+◌, Bool, true, false, List, [], ◌∷◌, ◌++◌, length, take, Option, Some, None, is_some, unwrap_or, ◌||◌, ◌==◌, if◌then◌else◌}
use Rattle.std.specs.Str.{bytes_eq}
use Rattle.avro_binary.specs.declared.schema.Schema.{Schema}
use Rattle.avro_binary.specs.declared.names.Named.{Named}

-- the place of the last dot; `at` is the place of the first of these bytes, and `last` that of the last dot before them
unfoldable pub dot_from : List ℕ → ℕ → Option ℕ → Option ℕ
dot_from [] at last = last
dot_from (b ∷ bs) at last = dot_from bs (at + 1) (if b == 46 then Some at else last)

abbrev pub last_dot : List ℕ → Option ℕ
last_dot name = dot_from name 0 None

-- the part of a full name before its last dot
abbrev pub space_of : List ℕ → List ℕ
space_of name = take (unwrap_or (last_dot name) 0) name

-- the full name of a name in a namespace
unfoldable pub full_name : List ℕ → List ℕ → List ℕ
full_name space name = if is_some (last_dot name) || (length space == 0) then name else space ++ 46 ∷ name

-- the type that was finished under this full name
unfoldable pub find : List ℕ → List Named → Option Schema
find name [] = None
find name (n ∷ ns) = if bytes_eq n.name name then Some n.schema else find name ns

-- whether a definition of this full name began before
unfoldable pub has_begun : List ℕ → List (List ℕ) → Bool
has_begun name [] = false
has_begun name (n ∷ ns) = if bytes_eq n name then true else has_begun name ns
