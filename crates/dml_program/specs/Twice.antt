-- The path that stands more than once among the files of a table.
use Rattle.std.specs.Prelude.{ℕ, Bool, false, if◌then◌else◌, List, [], ◌∷◌, map, Option, Some, None, nat_eq}
use Rattle.std.specs.Cmp.Lexicographic.{pointwise, slice_cmp}
use Rattle.std.specs.Ordering.{nat_cmp, is_lt}
use Rattle.plain_types.specs.Bags.{has}
use Rattle.manifest_files.specs.declared.entry.Entry.{Entry}

-- the paths behind which the same path stands once more
abbrev pub again : List (List ℕ) → List (List ℕ)
again [] = []
again (path ∷ paths) = if has (pointwise nat_eq) path paths then path ∷ again paths else again paths

-- the lower in byte order of a path, where there is one, and another
abbrev pub lower : Option (List ℕ) → List ℕ → List ℕ
lower None path = path
lower (Some other) path = if is_lt (slice_cmp nat_cmp path other) then path else other

abbrev pub least : List (List ℕ) → Option (List ℕ)
least [] = None
least (path ∷ paths) = Some (lower (least paths) path)

-- the least path that more than one of the entries has
abbrev pub twice : List Entry → Option (List ℕ)
twice entries = least (again (map (λ entry. entry.path) entries))

-- whether these paths begin with this one
abbrev pub is_first : List ℕ → List (List ℕ) → Bool
is_first path [] = false
is_first path (first ∷ paths) = pointwise nat_eq path first

-- the first path that stands right before itself; of paths in byte order, the least that stands more than once
abbrev pub first_pair : List (List ℕ) → Option (List ℕ)
first_pair [] = None
first_pair (path ∷ paths) = if is_first path paths then Some path else first_pair paths
