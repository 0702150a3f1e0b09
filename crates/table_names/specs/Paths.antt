-- The paths that a table's files name one another by (Iceberg specification, "Table Metadata Fields", `location`): a path
-- lies in the table where it goes on from the table's location, and its file stands in the table's folder alike.
use Rattle.std.specs.Prelude.{ℕ, ◌-◌, nat_eq, if◌then◌else◌, List, [], ◌∷◌, ◌++◌, length, take, slice_get, false, Option, Some, None, option_map, option_and_then}
use Rattle.std.specs.Str.{is_utf8}
use Rattle.plain_types.specs.Digits.{after_text}
use Rattle.plain_types.specs.Paths.{is_path}
use Rattle.plain_types.specs.Steps.{by_option}

-- a location without one slash at its end
abbrev pub folder_of : List ℕ → List ℕ
folder_of location = if by_option (slice_get location (length location - 1)) (λ b. nat_eq b 47) false then take (length location - 1) location else location

abbrev pub plain_parts : List ℕ → Option (List ℕ)
plain_parts parts = if is_path parts then Some parts else None

-- the parts behind a slash
abbrev pub parts_behind : List ℕ → Option (List ℕ)
parts_behind [] = None
parts_behind (b ∷ parts) = if nat_eq b 47 then (if is_utf8 parts then plain_parts parts else None) else None

-- the parts of a path below the location, and none where the path lies elsewhere
unfoldable pub parts_of : List ℕ → List ℕ → Option (List ℕ)
parts_of location path = option_and_then parts_behind (after_text (folder_of location) path)

-- the name of the parts in the store of a table in this folder
abbrev pub name_in : List ℕ → List ℕ → List ℕ
name_in table parts = table ++ 47 ∷ parts

-- the store's name of a path
abbrev pub name_of : List ℕ → List ℕ → List ℕ → Option (List ℕ)
name_of table location path = option_map (name_in table) (parts_of location path)
