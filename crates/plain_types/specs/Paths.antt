-- Paths of files and folders: parts joined by `/`.
use Rattle.std.specs.Prelude.{ℕ, Bool, not, ◌&&◌, ◌==◌, codes, List, length}
use Rattle.std.specs.List.{list_all, slice_split}
use Rattle.std.specs.Cmp.Lexicographic.{pointwise}
use Rattle.std.specs.Prelude.{nat_eq}

-- a name of a file or a folder, which says no other way
abbrev pub is_part : List ℕ → Bool
is_part part = not (length part == 0) && not (pointwise nat_eq part (codes ".")) && not (pointwise nat_eq part (codes ".."))

abbrev pub is_path : List ℕ → Bool
is_path path = list_all is_part (slice_split (λ b. b == 47) path)
