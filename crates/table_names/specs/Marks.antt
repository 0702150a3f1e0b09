-- The least number from 1 on that isn't in a list, found by marks: place N of the marks says whether N is in the list. There
-- are two places more than numbers, and place 0 is marked from the start, so a place is left.
use Rattle.std.specs.Prelude.{◌≡◌, ◌≤◌, ◌<◌, ◌+◌, ℕ, Bool, true, false, not, nat_eq, nat_lt, if◌then◌else◌, List, [], ◌∷◌, length, set, replicate}
use Rattle.std.specs.List.{list_any, position_or_len}

abbrev pub has : ℕ → List ℕ → Bool
has n numbers = list_any (nat_eq n) numbers

pub record IsLeastMissing (numbers : List ℕ) (number : ℕ) : Type 0 where
  pub positive : 1 ≤ number
  pub missing : has number numbers ≡ false
  pub least : (m : ℕ) → 1 ≤ m → m < number → has m numbers ≡ true

-- with a mark at the place of a number, if there is such a place
abbrev pub with_mark : List Bool → ℕ → List Bool
with_mark marks number = if nat_lt number (length marks) then set marks number true else marks

unfoldable pub marked : List Bool → List ℕ → List Bool
marked marks [] = marks
marked marks (number ∷ numbers) = marked (with_mark marks number) numbers

abbrev pub marks_of : List ℕ → List Bool
marks_of numbers = marked (with_mark (replicate (length numbers + 2) false) 0) numbers

abbrev pub first_unmarked : List Bool → ℕ
first_unmarked marks = position_or_len not marks
