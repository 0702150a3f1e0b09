-- The numbers of runs. The name of each file that a run puts bears the run's number in decimal, behind the front of its
-- folder and before a hyphen, so a run whose number no name bears finds all of its names free.
use Rattle.std.specs.Prelude.{◌≡◌, ◌≤◌, ◌<◌, ℕ, Bool, true, false, ◌||◌, nat_eq, if◌then◌else◌, codes, List, [], ◌∷◌, ◌++◌, map}
use Rattle.std.specs.FinMap as finite
use Rattle.std.specs.List.{starts_with, list_any}
use Rattle.std.specs.Fmt.{decimal}
use Rattle.plain_types.specs.Digits.{number_at, after_text, has_leading_zero}
use Rattle.plain_types.specs.Steps.{by_option}
use Rattle.store_core.specs.Files.{Files}

-- what the names of the files of all runs begin with
abbrev pub data_prefix : List ℕ → List ℕ
data_prefix table = table ++ codes "/data/r"

abbrev pub metadata_prefix : List ℕ → List ℕ
metadata_prefix table = table ++ codes "/metadata/r"

-- whether a file has a name of this run behind the prefix
abbrev pub has_run : List ℕ → ℕ → Files → Bool
has_run prefix run files = list_any (λ name. starts_with nat_eq name (prefix ++ (decimal run ++ codes "-"))) (finite.keys files)

-- whether a file of the table bears the number of this run
abbrev pub is_used : List ℕ → ℕ → Files → Bool
is_used table run files = has_run (data_prefix table) run files || has_run (metadata_prefix table) run files

-- the least number from 1 on that no file of the table bears
pub record IsFreshRun (table : List ℕ) (files : Files) (run : ℕ) : Type 0 where
  pub positive : 1 ≤ run
  pub free : is_used table run files ≡ false
  pub least : (m : ℕ) → 1 ≤ m → m < run → is_used table m files ≡ true

-- ---- the run of a name

-- the number, where a hyphen follows it, or 0
abbrev pub run_before_hyphen : ℕ → List ℕ → ℕ
run_before_hyphen run [] = 0
run_before_hyphen run (b ∷ bs) = if nat_eq b 45 then run else 0

-- the run that these bytes behind the prefix name, or 0
unfoldable pub run_behind : List ℕ → ℕ
run_behind bytes = if has_leading_zero bytes then 0 else by_option (number_at bytes) (λ read. run_before_hyphen read.0 read.1) 0

-- the run that a name is of, or 0
unfoldable pub run_of_name : List ℕ → List ℕ → ℕ
run_of_name prefix name = by_option (after_text prefix name) run_behind 0

-- the runs that names are of
abbrev pub runs_of : List ℕ → List (List ℕ) → List ℕ
runs_of prefix names = map (run_of_name prefix) names
