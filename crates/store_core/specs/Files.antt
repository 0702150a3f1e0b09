-- The files of a store, and how a call changes them.
use Rattle.std.specs.Prelude.{◌≡◌, ◌⊎◌, ℕ, Option, Some, List, filter, nat_eq, if◌then◌else◌, option_map, option_and_then}
use Rattle.std.specs.FinMap as map
use Rattle.std.specs.FinMap.{FinMap}
use Rattle.std.specs.List.{starts_with}
use Rattle.std.specs.Ordering.{nat_cmp}
use Rattle.std.specs.Cmp.Lexicographic.{slice_cmp}

-- from names to bytes, in byte order of the names
abbrev pub Files : Type 0
Files = FinMap (slice_cmp nat_cmp) (List ℕ)

-- the names that begin with a prefix, in byte order
abbrev pub names_with : List ℕ → Files → List (List ℕ)
names_with prefix files = filter (λ name. starts_with nat_eq name prefix) (map.keys files)

-- the files, with one more or another under its name
abbrev pub with_file : List ℕ → List ℕ → Files → Files
with_file name bytes files = map.insert files name bytes

-- the files after a swap: unchanged where the name is there
abbrev pub swapped : List ℕ → List ℕ → Files → Files
swapped name bytes files = if map.contains_key files name then files else with_file name bytes files

-- some bytes may have come under the name, and nothing else
abbrev pub MayAdd : List ℕ → Option Files → Option Files → Type 0
MayAdd name old new = (new ≡ old) ⊎ ((bytes : List ℕ) × (new ≡ option_map (with_file name bytes) old))

-- what stands under a name, of files that are told
abbrev pub bytes_of : Option Files → List ℕ → Option (List ℕ)
bytes_of files name = option_and_then (λ told. map.get told name) files

-- each name that is there keeps its bytes
abbrev pub KeepsFiles : Option Files → Option Files → Type 0
KeepsFiles old new = (name bytes : List ℕ) → bytes_of old name ≡ Some bytes → bytes_of new name ≡ Some bytes
