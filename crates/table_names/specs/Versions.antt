-- The versions of a table in a folder (Iceberg specification, "File System Tables"): version N is the file
-- `metadata/v<N>.metadata.json` of the table's folder, with N from 1 to 2^32 - 1 in decimal without a leading zero. Of
-- several the greatest is the current one.
use Rattle.std.specs.Prelude.{ℕ, ◌^◌, max, Bool, false, not, ◌&&◌, ◌||◌, ◌==◌, nat_eq, nat_lt, if◌then◌else◌, codes, List, [], ◌∷◌, ◌++◌, Option, Some, None}
use Rattle.std.specs.Cmp.Lexicographic.{pointwise}
use Rattle.std.specs.Fmt.{decimal}
use Rattle.plain_types.specs.Digits.{number_at, after_text, has_leading_zero}
use Rattle.plain_types.specs.Steps.{by_option}
use Rattle.store_core.specs.Files.{Files, names_with}

-- what the name of each version of a table begins with
abbrev pub version_prefix : List ℕ → List ℕ
version_prefix table = table ++ codes "/metadata/v"

abbrev pub version_name : List ℕ → ℕ → List ℕ
version_name table version = table ++ (codes "/metadata/v" ++ (decimal version ++ codes ".metadata.json"))

-- the version that a number and what follows it name, or 0
abbrev pub version_from : ℕ × List ℕ → ℕ
version_from read = if pointwise nat_eq read.1 (codes ".metadata.json") && nat_lt read.0 (2 ^ 32) then read.0 else 0

-- the version that these bytes behind the prefix name, or 0
unfoldable pub version_behind : List ℕ → ℕ
version_behind bytes = if has_leading_zero bytes then 0 else by_option (number_at bytes) version_from 0

-- the version that a name is of, or 0
unfoldable pub version_of_name : List ℕ → List ℕ → ℕ
version_of_name prefix name = by_option (after_text prefix name) version_behind 0

-- the greatest version among names, or 0
unfoldable pub greatest_version : List ℕ → List (List ℕ) → ℕ
greatest_version prefix [] = 0
greatest_version prefix (name ∷ names) = max (version_of_name prefix name) (greatest_version prefix names)

-- a version, where there is one
abbrev pub some_version : ℕ → Option ℕ
some_version version = if version == 0 then None else Some version

-- the current version of a table
abbrev pub version_of : List ℕ → Files → Option ℕ
version_of table files = some_version (greatest_version (version_prefix table) (names_with (version_prefix table) files))

-- ---- compressed metadata, which is not read

abbrev pub compressed_from : ℕ × List ℕ → Bool
compressed_from read = (pointwise nat_eq read.1 (codes ".gz.metadata.json") || pointwise nat_eq read.1 (codes ".metadata.json.gz")) && (nat_lt 0 read.0 && nat_lt read.0 (2 ^ 32))

unfoldable pub is_compressed_behind : List ℕ → Bool
is_compressed_behind bytes = by_option (number_at bytes) (λ read. not (has_leading_zero bytes) && compressed_from read) false

-- whether a name is of a version whose metadata is compressed, by either spelling of its end
abbrev pub is_compressed : List ℕ → List ℕ → Bool
is_compressed prefix name = by_option (after_text prefix name) is_compressed_behind false

unfoldable pub first_compressed : List ℕ → List (List ℕ) → Option (List ℕ)
first_compressed prefix [] = None
first_compressed prefix (name ∷ names) = if is_compressed prefix name then Some name else first_compressed prefix names

-- the least such name of a table in byte order
abbrev pub compressed_of : List ℕ → Files → Option (List ℕ)
compressed_of table files = first_compressed (version_prefix table) (names_with (version_prefix table) files)
