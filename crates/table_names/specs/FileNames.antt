-- The names of the files that a run puts, which no other file has: each bears the run's number, its session, and a number of
-- its own. A table's data lies in `data`, its manifests and manifest lists in `metadata` (Iceberg specification, "File System
-- Tables").
use Rattle.std.specs.Prelude.{◌≡◌, ◌≢◌, ◌≤◌, ◌<◌, ◌^◌, ℕ, codes, List, ◌++◌, None}
use Rattle.std.specs.FinMap as map
use Rattle.std.specs.Fmt.{decimal}
use Rattle.std.specs.List.{AllByRecursion}
use Rattle.store_core.specs.Files.{Files}

-- <run>-<session>-<number>, and what follows
abbrev pub named : ℕ → List ℕ → ℕ → List ℕ → List ℕ
named run session n after = decimal run ++ (codes "-" ++ (session ++ (codes "-" ++ (decimal n ++ after))))

abbrev pub data_name : List ℕ → ℕ → List ℕ → ℕ → List ℕ
data_name table run session n = table ++ (codes "/data/r" ++ named run session n (codes ".avro"))

abbrev pub metadata_name : List ℕ → ℕ → List ℕ → ℕ → List ℕ
metadata_name table run session n = table ++ (codes "/metadata/r" ++ named run session n (codes ".avro"))

-- who made a version: the session of a run, whose next file would have the number
abbrev pub writer_text : ℕ → List ℕ → ℕ → List ℕ
writer_text run session n = codes "r" ++ named run session n (codes "w")

-- A session's name is of letters, digits and underscores, so it has no hyphen.
abbrev pub HasNoHyphen : List ℕ → Type 0
HasNoHyphen name = AllByRecursion (λ byte. byte ≢ 45) name

-- no file has a name of this run and session with a number from this one on
pub record NoneFrom (table : List ℕ) (run : ℕ) (session : List ℕ) (from : ℕ) (files : Files) : Type 0 where
  pub data_free : (n : ℕ) → from ≤ n → n < 2 ^ 128 → map.get files (data_name table run session n) ≡ None
  pub metadata_free : (n : ℕ) → from ≤ n → n < 2 ^ 128 → map.get files (metadata_name table run session n) ≡ None
