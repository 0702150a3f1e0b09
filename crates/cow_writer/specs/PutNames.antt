-- The names that data files are put under.
use Rattle.std.specs.Prelude.{◌≡◌, ◌≢◌, ◌≤◌, ◌+◌, ◌^◌, ℕ, List, Option}
use Rattle.store_core.specs.Files.{Files, bytes_of}
use Rattle.table_names.specs.declared.names.Names.{Names}
use Rattle.table_names.specs.FileNames.{data_name}

-- each name is as it was, but for those of data files that these draw next
abbrev pub PutsDataFiles : List ℕ → Names → Option Files → Option Files → Type 0
PutsDataFiles table names old new = (name : List ℕ) → ((n : ℕ) → names.next ≤ n → name ≢ data_name table names.run names.session n) → bytes_of new name ≡ bytes_of old name

-- as many numbers are left as there may be files
abbrev pub HasRoom : Names → Type 0
HasRoom names = names.next + 2 ^ 64 ≤ 2 ^ 128
