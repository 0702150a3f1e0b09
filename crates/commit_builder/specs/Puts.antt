-- The names that the files of a commit are put under.
use Rattle.std.specs.Prelude.{◌≡◌, ◌≢◌, ◌≤◌, ℕ, List, Option}
use Rattle.store_core.specs.Files.{Files, bytes_of}
use Rattle.table_names.specs.declared.names.Names.{Names}
use Rattle.table_names.specs.FileNames.{metadata_name}

-- each name is as it was, but for those of manifests and lists that these draw next
abbrev pub PutsManifests : List ℕ → Names → Option Files → Option Files → Type 0
PutsManifests table names old new = (name : List ℕ) → ((n : ℕ) → names.next ≤ n → name ≢ metadata_name table names.run names.session n) → bytes_of new name ≡ bytes_of old name
