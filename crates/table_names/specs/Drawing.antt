-- Names that are drawn for files, and what comes under them.
use Rattle.std.specs.Prelude.{◌≡◌, ◌≢◌, ◌≤◌, ◌<◌, ◌+◌, ℕ, List, Option}
use Rattle.std.specs.Option.{ForSome}
use Rattle.store_core.specs.Files.{Files, bytes_of}
use Rattle.table_names.specs.FileNames.{NoneFrom, data_name, metadata_name}
use Rattle.table_names.specs.declared.names.Names.{Names}
use Rattle.table_names.specs.declared.puts.Folder.{Folder}
use Rattle.table_names.specs.declared.puts.Folder.TheVariants as folder

-- the name of a number, of the run and the session of these names
abbrev pub data_of : List ℕ → Names → ℕ → List ℕ
data_of table names n = data_name table names.run names.session n

abbrev pub metadata_of : List ℕ → Names → ℕ → List ℕ
metadata_of table names n = metadata_name table names.run names.session n

abbrev pub name_in_folder : Folder → List ℕ → Names → ℕ → List ℕ
name_in_folder folder.Data table names n = data_of table names n
name_in_folder folder.Metadata table names n = metadata_of table names n

-- At most so many names were drawn, and the rest is free. `name_at` is the name of a number, in one folder.
pub record Draws (most : ℕ) (name_at : ℕ → List ℕ) (table : List ℕ) (before after : Names) (old new : Option Files) : Type 0 where
  pub run : after.run ≡ before.run
  pub session : after.session ≡ before.session
  pub raised : before.next ≤ after.next
  pub few : after.next ≤ before.next + most
  pub free : ForSome new (NoneFrom table after.run after.session after.next)
  -- files came under the drawn names alone
  pub others : (name : List ℕ) → ((n : ℕ) → before.next ≤ n → n < after.next → name ≢ name_at n) → bytes_of new name ≡ bytes_of old name
