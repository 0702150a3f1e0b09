-- What the manifests of a head hold live, manifest by manifest.
use Rattle.std.specs.Prelude.{ℕ, not, List, [], ◌∷◌, ◌++◌, filter, length, Result, Ok}
use Rattle.plain_types.specs.Steps.{◌>>=◌}
use Rattle.store_core.specs.Files.{Files}
use Rattle.manifest_files.specs.declared.entry.Entry.{Entry}
use Rattle.manifest_files.specs.declared.manifest_row.ManifestRow.{ManifestRow}
use Rattle.table_metadata.specs.Metadata.{Parts}
use Rattle.table_state.specs.declared.load_fault.LoadFault.{LoadFault}
use Rattle.table_state.specs.declared.live_set.LiveSet.{LiveSet}
use Rattle.table_state.specs.Files.{manifest_at}
use Rattle.table_state.specs.Live.{is_data, is_live}
use Rattle.table_state.specs.declared.gathered.Gathered as code
use Rattle.table_state.specs.declared.state.LiveCount.{LiveCount}

abbrev pub live_data : List Entry → List Entry
live_data entries = filter is_data (filter is_live entries)

abbrev pub live_deletes : List Entry → List Entry
live_deletes entries = filter (λ entry. not (is_data entry)) (filter is_live entries)

-- how much the entries of a manifest hold live
abbrev pub count_of : List Entry → LiveCount
count_of entries = record { data_files = length (live_data entries); deletes = length (live_deletes entries) }

-- the live files of the manifests so far, and how many of them each holds
pub record Gathered : Type 0 where
  pub data_files : List Entry
  pub deletes : List Entry
  pub counts : List LiveCount

abbrev pub seen : code.Gathered → Gathered
seen g = record { data_files = g.data_files.items; deletes = g.deletes.items; counts = g.counts.items }

abbrev pub nothing : Gathered
nothing = record { data_files = []; deletes = []; counts = [] }

-- and those of one manifest more
abbrev pub and_manifest : Gathered → List Entry → Gathered
and_manifest so_far entries = record { data_files = so_far.data_files ++ live_data entries; deletes = so_far.deletes ++ live_deletes entries; counts = so_far.counts ++ count_of entries ∷ [] }

-- what the manifests of these rows hold, behind those that are read
unfoldable pub gathered_at : List ℕ → Parts → Gathered → List ManifestRow → Files → Result Gathered LoadFault
gathered_at table parts so_far [] files = Ok so_far
gathered_at table parts so_far (row ∷ rows) files = manifest_at table parts row files >>= λ entries. gathered_at table parts (and_manifest so_far entries) rows files

abbrev pub set_in : Gathered → LiveSet
set_in gathered = record { data_files = gathered.data_files; deletes = gathered.deletes }
