-- Which needed key of a table's metadata is absent (Iceberg specification, "Table Metadata Fields", "Snapshots" and
-- "Snapshot References"), and whether the metadata is of format version 2. The version comes before every other key, since
-- it says which keys there are. Then come the table's own keys, those of the snapshots and those of the refs; of a list, the
-- first element that lacks a key.
use Rattle.std.specs.Prelude.{ℕ, pos, not, codes, List, Result, Ok, Err, ⊤, is_some, option_and_then, if◌then◌else◌}
use Rattle.std.specs.Ordering.{int_eq}
use Rattle.serde_json.specs.Data.{Data, Items, no_items, item, Members, no_members, member}
use Rattle.serde_json.specs.Find.{get, as_object}
use Rattle.table_metadata.specs.declared.metadata_fault.MetadataFault.{MetadataFault}
use Rattle.table_metadata.specs.declared.metadata_fault.MetadataFault.TheVariants as fault
use Rattle.iceberg_schema.specs.Keys.{items_at, members_at, whole_of}
use Rattle.plain_types.specs.Steps.{◌>>=◌, fault_if, by_option}

abbrev pub needs : List ℕ → Data → Result ⊤ MetadataFault
needs key d = by_option (get key d) (λ _. Ok tt) (Err (fault.Missing key))

-- A version that is no whole number is not judged here.
unfoldable pub version_fits : Data → Result ⊤ MetadataFault
version_fits d = by_option (option_and_then whole_of (get (codes "format-version") d)) (λ n. fault_if (fault.Version n) (not (int_eq n (pos 2)))) (Ok tt)

unfoldable pub table_keys_stand : Data → Result ⊤ MetadataFault
table_keys_stand d = do
  _ ← needs (codes "table-uuid") d
  _ ← needs (codes "location") d
  _ ← needs (codes "last-sequence-number") d
  _ ← needs (codes "last-updated-ms") d
  _ ← needs (codes "last-column-id") d
  _ ← needs (codes "schemas") d
  _ ← needs (codes "current-schema-id") d
  _ ← needs (codes "partition-specs") d
  _ ← needs (codes "default-spec-id") d
  needs (codes "last-partition-id") d

-- An element that is no object has nothing to miss.
unfoldable pub snapshot_keys_stand : Data → Result ⊤ MetadataFault
snapshot_keys_stand d = if is_some (as_object d) then (needs (codes "snapshot-id") d >>= λ _. needs (codes "sequence-number") d >>= λ _. needs (codes "timestamp-ms") d >>= λ _. needs (codes "manifest-list") d) else Ok tt

unfoldable pub snapshots_stand : Items → Result ⊤ MetadataFault
snapshots_stand no_items = Ok tt
snapshots_stand (item d ds) = snapshot_keys_stand d >>= λ _. snapshots_stand ds

unfoldable pub ref_keys_stand : Data → Result ⊤ MetadataFault
ref_keys_stand d = if is_some (as_object d) then (needs (codes "snapshot-id") d >>= λ _. needs (codes "type") d) else Ok tt

unfoldable pub refs_stand : Members → Result ⊤ MetadataFault
refs_stand no_members = Ok tt
refs_stand (member name d ms) = ref_keys_stand d >>= λ _. refs_stand ms

unfoldable pub listed_snapshots_stand : Data → Result ⊤ MetadataFault
listed_snapshots_stand d = by_option (items_at (codes "snapshots") d) snapshots_stand (Ok tt)

unfoldable pub listed_refs_stand : Data → Result ⊤ MetadataFault
listed_refs_stand d = by_option (members_at (codes "refs") d) refs_stand (Ok tt)

unfoldable pub keys_stand : Data → Result ⊤ MetadataFault
keys_stand d = do
  _ ← needs (codes "format-version") d
  _ ← version_fits d
  _ ← table_keys_stand d
  _ ← listed_snapshots_stand d
  listed_refs_stand d
