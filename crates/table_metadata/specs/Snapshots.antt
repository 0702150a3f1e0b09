-- Snapshots (Iceberg specification, "Snapshots"), and their keys' forms. Of a snapshot's summary the operation is read.
use Rattle.std.specs.Prelude.{ℕ, ℤ, codes, List, [], ◌∷◌, ◌++◌, Option, Some, None, Result, Ok, option_and_then}
use Rattle.serde_json.specs.Data.{Data, Items, no_items, item}
use Rattle.serde_json.specs.Find.{get, as_str, as_object}
use Rattle.table_metadata.specs.declared.metadata_fault.MetadataFault.{MetadataFault}
use Rattle.table_metadata.specs.declared.snapshots.Snapshot.{Snapshot}
use Rattle.iceberg_schema.specs.Keys.{long_at, text_at, items_at, long_of, in_int}
use Rattle.table_metadata.specs.TableKeys.{shaped}
use Rattle.plain_types.specs.Steps.{◌>>=◌, by_option}

abbrev pub optional_long : List ℕ → Data → Result (Option ℤ) MetadataFault
optional_long key d = by_option (get key d) (λ v. shaped key (long_of v) >>= λ n. Ok (Some n)) (Ok None)

abbrev pub optional_int : List ℕ → Data → Result (Option ℤ) MetadataFault
optional_int key d = by_option (get key d) (λ v. shaped key (option_and_then in_int (long_of v)) >>= λ n. Ok (Some n)) (Ok None)

-- the operation of a summary that is there
unfoldable pub operation_in : Data → Result (List ℕ) MetadataFault
operation_in summary = by_option (get (codes "operation") summary) (λ v. shaped (codes "summary") (as_str v)) (Ok [])

-- the operation, or the empty text where there is none
unfoldable pub operation_of : Data → Result (List ℕ) MetadataFault
operation_of d = by_option (get (codes "summary") d) (λ v. shaped (codes "summary") (as_object v) >>= λ _. operation_in v) (Ok [])

unfoldable pub snapshot_of : Data → Result Snapshot MetadataFault
snapshot_of d = do
  id ← shaped (codes "snapshot-id") (long_at (codes "snapshot-id") d)
  seq ← shaped (codes "sequence-number") (long_at (codes "sequence-number") d)
  timestamp_ms ← shaped (codes "timestamp-ms") (long_at (codes "timestamp-ms") d)
  list ← shaped (codes "manifest-list") (text_at (codes "manifest-list") d)
  parent ← optional_long (codes "parent-snapshot-id") d
  operation ← operation_of d
  schema ← optional_int (codes "schema-id") d
  Ok (record { id = id; parent = parent; seq = seq; timestamp_ms = timestamp_ms; list = list; operation = operation; schema = schema })

-- the snapshots of these elements, behind those that are read
unfoldable pub snapshots_from : List Snapshot → Items → Result (List Snapshot) MetadataFault
snapshots_from earlier no_items = Ok earlier
snapshots_from earlier (item d ds) = snapshot_of d >>= λ snapshot. snapshots_from (earlier ++ snapshot ∷ []) ds

unfoldable pub snapshots_of : Data → Result (List Snapshot) MetadataFault
snapshots_of d = by_option (items_at (codes "snapshots") d) (snapshots_from []) (Ok [])
