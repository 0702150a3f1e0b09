-- The form of what stands under the keys of a table's metadata (Iceberg specification, "Table Metadata Fields"). A key
-- whose value has another form is the fault, the first in the order below. `current-snapshot-id` may be null or -1, as older
-- writers put it where the table has no snapshot; an optional key that is null has the wrong form. The keys of the snapshots
-- and of the refs come after these.
use Rattle.std.specs.Prelude.{ℕ, ℤ, neg_ℤ, pos, not, codes, List, Bool, true, false, Option, Some, None, is_some, Result, Ok, ⊤, option_and_then, if◌then◌else◌}
use Rattle.std.specs.Ordering.{int_eq}
use Rattle.serde_json.specs.Data.{Data, Items, Members, no_members, member}
use Rattle.serde_json.specs.Find.{get, as_null, as_str, as_array, as_object}
use Rattle.uuid.specs.Text.{parsed}
use Rattle.table_metadata.specs.declared.metadata_fault.MetadataFault.{MetadataFault}
use Rattle.table_metadata.specs.declared.metadata_fault.MetadataFault.TheVariants as fault
use Rattle.table_metadata.specs.declared.table_keys.PlainKeys.{PlainKeys}
use Rattle.table_metadata.specs.declared.table_keys.CurrentIds.{CurrentIds}
use Rattle.iceberg_schema.specs.Keys.{long_at, int_at, text_at, items_at, long_of, whole_of, has_id, has_twice, all_objects}
use Rattle.plain_types.specs.Steps.{◌>>=◌, or_fault, fault_if, by_option}

abbrev pub shaped : {A : Type 0} → List ℕ → Option A → Result A MetadataFault
shaped key found = or_fault (fault.Shape key) found

-- the key has the wrong form unless the test holds
abbrev pub shape_if : List ℕ → Bool → Result ⊤ MetadataFault
shape_if key wrong = fault_if (fault.Shape key) wrong

-- a uuid in any of its text forms
unfoldable pub is_uuid : List ℕ → Bool
is_uuid text = is_some (parsed text)

unfoldable pub plain_keys_of : Data → Result PlainKeys MetadataFault
plain_keys_of d = do
  _ ← shaped (codes "format-version") (option_and_then whole_of (get (codes "format-version") d))
  uuid ← shaped (codes "table-uuid") (text_at (codes "table-uuid") d)
  _ ← shape_if (codes "table-uuid") (not (is_uuid uuid))
  location ← shaped (codes "location") (text_at (codes "location") d)
  last_sequence ← shaped (codes "last-sequence-number") (long_at (codes "last-sequence-number") d)
  last_updated_ms ← shaped (codes "last-updated-ms") (long_at (codes "last-updated-ms") d)
  last_column ← shaped (codes "last-column-id") (int_at (codes "last-column-id") d)
  Ok (record { location = location; last_sequence = last_sequence; last_updated_ms = last_updated_ms; last_column = last_column })

-- a list in which no two elements have one id
abbrev pub distinct_items : List ℕ → List ℕ → Data → Result Items MetadataFault
distinct_items key id_key d = do
  items ← shaped key (items_at key d)
  _ ← shape_if key (has_twice id_key items)
  Ok items

-- the id of one of the elements
abbrev pub listed_id : List ℕ → List ℕ → Items → Data → Result ℤ MetadataFault
listed_id key id_key items d = do
  id ← shaped key (int_at key d)
  _ ← shape_if key (not (has_id id_key id items))
  Ok id

unfoldable pub current_ids_of : Data → Result CurrentIds MetadataFault
current_ids_of d = do
  schemas ← distinct_items (codes "schemas") (codes "schema-id") d
  schema ← listed_id (codes "current-schema-id") (codes "schema-id") schemas d
  specs ← distinct_items (codes "partition-specs") (codes "spec-id") d
  spec ← listed_id (codes "default-spec-id") (codes "spec-id") specs d
  last_partition ← shaped (codes "last-partition-id") (int_at (codes "last-partition-id") d)
  Ok (record { schema = schema; spec = spec; last_partition = last_partition })

unfoldable pub all_texts : Members → Bool
all_texts no_members = true
all_texts (member name d ms) = if is_some (as_str d) then all_texts ms else false

unfoldable pub all_members_objects : Members → Bool
all_members_objects no_members = true
all_members_objects (member name d ms) = if is_some (as_object d) then all_members_objects ms else false

-- an object of texts
unfoldable pub properties_shape : Data → Result ⊤ MetadataFault
properties_shape d = by_option (get (codes "properties") d) (λ v. shaped (codes "properties") (as_object v) >>= λ ms. shape_if (codes "properties") (not (all_texts ms))) (Ok tt)

abbrev pub snapshot_or_none : ℤ → Option ℤ
snapshot_or_none id = if int_eq id (neg_ℤ (pos 1)) then None else Some id

-- the id of the current snapshot, where there is one
unfoldable pub current_snapshot_of : Data → Result (Option ℤ) MetadataFault
current_snapshot_of d = by_option (get (codes "current-snapshot-id") d) (λ v. if is_some (as_null v) then Ok None else (shaped (codes "current-snapshot-id") (long_of v) >>= λ id. Ok (snapshot_or_none id))) (Ok None)

-- objects whose ids differ, none of which is -1
unfoldable pub are_snapshots : Items → Bool
are_snapshots items = if all_objects items then (if has_twice (codes "snapshot-id") items then false else not (has_id (codes "snapshot-id") (neg_ℤ (pos 1)) items)) else false

unfoldable pub snapshots_shape : Data → Result ⊤ MetadataFault
snapshots_shape d = by_option (get (codes "snapshots") d) (λ v. shaped (codes "snapshots") (as_array v) >>= λ items. shape_if (codes "snapshots") (not (are_snapshots items))) (Ok tt)

unfoldable pub log_shape : Data → Result ⊤ MetadataFault
log_shape d = by_option (get (codes "snapshot-log") d) (λ v. shape_if (codes "snapshot-log") (not (is_some (as_array v)))) (Ok tt)

unfoldable pub refs_shape : Data → Result ⊤ MetadataFault
refs_shape d = by_option (get (codes "refs") d) (λ v. shaped (codes "refs") (as_object v) >>= λ ms. shape_if (codes "refs") (not (all_members_objects ms))) (Ok tt)

-- The optional keys. Of them, the current snapshot is told.
unfoldable pub optional_keys_of : Data → Result (Option ℤ) MetadataFault
optional_keys_of d = do
  _ ← properties_shape d
  current ← current_snapshot_of d
  _ ← snapshots_shape d
  _ ← log_shape d
  _ ← refs_shape d
  Ok current
