-- The JSON of a table's metadata after a snapshot is put on a branch (Iceberg specification, "Table Metadata Fields",
-- "Snapshots" and "Snapshot References"), by edits of one key each.
use Rattle.std.specs.Prelude.{ℕ, ℤ, codes, List, Option, Some, None, if◌then◌else◌}
use Rattle.std.specs.Int.{int_max}
use Rattle.serde_json.specs.Data.{Data, number, string, array, object, Items, no_items, item, no_members, put}
use Rattle.serde_json.specs.Find.{as_object, of_integer}
use Rattle.table_metadata.specs.declared.snapshots.Snapshot.{Snapshot}
use Rattle.iceberg_schema.specs.Keys.{long_at, items_at, members_at}
use Rattle.table_metadata.specs.References.{is_main_name}
use Rattle.plain_types.specs.Steps.{by_option}

-- ---- edits

-- the object with the value under the key
unfoldable pub with_key : List ℕ → Data → Data → Data
with_key key value d = by_option (as_object d) (λ ms. object (put key value ms)) d

-- the elements, and one more
abbrev pub and_item : Data → Items → Items
and_item last no_items = item last no_items
and_item last (item d ds) = item d (and_item last ds)

-- the elements of the array under the key, or none
unfoldable pub items_in : List ℕ → Data → Items
items_in key d = by_option (items_at key d) (λ items. items) no_items

-- the object under the key, or an empty one
unfoldable pub object_in : List ℕ → Data → Data
object_in key d = by_option (members_at key d) object (object no_members)

-- the object, with one more element in the array under the key
unfoldable pub with_item : List ℕ → Data → Data → Data
with_item key value d = with_key key (array (and_item value (items_in key d))) d

-- ---- what is written of a snapshot

abbrev pub long_data : ℤ → Data
long_data n = number (of_integer n)

abbrev pub with_long : List ℕ → Option ℤ → Data → Data
with_long key None d = d
with_long key (Some n) d = with_key key (long_data n) d

unfoldable pub summary_data : List ℕ → Data
summary_data operation = with_key (codes "operation") (string operation) (object no_members)

unfoldable pub number_keys : Snapshot → Data
number_keys s = with_key (codes "timestamp-ms") (long_data s.timestamp_ms) (with_key (codes "sequence-number") (long_data s.seq) (with_key (codes "snapshot-id") (long_data s.id) (object no_members)))

-- the keys that each snapshot has
unfoldable pub needed_keys : Snapshot → Data
needed_keys s = with_key (codes "manifest-list") (string s.list) (number_keys s)

unfoldable pub snapshot_data : Snapshot → Data
snapshot_data s = with_key (codes "summary") (summary_data s.operation) (with_long (codes "schema-id") s.schema (with_long (codes "parent-snapshot-id") s.parent (needed_keys s)))

-- a line of the log
unfoldable pub log_line : Snapshot → Data
log_line s = with_key (codes "timestamp-ms") (long_data s.timestamp_ms) (with_key (codes "snapshot-id") (long_data s.id) (object no_members))

-- the branch on the snapshot, with the other keys that it had
unfoldable pub branch_data : ℤ → Data → Data
branch_data id old = with_key (codes "type") (string (codes "branch")) (with_key (codes "snapshot-id") (long_data id) old)

-- ---- the metadata

unfoldable pub with_snapshot_listed : Snapshot → Data → Data
with_snapshot_listed s d = with_key (codes "last-sequence-number") (long_data s.seq) (with_item (codes "snapshots") (snapshot_data s) d)

-- the refs, the branch on the snapshot among them
unfoldable pub refs_after : List ℕ → ℤ → Data → Data
refs_after branch id refs = with_key branch (branch_data id (object_in branch refs)) refs

unfoldable pub with_branch_on : List ℕ → ℤ → Data → Data
with_branch_on branch id d = with_key (codes "refs") (refs_after branch id (object_in (codes "refs") d)) d

-- The head of `main` is the current snapshot, and is logged.
unfoldable pub with_current : List ℕ → Snapshot → Data → Data
with_current branch s d = if is_main_name branch then with_item (codes "snapshot-log") (log_line s) (with_key (codes "current-snapshot-id") (long_data s.id) d) else d

-- the time of a change at this hour of the clock, which does not fall
unfoldable pub time_after : ℤ → Data → ℤ
time_after now d = by_option (long_at (codes "last-updated-ms") d) (λ old. int_max now old) now

unfoldable pub with_change : List ℕ → ℤ → Data → Data
with_change writer now d = with_key (codes "dml-writer") (string writer) (with_key (codes "last-updated-ms") (long_data (time_after now d)) d)

unfoldable pub after_snapshot : List ℕ → Snapshot → List ℕ → ℤ → Data → Data
after_snapshot branch s writer now d = with_change writer now (with_current branch s (with_branch_on branch s.id (with_snapshot_listed s d)))
