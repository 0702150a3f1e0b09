-- What is read after a commit of the keys that it leaves, and of the snapshots.
use Rattle.std.proofs.Common.{◌≡◌, ℕ, ℤ, pos, negsuc, List, [], ◌∷◌, ◌++◌, false, codes, Option, Some, None, Result, Ok, Err, IsSome, bytes_eq, refl, ◌∙◌}
use Rattle.serde_json.specs.Data.{Data, Items, no_items, item, array}
use Rattle.serde_json.specs.Find.{get, as_object, as_i64, of_integer}
use Rattle.row_values.specs.declared.schema.TableSchema.{TableSchema}
use Rattle.table_metadata.specs.declared.snapshots.Snapshot.{Snapshot}
use Rattle.table_metadata.specs.declared.metadata_fault.MetadataFault.{MetadataFault}
use Rattle.iceberg_schema.specs.Keys.{items_at, in_int}
use Rattle.table_metadata.specs.Properties.{properties_of, retries_of, least_to_merge_of}
use Rattle.table_metadata.specs.SchemaList.{schemas_of, specs_of}
use Rattle.table_metadata.specs.Snapshots.{snapshot_of, snapshots_from, snapshots_of, operation_of, operation_in}
use Rattle.table_metadata.specs.TableKeys.{current_ids_of}
use Rattle.plain_types.specs.Steps.{◌>>=◌, by_option}
use Rattle.metadata_writer.specs.Commit.{after_snapshot, and_item, items_in, snapshot_data, needed_keys, number_keys, summary_data, with_key}
use Rattle.metadata_writer.specs.Fitting.{Fits}
use Rattle.iceberg_schema.specs.Widths.{IsLong}
use Rattle.iceberg_schema.proofs.CallerLemmas.{long_below}
use Rattle.metadata_writer.specs.Kept.{IsKept}
use Rattle.metadata_writer.proofs.Kept.{apart, kept-after_snapshot, snapshots-after_snapshot}

-- ---- keys that a commit leaves

kept_key : (branch q : List ℕ) → bytes_eq q (codes "snapshots") ≡ false → bytes_eq q (codes "last-sequence-number") ≡ false
    → bytes_eq q (codes "refs") ≡ false → bytes_eq q (codes "current-snapshot-id") ≡ false
    → bytes_eq q (codes "snapshot-log") ≡ false → bytes_eq q (codes "last-updated-ms") ≡ false
    → bytes_eq q (codes "dml-writer") ≡ false → IsKept branch q
kept_key branch q a b c d e f g = record { snapshots = apart _ _ a; number = apart _ _ b; refs = apart _ _ c; current = λ _. apart _ _ d; log = λ _. apart _ _ e; time = apart _ _ f; writer = apart _ _ g }

same_schemas : (d e : Data) → get (codes "schemas") e ≡ get (codes "schemas") d → schemas_of e ≡ schemas_of d
unfolding schemas_of
same_schemas d e h = rw h refl

same_specs : (d e : Data) (id : ℤ) (schemas : List TableSchema)
    → get (codes "partition-specs") e ≡ get (codes "partition-specs") d → specs_of id schemas e ≡ specs_of id schemas d
unfolding specs_of
same_specs d e id schemas h = rw h refl

pub same_properties : (d e : Data) → get (codes "properties") e ≡ get (codes "properties") d → properties_of e ≡ properties_of d
unfolding properties_of retries_of least_to_merge_of
same_properties d e h = rw h refl

same_ids : (d e : Data) → get (codes "schemas") e ≡ get (codes "schemas") d
    → get (codes "current-schema-id") e ≡ get (codes "current-schema-id") d
    → get (codes "partition-specs") e ≡ get (codes "partition-specs") d
    → get (codes "default-spec-id") e ≡ get (codes "default-spec-id") d
    → get (codes "last-partition-id") e ≡ get (codes "last-partition-id") d → current_ids_of e ≡ current_ids_of d
unfolding current_ids_of
same_ids d e a b c f g = rw (a, b, c, f, g) refl

-- a key that the tests tell from those that a commit writes
pub stays : (branch : List ℕ) (s : Snapshot) (writer : List ℕ) (now : ℤ) (d : Data) (q : List ℕ)
    → bytes_eq q (codes "snapshots") ≡ false → bytes_eq q (codes "last-sequence-number") ≡ false
    → bytes_eq q (codes "refs") ≡ false → bytes_eq q (codes "current-snapshot-id") ≡ false
    → bytes_eq q (codes "snapshot-log") ≡ false → bytes_eq q (codes "last-updated-ms") ≡ false
    → bytes_eq q (codes "dml-writer") ≡ false → get q (after_snapshot branch s writer now d) ≡ get q d
stays branch s writer now d q a b c e f g h = kept-after_snapshot branch s writer now d q (kept_key branch q a b c e f g h)

pub schemas-after_snapshot : (branch : List ℕ) (s : Snapshot) (writer : List ℕ) (now : ℤ) (d : Data)
    → schemas_of (after_snapshot branch s writer now d) ≡ schemas_of d
schemas-after_snapshot branch s writer now d = same_schemas d _ (stays branch s writer now d (codes "schemas") refl refl refl refl refl refl refl)

pub specs-after_snapshot : (branch : List ℕ) (s : Snapshot) (writer : List ℕ) (now : ℤ) (d : Data) (id : ℤ)
    (schemas : List TableSchema) → specs_of id schemas (after_snapshot branch s writer now d) ≡ specs_of id schemas d
specs-after_snapshot branch s writer now d id schemas = same_specs d _ id schemas (stays branch s writer now d (codes "partition-specs") refl refl refl refl refl refl refl)

pub properties-after_snapshot : (branch : List ℕ) (s : Snapshot) (writer : List ℕ) (now : ℤ) (d : Data)
    → properties_of (after_snapshot branch s writer now d) ≡ properties_of d
properties-after_snapshot branch s writer now d = same_properties d _ (stays branch s writer now d (codes "properties") refl refl refl refl refl refl refl)

pub ids-after_snapshot : (branch : List ℕ) (s : Snapshot) (writer : List ℕ) (now : ℤ) (d : Data)
    → current_ids_of (after_snapshot branch s writer now d) ≡ current_ids_of d
ids-after_snapshot branch s writer now d =
    same_ids d _
    (stays branch s writer now d (codes "schemas") refl refl refl refl refl refl refl)
    (stays branch s writer now d (codes "current-schema-id") refl refl refl refl refl refl refl)
    (stays branch s writer now d (codes "partition-specs") refl refl refl refl refl refl refl)
    (stays branch s writer now d (codes "default-spec-id") refl refl refl refl refl refl refl)
    (stays branch s writer now d (codes "last-partition-id") refl refl refl refl refl refl refl)

-- ---- the snapshots

through : {A B C E : Type 0} → (r : Result A E) (f : A → Result C E) (g : A → Result B E) (h : B → Result C E)
    → ((a : A) → f a ≡ (g a >>= h)) → (r >>= f) ≡ ((r >>= g) >>= h)
through (Ok a) f g h k = k a
through (Err e) f g h k = refl

abbrev then_one : Data → List Snapshot → Result (List Snapshot) MetadataFault
then_one v all = snapshot_of v >>= λ s. Ok (all ++ s ∷ [])

snapshots_from-and_item : (earlier : List Snapshot) (v : Data) (ds : Items)
    → snapshots_from earlier (and_item v ds) ≡ (snapshots_from earlier ds >>= then_one v)
unfolding snapshots_from
snapshots_from-and_item earlier v no_items = refl
snapshots_from-and_item earlier v (item d ds) = through (snapshot_of d) _ _ (then_one v) (λ s. snapshots_from-and_item (earlier ++ s ∷ []) v ds)

pub as_i64-of_integer : (z : ℤ) → IsLong z → as_i64 (of_integer z) ≡ Some z
as_i64-of_integer (pos n) h = rw (long_below (pos n) h) refl
as_i64-of_integer (negsuc n) h = refl

-- what is written of a snapshot is read as the snapshot
snapshot_at : (id seq time : ℤ) (list operation : List ℕ) (parent schema : Option ℤ) → IsLong id → IsLong seq → IsLong time
    → ((n : ℤ) → parent ≡ Some n → IsLong n) → ((n : ℤ) → schema ≡ Some n → IsLong n)
    → ((n : ℤ) → schema ≡ Some n → in_int n ≡ Some n)
    → snapshot_of (snapshot_data (record { id = id; parent = parent; seq = seq; timestamp_ms = time; list = list; operation = operation; schema = schema })) ≡ Ok (record { id = id; parent = parent; seq = seq; timestamp_ms = time; list = list; operation = operation; schema = schema })
unfolding snapshot_of snapshot_data needed_keys number_keys summary_data with_key operation_of operation_in
snapshot_at id seq time list operation None None a b c p q r = rw (as_i64-of_integer id a, as_i64-of_integer seq b, as_i64-of_integer time c) refl
snapshot_at id seq time list operation None (Some m) a b c p q r = rw (as_i64-of_integer id a, as_i64-of_integer seq b, as_i64-of_integer time c, as_i64-of_integer m (q m refl), r m refl) refl
snapshot_at id seq time list operation (Some n) None a b c p q r = rw (as_i64-of_integer id a, as_i64-of_integer seq b, as_i64-of_integer time c, as_i64-of_integer n (p n refl)) refl
snapshot_at id seq time list operation (Some n) (Some m) a b c p q r = rw (as_i64-of_integer id a, as_i64-of_integer seq b, as_i64-of_integer time c, as_i64-of_integer n (p n refl), as_i64-of_integer m (q m refl), r m refl) refl

pub snapshot_of-snapshot_data : (s : Snapshot) → Fits s → snapshot_of (snapshot_data s) ≡ Ok s
snapshot_of-snapshot_data s f = snapshot_at s.id s.seq s.timestamp_ms s.list s.operation s.parent s.schema f.id f.number f.time f.parent f.schema f.schema_int

listed : (e : Data) (is : Items) → get (codes "snapshots") e ≡ Some (array is) → snapshots_of e ≡ snapshots_from [] is
unfolding snapshots_of
listed e is h = rw h refl

from_option : (o : Option Items) → snapshots_from [] (by_option o (λ is. is) no_items) ≡ by_option o (snapshots_from []) (Ok [])
unfolding snapshots_from
from_option None = refl
from_option (Some is) = refl

old_ones : (d : Data) → snapshots_from [] (items_in (codes "snapshots") d) ≡ snapshots_of d
unfolding snapshots_of items_in
old_ones d = from_option (items_at (codes "snapshots") d)

pub read_snapshots-after_snapshot : (branch : List ℕ) (s : Snapshot) (writer : List ℕ) (now : ℤ) (d : Data) (all : List Snapshot)
    → IsSome (as_object d) → Fits s → snapshots_of d ≡ Ok all
    → snapshots_of (after_snapshot branch s writer now d) ≡ Ok (all ++ s ∷ [])
read_snapshots-after_snapshot branch s writer now d all is fits h =
    listed (after_snapshot branch s writer now d) _ (snapshots-after_snapshot branch s writer now d is)
    ∙ snapshots_from-and_item [] (snapshot_data s) (items_in (codes "snapshots") d)
    ∙ rw (old_ones d, h, snapshot_of-snapshot_data s fits) refl
