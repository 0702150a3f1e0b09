-- After a commit no needed key is absent.
use Rattle.std.proofs.Common.{◌≡◌, ℕ, ℤ, List, codes, Option, Some, None, Result, Ok, Err, IsSome, Ordering, Less, Equal, Greater, refl, ◌∙◌}
use Rattle.std.specs.Prelude.{⊤}
use Rattle.std.specs.Ordering.{nat_cmp, match_ordering}
use Rattle.std.specs.Cmp.Lexicographic.{slice_cmp}
use Rattle.serde_json.specs.Data.{Data, Items, no_items, item, Members, no_members, member, object, array, string, put}
use Rattle.serde_json.specs.Find.{get, as_object}
use Rattle.table_metadata.specs.declared.snapshots.Snapshot.{Snapshot}
use Rattle.table_metadata.specs.declared.metadata_fault.MetadataFault.{MetadataFault}
use Rattle.iceberg_schema.specs.Keys.{items_at, members_at}
use Rattle.table_metadata.specs.MissingKeys.{keys_stand, listed_refs_stand, listed_snapshots_stand, needs, ref_keys_stand, refs_stand, snapshot_keys_stand, snapshots_stand, table_keys_stand, version_fits}
use Rattle.plain_types.specs.Steps.{◌>>=◌, by_option}
use Rattle.metadata_writer.specs.Commit.{after_snapshot, and_item, branch_data, items_in, long_data, needed_keys, number_keys, object_in, refs_after, snapshot_data, summary_data, with_key}
use Rattle.metadata_writer.proofs.PlainAfter.{number-after_snapshot, time-after_snapshot}
use Rattle.metadata_writer.proofs.ReadAfter.{stays}
use Rattle.metadata_writer.proofs.Kept.{get-with_key, get-with_key_other, object-with_key, snapshots-after_snapshot, refs-after_snapshot, object-object_in, apart}

first_stands : (r s t : Result ⊤ MetadataFault) → (r >>= λ _. s) ≡ Ok tt → (s ≡ Ok tt → t ≡ Ok tt) → (r >>= λ _. t) ≡ Ok tt
first_stands (Ok a) s t h k = k h
first_stands (Err e) s t h k = cc

after_first : (r s : Result ⊤ MetadataFault) → (r >>= λ _. s) ≡ Ok tt → s ≡ Ok tt
after_first (Ok a) s h = h
after_first (Err e) s h = cc

-- ---- the snapshots

snapshot_at : (id seq time : ℤ) (list operation : List ℕ) (parent schema : Option ℤ)
    → snapshot_keys_stand (snapshot_data (record { id = id; parent = parent; seq = seq; timestamp_ms = time; list = list; operation = operation; schema = schema })) ≡ Ok tt
unfolding snapshot_keys_stand snapshot_data needed_keys number_keys summary_data with_key
snapshot_at id seq time list operation None None = refl
snapshot_at id seq time list operation None (Some m) = refl
snapshot_at id seq time list operation (Some n) None = refl
snapshot_at id seq time list operation (Some n) (Some m) = refl

stand_and_item : (v : Data) (ds : Items) → snapshot_keys_stand v ≡ Ok tt → snapshots_stand ds ≡ Ok tt → snapshots_stand (and_item v ds) ≡ Ok tt
unfolding snapshots_stand
stand_and_item v no_items h k = rw h refl
stand_and_item v (item d ds) h k = first_stands (snapshot_keys_stand d) (snapshots_stand ds) (snapshots_stand (and_item v ds)) k (λ e. stand_and_item v ds h e)

listed : (e : Data) (ds : Items) → get (codes "snapshots") e ≡ Some (array ds) → listed_snapshots_stand e ≡ snapshots_stand ds
unfolding listed_snapshots_stand
listed e ds h = rw h refl

old_ones : (o : Option Items) → by_option o snapshots_stand (Ok tt) ≡ Ok tt → snapshots_stand (by_option o (λ ds. ds) no_items) ≡ Ok tt
unfolding snapshots_stand
old_ones None h = refl
old_ones (Some ds) h = h

items_in-stand : (d : Data) → listed_snapshots_stand d ≡ Ok tt → snapshots_stand (items_in (codes "snapshots") d) ≡ Ok tt
unfolding listed_snapshots_stand items_in
items_in-stand d h = old_ones (items_at (codes "snapshots") d) h

pub snapshots_stand-after_snapshot : (branch : List ℕ) (s : Snapshot) (writer : List ℕ) (now : ℤ) (d : Data)
    → IsSome (as_object d) → listed_snapshots_stand d ≡ Ok tt
    → listed_snapshots_stand (after_snapshot branch s writer now d) ≡ Ok tt
snapshots_stand-after_snapshot branch s writer now d is h =
    listed _ _ (snapshots-after_snapshot branch s writer now d is)
    ∙ stand_and_item (snapshot_data s) _ (snapshot_at s.id s.seq s.timestamp_ms s.list s.operation s.parent s.schema) (items_in-stand d h)

-- ---- the refs

one_of_stands : (o : Ordering) (a b c : Members) → refs_stand a ≡ Ok tt → refs_stand b ≡ Ok tt → refs_stand c ≡ Ok tt
    → refs_stand (match_ordering o a b c) ≡ Ok tt
one_of_stands Less a b c x y z = x
one_of_stands Equal a b c x y z = y
one_of_stands Greater a b c x y z = z

member_stands : (k : List ℕ) (v : Data) (ms : Members) → ref_keys_stand v ≡ Ok tt → refs_stand ms ≡ Ok tt → refs_stand (member k v ms) ≡ Ok tt
unfolding refs_stand
member_stands k v ms h w = rw h w

rest_stands : (l : List ℕ) (e : Data) (ms : Members) → refs_stand (member l e ms) ≡ Ok tt → refs_stand ms ≡ Ok tt
unfolding refs_stand
rest_stands l e ms h = after_first (ref_keys_stand e) (refs_stand ms) h

other_stands : (l : List ℕ) (e : Data) (ms ns : Members) → refs_stand (member l e ms) ≡ Ok tt
    → (refs_stand ms ≡ Ok tt → refs_stand ns ≡ Ok tt) → refs_stand (member l e ns) ≡ Ok tt
unfolding refs_stand
other_stands l e ms ns h k = first_stands (ref_keys_stand e) (refs_stand ms) (refs_stand ns) h k

put_stands : (k : List ℕ) (v : Data) (ms : Members) → ref_keys_stand v ≡ Ok tt → refs_stand ms ≡ Ok tt → refs_stand (put k v ms) ≡ Ok tt
put_stands k v no_members h w = member_stands k v no_members h w
put_stands k v (member l e ms) h w =
    one_of_stands (slice_cmp nat_cmp k l) _ _ _
    (member_stands k v (member l e ms) h w)
    (member_stands l v ms h (rest_stands l e ms w))
    (other_stands l e ms (put k v ms) w (λ x. put_stands k v ms h x))

branch_stands : (id : ℤ) (old : Data) → IsSome (as_object old) → ref_keys_stand (branch_data id old) ≡ Ok tt
unfolding ref_keys_stand branch_data
branch_stands id old is =
    let first = object-with_key (codes "snapshot-id") (long_data id) old is in
    rw (
      object-with_key (codes "type") (string (codes "branch")) _ first,
      get-with_key_other (codes "snapshot-id") (codes "type")
          (string (codes "branch")) (with_key (codes "snapshot-id") (long_data id) old) (apart _ _ refl),
      get-with_key (codes "snapshot-id")
          (long_data id) old is,
      get-with_key (codes "type") (string (codes "branch")) _ first,
    ) refl

none_stand : refs_stand no_members ≡ Ok tt
unfolding refs_stand
none_stand = refl

refs_at : (e : Data) (branch : List ℕ) (v : Data) (ms : Members) → get (codes "refs") e ≡ Some (with_key branch v (object ms))
    → listed_refs_stand e ≡ refs_stand (put branch v ms)
unfolding listed_refs_stand with_key
refs_at e branch v ms h = rw h refl

branch_on : (e : Data) (branch : List ℕ) (id : ℤ) (ms : Members) → refs_stand ms ≡ Ok tt
    → get (codes "refs") e ≡ Some (refs_after branch id (object ms)) → listed_refs_stand e ≡ Ok tt
unfolding refs_after
branch_on e branch id ms w h =
    refs_at e branch (branch_data id (object_in branch (object ms))) ms h
    ∙ put_stands branch (branch_data id (object_in branch (object ms))) ms (branch_stands id _ (object-object_in branch (object ms))) w

on_option : (o : Option Members) (e : Data) (branch : List ℕ) (id : ℤ) → by_option o refs_stand (Ok tt) ≡ Ok tt
    → get (codes "refs") e ≡ Some (refs_after branch id (by_option o object (object no_members))) → listed_refs_stand e ≡ Ok tt
on_option None e branch id h k = branch_on e branch id no_members none_stand k
on_option (Some ms) e branch id h k = branch_on e branch id ms h k

old_refs : (d : Data) → listed_refs_stand d ≡ Ok tt → by_option (members_at (codes "refs") d) refs_stand (Ok tt) ≡ Ok tt
unfolding listed_refs_stand
old_refs d h = h

refs_then : (d e : Data) (branch : List ℕ) (id : ℤ) → listed_refs_stand d ≡ Ok tt
    → get (codes "refs") e ≡ Some (refs_after branch id (object_in (codes "refs") d)) → listed_refs_stand e ≡ Ok tt
unfolding object_in
refs_then d e branch id h k = on_option (members_at (codes "refs") d) e branch id (old_refs d h) k

pub refs_stand-after_snapshot : (branch : List ℕ) (s : Snapshot) (writer : List ℕ) (now : ℤ) (d : Data) → IsSome (as_object d)
    → listed_refs_stand d ≡ Ok tt → listed_refs_stand (after_snapshot branch s writer now d) ≡ Ok tt
refs_stand-after_snapshot branch s writer now d is h = refs_then d _ branch s.id h (refs-after_snapshot branch s writer now d is)

-- ---- the table's own keys

both_stand : (r t s u : Result ⊤ MetadataFault) → (r >>= λ _. s) ≡ Ok tt → (r ≡ Ok tt → t ≡ Ok tt) → (s ≡ Ok tt → u ≡ Ok tt) → (t >>= λ _. u) ≡ Ok tt
both_stand (Ok a) t s u h k m = rw (k refl) (m h)
both_stand (Err e) t s u h k m = cc

same_need : (key : List ℕ) (d e : Data) → get key e ≡ get key d → needs key d ≡ Ok tt → needs key e ≡ Ok tt
same_need key d e same h = rw same h

is_there : (key : List ℕ) (e v : Data) → get key e ≡ Some v → needs key e ≡ Ok tt
is_there key e v h = rw h refl

same_version : (d e : Data) → get (codes "format-version") e ≡ get (codes "format-version") d → version_fits d ≡ Ok tt → version_fits e ≡ Ok tt
unfolding version_fits
same_version d e same h = rw same h

pub table_keys_stand-after_snapshot : (branch : List ℕ) (s : Snapshot) (writer : List ℕ) (now : ℤ) (d : Data)
    → IsSome (as_object d) → table_keys_stand d ≡ Ok tt → table_keys_stand (after_snapshot branch s writer now d) ≡ Ok tt
unfolding table_keys_stand
table_keys_stand-after_snapshot branch s writer now d is h =
    let e = after_snapshot branch s writer now d in
    both_stand _ _ _ _ h (same_need (codes "table-uuid") d e (stays branch s writer now d (codes "table-uuid") refl refl refl refl refl refl refl)) (λ h1.
    both_stand _ _ _ _ h1 (same_need (codes "location") d e (stays branch s writer now d (codes "location") refl refl refl refl refl refl refl)) (λ h2.
    both_stand (needs (codes "last-sequence-number") d) _ _ _ h2 (λ _. is_there (codes "last-sequence-number") e _ (number-after_snapshot branch s writer now d is)) (λ h3.
    both_stand (needs (codes "last-updated-ms") d) _ _ _ h3 (λ _. is_there (codes "last-updated-ms") e _ (time-after_snapshot branch s writer now d is)) (λ h4.
    both_stand _ _ _ _ h4 (same_need (codes "last-column-id") d e (stays branch s writer now d (codes "last-column-id") refl refl refl refl refl refl refl)) (λ h5.
    both_stand _ _ _ _ h5 (same_need (codes "schemas") d e (stays branch s writer now d (codes "schemas") refl refl refl refl refl refl refl)) (λ h6.
    both_stand _ _ _ _ h6 (same_need (codes "current-schema-id") d e (stays branch s writer now d (codes "current-schema-id") refl refl refl refl refl refl refl)) (λ h7.
    both_stand _ _ _ _ h7 (same_need (codes "partition-specs") d e (stays branch s writer now d (codes "partition-specs") refl refl refl refl refl refl refl)) (λ h8.
    both_stand _ _ _ _ h8 (same_need (codes "default-spec-id") d e (stays branch s writer now d (codes "default-spec-id") refl refl refl refl refl refl refl)) (λ h9.
    same_need (codes "last-partition-id") d e (stays branch s writer now d (codes "last-partition-id") refl refl refl refl refl refl refl) h9)))))))))

pub keys_stand-after_snapshot : (branch : List ℕ) (s : Snapshot) (writer : List ℕ) (now : ℤ) (d : Data) → IsSome (as_object d)
    → keys_stand d ≡ Ok tt → keys_stand (after_snapshot branch s writer now d) ≡ Ok tt
unfolding keys_stand
keys_stand-after_snapshot branch s writer now d is h =
    let e = after_snapshot branch s writer now d in
    let version = stays branch s writer now d (codes "format-version") refl refl refl refl refl refl refl in
    both_stand _ _ _ _ h (same_need (codes "format-version") d e version) (λ h1.
    both_stand _ _ _ _ h1 (same_version d e version) (λ h2.
    both_stand _ _ _ _ h2 (table_keys_stand-after_snapshot branch s writer now d is) (λ h3.
    both_stand _ _ _ _ h3 (snapshots_stand-after_snapshot branch s writer now d is) (λ h4.
    refs_stand-after_snapshot branch s writer now d is h4))))
