-- Edits of a value that has no float and nests no deeper than a bound keep it so.
use Rattle.std.proofs.Common.{◌≡◌, ◌≤◌, ◌||◌, ℕ, suc, ℤ, pos, negsuc, List, Bool, true, false, codes, Option, Some, None, IsSome, Ordering, Less, Equal, Greater, cond, option_and_then, refl, arith}
use Rattle.std.specs.Prelude.{⊤}
use Rattle.std.specs.Ordering.{nat_cmp, match_ordering}
use Rattle.std.specs.Cmp.Lexicographic.{slice_cmp}
use Rattle.serde_json.specs.Data.{Data, null, boolean, number, string, array, object, Items, no_items, item, Members, no_members, member, put, depth, items_depth, members_depth}
use Rattle.serde_json.specs.Find.{get, get_member, as_object, as_array}
use Rattle.serde_json.specs.Written.{has_float, items_have_float, members_have_float}
use Rattle.table_metadata.specs.declared.snapshots.Snapshot.{Snapshot}
use Rattle.table_metadata.specs.References.{is_main_name}
use Rattle.plain_types.specs.Steps.{by_option}
use Rattle.metadata_writer.specs.Commit.{with_key, with_item, with_long, items_in, object_in, and_item, long_data, after_snapshot, branch_data, log_line, snapshot_data, needed_keys, number_keys, summary_data, with_snapshot_listed, refs_after, with_branch_on, with_current, with_change}
use Rattle.metadata_writer.specs.Writable.{IsWritable}
use Rattle.metadata_writer.proofs.Kept.{object-with_key, object-with_item}

pub record Within (n : ℕ) (d : Data) : Type 0 where
  pub whole : has_float d ≡ false
  pub nests : depth d ≤ n

pub record ItemsWithin (n : ℕ) (ds : Items) : Type 0 where
  pub whole : items_have_float ds ≡ false
  pub nests : items_depth ds ≤ n

record MembersWithin (n : ℕ) (ms : Members) : Type 0 where
  whole : members_have_float ms ≡ false
  nests : members_depth ms ≤ n

abbrev pub FoundWithin : ℕ → Option Data → Type 0
FoundWithin n None = ⊤
FoundWithin n (Some d) = Within n d

neither : (a b : Bool) → (a || b) ≡ false → (a ≡ false) × (b ≡ false)
neither false false h = (refl, refl)
neither false true h = cc
neither true b h = cc

both : (a b : Bool) → a ≡ false → b ≡ false → (a || b) ≡ false
both a b e f = rw (e, f) refl

-- ---- members and items

member-within : (n : ℕ) (k : List ℕ) (d : Data) (ms : Members) → Within n d → MembersWithin n ms → MembersWithin n (member k d ms)
member-within n k d ms w ws = let x = w.nests in let y = ws.nests in record { whole = both _ _ w.whole ws.whole; nests = omega arith }

first-within : (n : ℕ) (k : List ℕ) (d : Data) (ms : Members) → MembersWithin n (member k d ms) → Within n d
first-within n k d ms w = let x = w.nests in record { whole = (neither (has_float d) (members_have_float ms) w.whole).0; nests = omega arith }

rest-within : (n : ℕ) (k : List ℕ) (d : Data) (ms : Members) → MembersWithin n (member k d ms) → MembersWithin n ms
rest-within n k d ms w = let x = w.nests in record { whole = (neither (has_float d) (members_have_float ms) w.whole).1; nests = omega arith }

one_of-within : (o : Ordering) (n : ℕ) (a b c : Members) → MembersWithin n a → MembersWithin n b → MembersWithin n c → MembersWithin n (match_ordering o a b c)
one_of-within Less n a b c x y z = x
one_of-within Equal n a b c x y z = y
one_of-within Greater n a b c x y z = z

put-within : (n : ℕ) (k : List ℕ) (v : Data) (ms : Members) → Within n v → MembersWithin n ms → MembersWithin n (put k v ms)
put-within n k v no_members w ws = member-within n k v no_members w ws
put-within n k v (member l e ms) w ws =
    one_of-within (slice_cmp nat_cmp k l) n _ _ _
    (member-within n k v _ w ws)
    (member-within n l v ms w (rest-within n l e ms ws))
    (member-within n l e _ (first-within n l e ms ws) (put-within n k v ms w (rest-within n l e ms ws)))

found_at : (o : Ordering) (n : ℕ) (a b : Option Data) → FoundWithin n a → FoundWithin n b → FoundWithin n (match_ordering o a b a)
found_at Less n a b x y = x
found_at Equal n a b x y = y
found_at Greater n a b x y = x

get_member-within : (n : ℕ) (k : List ℕ) (ms : Members) → MembersWithin n ms → FoundWithin n (get_member k ms)
get_member-within n k no_members w = tt
get_member-within n k (member l e ms) w =
    found_at (slice_cmp nat_cmp k l) n _ (Some e) (get_member-within n k ms (rest-within n l e ms w)) (first-within n l e ms w)

pub and_item-within : (n : ℕ) (v : Data) (ds : Items) → Within n v → ItemsWithin n ds → ItemsWithin n (and_item v ds)
and_item-within n v no_items w ws = let x = w.nests in record { whole = both _ _ w.whole refl; nests = omega arith }
and_item-within n v (item d ds) w ws =
    let parts = neither (has_float d) (items_have_float ds) ws.whole in
    let x = ws.nests in
    let later = and_item-within n v ds w (record { whole = parts.1; nests = omega arith }) in
    let y = later.nests in
    record { whole = both _ _ parts.0 later.whole; nests = omega arith }

-- ---- values

members_of-within : (n : ℕ) (ms : Members) → Within (suc n) (object ms) → MembersWithin n ms
members_of-within n ms w = let x = w.nests in record { whole = w.whole; nests = omega arith }

object-within : (n : ℕ) (ms : Members) → MembersWithin n ms → Within (suc n) (object ms)
object-within n ms w = let x = w.nests in record { whole = w.whole; nests = omega arith }

pub array-within : (n : ℕ) (ds : Items) → ItemsWithin n ds → Within (suc n) (array ds)
array-within n ds w = let x = w.nests in record { whole = w.whole; nests = omega arith }

items_of-within : (n : ℕ) (ds : Items) → Within (suc n) (array ds) → ItemsWithin n ds
items_of-within n ds w = let x = w.nests in record { whole = w.whole; nests = omega arith }

pub empty-within : (n : ℕ) → Within (suc n) (object no_members)
empty-within n = record { whole = refl; nests = omega arith }

pub string-within : (n : ℕ) (text : List ℕ) → Within n (string text)
string-within n text = record { whole = refl; nests = omega arith }

pub long-within : (n : ℕ) (z : ℤ) → Within n (long_data z)
long-within n (pos m) = record { whole = refl; nests = omega arith }
long-within n (negsuc m) = record { whole = refl; nests = omega arith }

pub get-within : (n : ℕ) (k : List ℕ) (d : Data) → Within (suc n) d → FoundWithin n (get k d)
get-within n k null w = tt
get-within n k (boolean b) w = tt
get-within n k (number x) w = tt
get-within n k (string s) w = tt
get-within n k (array ds) w = tt
get-within n k (object ms) w = get_member-within n k ms (members_of-within n ms w)

pub with_key-within : (n : ℕ) (k : List ℕ) (v d : Data) → Within n v → Within (suc n) d → Within (suc n) (with_key k v d)
unfolding with_key
with_key-within n k v null w ws = ws
with_key-within n k v (boolean b) w ws = ws
with_key-within n k v (number x) w ws = ws
with_key-within n k v (string s) w ws = ws
with_key-within n k v (array ds) w ws = ws
with_key-within n k v (object ms) w ws = object-within n _ (put-within n k v ms w (members_of-within n ms ws))

pub no_items-within : (n : ℕ) → ItemsWithin n no_items
no_items-within n = record { whole = refl; nests = omega arith }

items-of_found : (n : ℕ) (o : Option Data) → FoundWithin (suc n) o → ItemsWithin n (by_option (option_and_then as_array o) (λ is. is) no_items)
items-of_found n None w = no_items-within n
items-of_found n (Some null) w = no_items-within n
items-of_found n (Some (boolean b)) w = no_items-within n
items-of_found n (Some (number x)) w = no_items-within n
items-of_found n (Some (string s)) w = no_items-within n
items-of_found n (Some (array ds)) w = items_of-within n ds w
items-of_found n (Some (object ms)) w = no_items-within n

object-of_found : (n : ℕ) (o : Option Data) → FoundWithin (suc n) o → Within (suc n) (by_option (option_and_then as_object o) object (object no_members))
object-of_found n None w = empty-within n
object-of_found n (Some null) w = empty-within n
object-of_found n (Some (boolean b)) w = empty-within n
object-of_found n (Some (number x)) w = empty-within n
object-of_found n (Some (string s)) w = empty-within n
object-of_found n (Some (array ds)) w = empty-within n
object-of_found n (Some (object ms)) w = w

object_in-within : (n : ℕ) (k : List ℕ) (d : Data) → Within (suc (suc n)) d → Within (suc n) (object_in k d)
unfolding object_in
object_in-within n k d w = object-of_found n (get k d) (get-within (suc n) k d w)

items_in-within : (n : ℕ) (k : List ℕ) (d : Data) → Within (suc (suc n)) d → ItemsWithin n (items_in k d)
unfolding items_in
items_in-within n k d w = items-of_found n (get k d) (get-within (suc n) k d w)

with_item-within : (n : ℕ) (k : List ℕ) (v d : Data) → Within n v → Within (suc (suc n)) d → Within (suc (suc n)) (with_item k v d)
unfolding with_item
with_item-within n k v d w ws =
    with_key-within (suc n) k _ d (array-within n _ (and_item-within n v _ w (items_in-within n k d ws))) ws

-- ---- a commit

with_long-within : (n : ℕ) (k : List ℕ) (o : Option ℤ) (d : Data) → Within (suc n) d → Within (suc n) (with_long k o d)
with_long-within n k None d w = w
with_long-within n k (Some z) d w = with_key-within n k _ d (long-within n z) w

summary_data-within : (n : ℕ) (operation : List ℕ) → Within (suc n) (summary_data operation)
unfolding summary_data
summary_data-within n operation = with_key-within n (codes "operation") _ _ (string-within n operation) (empty-within n)

number_keys-within : (n : ℕ) (s : Snapshot) → Within (suc n) (number_keys s)
unfolding number_keys
number_keys-within n s =
    with_key-within n (codes "timestamp-ms") _ _ (long-within n s.timestamp_ms)
    (with_key-within n (codes "sequence-number") _ _ (long-within n s.seq)
    (with_key-within n (codes "snapshot-id") _ _ (long-within n s.id) (empty-within n)))

needed_keys-within : (n : ℕ) (s : Snapshot) → Within (suc n) (needed_keys s)
unfolding needed_keys
needed_keys-within n s = with_key-within n (codes "manifest-list") _ _ (string-within n s.list) (number_keys-within n s)

snapshot_data-within : (n : ℕ) (s : Snapshot) → Within (suc (suc n)) (snapshot_data s)
unfolding snapshot_data
snapshot_data-within n s =
    with_key-within (suc n) (codes "summary") _ _ (summary_data-within n s.operation)
    (with_long-within (suc n) (codes "schema-id") s.schema _
    (with_long-within (suc n) (codes "parent-snapshot-id") s.parent _ (needed_keys-within (suc n) s)))

log_line-within : (n : ℕ) (s : Snapshot) → Within (suc n) (log_line s)
unfolding log_line
log_line-within n s =
    with_key-within n (codes "timestamp-ms") _ _ (long-within n s.timestamp_ms)
    (with_key-within n (codes "snapshot-id") _ _ (long-within n s.id) (empty-within n))

branch_data-within : (n : ℕ) (id : ℤ) (old : Data) → Within (suc n) old → Within (suc n) (branch_data id old)
unfolding branch_data
branch_data-within n id old w =
    with_key-within n (codes "type") _ _ (string-within n (codes "branch")) (with_key-within n (codes "snapshot-id") _ old (long-within n id) w)

listed-within : (n : ℕ) (s : Snapshot) (d : Data) → Within (suc (suc (suc (suc n)))) d → Within (suc (suc (suc (suc n)))) (with_snapshot_listed s d)
unfolding with_snapshot_listed
listed-within n s d w =
    with_key-within (suc (suc (suc n))) (codes "last-sequence-number") _ _ (long-within (suc (suc (suc n))) s.seq)
    (with_item-within (suc (suc n)) (codes "snapshots") _ d (snapshot_data-within n s) w)

refs_after-within : (n : ℕ) (branch : List ℕ) (id : ℤ) (refs : Data) → Within (suc (suc n)) refs → Within (suc (suc n)) (refs_after branch id refs)
unfolding refs_after
refs_after-within n branch id refs w =
    with_key-within (suc n) branch _ refs (branch_data-within n id _ (object_in-within n branch refs w)) w

branch_on-within : (n : ℕ) (branch : List ℕ) (id : ℤ) (d : Data) → Within (suc (suc (suc n))) d → Within (suc (suc (suc n))) (with_branch_on branch id d)
unfolding with_branch_on
branch_on-within n branch id d w =
    with_key-within (suc (suc n)) (codes "refs") _ d (refs_after-within n branch id _ (object_in-within (suc n) (codes "refs") d w)) w

either-within : (b : Bool) (n : ℕ) (e d : Data) → Within n e → Within n d → Within n (cond b e d)
either-within true n e d x y = x
either-within false n e d x y = y

current-within : (n : ℕ) (branch : List ℕ) (s : Snapshot) (d : Data) → Within (suc (suc (suc n))) d → Within (suc (suc (suc n))) (with_current branch s d)
unfolding with_current
current-within n branch s d w =
    either-within (is_main_name branch) (suc (suc (suc n))) _ d
    (with_item-within (suc n) (codes "snapshot-log") _ _ (log_line-within n s) (with_key-within (suc (suc n)) (codes "current-snapshot-id") _ d (long-within (suc (suc n)) s.id) w))
    w

change-within : (n : ℕ) (writer : List ℕ) (now : ℤ) (d : Data) → Within (suc n) d → Within (suc n) (with_change writer now d)
unfolding with_change
change-within n writer now d w =
    with_key-within n (codes "dml-writer") _ _ (string-within n writer) (with_key-within n (codes "last-updated-ms") _ d (long-within n _) w)

after-within : (n : ℕ) (branch : List ℕ) (s : Snapshot) (writer : List ℕ) (now : ℤ) (d : Data)
    → Within (suc (suc (suc (suc n)))) d → Within (suc (suc (suc (suc n)))) (after_snapshot branch s writer now d)
unfolding after_snapshot
after-within n branch s writer now d w =
    change-within (suc (suc (suc n))) writer now _ (current-within (suc n) branch s _ (branch_on-within (suc n) branch s.id _ (listed-within n s d w)))

-- ---- it stays an object

either-object : (b : Bool) (e d : Data) → IsSome (as_object e) → IsSome (as_object d) → IsSome (as_object (cond b e d))
either-object true e d x y = x
either-object false e d x y = y

pub current-object : (branch : List ℕ) (s : Snapshot) (d : Data) → IsSome (as_object d) → IsSome (as_object (with_current branch s d))
unfolding with_current
current-object branch s d is =
    either-object (is_main_name branch) _ d (object-with_item (codes "snapshot-log") _ _ (object-with_key (codes "current-snapshot-id") _ d is)) is

after-object : (branch : List ℕ) (s : Snapshot) (writer : List ℕ) (now : ℤ) (d : Data) → IsSome (as_object d)
    → IsSome (as_object (after_snapshot branch s writer now d))
unfolding after_snapshot with_change with_branch_on with_snapshot_listed
after-object branch s writer now d is =
    object-with_key (codes "dml-writer") _ _
    (object-with_key (codes "last-updated-ms") _ _
    (current-object branch s _
    (object-with_key (codes "refs") _ _
    (object-with_key (codes "last-sequence-number") _ _ (object-with_item (codes "snapshots") _ d is)))))

pub writable-after_snapshot : (branch : List ℕ) (s : Snapshot) (writer : List ℕ) (now : ℤ) (d : Data) → IsWritable d
    → IsWritable (after_snapshot branch s writer now d)
writable-after_snapshot branch s writer now d w =
    let after = after-within 123 branch s writer now d (record { whole = w.whole; nests = w.nests }) in
    record { object = after-object branch s writer now d w.object; whole = after.whole; nests = after.nests }
