-- The forms of the optional keys after a commit.
use Rattle.std.proofs.Common.{◌≡◌, ℕ, ℤ, pos, neg_ℤ, List, [], ◌∷◌, ◌++◌, ◌||◌, Bool, true, false, not, codes, Option, Some, None, is_some, Ok, IsSome, cond, option_and_then, Ordering, Less, Equal, Greater, refl, sym, subst, ◌∙◌}
use Rattle.std.specs.Prelude.{⊤}
use Rattle.std.specs.Ordering.{nat_cmp, int_eq, match_ordering}
use Rattle.std.specs.Cmp.Lexicographic.{slice_cmp}
use Rattle.std.proofs.lemmas.Cmp.{int_eq_equiv}
use Rattle.std.proofs.lemmas.List.Folds.{list_any-append}
use Rattle.serde_json.specs.Data.{Data, null, boolean, number, string, array, object, Items, no_items, item, Members, no_members, member, put}
use Rattle.serde_json.specs.Find.{get, as_array, as_object}
use Rattle.table_metadata.specs.declared.metadata_fault.MetadataFault.{MetadataFault}
use Rattle.table_metadata.specs.declared.metadata_fault.MetadataFault.TheVariants as fault
use Rattle.table_metadata.specs.declared.snapshots.Snapshot.{Snapshot}
use Rattle.iceberg_schema.specs.Keys.{all_objects, has_id, has_twice, is_id, items_at, long_at, text_at}
use Rattle.table_metadata.specs.References.{has_snapshot, is_main_name}
use Rattle.table_metadata.specs.Snapshots.{operation_of, optional_int, optional_long, snapshot_of, snapshots_from, snapshots_of}
use Rattle.table_metadata.specs.TableKeys.{all_members_objects, are_snapshots, current_snapshot_of, log_shape, optional_keys_of, properties_shape, refs_shape, shape_if, shaped, snapshots_shape}
use Rattle.table_metadata.proofs.CallerLemmas.{then_ok}
use Rattle.plain_types.proofs.CallerLemmas.{one_value, two_steps}
use Rattle.plain_types.specs.Steps.{◌>>=◌, by_option, fault_if}
use Rattle.metadata_writer.specs.Commit.{after_snapshot, and_item, branch_data, items_in, object_in, refs_after, snapshot_data, with_key}
use Rattle.metadata_writer.specs.Fitting.{Fits}
use Rattle.iceberg_schema.specs.Widths.{IsLong}
use Rattle.metadata_writer.specs.PartsAfter.{current_after}
use Rattle.metadata_writer.proofs.CurrentAfter.{kept_current-after_snapshot, log-after_snapshot, read_current-after_snapshot}
use Rattle.metadata_writer.proofs.Kept.{apart, get-with_branch_on, get-with_change, get-with_current, get-with_snapshot_listed, object-object_in, object-with_key, refs-after_snapshot, snapshots-after_snapshot}
use Rattle.metadata_writer.proofs.ReadAfter.{snapshot_of-snapshot_data, stays}

-- ---- the snapshots

pub found : {A : Type 0} → (key : List ℕ) (o : Option A) (a : A) → shaped key o ≡ Ok a → o ≡ Some a
found key None a h = cc
found key (Some b) a h = cc

id_read : (d : Data) (s : Snapshot) → snapshot_of d ≡ Ok s → long_at (codes "snapshot-id") d ≡ Some s.id
unfolding snapshot_of
id_read d s h =
    let s1 = two_steps (shaped (codes "snapshot-id") (long_at (codes "snapshot-id") d)) _ s h in
    let s2 = two_steps (shaped (codes "sequence-number") (long_at (codes "sequence-number") d)) _ s s1.2 in
    let s3 = two_steps (shaped (codes "timestamp-ms") (long_at (codes "timestamp-ms") d)) _ s s2.2 in
    let s4 = two_steps (shaped (codes "manifest-list") (text_at (codes "manifest-list") d)) _ s s3.2 in
    let s5 = two_steps (optional_long (codes "parent-snapshot-id") d) _ s s4.2 in
    let s6 = two_steps (operation_of d) _ s s5.2 in
    let s7 = two_steps (optional_int (codes "schema-id") d) _ s s6.2 in
    subst (λ (x : Snapshot). long_at (codes "snapshot-id") d ≡ Some x.id) (one_value _ s _ refl s7.2) (found (codes "snapshot-id") _ s1.0 s1.1)

neither : (a b : Bool) → (a || b) ≡ false → (a ≡ false) × (b ≡ false)
neither false b h = (refl, h)
neither true b h = cc

not_that_id : (id : ℤ) (o : Option ℤ) (n : ℤ) → o ≡ Some n → int_eq n id ≡ false → by_option o (λ m. int_eq m id) false ≡ false
not_that_id id o n h k = rw h k

none_here : (id : ℤ) (d : Data) (ds : Items) → is_id (codes "snapshot-id") id d ≡ false
    → has_id (codes "snapshot-id") id ds ≡ false → has_id (codes "snapshot-id") id (item d ds) ≡ false
unfolding has_id
none_here id d ds h k = rw h k

none_at_all : (id : ℤ) → has_id (codes "snapshot-id") id no_items ≡ false
unfolding has_id
none_at_all id = refl

-- no element has an id that no snapshot has
fresh_read : (id : ℤ) (earlier all : List Snapshot) (ds : Items) → snapshots_from earlier ds ≡ Ok all
    → has_snapshot id all ≡ false → (has_snapshot id earlier ≡ false) × (has_id (codes "snapshot-id") id ds ≡ false)
unfolding snapshots_from
fresh_read id earlier all no_items h f = (subst (λ (xs : List Snapshot). has_snapshot id xs ≡ false) (sym (one_value earlier all _ refl h)) f, none_at_all id)
fresh_read id earlier all (item d ds) h f =
    let s = two_steps (snapshot_of d) _ all h in
    let later = fresh_read id (earlier ++ s.0 ∷ []) all ds s.2 f in
    let both = neither (has_snapshot id earlier) _ (sym (list_any-append (λ (x : Snapshot). int_eq x.id id) earlier (s.0 ∷ [])) ∙ later.0) in
    (both.0, none_here id d ds (not_that_id id _ s.0.id (id_read d s.0 s.1) (neither (int_eq s.0.id id) false both.1).0) later.1)

both_false : (a b : Bool) → cond a true b ≡ false → (a ≡ false) × (b ≡ false)
both_false false b h = (refl, h)
both_false true b h = cc

has_id_parts : (id : ℤ) (d : Data) (ds : Items) → has_id (codes "snapshot-id") id (item d ds) ≡ false
    → (is_id (codes "snapshot-id") id d ≡ false) × (has_id (codes "snapshot-id") id ds ≡ false)
unfolding has_id
has_id_parts id d ds h = both_false (is_id (codes "snapshot-id") id d) _ h

one_more_id : (id : ℤ) (v : Data) (ds : Items) → is_id (codes "snapshot-id") id v ≡ false
    → has_id (codes "snapshot-id") id ds ≡ false → has_id (codes "snapshot-id") id (and_item v ds) ≡ false
one_more_id id v no_items h k = none_here id v no_items h k
one_more_id id v (item d ds) h k =
    let p = has_id_parts id d ds k in none_here id d (and_item v ds) p.0 (one_more_id id v ds h p.1)

again_at : (o : Option ℤ) (id : ℤ) (v : Data) (ds : Items) → long_at (codes "snapshot-id") v ≡ Some id
    → by_option o (λ n. int_eq n id) false ≡ false → by_option o (λ n. has_id (codes "snapshot-id") n ds) false ≡ false
    → by_option o (λ n. has_id (codes "snapshot-id") n (and_item v ds)) false ≡ false
again_at None id v ds h k m = refl
again_at (Some n) id v ds h k m = one_more_id n v ds (not_that_id n _ id h (int_eq_equiv.symm id n ∙ k)) m

one_more_once : (id : ℤ) (v : Data) (ds : Items) → long_at (codes "snapshot-id") v ≡ Some id
    → has_id (codes "snapshot-id") id ds ≡ false → has_twice (codes "snapshot-id") ds ≡ false
    → has_twice (codes "snapshot-id") (and_item v ds) ≡ false
unfolding has_twice
one_more_once id v no_items h k t = rw h (rw (none_at_all id) refl)
one_more_once id v (item d ds) h k t =
    let p = has_id_parts id d ds k in
    let q = both_false (by_option (long_at (codes "snapshot-id") d) (λ n. has_id (codes "snapshot-id") n ds) false) _ t in
    rw (again_at (long_at (codes "snapshot-id") d) id v ds h p.0 q.0) (one_more_once id v ds h p.1 q.1)

both_are : (a b : Bool) → cond a b false ≡ true → (a ≡ true) × (b ≡ true)
both_are true b h = (refl, h)
both_are false b h = cc

both_true : (a b c : Bool) → cond a b false ≡ true → (b ≡ true → c ≡ true) → cond a c false ≡ true
both_true true b c h f = f h
both_true false b c h f = cc

one_more_object : (v : Data) (ds : Items) → IsSome (as_object v) → all_objects ds ≡ true → all_objects (and_item v ds) ≡ true
unfolding all_objects
one_more_object v no_items h k = rw h refl
one_more_object v (item d ds) h k = both_true (is_some (as_object d)) _ _ k (one_more_object v ds h)

long_is_object : (key : List ℕ) (d : Data) (n : ℤ) → long_at key d ≡ Some n → IsSome (as_object d)
long_is_object key null n h = cc
long_is_object key (boolean b) n h = cc
long_is_object key (number x) n h = cc
long_is_object key (string s) n h = cc
long_is_object key (array ds) n h = cc
long_is_object key (object ms) n h = refl

snapshots_parts : (a b c : Bool) → cond a (cond b false (not c)) false ≡ true → (a ≡ true) × (b ≡ false) × (c ≡ false)
snapshots_parts true false false h = (refl, refl, refl)
snapshots_parts true false true h = cc
snapshots_parts true true c h = cc
snapshots_parts false b c h = cc

one_more_snapshot : (id : ℤ) (v : Data) (ds : Items) → long_at (codes "snapshot-id") v ≡ Some id
    → int_eq id (neg_ℤ (pos 1)) ≡ false → has_id (codes "snapshot-id") id ds ≡ false → are_snapshots ds ≡ true
    → are_snapshots (and_item v ds) ≡ true
unfolding are_snapshots
one_more_snapshot id v ds h told k a =
    let p = snapshots_parts (all_objects ds) (has_twice (codes "snapshot-id") ds) (has_id (codes "snapshot-id") (neg_ℤ (pos 1)) ds) a in
    rw (one_more_object v ds (long_is_object (codes "snapshot-id") v id h) p.0, one_more_once id v ds h k p.1, one_more_id (neg_ℤ (pos 1)) v ds (not_that_id (neg_ℤ (pos 1)) _ id h told) p.2) refl

no_snapshots : are_snapshots no_items ≡ true
unfolding are_snapshots all_objects has_twice has_id
no_snapshots = refl

untold : (e : MetadataFault) (b : Bool) (a : ⊤) → fault_if e (not b) ≡ Ok a → b ≡ true
untold e true a h = refl
untold e false a h = cc

shape_of_found : (o : Option Data) → by_option o (λ v. shaped (codes "snapshots")
    (as_array v) >>= λ ds. shape_if (codes "snapshots") (not (are_snapshots ds))) (Ok tt) ≡ Ok tt
    → are_snapshots (by_option (option_and_then as_array o) (λ ds. ds) no_items) ≡ true
shape_of_found None h = no_snapshots
shape_of_found (Some null) h = cc
shape_of_found (Some (boolean b)) h = cc
shape_of_found (Some (number n)) h = cc
shape_of_found (Some (string s)) h = cc
shape_of_found (Some (array ds)) h = untold (fault.Shape (codes "snapshots")) (are_snapshots ds) tt h
shape_of_found (Some (object ms)) h = cc

old_snapshots : (d : Data) → snapshots_shape d ≡ Ok tt → are_snapshots (items_in (codes "snapshots") d) ≡ true
unfolding snapshots_shape items_in
old_snapshots d h = shape_of_found (get (codes "snapshots") d) h

old_items : (o : Option Items) (all : List Snapshot) → by_option o (snapshots_from []) (Ok []) ≡ Ok all
    → snapshots_from [] (by_option o (λ ds. ds) no_items) ≡ Ok all
unfolding snapshots_from
old_items None all h = h
old_items (Some ds) all h = h

old_read : (d : Data) (all : List Snapshot) → snapshots_of d ≡ Ok all → snapshots_from [] (items_in (codes "snapshots") d) ≡ Ok all
unfolding snapshots_of items_in
old_read d all h = old_items (items_at (codes "snapshots") d) all h

shape_at : (e : Data) (ds : Items) → get (codes "snapshots") e ≡ Some (array ds) → are_snapshots ds ≡ true → snapshots_shape e ≡ Ok tt
unfolding snapshots_shape
shape_at e ds h k = rw (h, k) refl

snapshots_shape-after_snapshot : (branch : List ℕ) (s : Snapshot) (writer : List ℕ) (now : ℤ) (d : Data) (all : List Snapshot)
    → IsSome (as_object d) → Fits s → int_eq s.id (neg_ℤ (pos 1)) ≡ false → has_snapshot s.id all ≡ false
    → snapshots_of d ≡ Ok all → snapshots_shape d ≡ Ok tt → snapshots_shape (after_snapshot branch s writer now d) ≡ Ok tt
snapshots_shape-after_snapshot branch s writer now d all is fits told new h k =
    shape_at _ _ (snapshots-after_snapshot branch s writer now d is)
    (one_more_snapshot s.id (snapshot_data s) (items_in (codes "snapshots") d) (id_read _ s (snapshot_of-snapshot_data s fits)) told (fresh_read s.id [] all (items_in (codes "snapshots") d) (old_read d all h) new).1 (old_snapshots d k))

-- ---- the refs

member_object : (k : List ℕ) (v : Data) (ms : Members) → IsSome (as_object v) → all_members_objects ms ≡ true → all_members_objects (member k v ms) ≡ true
unfolding all_members_objects
member_object k v ms h a = rw h a

members_parts : (k : List ℕ) (v : Data) (ms : Members) → all_members_objects (member k v ms) ≡ true → IsSome (as_object v) × (all_members_objects ms ≡ true)
unfolding all_members_objects
members_parts k v ms h = both_are (is_some (as_object v)) _ h

one_of_objects : (o : Ordering) (a b c : Members) → all_members_objects a ≡ true → all_members_objects b ≡ true
    → all_members_objects c ≡ true → all_members_objects (match_ordering o a b c) ≡ true
one_of_objects Less a b c x y z = x
one_of_objects Equal a b c x y z = y
one_of_objects Greater a b c x y z = z

put_objects : (k : List ℕ) (v : Data) (ms : Members) → IsSome (as_object v) → all_members_objects ms ≡ true → all_members_objects (put k v ms) ≡ true
put_objects k v no_members h a = member_object k v no_members h a
put_objects k v (member l e ms) h a =
    let p = members_parts l e ms a in
    one_of_objects (slice_cmp nat_cmp k l) _ _ _ (member_object k v (member l e ms) h a) (member_object l v ms h p.1) (member_object l e (put k v ms) p.0 (put_objects k v ms h p.1))

branch_object : (id : ℤ) (old : Data) → IsSome (as_object old) → IsSome (as_object (branch_data id old))
unfolding branch_data
branch_object id old is = object-with_key (codes "type") _ _ (object-with_key (codes "snapshot-id") _ old is)

refs_shape_at : (e : Data) (branch : List ℕ) (v : Data) (ms : Members)
    → get (codes "refs") e ≡ Some (with_key branch v (object ms)) → all_members_objects (put branch v ms) ≡ true
    → refs_shape e ≡ Ok tt
unfolding refs_shape with_key
refs_shape_at e branch v ms h k = rw (h, k) refl

no_refs : all_members_objects no_members ≡ true
unfolding all_members_objects
no_refs = refl

branch_shape : (e : Data) (branch : List ℕ) (id : ℤ) (ms : Members) → all_members_objects ms ≡ true
    → get (codes "refs") e ≡ Some (refs_after branch id (object ms)) → refs_shape e ≡ Ok tt
unfolding refs_after
branch_shape e branch id ms a h =
    refs_shape_at e branch (branch_data id (object_in branch (object ms))) ms h (put_objects branch _ ms (branch_object id _ (object-object_in branch (object ms))) a)

shape_on : (o : Option Data) (e : Data) (branch : List ℕ) (id : ℤ)
    → by_option o (λ v. shaped (codes "refs") (as_object v) >>= λ ms. shape_if (codes "refs") (not (all_members_objects ms)))
    (Ok tt) ≡ Ok tt
    → get (codes "refs") e ≡ Some (refs_after branch id (by_option (option_and_then as_object o) object (object no_members)))
    → refs_shape e ≡ Ok tt
shape_on None e branch id h k = branch_shape e branch id no_members no_refs k
shape_on (Some null) e branch id h k = cc
shape_on (Some (boolean b)) e branch id h k = cc
shape_on (Some (number n)) e branch id h k = cc
shape_on (Some (string s)) e branch id h k = cc
shape_on (Some (array ds)) e branch id h k = cc
shape_on (Some (object ms)) e branch id h k = branch_shape e branch id ms (untold (fault.Shape (codes "refs")) (all_members_objects ms) tt h) k

shape_then : (d e : Data) (branch : List ℕ) (id : ℤ) → refs_shape d ≡ Ok tt
    → get (codes "refs") e ≡ Some (refs_after branch id (object_in (codes "refs") d)) → refs_shape e ≡ Ok tt
unfolding object_in refs_shape
shape_then d e branch id h k = shape_on (get (codes "refs") d) e branch id h k

refs_shape-after_snapshot : (branch : List ℕ) (s : Snapshot) (writer : List ℕ) (now : ℤ) (d : Data) → IsSome (as_object d)
    → refs_shape d ≡ Ok tt → refs_shape (after_snapshot branch s writer now d) ≡ Ok tt
refs_shape-after_snapshot branch s writer now d is h = shape_then d _ branch s.id h (refs-after_snapshot branch s writer now d is)

-- ---- the log, the properties and the current snapshot

log_at : (e : Data) (ds : Items) → get (codes "snapshot-log") e ≡ Some (array ds) → log_shape e ≡ Ok tt
unfolding log_shape
log_at e ds h = rw h refl

same_log : (d e : Data) → get (codes "snapshot-log") e ≡ get (codes "snapshot-log") d → log_shape e ≡ log_shape d
unfolding log_shape
same_log d e h = rw h refl

same_properties : (d e : Data) → get (codes "properties") e ≡ get (codes "properties") d → properties_shape e ≡ properties_shape d
unfolding properties_shape
same_properties d e h = rw h refl

not_main : (b : Bool) → b ≡ false → b ≡ true → ⊥
not_main b f t = cc

kept_log : (branch : List ℕ) (s : Snapshot) (writer : List ℕ) (now : ℤ) (d : Data) → is_main_name branch ≡ false
    → get (codes "snapshot-log") (after_snapshot branch s writer now d) ≡ get (codes "snapshot-log") d
unfolding after_snapshot
kept_log branch s writer now d other =
    get-with_change (codes "snapshot-log") writer now _ (apart _ _ refl) (apart _ _ refl)
    ∙ get-with_current (codes "snapshot-log") branch s _ (λ _. apart _ _ refl) (λ t. absurd (not_main _ other t))
    ∙ get-with_branch_on (codes "snapshot-log") branch s.id _ (apart _ _ refl)
    ∙ get-with_snapshot_listed (codes "snapshot-log") s d (apart _ _ refl) (apart _ _ refl)

log_either : (b : Bool) (branch : List ℕ) (s : Snapshot) (writer : List ℕ) (now : ℤ) (d : Data) → is_main_name branch ≡ b
    → IsSome (as_object d) → log_shape d ≡ Ok tt → log_shape (after_snapshot branch s writer now d) ≡ Ok tt
log_either true branch s writer now d main is h = log_at _ _ (log-after_snapshot branch s writer now d main is)
log_either false branch s writer now d other is h = same_log d _ (kept_log branch s writer now d other) ∙ h

current_either : (b : Bool) (branch : List ℕ) (s : Snapshot) (writer : List ℕ) (now : ℤ) (d : Data) (current : Option ℤ)
    → is_main_name branch ≡ b → IsSome (as_object d) → IsLong s.id → int_eq s.id (neg_ℤ (pos 1)) ≡ false
    → current_snapshot_of d ≡ Ok current
    → current_snapshot_of (after_snapshot branch s writer now d) ≡ Ok (cond b (Some s.id) current)
current_either true branch s writer now d current main is long told h = read_current-after_snapshot branch s writer now d main is long told
current_either false branch s writer now d current other is long told h = kept_current-after_snapshot branch s writer now d other ∙ h

pub optional_keys-after_snapshot : (branch : List ℕ) (s : Snapshot) (writer : List ℕ) (now : ℤ) (d : Data) (current : Option ℤ)
    (all : List Snapshot) → IsSome (as_object d) → Fits s → int_eq s.id (neg_ℤ (pos 1)) ≡ false → has_snapshot s.id all ≡ false
    → snapshots_of d ≡ Ok all → optional_keys_of d ≡ Ok current
    → optional_keys_of (after_snapshot branch s writer now d) ≡ Ok (current_after branch s.id current)
unfolding optional_keys_of
optional_keys-after_snapshot branch s writer now d current all is fits told new h k =
    let s1 = two_steps (properties_shape d) _ current k in
    let s2 = two_steps (current_snapshot_of d) _ current s1.2 in
    let s3 = two_steps (snapshots_shape d) _ current s2.2 in
    let s4 = two_steps (log_shape d) _ current s3.2 in
    let s5 = two_steps (refs_shape d) _ current s4.2 in
    then_ok _ _ _ _ (same_properties d _ (stays branch s writer now d (codes "properties") refl refl refl refl refl refl refl) ∙ s1.1)
    (then_ok _ _ _ _ (current_either (is_main_name branch) branch s writer now d current refl is fits.id told (s2.1 ∙ s5.2))
    (then_ok _ _ _ _ (snapshots_shape-after_snapshot branch s writer now d all is fits told new h s3.1)
    (then_ok _ _ _ _ (log_either (is_main_name branch) branch s writer now d refl is s4.1)
    (then_ok _ _ _ _ (refs_shape-after_snapshot branch s writer now d is s5.1) refl))))
