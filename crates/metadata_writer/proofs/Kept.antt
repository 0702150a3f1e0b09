-- Edits of one key leave the others as they were.
use Rattle.std.proofs.Common.{◌≡◌, ◌≢◌, ℕ, ℤ, List, Bool, true, false, codes, Option, Some, None, IsSome, cond, bytes_eq, refl, sym, ap, ◌∙◌}
use Rattle.std.proofs.lemmas.Bool.{false≢true}
use Rattle.std.proofs.lemmas.Slice.Eq.{bytes_eq-Decides}
use Rattle.serde_json.specs.Data.{Data, null, boolean, number, string, array, object, Members, no_members}
use Rattle.serde_json.specs.Find.{get, as_object}
use Rattle.serde_json.proofs.Views.{get_member-put, get_member-put_other}
use Rattle.table_metadata.specs.declared.snapshots.Snapshot.{Snapshot}
use Rattle.iceberg_schema.specs.Keys.{members_at}
use Rattle.table_metadata.specs.References.{is_main_name}
use Rattle.plain_types.specs.Steps.{by_option}
use Rattle.metadata_writer.specs.Commit.{with_key, with_item, items_in, object_in, and_item, after_snapshot, branch_data, log_line, snapshot_data, with_snapshot_listed, refs_after, with_branch_on, with_current, with_change}
use Rattle.metadata_writer.specs.Kept.{IsKept}

-- ---- one edit

pub get-with_key_other : (q k : List ℕ) (v d : Data) → q ≢ k → get q (with_key k v d) ≡ get q d
unfolding with_key
get-with_key_other q k v null other = refl
get-with_key_other q k v (boolean b) other = refl
get-with_key_other q k v (number n) other = refl
get-with_key_other q k v (string s) other = refl
get-with_key_other q k v (array ds) other = refl
get-with_key_other q k v (object ms) other = get_member-put_other q k v ms other

pub get-with_key : (k : List ℕ) (v d : Data) → IsSome (as_object d) → get k (with_key k v d) ≡ Some v
unfolding with_key
get-with_key k v null is = cc
get-with_key k v (boolean b) is = cc
get-with_key k v (number n) is = cc
get-with_key k v (string s) is = cc
get-with_key k v (array ds) is = cc
get-with_key k v (object ms) is = get_member-put k v ms

pub object-with_key : (k : List ℕ) (v d : Data) → IsSome (as_object d) → IsSome (as_object (with_key k v d))
unfolding with_key
object-with_key k v null is = cc
object-with_key k v (boolean b) is = cc
object-with_key k v (number n) is = cc
object-with_key k v (string s) is = cc
object-with_key k v (array ds) is = cc
object-with_key k v (object ms) is = refl

pub object-with_item : (k : List ℕ) (v d : Data) → IsSome (as_object d) → IsSome (as_object (with_item k v d))
unfolding with_item
object-with_item k v d is = object-with_key k _ d is

pub get-with_item_other : (q k : List ℕ) (v d : Data) → q ≢ k → get q (with_item k v d) ≡ get q d
unfolding with_item
get-with_item_other q k v d other = get-with_key_other q k _ d other

pub get-with_item : (k : List ℕ) (v d : Data) → IsSome (as_object d) → get k (with_item k v d) ≡ Some (array (and_item v (items_in k d)))
unfolding with_item
get-with_item k v d is = get-with_key k _ d is

-- two keys that a test tells apart
pub apart : (x y : List ℕ) → bytes_eq x y ≡ false → x ≢ y
apart x y e same = false≢true (sym e ∙ (bytes_eq-Decides x y).1 same)

pub object_in-found : (key : List ℕ) (d r : Data) → get key d ≡ Some r → IsSome (as_object r) → object_in key d ≡ r
unfolding object_in
object_in-found key d null h is = cc
object_in-found key d (boolean b) h is = cc
object_in-found key d (number n) h is = cc
object_in-found key d (string s) h is = cc
object_in-found key d (array ds) h is = cc
object_in-found key d (object ms) h is = rw h refl

object-there : (o : Option Members) → IsSome (as_object (by_option o object (object no_members)))
object-there None = refl
object-there (Some ms) = refl

pub object-object_in : (key : List ℕ) (d : Data) → IsSome (as_object (object_in key d))
unfolding object_in
object-object_in key d = object-there (members_at key d)

-- ---- a commit

kept_if : (b : Bool) (q : List ℕ) (e d : Data) → (b ≡ true → get q e ≡ get q d) → get q (cond b e d) ≡ get q d
kept_if true q e d h = h refl
kept_if false q e d h = refl

pub get-with_current : (q branch : List ℕ) (s : Snapshot) (d : Data)
    → (is_main_name branch ≡ true → q ≢ codes "current-snapshot-id") → (is_main_name branch ≡ true → q ≢ codes "snapshot-log")
    → get q (with_current branch s d) ≡ get q d
unfolding with_current
get-with_current q branch s d current log =
    kept_if (is_main_name branch) q _ d (λ e. get-with_item_other q (codes "snapshot-log") (log_line s) _ (log e) ∙ get-with_key_other q (codes "current-snapshot-id") _ d (current e))

pub get-with_change : (q writer : List ℕ) (now : ℤ) (d : Data) → q ≢ codes "last-updated-ms" → q ≢ codes "dml-writer"
    → get q (with_change writer now d) ≡ get q d
unfolding with_change
get-with_change q writer now d time key =
    get-with_key_other q (codes "dml-writer") _ _ key ∙ get-with_key_other q (codes "last-updated-ms") _ d time

pub get-with_branch_on : (q branch : List ℕ) (id : ℤ) (d : Data) → q ≢ codes "refs" → get q (with_branch_on branch id d) ≡ get q d
unfolding with_branch_on
get-with_branch_on q branch id d refs = get-with_key_other q (codes "refs") _ d refs

pub get-with_snapshot_listed : (q : List ℕ) (s : Snapshot) (d : Data) → q ≢ codes "snapshots" → q ≢ codes "last-sequence-number"
    → get q (with_snapshot_listed s d) ≡ get q d
unfolding with_snapshot_listed
get-with_snapshot_listed q s d list last =
    get-with_key_other q (codes "last-sequence-number") _ _ last ∙ get-with_item_other q (codes "snapshots") _ d list

pub kept-after_snapshot : (branch : List ℕ) (s : Snapshot) (writer : List ℕ) (now : ℤ) (d : Data) (q : List ℕ) → IsKept branch q
    → get q (after_snapshot branch s writer now d) ≡ get q d
unfolding after_snapshot
kept-after_snapshot branch s writer now d q k =
    get-with_change q writer now _ k.time k.writer
    ∙ get-with_current q branch s _ k.current k.log
    ∙ get-with_branch_on q branch s.id _ k.refs
    ∙ get-with_snapshot_listed q s d k.snapshots k.number

-- ---- the lists that it adds to

pub snapshots-after_snapshot : (branch : List ℕ) (s : Snapshot) (writer : List ℕ) (now : ℤ) (d : Data) → IsSome (as_object d)
    → get (codes "snapshots") (after_snapshot branch s writer now d) ≡ Some (array (and_item (snapshot_data s)
    (items_in (codes "snapshots") d)))
unfolding after_snapshot with_snapshot_listed
snapshots-after_snapshot branch s writer now d is =
    get-with_change (codes "snapshots") writer now _ (apart _ _ refl) (apart _ _ refl)
    ∙ get-with_current (codes "snapshots") branch s _ (λ _. apart _ _ refl) (λ _. apart _ _ refl)
    ∙ get-with_branch_on (codes "snapshots") branch s.id _ (apart _ _ refl)
    ∙ get-with_key_other (codes "snapshots") (codes "last-sequence-number") _ _ (apart _ _ refl)
    ∙ get-with_item (codes "snapshots") (snapshot_data s) d is

pub object-with_snapshot_listed : (s : Snapshot) (d : Data) → IsSome (as_object d) → IsSome (as_object (with_snapshot_listed s d))
unfolding with_snapshot_listed
object-with_snapshot_listed s d is = object-with_key (codes "last-sequence-number") _ _ (object-with_item (codes "snapshots") _ d is)

-- what is found under one key alone
object_in-same : (key : List ℕ) (d e : Data) → get key d ≡ get key e → object_in key d ≡ object_in key e
unfolding object_in
object_in-same key d e same = rw same refl

object-refs_after : (branch : List ℕ) (id : ℤ) (refs : Data) → IsSome (as_object refs) → IsSome (as_object (refs_after branch id refs))
unfolding refs_after
object-refs_after branch id refs is = object-with_key branch _ refs is

refs-with_branch_on : (branch : List ℕ) (id : ℤ) (d : Data) → IsSome (as_object d)
    → get (codes "refs") (with_branch_on branch id d) ≡ Some (refs_after branch id (object_in (codes "refs") d))
unfolding with_branch_on
refs-with_branch_on branch id d is = get-with_key (codes "refs") _ d is

pub refs-after_snapshot : (branch : List ℕ) (s : Snapshot) (writer : List ℕ) (now : ℤ) (d : Data) → IsSome (as_object d)
    → get (codes "refs") (after_snapshot branch s writer now d) ≡ Some (refs_after branch s.id (object_in (codes "refs") d))
unfolding after_snapshot
refs-after_snapshot branch s writer now d is =
    get-with_change (codes "refs") writer now _ (apart _ _ refl) (apart _ _ refl)
    ∙ get-with_current (codes "refs") branch s _ (λ _. apart _ _ refl) (λ _. apart _ _ refl)
    ∙ refs-with_branch_on branch s.id _ (object-with_snapshot_listed s d is)
    ∙ ap (λ r. Some (refs_after branch s.id r)) (object_in-same (codes "refs") (with_snapshot_listed s d) d (get-with_snapshot_listed (codes "refs") s d (apart _ _ refl) (apart _ _ refl)))

pub refs_in-after_snapshot : (branch : List ℕ) (s : Snapshot) (writer : List ℕ) (now : ℤ) (d : Data) → IsSome (as_object d)
    → object_in (codes "refs") (after_snapshot branch s writer now d) ≡ refs_after branch s.id (object_in (codes "refs") d)
refs_in-after_snapshot branch s writer now d is =
    object_in-found (codes "refs") _ _ (refs-after_snapshot branch s writer now d is) (object-refs_after branch s.id _ (object-object_in (codes "refs") d))

pub other_ref-after_snapshot : (branch : List ℕ) (s : Snapshot) (writer : List ℕ) (now : ℤ) (d : Data) (name : List ℕ)
    → IsSome (as_object d) → name ≢ branch → get name (object_in (codes "refs")
    (after_snapshot branch s writer now d)) ≡ get name (object_in (codes "refs") d)
unfolding refs_after
other_ref-after_snapshot branch s writer now d name is other =
    rw (refs_in-after_snapshot branch s writer now d is) (get-with_key_other name branch _ (object_in (codes "refs") d) other)

pub its_ref-after_snapshot : (branch : List ℕ) (s : Snapshot) (writer : List ℕ) (now : ℤ) (d : Data) → IsSome (as_object d)
    → get branch (object_in (codes "refs")
    (after_snapshot branch s writer now d)) ≡ Some (branch_data s.id (object_in branch (object_in (codes "refs") d)))
unfolding refs_after
its_ref-after_snapshot branch s writer now d is =
    rw (refs_in-after_snapshot branch s writer now d is) (get-with_key branch _ (object_in (codes "refs") d) (object-object_in (codes "refs") d))
