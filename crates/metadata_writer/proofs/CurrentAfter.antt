-- The current snapshot and the log after a commit, on `main` and on another branch.
use Rattle.std.proofs.Common.{◌≡◌, ℕ, ℤ, pos, neg_ℤ, List, Bool, true, false, codes, Some, Ok, IsSome, refl, sym, ap, ◌∙◌}
use Rattle.std.specs.Ordering.{int_eq}
use Rattle.std.proofs.lemmas.Bool.{false≢true}
use Rattle.serde_json.specs.Data.{Data, array}
use Rattle.serde_json.specs.Find.{get, as_object}
use Rattle.table_metadata.specs.declared.snapshots.Snapshot.{Snapshot}
use Rattle.table_metadata.specs.TableKeys.{current_snapshot_of}
use Rattle.table_metadata.specs.References.{is_main_name}
use Rattle.metadata_writer.specs.Commit.{after_snapshot, and_item, items_in, log_line, long_data, with_branch_on, with_current, with_snapshot_listed}
use Rattle.iceberg_schema.specs.Widths.{IsLong}
use Rattle.metadata_writer.proofs.Kept.{apart, get-with_branch_on, get-with_change, get-with_current, get-with_item, get-with_item_other, get-with_key, get-with_key_other, get-with_snapshot_listed, object-with_key, object-with_snapshot_listed}
use Rattle.metadata_writer.proofs.PlainAfter.{object-with_branch_on}
use Rattle.metadata_writer.proofs.ReadAfter.{as_i64-of_integer}

current-with_current : (branch : List ℕ) (s : Snapshot) (d : Data) → is_main_name branch ≡ true → IsSome (as_object d)
    → get (codes "current-snapshot-id") (with_current branch s d) ≡ Some (long_data s.id)
unfolding with_current
current-with_current branch s d main is =
    rw main (get-with_item_other (codes "current-snapshot-id") (codes "snapshot-log") (log_line s) _ (apart _ _ refl) ∙ get-with_key (codes "current-snapshot-id") _ d is)

items_in-same : (key : List ℕ) (d e : Data) → get key e ≡ get key d → items_in key e ≡ items_in key d
unfolding items_in
items_in-same key d e h = rw h refl

log-with_current : (branch : List ℕ) (s : Snapshot) (d : Data) → is_main_name branch ≡ true → IsSome (as_object d)
    → get (codes "snapshot-log") (with_current branch s d) ≡ Some (array (and_item (log_line s)
    (items_in (codes "snapshot-log") d)))
unfolding with_current
log-with_current branch s d main is =
    rw main (get-with_item (codes "snapshot-log") (log_line s) _ (object-with_key (codes "current-snapshot-id") _ d is)
    ∙ ap (λ xs. Some (array (and_item (log_line s) xs))) (items_in-same (codes "snapshot-log") d _ (get-with_key_other (codes "snapshot-log") (codes "current-snapshot-id") _ d (apart _ _ refl))))

object-before : (branch : List ℕ) (s : Snapshot) (d : Data) → IsSome (as_object d) → IsSome (as_object (with_branch_on branch s.id (with_snapshot_listed s d)))
object-before branch s d is = object-with_branch_on branch s.id _ (object-with_snapshot_listed s d is)

current-after_snapshot : (branch : List ℕ) (s : Snapshot) (writer : List ℕ) (now : ℤ) (d : Data) → is_main_name branch ≡ true
    → IsSome (as_object d) → get (codes "current-snapshot-id") (after_snapshot branch s writer now d) ≡ Some (long_data s.id)
unfolding after_snapshot
current-after_snapshot branch s writer now d main is =
    get-with_change (codes "current-snapshot-id") writer now _ (apart _ _ refl) (apart _ _ refl)
    ∙ current-with_current branch s _ main (object-before branch s d is)

pub log-after_snapshot : (branch : List ℕ) (s : Snapshot) (writer : List ℕ) (now : ℤ) (d : Data) → is_main_name branch ≡ true
    → IsSome (as_object d) → get (codes "snapshot-log")
    (after_snapshot branch s writer now d) ≡ Some (array (and_item (log_line s) (items_in (codes "snapshot-log") d)))
unfolding after_snapshot
log-after_snapshot branch s writer now d main is =
    get-with_change (codes "snapshot-log") writer now _ (apart _ _ refl) (apart _ _ refl)
    ∙ log-with_current branch s _ main (object-before branch s d is)
    ∙ ap (λ xs. Some (array (and_item (log_line s) xs))) (items_in-same (codes "snapshot-log") d _
    (get-with_branch_on (codes "snapshot-log") branch s.id _ (apart _ _ refl) ∙ get-with_snapshot_listed (codes "snapshot-log") s d (apart _ _ refl) (apart _ _ refl)))

read_current : (e : Data) (id : ℤ) → get (codes "current-snapshot-id") e ≡ Some (long_data id) → IsLong id
    → int_eq id (neg_ℤ (pos 1)) ≡ false → current_snapshot_of e ≡ Ok (Some id)
unfolding current_snapshot_of
read_current e id h long other = rw (h, as_i64-of_integer id long, other) refl

same_current : (d e : Data) → get (codes "current-snapshot-id") e ≡ get (codes "current-snapshot-id") d → current_snapshot_of e ≡ current_snapshot_of d
unfolding current_snapshot_of
same_current d e h = rw h refl

pub read_current-after_snapshot : (branch : List ℕ) (s : Snapshot) (writer : List ℕ) (now : ℤ) (d : Data)
    → is_main_name branch ≡ true → IsSome (as_object d) → IsLong s.id → int_eq s.id (neg_ℤ (pos 1)) ≡ false
    → current_snapshot_of (after_snapshot branch s writer now d) ≡ Ok (Some s.id)
read_current-after_snapshot branch s writer now d main is long other = read_current _ s.id (current-after_snapshot branch s writer now d main is) long other

not_main : (b : Bool) → b ≡ false → b ≡ true → ⊥
not_main b f t = false≢true (sym f ∙ t)

pub kept_current-after_snapshot : (branch : List ℕ) (s : Snapshot) (writer : List ℕ) (now : ℤ) (d : Data)
    → is_main_name branch ≡ false → current_snapshot_of (after_snapshot branch s writer now d) ≡ current_snapshot_of d
unfolding after_snapshot
kept_current-after_snapshot branch s writer now d other =
    same_current d _
    (get-with_change (codes "current-snapshot-id") writer now _ (apart _ _ refl) (apart _ _ refl)
    ∙ get-with_current (codes "current-snapshot-id") branch s _ (λ t. absurd (not_main _ other t)) (λ _. apart _ _ refl)
    ∙ get-with_branch_on (codes "current-snapshot-id") branch s.id _ (apart _ _ refl)
    ∙ get-with_snapshot_listed (codes "current-snapshot-id") s d (apart _ _ refl) (apart _ _ refl))
