-- What is read after a commit of the keys that each table has.
use Rattle.std.proofs.Common.{◌≡◌, ℕ, ℤ, List, codes, Some, Result, Ok, Err, IsSome, not, option_and_then, refl, ap, ◌∙◌}
use Rattle.std.specs.Prelude.{⊤}
use Rattle.serde_json.specs.Data.{Data}
use Rattle.serde_json.specs.Find.{get, as_object}
use Rattle.table_metadata.specs.declared.snapshots.Snapshot.{Snapshot}
use Rattle.iceberg_schema.specs.Keys.{long_at, int_at, text_at, whole_of}
use Rattle.table_metadata.specs.TableKeys.{plain_keys_of, shaped, shape_if, is_uuid}
use Rattle.plain_types.proofs.CallerLemmas.{one_value}
use Rattle.plain_types.specs.Steps.{◌>>=◌}
use Rattle.metadata_writer.specs.Commit.{after_snapshot, long_data, time_after, with_branch_on, with_change, with_snapshot_listed}
use Rattle.iceberg_schema.specs.Widths.{IsLong}
use Rattle.metadata_writer.proofs.Kept.{apart, get-with_branch_on, get-with_change, get-with_current, get-with_key, get-with_key_other, get-with_snapshot_listed, object-with_item, object-with_key, object-with_snapshot_listed}
use Rattle.metadata_writer.proofs.ReadAfter.{as_i64-of_integer, stays}
use Rattle.metadata_writer.proofs.Within.{current-object}

pub number-after_snapshot : (branch : List ℕ) (s : Snapshot) (writer : List ℕ) (now : ℤ) (d : Data) → IsSome (as_object d)
    → get (codes "last-sequence-number") (after_snapshot branch s writer now d) ≡ Some (long_data s.seq)
unfolding after_snapshot with_snapshot_listed
number-after_snapshot branch s writer now d is =
    get-with_change (codes "last-sequence-number") writer now _ (apart _ _ refl) (apart _ _ refl)
    ∙ get-with_current (codes "last-sequence-number") branch s _ (λ _. apart _ _ refl) (λ _. apart _ _ refl)
    ∙ get-with_branch_on (codes "last-sequence-number") branch s.id _ (apart _ _ refl)
    ∙ get-with_key (codes "last-sequence-number") _ _ (object-with_item (codes "snapshots") _ d is)

time_after-same : (now : ℤ) (d e : Data) → get (codes "last-updated-ms") e ≡ get (codes "last-updated-ms") d → time_after now e ≡ time_after now d
unfolding time_after
time_after-same now d e h = rw h refl

time-with_change : (writer : List ℕ) (now : ℤ) (d : Data) → IsSome (as_object d)
    → get (codes "last-updated-ms") (with_change writer now d) ≡ Some (long_data (time_after now d))
unfolding with_change
time-with_change writer now d is =
    get-with_key_other (codes "last-updated-ms") (codes "dml-writer") _ _ (apart _ _ refl) ∙ get-with_key (codes "last-updated-ms") _ d is

pub object-with_branch_on : (branch : List ℕ) (id : ℤ) (d : Data) → IsSome (as_object d) → IsSome (as_object (with_branch_on branch id d))
unfolding with_branch_on
object-with_branch_on branch id d is = object-with_key (codes "refs") _ d is

pub time-after_snapshot : (branch : List ℕ) (s : Snapshot) (writer : List ℕ) (now : ℤ) (d : Data) → IsSome (as_object d)
    → get (codes "last-updated-ms") (after_snapshot branch s writer now d) ≡ Some (long_data (time_after now d))
unfolding after_snapshot
time-after_snapshot branch s writer now d is =
    time-with_change writer now _ (current-object branch s _ (object-with_branch_on branch s.id _ (object-with_snapshot_listed s d is)))
    ∙ ap (λ t. Some (long_data t)) (time_after-same now d _
    (get-with_current (codes "last-updated-ms") branch s _ (λ _. apart _ _ refl) (λ _. apart _ _ refl)
    ∙ get-with_branch_on (codes "last-updated-ms") branch s.id _ (apart _ _ refl)
    ∙ get-with_snapshot_listed (codes "last-updated-ms") s d (apart _ _ refl) (apart _ _ refl)))

-- Of keys that are read in this order, the number and the time are others.
past_test : {E K : Type 0} → (f : List ℕ → ℤ → ℤ → ℤ → K) (g : K → K) (r : Result ⊤ E) (l : Result (List ℕ) E) (q m c : Result ℤ E) (seq time : ℤ) (k : K)
    → ((a : List ℕ) (x y z : ℤ) → f a seq time z ≡ g (f a x y z))
    → (r >>= λ _. l >>= λ location. q >>= λ last_sequence. m >>= λ last_updated_ms. c >>= λ last_column. Ok (f location last_sequence last_updated_ms last_column)) ≡ Ok k
    → (r >>= λ _. l >>= λ location. c >>= λ last_column. Ok (f location seq time last_column)) ≡ Ok (g k)
past_test f g (Ok t) (Ok a) (Ok x) (Ok y) (Ok z) seq time k is h = ap Ok (is a x y z) ∙ ap (λ w. Ok (g w)) (one_value (f a x y z) k _ refl h)
past_test f g (Ok t) (Ok a) (Ok x) (Ok y) (Err e) seq time k is h = cc
past_test f g (Ok t) (Ok a) (Ok x) (Err e) c seq time k is h = cc
past_test f g (Ok t) (Ok a) (Err e) m c seq time k is h = cc
past_test f g (Ok t) (Err e) q m c seq time k is h = cc
past_test f g (Err e) l q m c seq time k is h = cc

past_uuid : {E K : Type 0} → (f : List ℕ → ℤ → ℤ → ℤ → K) (g : K → K) (v : Result ℤ E) (u : Result (List ℕ) E)
    (r : List ℕ → Result ⊤ E) (l : Result (List ℕ) E) (q m c : Result ℤ E) (seq time : ℤ) (k : K)
    → ((a : List ℕ) (x y z : ℤ) → f a seq time z ≡ g (f a x y z))
    → (v >>= λ _. u >>= λ uuid. r uuid >>= λ _. l >>= λ location. q >>= λ last_sequence. m >>= λ last_updated_ms. c >>= λ last_column. Ok (f location last_sequence last_updated_ms last_column)) ≡ Ok k
    → (v >>= λ _. u >>= λ uuid. r uuid >>= λ _. l >>= λ location. c >>= λ last_column. Ok (f location seq time last_column)) ≡ Ok (g k)
past_uuid f g (Ok v) (Ok u) r l q m c seq time k is h = past_test f g (r u) l q m c seq time k is h
past_uuid f g (Ok v) (Err e) r l q m c seq time k is h = cc
past_uuid f g (Err e) u r l q m c seq time k is h = cc

plain_keys-later : (d e : Data) (seq time : ℤ) (location : List ℕ) (old_seq old_time column : ℤ)
    → get (codes "format-version") e ≡ get (codes "format-version") d → get (codes "table-uuid") e ≡ get (codes "table-uuid") d
    → get (codes "location") e ≡ get (codes "location") d → get (codes "last-column-id") e ≡ get (codes "last-column-id") d
    → get (codes "last-sequence-number") e ≡ Some (long_data seq) → get (codes "last-updated-ms") e ≡ Some (long_data time)
    → IsLong seq → IsLong time
    → plain_keys_of d ≡ Ok (record { location = location; last_sequence = old_seq; last_updated_ms = old_time; last_column = column }) → plain_keys_of e ≡ Ok (record { location = location; last_sequence = seq; last_updated_ms = time; last_column = column })
unfolding plain_keys_of
plain_keys-later d e seq time location old_seq old_time column a b c f n t ls lt h =
    rw (a, b, c, f, n, t, as_i64-of_integer seq ls, as_i64-of_integer time lt)
    (past_uuid (λ l x y z. record { location = l; last_sequence = x; last_updated_ms = y; last_column = z })
    (λ k. record { location = k.location; last_sequence = seq; last_updated_ms = time; last_column = k.last_column })
    (shaped (codes "format-version") (option_and_then whole_of (get (codes "format-version") d)))
    (shaped (codes "table-uuid") (text_at (codes "table-uuid") d)) (λ uuid. shape_if (codes "table-uuid") (not (is_uuid uuid)))
    (shaped (codes "location") (text_at (codes "location") d)) (shaped (codes "last-sequence-number") (long_at (codes "last-sequence-number") d))
    (shaped (codes "last-updated-ms") (long_at (codes "last-updated-ms") d))
    (shaped (codes "last-column-id") (int_at (codes "last-column-id") d)) seq time _ (λ _ _ _ _. refl) h)

pub plain_keys-after_snapshot : (branch : List ℕ) (s : Snapshot) (writer : List ℕ) (now : ℤ) (d : Data) (location : List ℕ)
    (old_seq old_time column : ℤ) → IsSome (as_object d) → IsLong s.seq → IsLong (time_after now d)
    → plain_keys_of d ≡ Ok (record { location = location; last_sequence = old_seq; last_updated_ms = old_time; last_column = column })
    → plain_keys_of (after_snapshot branch s writer now d) ≡ Ok
    (record { location = location; last_sequence = s.seq; last_updated_ms = time_after now d; last_column = column })
plain_keys-after_snapshot branch s writer now d location old_seq old_time column is ls lt h =
    plain_keys-later d _ s.seq (time_after now d) location old_seq old_time column
    (stays branch s writer now d (codes "format-version") refl refl refl refl refl refl refl)
    (stays branch s writer now d (codes "table-uuid") refl refl refl refl refl refl refl)
    (stays branch s writer now d (codes "location") refl refl refl refl refl refl refl)
    (stays branch s writer now d (codes "last-column-id") refl refl refl refl refl refl refl)
    (number-after_snapshot branch s writer now d is) (time-after_snapshot branch s writer now d is) ls lt h
