-- The snapshot of a commit can follow those of the head.
use Rattle.std.proofs.Common.{◌≡◌, ◌^◌, ℤ, pos, ◌+ℤ◌, Bool, true, false, ◌||◌, ◌&&◌, List, [], ◌∷◌, ◌++◌, map, refl, sym, subst, ◌∙◌, arith, true≢false}
use Rattle.std.specs.Prelude.{if◌then◌else◌, int_lt, int_le}
use Rattle.std.specs.Int.{int_max}
use Rattle.std.specs.Ordering.{int_eq}
use Rattle.std.proofs.lemmas.Int.{ints}
use Rattle.table_names.specs.declared.names.Names.{Names}
use Rattle.table_metadata.specs.declared.snapshots.Snapshot.{Snapshot}
use Rattle.table_metadata.specs.Metadata.{parts}
use Rattle.table_metadata.specs.References.{has_snapshot}
use Rattle.table_state.specs.declared.state.State.{State}
use Rattle.change_sets.specs.declared.change.ChangeSet.{ChangeSet}
use Rattle.iceberg_schema.specs.Widths.{IsInt, IsLong}
use Rattle.iceberg_schema.proofs.CallerLemmas.{between, long_below, long_least}
use Rattle.metadata_writer.specs.PartsAfter.{CanFollow}
use Rattle.commit_builder.specs.Commits.{live_in, snapshot_in}
use Rattle.commit_builder.specs.NextVersion.{HasNumbers}
use Rattle.commit_builder.specs.SnapshotIds.{above, entry_snapshot, free_from, greatest, ids_of, last, next_id, snapshot_id}
use Rattle.commit_manifests.specs.Sorting.{has_id}
use Rattle.commit_builder.proofs.NewIds.{next_is_new}

-- ---- the id is a positive one of 64 bits

-- from 1 to the last
abbrev IsId : ℤ → Bool
IsId n = int_lt (pos 0) n && int_lt n (pos (2 ^ 63))

above_by : (b : Bool) (n : ℤ) → int_lt n last ≡ b → IsId n ≡ true → IsId (if b then n +ℤ pos 1 else n) ≡ true
above_by true n is id = grind (arith, ints, is, id)
above_by false n is id = id

free_is_id : (n : ℤ) (more ids : List ℤ) → IsId n ≡ true → IsId (free_from n more ids) ≡ true
unfolding free_from
free_is_id n [] ids id = id
free_is_id n (one ∷ more) ids id = found_by (has_id n ids) (free_is_id (above n) more ids (above_by (int_lt n last) n refl id))
  where
    found_by : (b : Bool) → IsId (free_from (above n) more ids) ≡ true → IsId (if b then free_from (above n) more ids else n) ≡ true
    found_by true h = h
    found_by false h = id

not_negative : (best : ℤ) (ids : List ℤ) → int_le (pos 0) best ≡ true → int_le (pos 0) (greatest best ids) ≡ true
unfolding greatest
not_negative best [] h = h
not_negative best (id ∷ ids) h = not_negative (int_max id best) ids (grind (arith, ints, h))

next_by : (b : Bool) (best free : ℤ) → int_lt best last ≡ b → int_le (pos 0) best ≡ true → IsId free ≡ true → IsId (if b then above best else free) ≡ true
next_by true best free is h id = more (int_lt best last) refl
  where
    more : (c : Bool) → int_lt best last ≡ c → IsId (if c then best +ℤ pos 1 else best) ≡ true
    more true again = grind (arith, ints, is, h)
    more false again = absurd (true≢false (sym is ∙ again))
next_by false best free is h id = id

next_is_id : (ids : List ℤ) → IsId (next_id ids) ≡ true
next_is_id ids = next_by (int_lt (greatest (pos 0) ids) last) (greatest (pos 0) ids) (free_from (pos 1) ids ids) refl (not_negative (pos 0) ids refl) (free_is_id (pos 1) ids ids refl)

-- ---- and no snapshot has it

not_in_front : (id : ℤ) (xs ys : List ℤ) → has_id id (xs ++ ys) ≡ false → has_id id xs ≡ false
unfolding has_id
not_in_front id [] ys h = refl
not_in_front id (x ∷ xs) ys h = front_by (int_eq x id) h (not_in_front id xs ys)
  where
    front_by : (b : Bool) → (if b then true else has_id id (xs ++ ys)) ≡ false
        → (has_id id (xs ++ ys) ≡ false → has_id id xs ≡ false) → (if b then true else has_id id xs) ≡ false
    front_by true e rest = absurd (true≢false e)
    front_by false e rest = rest e

no_snapshot : (id : ℤ) (snapshots : List Snapshot) → has_id id (map snapshot_id snapshots) ≡ false → has_snapshot id snapshots ≡ false
unfolding has_id
no_snapshot id [] h = refl
no_snapshot id (s ∷ snapshots) h = snapshot_by (int_eq s.id id) h (no_snapshot id snapshots)
  where
    snapshot_by : (b : Bool) → (if b then true else has_id id (map snapshot_id snapshots)) ≡ false
        → (has_id id (map snapshot_id snapshots) ≡ false → has_snapshot id snapshots ≡ false)
        → (b || has_snapshot id snapshots) ≡ false
    snapshot_by true e rest = absurd (true≢false e)
    snapshot_by false e rest = rest e

-- ---- the whole

module _ (head : State) (change : ChangeSet) (names : Names) (now : ℤ) (numbers : HasNumbers head now) where
  abbrev ids : List ℤ
  ids = ids_of head.metadata.snapshots (live_in head.head)

  id_is : IsId (next_id ids) ≡ true
  id_is = next_is_id ids

  -- the greater of two numbers of 64 bits has 64 bits
  later_is_long : (m n : ℤ) → IsLong m → IsLong n → IsLong (int_max m n)
  later_is_long m n h k =
      let least = long_least m h in
      let most = long_below m h in
      let most_of = long_below n k in
      between (int_max m n) (grind (arith, ints, least)) (grind (arith, ints, most, most_of))

  hour_is : IsLong (int_max now head.metadata.last_updated_ms)
  hour_is = later_is_long now head.metadata.last_updated_ms numbers.hour numbers.updated

  number_is : IsLong (head.metadata.last_sequence +ℤ pos 1)
  number_is = let least = long_least head.metadata.last_sequence numbers.number in
      between (head.metadata.last_sequence +ℤ pos 1) (grind (arith, ints, least)) (grind (arith, ints, numbers.sequence))

  id_is_long : IsLong (next_id ids)
  id_is_long = between (next_id ids) (grind (arith, ints, id_is)) (grind (arith, ints, id_is))

  pub follows : CanFollow (snapshot_in head change names now) now (parts head.metadata)
  follows = record {
    fits = record {
      id = id_is_long;
      number = number_is;
      time = hour_is;
      parent = λ n is. numbers.parent n is;
      schema = λ n is. let same : head.metadata.current_schema ≡ n = cc in subst IsLong same numbers.schema.0;
      schema_int = λ n is. let same : head.metadata.current_schema ≡ n = cc in subst IsInt same numbers.schema.1;
    };
    told = grind (arith, ints, id_is);
    new = no_snapshot (next_id ids) head.metadata.snapshots (not_in_front (next_id ids) (map snapshot_id head.metadata.snapshots)
        (map entry_snapshot (live_in head.head).data_files) (not_in_front (next_id ids)
        (map snapshot_id head.metadata.snapshots ++ map entry_snapshot (live_in head.head).data_files)
        (map entry_snapshot (live_in head.head).deletes) (next_is_new ids numbers.few)));
    time = hour_is;
  }
