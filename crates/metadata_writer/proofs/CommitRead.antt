-- What is read of the whole metadata after a commit.
use Rattle.std.proofs.Common.{◌≡◌, ℕ, ℤ, List, codes, Some, Ok, IsSome, false, not, option_and_then, refl, sym, ap, subst, ◌∙◌}
use Rattle.std.specs.Int.{int_max}
use Rattle.serde_json.specs.Data.{Data, null, boolean, number, string, array, object}
use Rattle.serde_json.specs.Find.{get, as_object}
use Rattle.serde_json.specs.View.{view}
use Rattle.serde_json.specs.Written.{compact_text, has_float}
use Rattle.table_metadata.specs.declared.metadata.Metadata.{Metadata}
use Rattle.table_metadata.specs.declared.snapshots.Snapshot.{Snapshot}
use Rattle.iceberg_schema.specs.Keys.{int_at, long_at, text_at, whole_of}
use Rattle.table_metadata.specs.Metadata.{IsMetadataOf, Parts, json_of, metadata_of, parts, parts_of}
use Rattle.table_metadata.specs.MissingKeys.{keys_stand, needs}
use Rattle.table_metadata.specs.References.{AreInOrder}
use Rattle.table_metadata.specs.TableKeys.{is_uuid, plain_keys_of, shape_if, shaped}
use Rattle.table_metadata.proofs.CallerLemmas.{parts_read, readings_of}
use Rattle.plain_types.proofs.CallerLemmas.{one_value, two_steps}
use Rattle.metadata_writer.specs.Commit.{after_snapshot, time_after}
use Rattle.metadata_writer.specs.PartsAfter.{CanFollow, parts_after}
use Rattle.metadata_writer.specs.Writable.{IsWritable}
use Rattle.metadata_writer.proofs.OptionalAfter.{found, optional_keys-after_snapshot}
use Rattle.metadata_writer.proofs.PlainAfter.{plain_keys-after_snapshot}
use Rattle.metadata_writer.proofs.ReadAfter.{ids-after_snapshot, properties-after_snapshot, read_snapshots-after_snapshot, schemas-after_snapshot, specs-after_snapshot}
use Rattle.metadata_writer.proofs.RefOrder.{parts_in_order}
use Rattle.metadata_writer.proofs.RefsAfter.{listed_refs-after_snapshot, refs-after_snapshot_hold}
use Rattle.metadata_writer.proofs.StandAfter.{keys_stand-after_snapshot}
use Rattle.metadata_writer.proofs.Texts.{read_parts, writable-read}
use Rattle.metadata_writer.proofs.Within.{writable-after_snapshot}

needs_object : (key : List ℕ) (d : Data) → needs key d ≡ Ok tt → IsSome (as_object d)
needs_object key null h = cc
needs_object key (boolean b) h = cc
needs_object key (number n) h = cc
needs_object key (string s) h = cc
needs_object key (array ds) h = cc
needs_object key (object ms) h = refl

stand_object : (d : Data) → keys_stand d ≡ Ok tt → IsSome (as_object d)
unfolding keys_stand
stand_object d h =
    let s = two_steps (needs (codes "format-version") d) _ tt h in needs_object (codes "format-version") d s.1

-- the time that was read
time_read : (d : Data) (location : List ℕ) (seq time column : ℤ)
    → plain_keys_of d ≡ Ok (record { location = location; last_sequence = seq; last_updated_ms = time; last_column = column })
    → long_at (codes "last-updated-ms") d ≡ Some time
unfolding plain_keys_of
time_read d location seq time column h =
    let s1 = two_steps (shaped (codes "format-version") (option_and_then whole_of (get (codes "format-version") d))) _ _ h in
    let s2 = two_steps (shaped (codes "table-uuid") (text_at (codes "table-uuid") d)) _ _ s1.2 in
    let s3 = two_steps (shape_if (codes "table-uuid") (not (is_uuid s2.0))) _ _ s2.2 in
    let s4 = two_steps (shaped (codes "location") (text_at (codes "location") d)) _ _ s3.2 in
    let s5 = two_steps (shaped (codes "last-sequence-number") (long_at (codes "last-sequence-number") d)) _ _ s4.2 in
    let s6 = two_steps (shaped (codes "last-updated-ms") (long_at (codes "last-updated-ms") d)) _ _ s5.2 in
    let s7 = two_steps (shaped (codes "last-column-id") (int_at (codes "last-column-id") d)) _ _ s6.2 in
    found (codes "last-updated-ms") _ s6.0 s6.1 ∙ ap (λ k. Some k.last_updated_ms) (one_value _ _ _ refl s7.2)

time_is : (now old : ℤ) (d : Data) → long_at (codes "last-updated-ms") d ≡ Some old → time_after now d ≡ int_max now old
unfolding time_after
time_is now old d h = rw h refl

pub parts-after_snapshot : (branch : List ℕ) (s : Snapshot) (writer : List ℕ) (now : ℤ) (d : Data) (p : Parts) → AreInOrder p.refs
    → CanFollow s now p → parts_of d ≡ Ok p → parts_of (after_snapshot branch s writer now d) ≡ Ok (parts_after branch s now p)
parts-after_snapshot branch s writer now d p order can h =
    let r = readings_of d p h in
    let is = stand_object d r.stand in
    let time = time_is now p.last_updated_ms d (time_read d p.location p.last_sequence p.last_updated_ms p.last_column r.plain) in
    parts_read _ _ (record {
      version = r.version;
      stand = keys_stand-after_snapshot branch s writer now d is r.stand;
      plain = subst (λ (t : ℤ). plain_keys_of (after_snapshot branch s writer now d) ≡ Ok
          (record { location = p.location; last_sequence = s.seq; last_updated_ms = t; last_column = p.last_column })) time
          (plain_keys-after_snapshot branch s writer now d p.location p.last_sequence p.last_updated_ms p.last_column is can.fits.number
          (rw time can.time) r.plain);
      ids = ids-after_snapshot branch s writer now d ∙ r.ids;
      current = optional_keys-after_snapshot branch s writer now d p.current_snapshot p.snapshots is can.fits can.told can.new r.snapshots r.current;
      snapshots = read_snapshots-after_snapshot branch s writer now d p.snapshots is can.fits r.snapshots;
      listed = _;
      lists = listed_refs-after_snapshot branch s writer now d r.listed is can.fits.id r.lists;
      schemas = schemas-after_snapshot branch s writer now d ∙ r.schemas;
      specs = specs-after_snapshot branch s writer now d p.current_schema p.schemas ∙ r.specs;
      fit = r.fit;
      properties = properties-after_snapshot branch s writer now d ∙ r.properties;
      refs = refs-after_snapshot_hold branch s p.current_snapshot p.snapshots r.listed p.refs order r.refs;
    })

-- from text to text
pub text-after_snapshot : (bytes text : List ℕ) (branch : List ℕ) (s : Snapshot) (writer : List ℕ) (now : ℤ) (d : Data)
    (p : Parts) → CanFollow s now p → json_of bytes ≡ Ok d → metadata_of bytes ≡ Ok p
    → json_of text ≡ Ok (after_snapshot branch s writer now d) → metadata_of text ≡ Ok (parts_after branch s now p)
text-after_snapshot bytes text branch s writer now d p can j h k =
    let read : parts_of d ≡ Ok p = sym (read_parts bytes d j) ∙ h in
    read_parts text _ k ∙ parts-after_snapshot branch s writer now d p (parts_in_order bytes d p j read) can read

-- what is written of metadata that was read
pub committed_json : (bytes text branch : List ℕ) (s : Snapshot) (writer : List ℕ) (now : ℤ) (m : Metadata) (e : Data)
    → e ≡ after_snapshot branch s writer now (view m.json) → (IsWritable e → json_of text ≡ Ok e) → IsMetadataOf bytes m
    → json_of text ≡ Ok (after_snapshot branch s writer now (view m.json))
committed_json bytes text branch s writer now m e h back is =
    rw h at back (writable-after_snapshot branch s writer now (view m.json) (writable-read bytes (view m.json) is.json))

pub committed_parts : (bytes text branch : List ℕ) (s : Snapshot) (writer : List ℕ) (now : ℤ) (m : Metadata) (e : Data)
    → e ≡ after_snapshot branch s writer now (view m.json) → (IsWritable e → json_of text ≡ Ok e) → IsMetadataOf bytes m
    → CanFollow s now (parts m) → metadata_of text ≡ Ok (parts_after branch s now (parts m))
committed_parts bytes text branch s writer now m e h back is can =
    text-after_snapshot bytes text branch s writer now (view m.json) (parts m) can is.json is.read (committed_json bytes text branch s writer now m e h back is)

pub committed_text : (bytes text branch : List ℕ) (s : Snapshot) (writer : List ℕ) (now : ℤ) (m : Metadata) (e : Data)
    → e ≡ after_snapshot branch s writer now (view m.json) → (has_float e ≡ false → text ≡ compact_text e) → IsMetadataOf bytes m
    → text ≡ compact_text (after_snapshot branch s writer now (view m.json))
committed_text bytes text branch s writer now m e h exact is =
    rw h at exact (writable-after_snapshot branch s writer now (view m.json) (writable-read bytes (view m.json) is.json)).whole
