-- A partition spec that is read is sound.
use Rattle.std.proofs.Common.{◌≡◌, ℕ, ◌+◌, ◌≤◌, ◌-◌, ◌^◌, ◌||◌, ◌&&◌, Bool, true, false, not, Option, Some, None, List, [], ◌∷◌, ◌++◌, length, Result, Ok, Err, nat_eq, nat_le, nat_lt, codes, refl, ap, subst, cond, arith, length-append}
use Rattle.std.specs.List.{list_all}
use Rattle.std.specs.Result.{is_ok}
use Rattle.std.proofs.lemmas.Bool.Decides.{nat_tests}
use Rattle.serde_json.specs.Data.{Data, Items, no_items, item}
use Rattle.plain_types.specs.Bags.{Apart}
use Rattle.row_values.specs.declared.schema.Column.{Column}
use Rattle.row_values.specs.declared.partition.PartField.{PartField}
use Rattle.row_values.specs.declared.partition.Spec.{Spec}
use Rattle.row_values.specs.declared.partition.Transform.{Transform}
use Rattle.row_values.specs.declared.partition.Transform.TheVariants as transform
use Rattle.iceberg_schema.specs.declared.spec_fault.SpecFault.TheVariants as fault
use Rattle.iceberg_schema.specs.declared.spec_fault.TransformFault.{TransformFault}
use Rattle.iceberg_schema.specs.declared.spec_fault.TransformFault.TheVariants as text_fault
use Rattle.plain_types.specs.Digits.{number_at, after_text}
use Rattle.iceberg_schema.specs.Keys.{int_at, text_at, items_at, item_count}
use Rattle.iceberg_schema.specs.SoundSpec.{same_field, is_transform, is_fit, IsSoundSpec}
use Rattle.iceberg_schema.specs.SpecJson.{has_field, source_fits, field_of, fields_of, spec_of}
use Rattle.plain_types.specs.Steps.{◌>>=◌, or_fault, fault_if, fault_as, by_option}
use Rattle.iceberg_schema.specs.TransformText.{is_text, width_of, numbered_of, transform_of}
use Rattle.plain_types.proofs.CallerLemmas.{two_steps, one_value}
use Rattle.iceberg_schema.proofs.SchemaSoundness.{untested, apart_pushed}

abbrev read_as : Transform → Result Transform TransformFault
read_as t = Ok t

abbrev unnamed : Result Transform TransformFault
unnamed = Err text_fault.Name

of_value : (t : Transform) → is_transform t ≡ true → (u : Transform) → read_as t ≡ Ok u → is_transform u ≡ true
of_value t h u e = subst (λ (v : Transform). is_transform v ≡ true) (one_value t u _ refl e) h

by_test : (b : Bool) (r s : Result Transform TransformFault) → ((t : Transform) → r ≡ Ok t → is_transform t ≡ true)
    → ((t : Transform) → s ≡ Ok t → is_transform t ≡ true) → (t : Transform) → cond b r s ≡ Ok t → is_transform t ≡ true
by_test true r s h k t e = h t e
by_test false r s h k t e = k t e

by_front : (o : Option (List ℕ)) (f : List ℕ → Result Transform TransformFault) (s : Result Transform TransformFault)
    → ((bytes : List ℕ) (t : Transform) → f bytes ≡ Ok t → is_transform t ≡ true)
    → ((t : Transform) → s ≡ Ok t → is_transform t ≡ true) → (t : Transform) → by_option o f s ≡ Ok t → is_transform t ≡ true
by_front (Some bytes) f s h k t e = h bytes t e
by_front None f s h k t e = k t e

both_true : (a b : Bool) → a ≡ true → b ≡ true → (a && b) ≡ true
both_true true b h k = k
both_true false b h k = cc

left_true : (a b : Bool) → (a && b) ≡ true → a ≡ true
left_true true b h = refl
left_true false b h = cc

right_true : (a b : Bool) → (a && b) ≡ true → b ≡ true
right_true true b h = h
right_true false b h = cc

untrue : (b : Bool) → not b ≡ false → b ≡ true
untrue true h = refl
untrue false h = cc

width_fits : (bytes : List ℕ) (n : ℕ) → width_of bytes ≡ Ok n → (nat_le 1 n && nat_le n (2 ^ 31 - 1)) ≡ true
unfolding width_of
width_fits bytes n h =
    let s1 = two_steps (or_fault text_fault.Name (number_at bytes)) _ n h in
    let s2 = two_steps (or_fault text_fault.Name (after_text (codes "]") s1.0.1)) _ n s1.2 in
    let s3 = two_steps (fault_if text_fault.Name (not (nat_eq (length s2.0) 0))) _ n s2.2 in
    let s4 = two_steps (fault_if text_fault.Width (not (nat_le 1 s1.0.0 && nat_le s1.0.0 (2 ^ 31 - 1)))) _ n s3.2 in
    subst (λ (m : ℕ). (nat_le 1 m && nat_le m (2 ^ 31 - 1)) ≡ true) (one_value s1.0.0 n _ refl s4.2)
    (untrue (nat_le 1 s1.0.0 && nat_le s1.0.0 (2 ^ 31 - 1)) (untested text_fault.Width _ s4.0 s4.1))

none_read : (t : Transform) → unnamed ≡ Ok t → is_transform t ≡ true
none_read t e = cc

numbered_passes : (text : List ℕ) (t : Transform) → numbered_of text ≡ Ok t → is_transform t ≡ true
unfolding numbered_of
numbered_passes text t h =
    by_front (after_text (codes "bucket[") text) (λ bytes. width_of bytes >>= λ n. Ok (transform.Bucket n)) _
    (λ bytes u e. let s = two_steps (width_of bytes) (λ n. Ok (transform.Bucket n)) u e in of_value (transform.Bucket s.0) (width_fits bytes s.0 s.1) u s.2)
    (by_front (after_text (codes "truncate[") text) (λ bytes. width_of bytes >>= λ n. Ok (transform.Truncate n)) _
    (λ bytes u e. let s = two_steps (width_of bytes) (λ n. Ok (transform.Truncate n)) u e in of_value (transform.Truncate s.0) (width_fits bytes s.0 s.1) u s.2)
    none_read)
    t h

-- the number of a transform that is read is in range
pub transform_passes : (text : List ℕ) (t : Transform) → transform_of text ≡ Ok t → is_transform t ≡ true
unfolding transform_of
transform_passes text t h =
    by_test (is_text text (codes "identity")) _ _ (of_value transform.Identity refl)
    (by_test (is_text text (codes "void")) _ _ (of_value transform.Void refl)
    (by_test (is_text text (codes "year") || is_text text (codes "years")) _ _ (of_value transform.Year refl)
    (by_test (is_text text (codes "month") || is_text text (codes "months")) _ _ (of_value transform.Month refl)
    (by_test (is_text text (codes "day") || is_text text (codes "days")) _ _ (of_value transform.Day refl)
    (by_test (is_text text (codes "hour") || is_text text (codes "hours")) _ _ (of_value transform.Hour refl)
    (numbered_passes text))))))
    t h

-- a reading with its fault under another name has the same value
pub same_value : {A E F : Type 0} → (f : E → F) (r : Result A E) (a : A) → fault_as f r ≡ Ok a → r ≡ Ok a
same_value f (Ok b) a h = cc
same_value f (Err e) a h = cc

field_sound : (columns : List Column) (earlier : List PartField) (d : Data) (f : PartField) → field_of columns earlier d ≡ Ok f
    → (has_field f.field earlier ≡ false) × (is_fit columns f ≡ true) × (is_transform f.transform ≡ true)
unfolding field_of
field_sound columns earlier d f h =
    let s1 = two_steps (or_fault (fault.Missing (codes "source-id")) (int_at (codes "source-id") d)) _ f h in
    let s2 = two_steps (or_fault (fault.Missing (codes "field-id")) (int_at (codes "field-id") d)) _ f s1.2 in
    let s3 = two_steps (or_fault (fault.Missing (codes "name")) (text_at (codes "name") d)) _ f s2.2 in
    let s4 = two_steps (or_fault (fault.Missing (codes "transform")) (text_at (codes "transform") d)) _ f s3.2 in
    let s5 = two_steps (fault_as fault.Transform (transform_of s4.0)) _ f s4.2 in
    let s6 = two_steps (source_fits s5.0 s1.0 columns) _ f s5.2 in
    let s7 = two_steps (fault_if (fault.Duplicate s2.0) (has_field s2.0 earlier)) _ f s6.2 in
    subst (λ (x : PartField). (has_field x.field earlier ≡ false) × (is_fit columns x ≡ true) × (is_transform x.transform ≡ true)) (one_value _ f _ refl s7.2) (
      untested (fault.Duplicate s2.0) (has_field s2.0 earlier) s7.0 s7.1,
      ap is_ok s6.1,
      transform_passes s4.0 s5.0 (same_value fault.Transform (transform_of s4.0) s5.0 s5.1),
    )

all_pushed : {X : Type 0} → (p : X → Bool) (xs : List X) (c : X) → list_all p xs ≡ true → p c ≡ true → list_all p (xs ++ c ∷ []) ≡ true
all_pushed p [] c h k = both_true (p c) true k refl
all_pushed p (x ∷ xs) c h k =
    both_true (p x) (list_all p (xs ++ c ∷ [])) (left_true (p x) (list_all p xs) h) (all_pushed p xs c (right_true (p x) (list_all p xs) h) k)

record Behind (columns : List Column) (earlier fs : List PartField) (ds : Items) : Type 0 where
  count : length fs ≡ length earlier + item_count ds
  ids : Apart same_field earlier → Apart same_field fs
  sources : list_all (is_fit columns) earlier ≡ true → list_all (is_fit columns) fs ≡ true
  numbers : list_all (λ (field : PartField). is_transform field.transform) earlier ≡ true
      → list_all (λ (field : PartField). is_transform field.transform) fs ≡ true

fields_behind : (columns : List Column) (ds : Items) (earlier fs : List PartField) → fields_of columns earlier ds ≡ Ok fs → Behind columns earlier fs ds
unfolding fields_of
fields_behind columns no_items earlier fs h =
    subst (λ (xs : List PartField). Behind columns earlier xs no_items) (one_value earlier fs _ refl h) (record { count = omega arith; ids = λ a. a; sources = λ a. a; numbers = λ a. a })
fields_behind columns (item d ds) earlier fs h =
    let s = two_steps (field_of columns earlier d) _ fs h in
    let sound = field_sound columns earlier d s.0 s.1 in
    let rest = fields_behind columns ds (earlier ++ s.0 ∷ []) fs s.2 in
    record {
      count = omega (arith, rest.count, length-append earlier (s.0 ∷ []));
      ids = λ a. rest.ids (apart_pushed same_field earlier s.0 a sound.0);
      sources = λ a. rest.sources (all_pushed (is_fit columns) earlier s.0 a sound.1);
      numbers = λ a. rest.numbers (all_pushed (λ (field : PartField). is_transform field.transform) earlier s.0 a sound.2);
    }

few : (n : ℕ) → nat_lt 16 n ≡ false → n ≤ 16
few n h = grind (arith, nat_tests)

pub sound_spec : (columns : List Column) (d : Data) (s : Spec) → spec_of columns d ≡ Ok s → IsSoundSpec columns s
unfolding spec_of
sound_spec columns d s h =
    let s1 = two_steps (or_fault (fault.Missing (codes "spec-id")) (int_at (codes "spec-id") d)) _ s h in
    let s2 = two_steps (or_fault (fault.Missing (codes "fields")) (items_at (codes "fields") d)) _ s s1.2 in
    let n = item_count s2.0 in
    let s3 = two_steps (fault_if (fault.Fields n) (nat_lt 16 n)) _ s s2.2 in
    let s4 = two_steps (fields_of columns [] s2.0) _ s s3.2 in
    let behind = fields_behind columns s2.0 [] s4.0 s4.1 in
    let size = few n (untested (fault.Fields n) (nat_lt 16 n) s3.0 s3.1) in
    subst (IsSoundSpec columns) (one_value _ s _ refl s4.2) (record {
      most = omega (arith, behind.count, size);
      ids = behind.ids tt;
      sources = behind.sources refl;
      numbers = behind.numbers refl;
    })
