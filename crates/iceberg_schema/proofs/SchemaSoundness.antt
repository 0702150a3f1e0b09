-- A schema that is read is sound.
use Rattle.std.proofs.Common.{◌≡◌, ℕ, ◌+◌, ◌≤◌, ◌||◌, Bool, true, false, List, [], ◌∷◌, ◌++◌, length, Ok, nat_eq, nat_lt, codes, refl, subst, arith, length-append}
use Rattle.std.specs.Bool.{⊤}
use Rattle.std.specs.List.{list_any}
use Rattle.std.proofs.lemmas.Bool.Decides.{nat_tests}
use Rattle.serde_json.specs.Data.{Data, Items, no_items, item}
use Rattle.plain_types.specs.Bags.{Apart}
use Rattle.row_values.specs.declared.schema.Column.{Column}
use Rattle.row_values.specs.declared.schema.TableSchema.{TableSchema}
use Rattle.iceberg_schema.specs.declared.schema_fault.SchemaJsonFault.TheVariants as fault
use Rattle.iceberg_schema.specs.KindText.{kind_of}
use Rattle.iceberg_schema.specs.Keys.{int_at, text_at, bool_at, items_at, item_count}
use Rattle.row_values.specs.Columns.{has_id, has_name}
use Rattle.iceberg_schema.specs.SchemaJson.{is_reserved, column_of, columns_of, table_schema_of}
use Rattle.iceberg_schema.specs.SoundSchema.{same_id, same_name, IsSoundSchema}
use Rattle.plain_types.specs.Steps.{or_fault, fault_if}
use Rattle.plain_types.proofs.CallerLemmas.{two_steps, one_value}

-- no test that answered a fault held
pub untested : {E : Type 0} → (e : E) (b : Bool) (a : ⊤) → fault_if e b ≡ Ok a → b ≡ false
untested e false a h = refl
untested e true a h = cc

first_of : (a b : Bool) → (a || b) ≡ false → a ≡ false
first_of false b h = refl
first_of true b h = cc

second_of : (a b : Bool) → (a || b) ≡ false → b ≡ false
second_of false b h = h
second_of true b h = cc

both_of : (a b : Bool) → a ≡ false → b ≡ false → (a || b) ≡ false
both_of false b h k = k
both_of true b h k = cc

-- one more at the end that fails the test
none_pushed : {X : Type 0} → (p : X → Bool) (xs : List X) (c : X) → list_any p xs ≡ false → p c ≡ false → list_any p (xs ++ c ∷ []) ≡ false
none_pushed p [] c h k = both_of (p c) false k refl
none_pushed p (x ∷ xs) c h k =
    both_of (p x) (list_any p (xs ++ c ∷ [])) (first_of (p x) (list_any p xs) h) (none_pushed p xs c (second_of (p x) (list_any p xs) h) k)

-- one more at the end that is the same as none before
pub apart_pushed : {X : Type 0} → (same : X → X → Bool) (xs : List X) (c : X) → Apart same xs → list_any (λ x. same x c) xs ≡ false → Apart same (xs ++ c ∷ [])
apart_pushed same [] c h k = (refl, tt)
apart_pushed same (x ∷ xs) c h k = (
  none_pushed (same x) xs c h.0 (first_of (same x c) (list_any (λ y. same y c) xs) k),
  apart_pushed same xs c h.1 (second_of (same x c) (list_any (λ y. same y c) xs) k),
)

-- a column that is read behind others
column_apart : (earlier : List Column) (d : Data) (c : Column) → column_of earlier d ≡ Ok c → (has_id c.id earlier ≡ false) × (has_name c.name earlier ≡ false)
unfolding column_of
column_apart earlier d c h =
    let s1 = two_steps (or_fault (fault.Missing (codes "id")) (int_at (codes "id") d)) _ c h in
    let s2 = two_steps (or_fault (fault.Missing (codes "name")) (text_at (codes "name") d)) _ c s1.2 in
    let s3 = two_steps (or_fault (fault.Missing (codes "required")) (bool_at (codes "required") d)) _ c s2.2 in
    let s4 = two_steps (or_fault (fault.Missing (codes "type")) (text_at (codes "type") d)) _ c s3.2 in
    let s5 = two_steps (or_fault (fault.Kind s4.0) (kind_of s4.0)) _ c s4.2 in
    let s6 = two_steps (fault_if (fault.Duplicate s1.0) (is_reserved s1.0 || has_id s1.0 earlier)) _ c s5.2 in
    let s7 = two_steps (fault_if (fault.Name s2.0) (nat_lt 4096 (length s2.0) || has_name s2.0 earlier)) _ c s6.2 in
    subst (λ (x : Column). (has_id x.id earlier ≡ false) × (has_name x.name earlier ≡ false)) (one_value _ c _ refl s7.2) (
      second_of (is_reserved s1.0) (has_id s1.0 earlier) (untested (fault.Duplicate s1.0) _ s6.0 s6.1),
      second_of (nat_lt 4096 (length s2.0)) (has_name s2.0 earlier) (untested (fault.Name s2.0) _ s7.0 s7.1),
    )

record Behind (earlier cs : List Column) (ds : Items) : Type 0 where
  count : length cs ≡ length earlier + item_count ds
  ids : Apart same_id earlier → Apart same_id cs
  names : Apart same_name earlier → Apart same_name cs

columns_behind : (ds : Items) (earlier cs : List Column) → columns_of earlier ds ≡ Ok cs → Behind earlier cs ds
unfolding columns_of
columns_behind no_items earlier cs h =
    subst (λ (xs : List Column). Behind earlier xs no_items) (one_value earlier cs _ refl h) (record { count = omega arith; ids = λ a. a; names = λ a. a })
columns_behind (item d ds) earlier cs h =
    let s = two_steps (column_of earlier d) _ cs h in
    let apart = column_apart earlier d s.0 s.1 in
    let rest = columns_behind ds (earlier ++ s.0 ∷ []) cs s.2 in
    record {
      count = omega (arith, rest.count, length-append earlier (s.0 ∷ []));
      ids = λ a. rest.ids (apart_pushed same_id earlier s.0 a apart.0);
      names = λ a. rest.names (apart_pushed same_name earlier s.0 a apart.1);
    }

sized : (n : ℕ) → (nat_eq n 0 || nat_lt 256 n) ≡ false → (1 ≤ n) × (n ≤ 256)
sized n h =
    let some : nat_eq n 0 ≡ false = first_of (nat_eq n 0) (nat_lt 256 n) h in
    let few : nat_lt 256 n ≡ false = second_of (nat_eq n 0) (nat_lt 256 n) h in
    (grind (arith, nat_tests), grind (arith, nat_tests))

pub sound_schema : (d : Data) (s : TableSchema) → table_schema_of d ≡ Ok s → IsSoundSchema s
unfolding table_schema_of
sound_schema d s h =
    let s1 = two_steps (or_fault (fault.Missing (codes "schema-id")) (int_at (codes "schema-id") d)) _ s h in
    let s2 = two_steps (or_fault (fault.Missing (codes "fields")) (items_at (codes "fields") d)) _ s s1.2 in
    let n = item_count s2.0 in
    let s3 = two_steps (fault_if (fault.Columns n) (nat_eq n 0 || nat_lt 256 n)) _ s s2.2 in
    let s4 = two_steps (columns_of [] s2.0) _ s s3.2 in
    let behind = columns_behind s2.0 [] s4.0 s4.1 in
    let size = sized n (untested (fault.Columns n) (nat_eq n 0 || nat_lt 256 n) s3.0 s3.1) in
    subst IsSoundSchema (one_value _ s _ refl s4.2) (record {
      least = omega (arith, behind.count, size.0);
      most = omega (arith, behind.count, size.1);
      ids = behind.ids tt;
      names = behind.names tt;
    })
