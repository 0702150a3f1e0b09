-- What the lists of metadata hold: schemas, specs and snapshots, each as it is read.
use Rattle.std.proofs.Common.{◌≡◌, ◌⊎◌, inl, inr, ◌||◌, nat_eq, nat_lt, length, ℕ, ℤ, Bool, true, false, not, codes, List, [], ◌∷◌, ◌++◌, Option, Some, None, option_and_then, Result, Ok, Err, refl, ap, subst}
use Rattle.std.specs.Prelude.{IsSome, if◌then◌else◌}
use Rattle.std.specs.List.{AllByRecursion}
use Rattle.std.specs.Ordering.{int_eq}
use Rattle.serde_json.specs.Data.{Data, Items, no_items, item}
use Rattle.plain_types.specs.Steps.{by_option, fault_as, fault_if, or_fault}
use Rattle.row_values.specs.declared.schema.Column.{Column}
use Rattle.row_values.specs.declared.schema.TableSchema.{TableSchema}
use Rattle.row_values.specs.declared.partition.PartField.{PartField}
use Rattle.row_values.specs.declared.partition.Spec.{Spec}
use Rattle.table_metadata.specs.declared.metadata_fault.MetadataFault.TheVariants as metadata
use Rattle.iceberg_schema.specs.declared.schema_fault.SchemaJsonFault.TheVariants as schema_fault
use Rattle.table_metadata.specs.declared.snapshots.Snapshot.{Snapshot}
use Rattle.iceberg_schema.specs.declared.spec_fault.SpecFault.TheVariants as spec_fault
use Rattle.iceberg_schema.specs.Keys.{bool_at, has_id, has_twice, in_int, int_at, is_id, item_count, items_at, long_at, text_at}
use Rattle.iceberg_schema.specs.KindText.{kind_of}
use Rattle.row_values.specs.Columns as columns
use Rattle.row_values.specs.Columns.{has_name}
use Rattle.iceberg_schema.specs.SchemaJson.{column_of, columns_of, is_reserved, table_schema_of}
use Rattle.table_metadata.specs.SchemaList.{columns_with, schemas_from, schemas_of, specs_from, specs_of}
use Rattle.table_metadata.specs.Snapshots.{operation_of, optional_int, optional_long, snapshot_of, snapshots_from, snapshots_of}
use Rattle.iceberg_schema.specs.SoundSchema.{IsSoundSchema}
use Rattle.iceberg_schema.specs.SpecJson.{field_of, fields_of, has_field, source_fits, spec_of}
use Rattle.iceberg_schema.specs.TransformText.{transform_of}
use Rattle.table_metadata.specs.TableKeys.{distinct_items, listed_id, shape_if, shaped}
use Rattle.plain_types.proofs.CallerLemmas.{one_value, two_steps}
use Rattle.iceberg_schema.proofs.CallerLemmas.{sound_schema, sound_spec, untested}
use Rattle.table_metadata.specs.ById.{schema_with, spec_with}
use Rattle.iceberg_schema.specs.Widths.{IsInt, IsLong}
use Rattle.table_metadata.specs.Sound.{IsReadSpec}
use Rattle.table_metadata.proofs.Numbers.{AreRead, IsRead, items_are, long_is}

pub all_pushed : {X : Type 0} (P : X → Type 0) (xs : List X) (x : X) → AllByRecursion P xs → P x → AllByRecursion P (xs ++ x ∷ [])
all_pushed P [] x h k = (k, tt)
all_pushed P (y ∷ ys) x h k = (h.0, all_pushed P ys x h.1 k)

pub there : {A E : Type 0} (e : E) (o : Option A) (a : A) → or_fault e o ≡ Ok a → o ≡ Some a
there e (Some x) a h = cc
there e None a h = absurd cc

unfault : {A E F : Type 0} (f : E → F) (r : Result A E) (a : A) → fault_as f r ≡ Ok a → r ≡ Ok a
unfault f (Ok b) a h = cc
unfault f (Err e) a h = absurd cc

-- ---- numbers of 32 bits

same_int : (b : Bool) (n m : ℤ) → (if b then Some n else None) ≡ Some m → n ≡ m
same_int true n m e = cc
same_int false n m e = absurd cc

int_found : (o : Option ℤ) (m : ℤ) → option_and_then in_int o ≡ Some m → IsInt m × (o ≡ Some m)
int_found (Some n) m e =
    let same : n ≡ m = same_int _ n m e in
    (subst (λ (k : ℤ). in_int k ≡ Some m) same e, ap Some same)
int_found None m e = absurd cc

pub int_is : (key : List ℕ) (d : Data) (m : ℤ) → int_at key d ≡ Some m → IsInt m × (long_at key d ≡ Some m)
int_is key d m e = int_found (long_at key d) m e

-- ---- schemas

abbrev HasIntId : Column → Type 0
HasIntId column = IsInt column.id

column_has : (earlier : List Column) (d : Data) (c : Column) → column_of earlier d ≡ Ok c → HasIntId c
unfolding column_of
column_has earlier d c h =
    let s1 = two_steps (or_fault (schema_fault.Missing (codes "id")) (int_at (codes "id") d)) _ c h in
    let s2 = two_steps (or_fault (schema_fault.Missing (codes "name")) (text_at (codes "name") d)) _ c s1.2 in
    let s3 = two_steps (or_fault (schema_fault.Missing (codes "required")) (bool_at (codes "required") d)) _ c s2.2 in
    let s4 = two_steps (or_fault (schema_fault.Missing (codes "type")) (text_at (codes "type") d)) _ c s3.2 in
    let s5 = two_steps (or_fault (schema_fault.Kind s4.0) (kind_of s4.0)) _ c s4.2 in
    let s6 = two_steps (fault_if (schema_fault.Duplicate s1.0) (is_reserved s1.0 || columns.has_id s1.0 earlier)) _ c s5.2 in
    let s7 = two_steps (fault_if (schema_fault.Name s2.0) (nat_lt 4096 (length s2.0) || has_name s2.0 earlier)) _ c s6.2 in
    subst HasIntId (one_value _ c _ refl s7.2) (int_is (codes "id") d s1.0 (there (schema_fault.Missing (codes "id")) (int_at (codes "id") d) s1.0 s1.1)).0

columns_have : (ds : Items) (earlier cs : List Column) → columns_of earlier ds ≡ Ok cs → AllByRecursion HasIntId earlier → AllByRecursion HasIntId cs
unfolding columns_of
columns_have no_items earlier cs h all = subst (AllByRecursion HasIntId) (one_value earlier cs _ refl h) all
columns_have (item d ds) earlier cs h all =
    let s = two_steps (column_of earlier d) _ cs h in
    columns_have ds (earlier ++ s.0 ∷ []) cs s.2 (all_pushed HasIntId earlier s.0 all (column_has earlier d s.0 s.1))

abbrev pub IsReadSchema : TableSchema → Type 0
IsReadSchema schema = IsSoundSchema schema × AllByRecursion (λ (column : Column). IsInt column.id) schema.columns

schema_read : (d : Data) (s : TableSchema) → table_schema_of d ≡ Ok s → IsReadSchema s
unfolding table_schema_of
schema_read d s h =
    let s1 = two_steps (or_fault (schema_fault.Missing (codes "schema-id")) (int_at (codes "schema-id") d)) _ s h in
    let s2 = two_steps (or_fault (schema_fault.Missing (codes "fields")) (items_at (codes "fields") d)) _ s s1.2 in
    let n = item_count s2.0 in
    let s3 = two_steps (fault_if (schema_fault.Columns n) (nat_eq n 0 || nat_lt 256 n)) _ s s2.2 in
    let s4 = two_steps (columns_of [] s2.0) _ s s3.2 in
    (sound_schema d s h, subst (λ (x : TableSchema). AllByRecursion HasIntId x.columns) (one_value _ s _ refl s4.2) (columns_have s2.0 [] s4.0 s4.1 tt))

schemas_read_from : (ds : Items) (earlier schemas : List TableSchema) → schemas_from earlier ds ≡ Ok schemas
    → AllByRecursion IsReadSchema earlier → AllByRecursion IsReadSchema schemas
unfolding schemas_from
schemas_read_from no_items earlier schemas h all = subst (AllByRecursion IsReadSchema) (one_value earlier schemas _ refl h) all
schemas_read_from (item d ds) earlier schemas h all =
    let s = two_steps (fault_as metadata.Schema (table_schema_of d)) _ schemas h in
    schemas_read_from ds (earlier ++ s.0 ∷ []) schemas s.2 (all_pushed IsReadSchema earlier s.0 all (schema_read d s.0 (unfault metadata.Schema (table_schema_of d) s.0 s.1)))

pub schemas_read : (d : Data) (schemas : List TableSchema) → schemas_of d ≡ Ok schemas → AllByRecursion IsReadSchema schemas
unfolding schemas_of
schemas_read d schemas h =
    let s = two_steps (shaped (codes "schemas") (items_at (codes "schemas") d)) _ schemas h in
    schemas_read_from s.0 [] schemas s.2 tt

pub schema_found : (id : ℤ) (schemas : List TableSchema) → IsSome (columns_with id schemas) → AllByRecursion IsReadSchema schemas
    → (s : TableSchema) × (schema_with id schemas ≡ Some s) × IsReadSchema s
unfolding columns_with schema_with
schema_found id [] h all = absurd cc
schema_found id (schema ∷ schemas) h all = found_by (int_eq schema.id id) h (λ k. schema_found id schemas k all.1)
  where
    found_by : (b : Bool) → IsSome (if b then Some schema.columns else columns_with id schemas)
        → (IsSome (columns_with id schemas) → (s : TableSchema) × (schema_with id schemas ≡ Some s) × IsReadSchema s)
        → (s : TableSchema) × ((if b then Some schema else schema_with id schemas) ≡ Some s) × IsReadSchema s
    found_by true k others = (schema, refl, all.0)
    found_by false k others = others k

-- ---- specs

spec_read : (columns : List Column) (d : Data) (s : Spec) → spec_of columns d ≡ Ok s → int_at (codes "spec-id") d ≡ Some s.id
unfolding spec_of
spec_read columns d s h =
    let s1 = two_steps (or_fault (spec_fault.Missing (codes "spec-id")) (int_at (codes "spec-id") d)) _ s h in
    let s2 = two_steps (or_fault (spec_fault.Missing (codes "fields")) (items_at (codes "fields") d)) _ s s1.2 in
    let n = item_count s2.0 in
    let s3 = two_steps (fault_if (spec_fault.Fields n) (nat_lt 16 n)) _ s s2.2 in
    let s4 = two_steps (fields_of columns [] s2.0) _ s s3.2 in
    subst (λ (x : Spec). int_at (codes "spec-id") d ≡ Some x.id) (one_value _ s _ refl s4.2) (there (spec_fault.Missing (codes "spec-id")) (int_at (codes "spec-id") d) s1.0 s1.1)

abbrev HasIntField : PartField → Type 0
HasIntField field = IsInt field.field

field_has : (columns : List Column) (earlier : List PartField) (d : Data) (f : PartField) → field_of columns earlier d ≡ Ok f → HasIntField f
unfolding field_of
field_has columns earlier d f h =
    let s1 = two_steps (or_fault (spec_fault.Missing (codes "source-id")) (int_at (codes "source-id") d)) _ f h in
    let s2 = two_steps (or_fault (spec_fault.Missing (codes "field-id")) (int_at (codes "field-id") d)) _ f s1.2 in
    let s3 = two_steps (or_fault (spec_fault.Missing (codes "name")) (text_at (codes "name") d)) _ f s2.2 in
    let s4 = two_steps (or_fault (spec_fault.Missing (codes "transform")) (text_at (codes "transform") d)) _ f s3.2 in
    let s5 = two_steps (fault_as spec_fault.Transform (transform_of s4.0)) _ f s4.2 in
    let s6 = two_steps (source_fits s5.0 s1.0 columns) _ f s5.2 in
    let s7 = two_steps (fault_if (spec_fault.Duplicate s2.0) (has_field s2.0 earlier)) _ f s6.2 in
    subst HasIntField (one_value _ f _ refl s7.2) (int_is (codes "field-id") d s2.0 (there (spec_fault.Missing (codes "field-id")) (int_at (codes "field-id") d) s2.0 s2.1)).0

fields_have : (columns : List Column) (ds : Items) (earlier fs : List PartField) → fields_of columns earlier ds ≡ Ok fs
    → AllByRecursion HasIntField earlier → AllByRecursion HasIntField fs
unfolding fields_of
fields_have columns no_items earlier fs h all = subst (AllByRecursion HasIntField) (one_value earlier fs _ refl h) all
fields_have columns (item d ds) earlier fs h all =
    let s = two_steps (field_of columns earlier d) _ fs h in
    fields_have columns ds (earlier ++ s.0 ∷ []) fs s.2 (all_pushed HasIntField earlier s.0 all (field_has columns earlier d s.0 s.1))

spec_is_read : (columns : List Column) (d : Data) (s : Spec) → spec_of columns d ≡ Ok s → IsReadSpec columns s
unfolding spec_of
spec_is_read columns d s h =
    let s1 = two_steps (or_fault (spec_fault.Missing (codes "spec-id")) (int_at (codes "spec-id") d)) _ s h in
    let s2 = two_steps (or_fault (spec_fault.Missing (codes "fields")) (items_at (codes "fields") d)) _ s s1.2 in
    let n = item_count s2.0 in
    let s3 = two_steps (fault_if (spec_fault.Fields n) (nat_lt 16 n)) _ s s2.2 in
    let s4 = two_steps (fields_of columns [] s2.0) _ s s3.2 in
    (sound_spec columns d s h, subst (λ (x : Spec). AllByRecursion HasIntField x.fields) (one_value _ s _ refl s4.2) (fields_have columns s2.0 [] s4.0 s4.1 tt))

specs_read_from : (columns : List Column) (ds : Items) (earlier specs : List Spec) → specs_from columns earlier ds ≡ Ok specs
    → AllByRecursion (IsReadSpec columns) earlier → AllByRecursion (IsReadSpec columns) specs
unfolding specs_from
specs_read_from columns no_items earlier specs h all = subst (AllByRecursion (IsReadSpec columns)) (one_value earlier specs _ refl h) all
specs_read_from columns (item d ds) earlier specs h all =
    let s = two_steps (fault_as metadata.Spec (spec_of columns d)) _ specs h in
    specs_read_from columns ds (earlier ++ s.0 ∷ []) specs s.2
    (all_pushed (IsReadSpec columns) earlier s.0 all (spec_is_read columns d s.0 (unfault metadata.Spec (spec_of columns d) s.0 s.1)))

columns_found : (id : ℤ) (schemas : List TableSchema) (s : TableSchema) → schema_with id schemas ≡ Some s → columns_with id schemas ≡ Some s.columns
unfolding columns_with schema_with
columns_found id [] s h = absurd cc
columns_found id (schema ∷ schemas) s h = found_by (int_eq schema.id id) h (columns_found id schemas s)
  where
    found_by : (b : Bool) → (if b then Some schema else schema_with id schemas) ≡ Some s
        → (schema_with id schemas ≡ Some s → columns_with id schemas ≡ Some s.columns)
        → (if b then Some schema.columns else columns_with id schemas) ≡ Some s.columns
    found_by true k others = cc
    found_by false k others = others k

same_columns : (o : Option (List Column)) (a b : List Column) → o ≡ Some a → o ≡ Some b → a ≡ b
same_columns o a b h k = cc

-- each spec is read over the columns of the current schema
pub specs_read : (current : ℤ) (schemas : List TableSchema) (d : Data) (specs : List Spec) (s : TableSchema)
    → specs_of current schemas d ≡ Ok specs → schema_with current schemas ≡ Some s → AllByRecursion (IsReadSpec s.columns) specs
unfolding specs_of
specs_read current schemas d specs s h stands =
    let s1 = two_steps (shaped (codes "current-schema-id") (columns_with current schemas)) _ specs h in
    let s2 = two_steps (shaped (codes "partition-specs") (items_at (codes "partition-specs") d)) _ specs s1.2 in
    let found = there (metadata.Shape (codes "current-schema-id")) (columns_with current schemas) s1.0 s1.1 in
    let same = same_columns (columns_with current schemas) s1.0 s.columns found (columns_found current schemas s stands) in
    subst (λ (columns : List Column). AllByRecursion (IsReadSpec columns) specs) same (specs_read_from s1.0 s2.0 [] specs s2.2 tt)

module _ (id : ℤ) where
  kept_in_front : (specs more : List Spec) → IsSome (spec_with id specs) → IsSome (spec_with id (specs ++ more))
  unfolding spec_with
  kept_in_front [] more h = absurd cc
  kept_in_front (spec ∷ specs) more h = kept_by (int_eq spec.id id) h (kept_in_front specs more)
    where
      kept_by : (b : Bool) → IsSome (if b then Some spec else spec_with id specs)
          → (IsSome (spec_with id specs) → IsSome (spec_with id (specs ++ more)))
          → IsSome (if b then Some spec else spec_with id (specs ++ more))
      kept_by true k others = refl
      kept_by false k others = others k

  found_last : (specs : List Spec) (last : Spec) → int_eq last.id id ≡ true → IsSome (spec_with id (specs ++ last ∷ []))
  unfolding spec_with
  found_last [] last h = rw h refl
  found_last (spec ∷ specs) last h = found_by (int_eq spec.id id) (found_last specs last h)
    where
      found_by : (b : Bool) → IsSome (spec_with id (specs ++ last ∷ [])) → IsSome (if b then Some spec else spec_with id (specs ++ last ∷ []))
      found_by true others = refl
      found_by false others = others

  is_its_id : (o : Option ℤ) (n : ℤ) → o ≡ Some n → by_option o (λ m. int_eq m id) false ≡ true → int_eq n id ≡ true
  is_its_id o n e h = subst (λ (x : Option ℤ). by_option x (λ m. int_eq m id) false ≡ true) e h

  spec_found_from : (columns : List Column) (ds : Items) (earlier specs : List Spec) → specs_from columns earlier ds ≡ Ok specs
      → IsSome (spec_with id earlier) ⊎ (has_id (codes "spec-id") id ds ≡ true) → IsSome (spec_with id specs)
  unfolding specs_from has_id
  spec_found_from columns no_items earlier specs e (inl h) = subst (λ (xs : List Spec). IsSome (spec_with id xs)) (one_value earlier specs _ refl e) h
  spec_found_from columns no_items earlier specs e (inr h) = absurd cc
  spec_found_from columns (item d ds) earlier specs e h =
      let s = two_steps (fault_as metadata.Spec (spec_of columns d)) _ specs e in
      let numbered = (int_is (codes "spec-id") d s.0.id (spec_read columns d s.0 (unfault metadata.Spec (spec_of columns d) s.0 s.1))).1 in
      spec_found_from columns ds (earlier ++ s.0 ∷ []) specs s.2 (next_by s.0 numbered h)
    where
      here_by : (last : Spec) (b : Bool) → (b ≡ true → int_eq last.id id ≡ true)
          → (if b then true else has_id (codes "spec-id") id ds) ≡ true
          → IsSome (spec_with id (earlier ++ last ∷ [])) ⊎ (has_id (codes "spec-id") id ds ≡ true)
      here_by last true is k = inl (found_last earlier last (is refl))
      here_by last false is k = inr k

      next_by : (last : Spec) → long_at (codes "spec-id") d ≡ Some last.id
          → IsSome (spec_with id earlier) ⊎ ((if is_id (codes "spec-id") id d then true else has_id (codes "spec-id") id ds) ≡ true)
          → IsSome (spec_with id (earlier ++ last ∷ [])) ⊎ (has_id (codes "spec-id") id ds ≡ true)
      next_by last numbered (inl k) = inl (kept_in_front earlier (last ∷ []) k)
      next_by last numbered (inr k) = here_by last (is_id (codes "spec-id") id d) (λ is. is_its_id (long_at (codes "spec-id") d) last.id numbered is) k

same_items : (o : Option Items) (xs ys : Items) → o ≡ Some xs → o ≡ Some ys → xs ≡ ys
same_items o xs ys h k = cc

pub spec_found : (id current : ℤ) (schemas : List TableSchema) (d : Data) (items : Items) (specs : List Spec)
    → items_at (codes "partition-specs") d ≡ Some items → has_id (codes "spec-id") id items ≡ true
    → specs_of current schemas d ≡ Ok specs → IsSome (spec_with id specs)
unfolding specs_of
spec_found id current schemas d items specs listed has e =
    let s1 = two_steps (shaped (codes "current-schema-id") (columns_with current schemas)) _ specs e in
    let s2 = two_steps (shaped (codes "partition-specs") (items_at (codes "partition-specs") d)) _ specs s1.2 in
    let same = same_items (items_at (codes "partition-specs") d) items s2.0 listed (there (metadata.Shape (codes "partition-specs")) (items_at (codes "partition-specs") d) s2.0 s2.1) in
    spec_found_from id s1.0 s2.0 [] specs s2.2 (inr (subst (λ (ds : Items). has_id (codes "spec-id") id ds ≡ true) same has))

-- ---- ids of the table

pub distinct_are : (key id_key : List ℕ) (d : Data) (items : Items) → distinct_items key id_key d ≡ Ok items → items_at key d ≡ Some items
distinct_are key id_key d items h =
    let s1 = two_steps (shaped key (items_at key d)) _ items h in
    let s2 = two_steps (shape_if key (has_twice id_key s1.0)) _ items s1.2 in
    subst (λ (ds : Items). items_at key d ≡ Some ds) (one_value _ items _ refl s2.2) (there (metadata.Shape key) (items_at key d) s1.0 s1.1)

untrue : (b : Bool) → not b ≡ false → b ≡ true
untrue true h = refl
untrue false h = absurd cc

pub listed_is : (key id_key : List ℕ) (items : Items) (d : Data) (id : ℤ) → listed_id key id_key items d ≡ Ok id → IsInt id × (has_id id_key id items ≡ true)
listed_is key id_key items d id h =
    let s1 = two_steps (shaped key (int_at key d)) _ id h in
    let s2 = two_steps (shape_if key (not (has_id id_key s1.0 items))) _ id s1.2 in
    subst (λ (n : ℤ). IsInt n × (has_id id_key n items ≡ true)) (one_value _ id _ refl s2.2) (
      (int_is key d s1.0 (there (metadata.Shape key) (int_at key d) s1.0 s1.1)).0,
      untrue (has_id id_key s1.0 items) (untested (metadata.Shape key) _ s2.0 s2.1),
    )

-- ---- snapshots

abbrev pub HasLongId : Snapshot → Type 0
HasLongId snapshot = IsLong snapshot.id

snapshot_has : (d : Data) (s : Snapshot) → IsRead d → snapshot_of d ≡ Ok s → HasLongId s
unfolding snapshot_of
snapshot_has d s read h =
    let s1 = two_steps (shaped (codes "snapshot-id") (long_at (codes "snapshot-id") d)) _ s h in
    let s2 = two_steps (shaped (codes "sequence-number") (long_at (codes "sequence-number") d)) _ s s1.2 in
    let s3 = two_steps (shaped (codes "timestamp-ms") (long_at (codes "timestamp-ms") d)) _ s s2.2 in
    let s4 = two_steps (shaped (codes "manifest-list") (text_at (codes "manifest-list") d)) _ s s3.2 in
    let s5 = two_steps (optional_long (codes "parent-snapshot-id") d) _ s s4.2 in
    let s6 = two_steps (operation_of d) _ s s5.2 in
    let s7 = two_steps (optional_int (codes "schema-id") d) _ s s6.2 in
    subst HasLongId (one_value _ s _ refl s7.2) (long_is (codes "snapshot-id") d s1.0 read (there (metadata.Shape (codes "snapshot-id")) (long_at (codes "snapshot-id") d) s1.0 s1.1))

snapshots_have_from : (ds : Items) (earlier snapshots : List Snapshot) → AreRead ds → snapshots_from earlier ds ≡ Ok snapshots
    → AllByRecursion HasLongId earlier → AllByRecursion HasLongId snapshots
unfolding snapshots_from
snapshots_have_from no_items earlier snapshots read h all = subst (AllByRecursion HasLongId) (one_value earlier snapshots _ refl h) all
snapshots_have_from (item d ds) earlier snapshots read h all =
    let s = two_steps (snapshot_of d) _ snapshots h in
    snapshots_have_from ds (earlier ++ s.0 ∷ []) snapshots read.1 s.2 (all_pushed HasLongId earlier s.0 all (snapshot_has d s.0 read.0 s.1))

listed_have : (o : Option Items) (snapshots : List Snapshot) → ((ds : Items) → o ≡ Some ds → AreRead ds)
    → by_option o (snapshots_from []) (Ok []) ≡ Ok snapshots → AllByRecursion HasLongId snapshots
listed_have (Some ds) snapshots read h = snapshots_have_from ds [] snapshots (read ds refl) h tt
listed_have None snapshots read h = subst (AllByRecursion HasLongId) (one_value [] snapshots _ refl h) tt

pub snapshots_have : (d : Data) (snapshots : List Snapshot) → IsRead d → snapshots_of d ≡ Ok snapshots → AllByRecursion HasLongId snapshots
unfolding snapshots_of
snapshots_have d snapshots read h = listed_have (items_at (codes "snapshots") d) snapshots (λ ds e. items_are (codes "snapshots") d ds read e) h
