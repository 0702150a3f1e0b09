-- The places of the fields of a type that is put together.
use Rattle.std.proofs.Common.{◌≡◌, ℕ, ℤ, List, [], Bool, true, false, cond, Option, Some, None, option_map, option_and_then, Result, Ok, Err, ap, ◌∙◌}
use Rattle.plain_types.specs.Steps.{◌>>=◌, or_fault, by_option}
use Rattle.avro_binary.specs.declared.schema.Field.{Field}
use Rattle.avro_binary.specs.declared.schema.Schema.{Schema, out-Schema}
use Rattle.avro_binary.specs.declared.schema.Schema.TheOpen as open_schema
use Rattle.avro_binary.specs.declared.schema.Schema.TheVariants as schema
use Rattle.avro_binary.specs.declared.schema.Logical.TheVariants.{Plain, Date}
use Rattle.avro_rows.specs.Carrier.{is_null_type}
use Rattle.avro_rows.specs.Sources.{fields_level, fields_of}
use Rattle.manifest_files.specs.declared.field_type.FieldType.{FieldType}
use Rattle.manifest_files.specs.declared.manifest_fault.ManifestFault.{ManifestFault}
use Rattle.manifest_files.specs.declared.manifest_fault.ManifestFault.TheVariants as fault
use Rattle.manifest_files.specs.FieldTypes.{stated_level, stated, is_type, has_type, items_level, items_of, has_items, record_fields, element_fields}
use Rattle.manifest_files.specs.declared.field_type.FieldType.TheVariants as type
use Rattle.manifest_files.specs.declared.places.PairPlaces.{PairPlaces}
use Rattle.manifest_files.specs.Places.{field_at, typed, needed, optional, optional_items, typed_at, pairs_in, no_pairs, pairs}
use Rattle.row_writer.specs.Field.{field}
use Rattle.row_writer.proofs.CallerLemmas.{out_plan, plan_out, null_type_out, Plan, boolean_plan, int_plan, long_plan, bytes_plan, text_plan, date_plan, instant_plan, decimal_plan, pairs_plan, optional_plan, items_plan, record_plan, Plans, type_of, types_of}

-- the plan beside null, or alone
abbrev pub inner : Plan → Plan
inner (optional_plan p) = p
inner p = p

pub stated_is : (p : Plan) → stated (type_of p) ≡ type_of (inner p)
stated_is boolean_plan = ap (stated_level schema.Boolean) (plan_out boolean_plan)
stated_is int_plan = ap (stated_level (schema.Int Plain)) (plan_out int_plan)
stated_is long_plan = ap (stated_level (schema.Long Plain)) (plan_out long_plan)
stated_is bytes_plan = ap (stated_level (schema.Bytes Plain)) (plan_out bytes_plan)
stated_is text_plan = ap (stated_level schema.Text) (plan_out text_plan)
stated_is date_plan = ap (stated_level (schema.Int Date)) (plan_out date_plan)
stated_is (instant_plan utc) = ap (stated_level (type_of (instant_plan utc))) (plan_out (instant_plan utc))
stated_is (decimal_plan name precision scale) = ap (stated_level (type_of (decimal_plan name precision scale))) (plan_out (decimal_plan name precision scale))
stated_is (pairs_plan p) = ap (stated_level (type_of (pairs_plan p))) (plan_out (pairs_plan p))
stated_is (optional_plan p) = ap (stated_level (type_of (optional_plan p))) (plan_out (optional_plan p)) ∙ ap (λ (x : open_schema.Schema-F Schema Field). cond (is_null_type x) (type_of p) (cond (is_null_type (out-Schema (type_of p))) schema.Null (type_of (optional_plan p)))) null_type_out
stated_is (items_plan element p) = ap (stated_level (type_of (items_plan element p))) (plan_out (items_plan element p))
stated_is (record_plan name ps) = ap (stated_level (type_of (record_plan name ps))) (plan_out (record_plan name ps))

pub type_is : (t : FieldType) (p : Plan) → has_type t (type_of p) ≡ is_type t (out_plan (inner p))
type_is t p = ap (λ (s : Schema). is_type t (out-Schema s)) (stated_is p) ∙ ap (is_type t) (plan_out (inner p))

pub items_is : (p : Plan) → items_of (type_of p) ≡ items_level (out_plan (inner p))
items_is p = ap (λ (s : Schema). items_level (out-Schema s)) (stated_is p) ∙ ap items_level (plan_out (inner p))

pub fields_is : (p : Plan) → record_fields (type_of p) ≡ fields_level (out_plan (inner p))
fields_is p = ap fields_of (stated_is p) ∙ ap fields_level (plan_out (inner p))

pub goes : {A B E : Type 0} (r : Result A E) (f : A → Result B E) (a : A) (out : Result B E) → r ≡ Ok a → f a ≡ out → (r >>= f) ≡ out
goes r f a out h more = ap (λ x. x >>= f) h ∙ more

abbrev pub tested : {A : Type 0} → Bool → A → ManifestFault → Result A ManifestFault
tested b a f = cond b (Ok a) (Err f)

abbrev pub needed_by : FieldType → ℤ → Option (ℕ × Field) → Result ℕ ManifestFault
needed_by t id found = or_fault (fault.Field id) found >>= typed t id

pub needed_is : (t : FieldType) (id : ℤ) (fields : List Field) (name : List ℕ) (place : ℕ) (p : Plan)
    → field_at id fields ≡ Some (place, field id name (type_of p)) → is_type t (out_plan (inner p)) ≡ true
    → needed t id fields ≡ Ok place
needed_is t id fields name place p found is = ap (needed_by t id) found ∙ ap (λ (b : Bool). tested b place (fault.Kind id)) (type_is t p ∙ is)

abbrev pub optional_by : FieldType → ℤ → Option (ℕ × Field) → Result (Option ℕ) ManifestFault
optional_by t id found = by_option found (λ f. typed t id f >>= λ place. Ok (Some place)) (Ok None)

pub optional_is : (t : FieldType) (id : ℤ) (fields : List Field) (name : List ℕ) (place : ℕ) (p : Plan)
    → field_at id fields ≡ Some (place, field id name (type_of p)) → is_type t (out_plan (inner p)) ≡ true
    → optional t id fields ≡ Ok (Some place)
optional_is t id fields name place p found is = ap (optional_by t id) found ∙ ap (λ (b : Bool). tested b place (fault.Kind id) >>= λ n. (let r : Result (Option ℕ) ManifestFault = Ok (Some n) in r)) (type_is t p ∙ is)

abbrev pub items_by : FieldType → ℤ → Option (ℕ × Field) → Result (Option ℕ) ManifestFault
items_by t id found = by_option found (λ f. cond (has_items t f.1.schema) (Ok (Some f.0)) (Err (fault.Kind id))) (Ok None)

pub optional_items_is : (t : FieldType) (id : ℤ) (fields : List Field) (name : List ℕ) (place : ℕ) (element : ℤ) (p : Plan)
    → field_at id fields ≡ Some (place, field id name (type_of (optional_plan (items_plan element p))))
    → is_type t (out_plan (inner p)) ≡ true → optional_items t id fields ≡ Ok (Some place)
optional_items_is t id fields name place element p found is = ap (items_by t id) found
    ∙ ap (λ (o : Option Schema). tested (by_option o (has_type t) false) (Some place) (fault.Kind id)) (items_is (optional_plan (items_plan element p))) ∙ ap (λ (b : Bool). tested b (Some place) (fault.Kind id)) (type_is t p ∙ is)

-- ---- maps

abbrev pub typed_by : FieldType → Option (ℕ × Field) → Option ℕ
typed_by t found = option_and_then (λ f. cond (has_type t f.1.schema) (Some f.0) None) found

pub typed_at_is : (t : FieldType) (id : ℤ) (fields : List Field) (name : List ℕ) (place : ℕ) (p : Plan)
    → field_at id fields ≡ Some (place, field id name (type_of p)) → is_type t (out_plan (inner p)) ≡ true
    → typed_at t id fields ≡ Some place
typed_at_is t id fields name place p found is = ap (typed_by t) found ∙ ap (λ (b : Bool). cond b (Some place) None) (type_is t p ∙ is)

elements_is : (name : List ℕ) (ps : Plans) → element_fields (type_of (optional_plan (pairs_plan (record_plan name ps)))) ≡ types_of ps
elements_is name ps = ap (λ (o : Option Schema). by_option o record_fields []) (items_is (optional_plan (pairs_plan (record_plan name ps)))) ∙ fields_is (record_plan name ps)

abbrev placed_pairs : ℕ → ℕ → ℕ → PairPlaces
placed_pairs place key value = record { place = Some place; key = key; value = value }

abbrev pairs_by : FieldType → ℤ → ℤ → ℤ → Option (ℕ × Field) → Result PairPlaces ManifestFault
pairs_by t id key value found = by_option found (λ f. or_fault (fault.Kind id) (pairs_in t key value f.0 (element_fields f.1.schema))) (Ok no_pairs)

pub pairs_is : (t : FieldType) (id key value : ℤ) (fields : List Field) (name : List ℕ) (place : ℕ) (inside : List ℕ) (ps : Plans)
    → field_at id fields ≡ Some (place, field id name (type_of (optional_plan (pairs_plan (record_plan inside ps)))))
    → typed_at type.Int key (types_of ps) ≡ Some 0 → typed_at t value (types_of ps) ≡ Some 1
    → pairs t id key value fields ≡ Ok (record { place = Some place; key = 0; value = 1 })
pairs_is t id key value fields name place inside ps found has_key has_value =
    ap (pairs_by t id key value) found ∙ ap (λ (fs : List Field). or_fault (fault.Kind id) (pairs_in t key value place fs)) (elements_is inside ps)
    ∙ ap (λ (o : Option ℕ). or_fault (fault.Kind id) (option_and_then (λ k. option_map (λ v. placed_pairs place k v) (typed_at t value (types_of ps))) o)) has_key
    ∙ ap (λ (o : Option ℕ). or_fault (fault.Kind id) (option_map (λ v. placed_pairs place 0 v) o)) has_value
