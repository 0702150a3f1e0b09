-- A partition's values are read again.
use Rattle.std.proofs.Common.{◌≡◌, ℕ, suc, ◌+◌, ◌-◌, ℤ, List, [], ◌∷◌, ◌++◌, length, Bool, true, false, cond, not, ◌&&◌, Option, Some, None, option_and_then, Result, Ok, Err, refl, sym, ap, ◌∙◌, append_assoc, arith}
use Rattle.std.specs.Prelude.{slice_get}
use Rattle.std.specs.Ordering.{int_eq}
use Rattle.std.specs.List.{list_all}
use Rattle.std.proofs.lemmas.Bool.Decides.{nat_tests}
use Rattle.std.proofs.lemmas.Int.{ints}
use Rattle.std.proofs.lemmas.List.{append-nil, length-append}
use Rattle.std.proofs.lemmas.Option.{slice_get-get_or}
use Rattle.std.proofs.Math.Seq.{get_or-append_seam}
use Rattle.plain_types.specs.Steps.{◌>>=◌, or_fault, by_option}
use Rattle.row_values.specs.declared.kind.Kind.{Kind}
use Rattle.row_values.specs.declared.kind.Kind.TheVariants as kind
use Rattle.row_values.specs.declared.value.Value.{Value}
use Rattle.row_values.specs.declared.value.Value.TheVariants as value
use Rattle.row_values.specs.declared.schema.Column.{Column}
use Rattle.row_values.specs.declared.partition.PartField.{PartField}
use Rattle.row_values.specs.declared.partition.Transform.{Transform}
use Rattle.row_values.specs.declared.partition.Transform.TheVariants as transform
use Rattle.row_values.specs.Rows.{is_value, is_null}
use Rattle.kind_values.specs.Bounds.{is_kind}
use Rattle.avro_binary.specs.declared.datum.Datum.{Datum, out-Datum}
use Rattle.avro_binary.specs.declared.datum.Datum.TheVariants as datum
use Rattle.avro_binary.specs.declared.schema.Field.{Field}
use Rattle.avro_rows.specs.DatumValue.{value_of}
use Rattle.manifest_files.specs.declared.manifest_fault.ManifestFault.{ManifestFault}
use Rattle.manifest_files.specs.declared.manifest_fault.ManifestFault.TheVariants as fault
use Rattle.manifest_files.specs.declared.places.PartPlace.{PartPlace}
use Rattle.manifest_files.specs.Datums.{present_in}
use Rattle.manifest_files.specs.Entries.{part_value, part_values}
use Rattle.row_values.specs.Columns.{kind_of_column}
use Rattle.manifest_files.specs.PartitionKinds.{kind_given, kind_of_field, carries_part}
use Rattle.manifest_files.specs.Places.{field_from, part_place, part_places}
use Rattle.manifest_files.specs.Sound.{is_part, are_parts}
use Rattle.row_writer.specs.Field.{field}
use Rattle.manifest_writer.specs.PartNames.{part_name}
use Rattle.manifest_writer.specs.PartDatum.{part_datum, part_datums}
use Rattle.row_writer.specs.Names.{decimal_name}
use Rattle.row_writer.specs.KindDatum.{value_datum, optional}
use Rattle.manifest_writer.specs.Readable.{has_field, are_apart}
use Rattle.row_writer.proofs.CallerLemmas.{value_read, optional_carried, turned, not_false, no_column_here, type_of, types_of, first, second}
use Rattle.manifest_writer.proofs.PlanTypes.{goes}
use Rattle.manifest_writer.proofs.PartPlans.{part_plan, part_plans}
use Rattle.manifest_writer.proofs.ValueLaws.{branch, null_absent}

-- the kind of a field's values, where there is one
abbrev pub is_sound : Option Kind → Bool
is_sound None = true
is_sound (Some k) = is_kind k

abbrev read_by : ℤ → Option Kind → Option Datum → Result Value ManifestFault
read_by id k found = by_option found (λ d. or_fault (fault.Kind id) (option_and_then (λ given. value_of given d) k)) (Ok value.Null)

some_read : (id : ℤ) (k : Kind) (v : Value) → is_kind k ≡ true → is_value k v ≡ true → read_by id (Some k) (present_in (part_datum (Some k) v)) ≡ Ok v
some_read id k v sound h =
    let r = value_read k v sound h in
    let d : Datum = value_datum k v in
    ap (λ (b : Bool). read_by id (Some k) (present_in (cond b (optional (Some (value_datum k v))) (optional None)))) h ∙ ap (read_by id (Some k)) (branch d (out-Datum d) refl r.some) ∙ ap (or_fault (fault.Kind id)) r.has

null_is_none : (k : Kind) → is_value k value.Null ≡ false
null_is_none kind.Bool = refl
null_is_none kind.Int = refl
null_is_none kind.Long = refl
null_is_none kind.Date = refl
null_is_none (kind.Timestamp utc) = refl
null_is_none (kind.Decimal precision scale) = refl
null_is_none kind.Text = refl
null_is_none kind.Bytes = refl

null_read : (id : ℤ) (k : Kind) → read_by id (Some k) (present_in (part_datum (Some k) value.Null)) ≡ Ok value.Null
null_read id k = ap (λ (b : Bool). read_by id (Some k) (present_in (cond b (optional (Some datum.Null)) (optional None)))) (null_is_none k) ∙ ap (read_by id (Some k)) null_absent

part_by : (id : ℤ) (k : Kind) (v : Value) (b : Bool) → is_null v ≡ b → is_kind k ≡ true → cond b true (is_value k v) ≡ true
    → read_by id (Some k) (present_in (part_datum (Some k) v)) ≡ Ok v
part_by id k v false e sound h = some_read id k v sound h
part_by id k value.Null true e sound h = null_read id k
part_by id k v true e sound h = absurd cc

void_by : (id : ℤ) (v : Value) → is_part None v ≡ true → read_by id None (present_in (part_datum None v)) ≡ Ok v
void_by id value.Null h = ap (read_by id None) null_absent
void_by id v h = absurd cc

part_again : (id : ℤ) (k : Option Kind) (v : Value) → is_sound k ≡ true → is_part k v ≡ true → read_by id k (present_in (part_datum k v)) ≡ Ok v
part_again id None v sound h = void_by id v h
part_again id (Some k) v sound h = part_by id k v (is_null v) refl sound h

-- ---- all values

-- where the fields stand, the first of which stands there
abbrev pub placed : List Column → ℕ → List PartField → List PartPlace
placed columns n [] = []
placed columns n (part ∷ parts) = record { field = part.field; kind = kind_of_field columns part; place = n } ∷ placed columns (suc n) parts

abbrev pub are_sound : List Column → List PartField → Bool
are_sound columns parts = list_all (λ part. is_sound (kind_of_field columns part)) parts

there : (front after : List Datum) (d : Datum) → slice_get (front ++ d ∷ after) (length front) ≡ Some d
there front after d =
    let size : length (front ++ d ∷ after) ≡ length front + length (d ∷ after) = length-append front (d ∷ after) in
    slice_get-get_or (front ++ d ∷ after) (length front) d (omega arith) ∙ ap (λ (x : Datum). (let o : Option Datum = Some x in o)) (get_or-append_seam front d after d)

one_more : (front : List Datum) (d : Datum) → length (front ++ d ∷ []) ≡ suc (length front)
one_more front d = length-append front (d ∷ []) ∙ omega arith

pub parts_again : (columns : List Column) (whole front : List Datum) (n : ℕ) (earlier : List Value) (parts : List PartField)
    (vs : List Value) → whole ≡ front ++ part_datums columns parts vs → length front ≡ n → are_sound columns parts ≡ true
    → are_parts columns parts vs ≡ true → part_values whole earlier (placed columns n parts) ≡ Ok (earlier ++ vs)
unfolding part_values part_datums
parts_again columns whole front n earlier [] [] is at sound h = ap (λ (xs : List Value). (let r : Result (List Value) ManifestFault = Ok xs in r)) (sym (append-nil earlier))
parts_again columns whole front n earlier [] (v ∷ vs) is at sound h = absurd cc
parts_again columns whole front n earlier (part ∷ parts) [] is at sound h = absurd cc
parts_again columns whole front n earlier (part ∷ parts) (v ∷ vs) is at sound h =
    let k : Option Kind = kind_of_field columns part in
    let d : Datum = part_datum k v in
    let after : List Datum = part_datums columns parts vs in
    let found : slice_get whole n ≡ Some d = ap (λ (m : ℕ). slice_get whole m) (sym at) ∙ ap (λ (xs : List Datum). slice_get xs (length front)) is ∙ there front after d in
    goes (part_value whole (record { field = part.field; kind = k; place = n })) _ v _
    (ap (λ (o : Option Datum). read_by part.field k (option_and_then present_in o)) found ∙ part_again part.field k v (first (is_sound k) (are_sound columns parts) sound) (first (is_part k v) (are_parts columns parts vs) h))
    (parts_again columns whole (front ++ d ∷ []) (suc n) (earlier ++ v ∷ []) parts vs (is ∙ sym (append_assoc front (d ∷ []) after)) (one_more front d ∙ ap suc at) (second (is_sound k) (are_sound columns parts) sound) (second (is_part k v) (are_parts columns parts vs) h)
    ∙ ap (λ (xs : List Value). (let r : Result (List Value) ManifestFault = Ok xs in r)) (append_assoc earlier (v ∷ []) vs))

-- ---- where the fields stand

carried : (name : List ℕ) (k : Option Kind) → carries_part k (type_of (part_plan name k)) ≡ true
carried name None = refl
carried name (Some k) = optional_carried name k

abbrev field_for : List Column → Bool → PartField → Field
field_for columns keeps part = field part.field (part_name keeps part) (type_of (part_plan (decimal_name part.field) (kind_of_field columns part)))

same_id : (n : ℤ) → int_eq n n ≡ true
same_id n = grind (arith, ints, nat_tests)

-- none of these fields has the id
abbrev lack : ℤ → List PartField → Bool
lack id parts = list_all (λ other. not (int_eq other.field id)) parts

abbrev found_by : Bool → ℕ × Field → Option (ℕ × Field) → Option (ℕ × Field)
found_by b here later = cond b (Some here) later

found_from : (columns : List Column) (keeps : Bool) (front : List PartField) (part : PartField) (parts : List PartField) (n : ℕ)
    → lack part.field front ≡ true
    → field_from part.field n (types_of (part_plans columns keeps (front ++ part ∷ parts))) ≡ Some (n + length front, field_for columns keeps part)
unfolding field_from
found_from columns keeps [] part parts n h =
    ap (λ (b : Bool). found_by b (n, field_for columns keeps part) (field_from part.field (n + 1) (types_of (part_plans columns keeps parts)))) (same_id part.field) ∙ ap (λ (m : ℕ). (let o : Option (ℕ × Field) = Some (m, field_for columns keeps part) in o)) (omega arith)
found_from columns keeps (other ∷ front) part parts n h =
    ap (λ (b : Bool). found_by b (n, field_for columns keeps other) (field_from part.field (n + 1) (types_of (part_plans columns keeps (front ++ part ∷ parts))))) (not_false (int_eq other.field part.field) (first (not (int_eq other.field part.field)) (lack part.field front) h))
    ∙ found_from columns keeps front part parts (n + 1) (second (not (int_eq other.field part.field)) (lack part.field front) h) ∙ ap (λ (m : ℕ). (let o : Option (ℕ × Field) = Some (m, field_for columns keeps part) in o)) (omega arith)

abbrev place_by : List Column → PartField → Option (ℕ × Field) → Result PartPlace ManifestFault
place_by columns part found = or_fault (fault.Field part.field) found >>= λ f. cond (carries_part (kind_of_field columns part) f.1.schema) (Ok (record { field = part.field; kind = kind_of_field columns part; place = f.0 })) (Err (fault.Kind part.field))

abbrev here_at : List Column → PartField → ℕ → Result PartPlace ManifestFault
here_at columns part n = Ok (record { field = part.field; kind = kind_of_field columns part; place = n })

place_found : (columns : List Column) (keeps : Bool) (front : List PartField) (part : PartField) (parts : List PartField)
    → lack part.field front ≡ true
    → part_place columns (types_of (part_plans columns keeps (front ++ part ∷ parts))) part ≡ here_at columns part (length front)
place_found columns keeps front part parts h =
    ap (place_by columns part) (found_from columns keeps front part parts 0 h)
    ∙ ap (λ (b : Bool). cond b (here_at columns part (0 + length front)) (Err (fault.Kind part.field))) (carried (decimal_name part.field) (kind_of_field columns part))
    ∙ ap (here_at columns part) (omega arith)

-- no field of the second list has the id of one of the first
abbrev apart_from : List PartField → List PartField → Bool
apart_from front parts = list_all (λ part. lack part.field front) parts

lack_more : (id : ℤ) (front : List PartField) (part : PartField) → lack id front ≡ true → int_eq part.field id ≡ false → lack id (front ++ part ∷ []) ≡ true
lack_more id [] part h e = ap (λ (b : Bool). not b && true) e
lack_more id (other ∷ front) part h e = ap (λ (b : Bool). b && lack id (front ++ part ∷ [])) (first (not (int_eq other.field id)) (lack id front) h) ∙ lack_more id front part (second (not (int_eq other.field id)) (lack id front) h) e

apart_more : (front : List PartField) (part : PartField) (parts : List PartField) → apart_from front parts ≡ true
    → not (has_field part.field parts) ≡ true → apart_from (front ++ part ∷ []) parts ≡ true
apart_more front part [] h new = refl
apart_more front part (other ∷ parts) h new =
    let here = no_column_here (int_eq other.field part.field) (has_field part.field parts) new in
    ap (λ (b : Bool). b && apart_from (front ++ part ∷ []) parts) (lack_more other.field front part (first (lack other.field front) (apart_from front parts) h) (turned other.field part.field here.0)) ∙ apart_more front part parts (second (lack other.field front) (apart_from front parts) h) here.1

one_part_more : (front : List PartField) (part : PartField) → length (front ++ part ∷ []) ≡ suc (length front)
one_part_more front part = length-append front (part ∷ []) ∙ omega arith

parts_found : (columns : List Column) (keeps : Bool) (whole front : List PartField) (n : ℕ) (earlier : List PartPlace)
    (parts : List PartField) → whole ≡ front ++ parts → length front ≡ n → apart_from front parts ≡ true → are_apart parts ≡ true
    → part_places columns (types_of (part_plans columns keeps whole)) earlier parts ≡ Ok (earlier ++ placed columns n parts)
unfolding part_places are_apart
parts_found columns keeps whole front n earlier [] is at new h = ap (λ (xs : List PartPlace). (let r : Result (List PartPlace) ManifestFault = Ok xs in r)) (sym (append-nil earlier))
parts_found columns keeps whole front n earlier (part ∷ parts) is at new h =
    let here : PartPlace = record { field = part.field; kind = kind_of_field columns part; place = n } in
    goes (part_place columns (types_of (part_plans columns keeps whole)) part) _ here _
    (ap (λ (xs : List PartField). part_place columns (types_of (part_plans columns keeps xs)) part) is ∙ place_found columns keeps front part parts (first (lack part.field front) (apart_from front parts) new) ∙ ap (here_at columns part) at)
    (parts_found columns keeps whole (front ++ part ∷ []) (suc n) (earlier ++ here ∷ []) parts (is ∙ sym (append_assoc front (part ∷ []) parts)) (one_part_more front part ∙ ap suc at)
    (apart_more front part parts (second (lack part.field front) (apart_from front parts) new) (first (not (has_field part.field parts)) (are_apart parts) h)) (second (not (has_field part.field parts)) (are_apart parts) h)
    ∙ ap (λ (xs : List PartPlace). (let r : Result (List PartPlace) ManifestFault = Ok xs in r)) (append_assoc earlier (here ∷ []) (placed columns (suc n) parts)))

none_before : (parts : List PartField) → apart_from [] parts ≡ true
none_before [] = refl
none_before (part ∷ parts) = none_before parts

pub all_found : (columns : List Column) (keeps : Bool) (parts : List PartField) → are_apart parts ≡ true
    → part_places columns (types_of (part_plans columns keeps parts)) [] parts ≡ Ok (placed columns 0 parts)
all_found columns keeps parts h = parts_found columns keeps parts [] 0 [] parts refl refl (none_before parts) h

-- ---- kinds

given_sound : (t : Transform) (k : Kind) → is_kind k ≡ true → is_sound (kind_given t k) ≡ true
given_sound transform.Identity k h = h
given_sound (transform.Bucket count) k h = refl
given_sound (transform.Truncate width) k h = h
given_sound transform.Year k h = refl
given_sound transform.Month k h = refl
given_sound transform.Day k h = refl
given_sound transform.Hour k h = refl
given_sound transform.Void k h = refl

abbrev pub are_kinds : List Column → Bool
are_kinds columns = list_all (λ column. is_kind column.kind) columns

sound_by : (t : Transform) (found : Option Kind) → is_sound found ≡ true → is_sound (option_and_then (kind_given t) found) ≡ true
sound_by t None h = refl
sound_by t (Some k) h = given_sound t k h

column_by : (b : Bool) (k : Kind) (later : Option Kind) → is_kind k ≡ true → is_sound later ≡ true → is_sound (cond b (Some k) later) ≡ true
column_by true k later h more = h
column_by false k later h more = more

column_sound : (id : ℤ) (columns : List Column) → are_kinds columns ≡ true → is_sound (kind_of_column id columns) ≡ true
unfolding kind_of_column
column_sound id [] h = refl
column_sound id (column ∷ columns) h = column_by (int_eq column.id id) column.kind (kind_of_column id columns) (first (is_kind column.kind) (are_kinds columns) h) (column_sound id columns (second (is_kind column.kind) (are_kinds columns) h))

pub kinds_sound : (columns : List Column) (parts : List PartField) → are_kinds columns ≡ true → are_sound columns parts ≡ true
kinds_sound columns [] h = refl
kinds_sound columns (part ∷ parts) h = ap (λ (b : Bool). b && are_sound columns parts) (sound_by part.transform (kind_of_column part.source columns) (column_sound part.source columns h)) ∙ kinds_sound columns parts h
