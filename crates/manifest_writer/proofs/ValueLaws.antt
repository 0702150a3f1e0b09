-- Values of fields that are written are read again.
use Rattle.std.proofs.Common.{◌≡◌, ℕ, ℤ, List, Bool, true, false, Option, Some, None, option_map, option_and_then, Ok, refl, ap, ◌∙◌}
use Rattle.std.specs.Prelude.{if◌then◌else◌}
use Rattle.std.specs.Str.{is_utf8}
use Rattle.plain_types.specs.Steps.{or_fault}
use Rattle.row_values.specs.declared.value.Value.{Value}
use Rattle.row_values.specs.declared.value.Value.TheVariants as value
use Rattle.avro_binary.specs.declared.datum.Datum.{Datum, out-Datum}
use Rattle.avro_binary.specs.declared.datum.MapPair.{MapPair}
use Rattle.avro_binary.specs.declared.datum.Datum.TheOpen as open_datum
use Rattle.avro_binary.specs.declared.datum.Datum.TheVariants as datum
use Rattle.avro_rows.specs.DatumValue.{inside_level, inside, is_null_datum}
use Rattle.manifest_files.specs.declared.manifest_fault.ManifestFault.{ManifestFault}
use Rattle.manifest_files.specs.Datums.{present_in, int_level, int_in, long_level, long_in, boolean_level, boolean_in, bytes_level, bytes_in, text_level, text_in, as_text}
use Rattle.manifest_files.specs.Lists.{not_negative}
use Rattle.row_writer.proofs.CallerLemmas.{null_out, boolean_out, int_out, long_out, bytes_out, text_out, record_out, array_out, union_out}
use Rattle.manifest_writer.specs.Value.{optional_int, optional_long, bytes_inside, optional_bound, is_count, is_bound}
use Rattle.row_writer.specs.KindDatum.{optional}

-- ---- what is there

pub there : (whole d : Datum) (x : open_datum.Datum-F Datum MapPair) → inside whole ≡ d → out-Datum d ≡ x → is_null_datum x ≡ false → present_in whole ≡ Some d
there whole d x within e h = ap (λ (i : Datum). if is_null_datum (out-Datum i) then None else Some i) within ∙ ap (λ (y : open_datum.Datum-F Datum MapPair). if is_null_datum y then None else Some d) e ∙ ap (λ (b : Bool). if b then None else Some d) h

pub alone : (d : Datum) (x : open_datum.Datum-F Datum MapPair) → out-Datum d ≡ x → is_null_datum x ≡ false → inside_level d x ≡ d → present_in d ≡ Some d
alone d x e h within = there d d x (ap (inside_level d) e ∙ within) e h

pub branch : (d : Datum) (x : open_datum.Datum-F Datum MapPair) → out-Datum d ≡ x → is_null_datum x ≡ false → present_in (optional (Some d)) ≡ Some d
branch d x e h = there (datum.Union 1 d) d x (ap (inside_level (datum.Union 1 d)) (union_out 1 d)) e h

absent : present_in (optional None) ≡ None
absent = ap (λ (i : Datum). if is_null_datum (out-Datum i) then None else Some i) (ap (inside_level (datum.Union 0 datum.Null)) (union_out 0 datum.Null)) ∙ ap (λ (y : open_datum.Datum-F Datum MapPair). if is_null_datum y then None else Some datum.Null) null_out

pub record_there : (ds : List Datum) → present_in (datum.Record ds) ≡ Some (datum.Record ds)
record_there ds = alone (datum.Record ds) (open_datum.Record ds) (record_out ds) refl refl

pub null_absent : present_in (optional None) ≡ None
null_absent = absent

pub long_there : (n : ℤ) → present_in (datum.Long n) ≡ Some (datum.Long n)
long_there n = alone (datum.Long n) (open_datum.Long n) (long_out n) refl refl

pub bytes_there : (bytes : List ℕ) → present_in (datum.Bytes bytes) ≡ Some (datum.Bytes bytes)
bytes_there bytes = alone (datum.Bytes bytes) (open_datum.Bytes bytes) (bytes_out bytes) refl refl

pub long_value : (n : ℤ) → long_in (datum.Long n) ≡ Some n
long_value n = ap long_level (long_out n)

pub bytes_value : (bytes : List ℕ) → bytes_in (datum.Bytes bytes) ≡ Some bytes
bytes_value bytes = ap bytes_level (bytes_out bytes)

pub text_value : (bytes : List ℕ) → option_and_then text_in (present_in (datum.Text bytes)) ≡ Some bytes
text_value bytes = ap (option_and_then text_in) (alone (datum.Text bytes) (open_datum.Text bytes) (text_out bytes) refl refl) ∙ ap text_level (text_out bytes)

pub array_there : (ds : List Datum) → present_in (optional (Some (datum.Array ds))) ≡ Some (datum.Array ds)
array_there ds = branch (datum.Array ds) (open_datum.Array ds) (array_out ds) refl

-- ---- values

pub text_again : (f : ManifestFault) (bytes : List ℕ) → is_utf8 bytes ≡ true
    → or_fault f (option_and_then as_text (option_and_then text_in (present_in (datum.Text bytes)))) ≡ Ok bytes
text_again f bytes h = ap (λ (o : Option Datum). or_fault f (option_and_then as_text (option_and_then text_in o))) (alone (datum.Text bytes) (open_datum.Text bytes) (text_out bytes) refl refl)
    ∙ ap (λ (y : open_datum.Datum-F Datum MapPair). or_fault f (option_and_then as_text (text_level y))) (text_out bytes) ∙ ap (λ (b : Bool). or_fault f (if b then Some bytes else None)) h

pub int_again : (n : ℤ) → option_and_then int_in (present_in (datum.Int n)) ≡ Some n
int_again n = ap (option_and_then int_in) (alone (datum.Int n) (open_datum.Int n) (int_out n) refl refl) ∙ ap int_level (int_out n)

pub long_again : (n : ℤ) → option_and_then long_in (present_in (datum.Long n)) ≡ Some n
long_again n = ap (option_and_then long_in) (alone (datum.Long n) (open_datum.Long n) (long_out n) refl refl) ∙ ap long_level (long_out n)

pub boolean_again : (b : Bool) → option_and_then boolean_in (present_in (datum.Boolean b)) ≡ Some b
boolean_again b = ap (option_and_then boolean_in) (alone (datum.Boolean b) (open_datum.Boolean b) (boolean_out b) refl refl) ∙ ap boolean_level (boolean_out b)

pub optional_int_again : (n : Option ℤ) → option_and_then int_in (present_in (optional_int n)) ≡ n
optional_int_again None = ap (option_and_then int_in) absent
optional_int_again (Some n) = ap (option_and_then int_in) (branch (datum.Int n) (open_datum.Int n) (int_out n) refl) ∙ ap int_level (int_out n)

pub optional_long_again : (n : Option ℤ) → option_and_then long_in (present_in (optional_long n)) ≡ n
optional_long_again None = ap (option_and_then long_in) absent
optional_long_again (Some n) = ap (option_and_then long_in) (branch (datum.Long n) (open_datum.Long n) (long_out n) refl) ∙ ap long_level (long_out n)

counted : (n : Option ℤ) → is_count n ≡ true → option_and_then not_negative n ≡ n
counted None h = refl
counted (Some n) h = ap (λ (b : Bool). if b then Some n else None) h

pub file_count_again : (n : Option ℤ) → is_count n ≡ true → option_and_then not_negative (option_and_then int_in (present_in (optional_int n))) ≡ n
file_count_again n h = ap (option_and_then not_negative) (optional_int_again n) ∙ counted n h

pub row_count_again : (n : Option ℤ) → is_count n ≡ true → option_and_then not_negative (option_and_then long_in (present_in (optional_long n))) ≡ n
row_count_again n h = ap (option_and_then not_negative) (optional_long_again n) ∙ counted n h

bytes_again : (bytes : Option (List ℕ)) → option_and_then bytes_in (present_in (optional (option_map datum.Bytes bytes))) ≡ bytes
bytes_again None = ap (option_and_then bytes_in) absent
bytes_again (Some bytes) = ap (option_and_then bytes_in) (branch (datum.Bytes bytes) (open_datum.Bytes bytes) (bytes_out bytes) refl) ∙ ap bytes_level (bytes_out bytes)

same_bytes : (bound : Option Value) → is_bound bound ≡ true → option_map value.Bytes (option_and_then bytes_inside bound) ≡ bound
same_bytes None h = refl
same_bytes (Some value.Null) h = absurd cc
same_bytes (Some (value.Bool b)) h = absurd cc
same_bytes (Some (value.Int n)) h = absurd cc
same_bytes (Some (value.Long n)) h = absurd cc
same_bytes (Some (value.Date n)) h = absurd cc
same_bytes (Some (value.Timestamp n)) h = absurd cc
same_bytes (Some (value.Decimal n s)) h = absurd cc
same_bytes (Some (value.Text t)) h = absurd cc
same_bytes (Some (value.Bytes b)) h = refl

pub bound_again : (bound : Option Value) → is_bound bound ≡ true → option_map value.Bytes (option_and_then bytes_in (present_in (optional_bound bound))) ≡ bound
bound_again bound h = ap (option_map value.Bytes) (bytes_again (option_and_then bytes_inside bound)) ∙ same_bytes bound h
