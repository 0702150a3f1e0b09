-- One level of a datum.
use Rattle.std.proofs.Common.{◌≡◌, ℕ, ℤ, List, Bool, sym, ap, ◌∙◌}
use Rattle.avro_binary.specs.declared.datum.Datum.{Datum, out-Datum}
use Rattle.avro_binary.specs.declared.datum.Datum.TheOpen as open_datum
use Rattle.avro_binary.specs.declared.datum.Datum.TheVariants as datum
use Rattle.avro_binary.specs.declared.datum.Datum.TheViews.{out-roll-Datum}
use Rattle.avro_rows.specs.Rows.{values_level, values_of}

pub null_out : out-Datum datum.Null ≡ open_datum.Null
null_out = ap out-Datum (sym datum.rolls-Null) ∙ out-roll-Datum open_datum.Null

pub boolean_out : (b : Bool) → out-Datum (datum.Boolean b) ≡ open_datum.Boolean b
boolean_out b = ap out-Datum (sym (datum.rolls-Boolean b)) ∙ out-roll-Datum (open_datum.Boolean b)

pub int_out : (n : ℤ) → out-Datum (datum.Int n) ≡ open_datum.Int n
int_out n = ap out-Datum (sym (datum.rolls-Int n)) ∙ out-roll-Datum (open_datum.Int n)

pub long_out : (n : ℤ) → out-Datum (datum.Long n) ≡ open_datum.Long n
long_out n = ap out-Datum (sym (datum.rolls-Long n)) ∙ out-roll-Datum (open_datum.Long n)

pub bytes_out : (bytes : List ℕ) → out-Datum (datum.Bytes bytes) ≡ open_datum.Bytes bytes
bytes_out bytes = ap out-Datum (sym (datum.rolls-Bytes bytes)) ∙ out-roll-Datum (open_datum.Bytes bytes)

pub text_out : (bytes : List ℕ) → out-Datum (datum.Text bytes) ≡ open_datum.Text bytes
text_out bytes = ap out-Datum (sym (datum.rolls-Text bytes)) ∙ out-roll-Datum (open_datum.Text bytes)

pub fixed_out : (bytes : List ℕ) → out-Datum (datum.Fixed bytes) ≡ open_datum.Fixed bytes
fixed_out bytes = ap out-Datum (sym (datum.rolls-Fixed bytes)) ∙ out-roll-Datum (open_datum.Fixed bytes)

pub record_out : (ds : List Datum) → out-Datum (datum.Record ds) ≡ open_datum.Record ds
record_out ds = ap out-Datum (sym (datum.rolls-Record ds)) ∙ out-roll-Datum (open_datum.Record ds)

pub array_out : (ds : List Datum) → out-Datum (datum.Array ds) ≡ open_datum.Array ds
array_out ds = ap out-Datum (sym (datum.rolls-Array ds)) ∙ out-roll-Datum (open_datum.Array ds)

pub union_out : (n : ℕ) (d : Datum) → out-Datum (datum.Union n d) ≡ open_datum.Union n d
union_out n d = ap out-Datum (sym (datum.rolls-Union n d)) ∙ out-roll-Datum (open_datum.Union n d)

pub values_is : (ds : List Datum) → values_of (datum.Record ds) ≡ ds
values_is ds = ap values_level (record_out ds)
