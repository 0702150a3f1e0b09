-- The values that each record has (Iceberg specification, "Manifests" and "Manifest Lists", required fields). A null is a
-- fault of the field.
use Rattle.std.specs.Prelude.{ℕ, ℤ, List, option_and_then, Result}
use Rattle.plain_types.specs.Steps.{or_fault}
use Rattle.avro_binary.specs.declared.datum.Datum.{Datum}
use Rattle.manifest_files.specs.declared.manifest_fault.ManifestFault.{ManifestFault}
use Rattle.manifest_files.specs.declared.manifest_fault.ManifestFault.TheVariants as fault
use Rattle.manifest_files.specs.Datums.{present, int_in, long_in, text_in, as_text, natural_of}

abbrev pub needed_text : ℤ → ℕ → List Datum → Result (List ℕ) ManifestFault
needed_text id place values = or_fault (fault.Kind id) (option_and_then as_text (option_and_then text_in (present values place)))

abbrev pub needed_count : ℤ → ℕ → List Datum → Result ℕ ManifestFault
needed_count id place values = or_fault (fault.Kind id) (option_and_then natural_of (option_and_then long_in (present values place)))

abbrev pub needed_int : ℤ → ℕ → List Datum → Result ℤ ManifestFault
needed_int id place values = or_fault (fault.Kind id) (option_and_then int_in (present values place))

abbrev pub needed_long : ℤ → ℕ → List Datum → Result ℤ ManifestFault
needed_long id place values = or_fault (fault.Kind id) (option_and_then long_in (present values place))
