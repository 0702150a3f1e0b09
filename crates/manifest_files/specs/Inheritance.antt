-- The numbers of an entry (Iceberg specification, "Sequence Number Inheritance"): an added file takes what its entry
-- leaves null from the manifest's row in the list, since a manifest is written before its commit has a number.
use Rattle.std.specs.Prelude.{nat_eq, unwrap_or, Result, Ok, if◌then◌else◌}
use Rattle.plain_types.specs.Steps.{◌>>=◌, or_fault}
use Rattle.manifest_files.specs.declared.manifest_fault.ManifestFault.{ManifestFault}
use Rattle.manifest_files.specs.declared.manifest_fault.ManifestFault.TheVariants as fault
use Rattle.manifest_files.specs.declared.manifest_row.ManifestRow.{ManifestRow}
use Rattle.manifest_files.specs.declared.numbers.RawNumbers.{RawNumbers}
use Rattle.manifest_files.specs.declared.numbers.Numbers.{Numbers}
use Rattle.manifest_files.specs.FieldIds as id_of

-- of a file that this manifest's snapshot added
abbrev pub inherited : ManifestRow → RawNumbers → Numbers
inherited row raw = record { snapshot = unwrap_or raw.snapshot row.added_snapshot_id; seq = unwrap_or raw.seq row.sequence_number; file_seq = unwrap_or raw.file_seq row.sequence_number }

-- of a file that an earlier snapshot added
unfoldable pub kept : RawNumbers → Result Numbers ManifestFault
kept raw = do
  snapshot ← or_fault (fault.Kind id_of.snapshot_id) raw.snapshot
  seq ← or_fault (fault.Kind id_of.sequence_number) raw.seq
  Ok (record { snapshot = snapshot; seq = seq; file_seq = unwrap_or raw.file_seq seq })

-- status 1 is an added file
abbrev pub numbered : ManifestRow → RawNumbers → Result Numbers ManifestFault
numbered row raw = if nat_eq raw.status 1 then Ok (inherited row raw) else kept raw
