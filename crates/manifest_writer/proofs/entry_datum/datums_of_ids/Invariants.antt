use Rattle.std.proofs.Common.{◌≡◌, map, take}
use Rattle.std.specs.List.{AllByRecursion}
use Rattle.avro_binary.specs.Spelling.{IsSignedOf}
use Rattle.manifest_writer.specs.EntryDatum.{id_datum}
use Rattle.manifest_writer.proofs.entry_datum.datums_of_ids.Given as goal

abbrev pub invariant-loop-id : goal.invariant-loop-id
invariant-loop-id l = (l.datums.items ≡ map id_datum (take l.id-index l.ids)) × AllByRecursion (IsSignedOf 31) (take l.id-index l.ids)
