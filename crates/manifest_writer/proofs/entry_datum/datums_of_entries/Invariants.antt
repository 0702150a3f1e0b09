use Rattle.std.proofs.Common.{◌≡◌, map, take}
use Rattle.std.specs.List.{AllByRecursion}
use Rattle.manifest_writer.specs.EntryDatum.{datum_of_entry, IsEntry}
use Rattle.manifest_writer.proofs.entry_datum.datums_of_entries.Given as goal

abbrev pub invariant-loop-entry : goal.invariant-loop-entry
invariant-loop-entry l = (l.datums.items ≡ map (datum_of_entry l.spec l.schema) (take l.entry-index l.entries)) × AllByRecursion IsEntry (take l.entry-index l.entries)
