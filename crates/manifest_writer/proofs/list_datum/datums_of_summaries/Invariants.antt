use Rattle.std.proofs.Common.{◌≡◌, map, take}
use Rattle.manifest_writer.specs.ListDatum.{datum_of_summary}
use Rattle.manifest_writer.proofs.list_datum.datums_of_summaries.Given as goal

abbrev pub invariant-loop-summary : goal.invariant-loop-summary
invariant-loop-summary l = l.datums.items ≡ map datum_of_summary (take l.summary-index l.summaries)
