use Rattle.std.proofs.Common.{◌≡◌, take}
use Rattle.manifest_writer.specs.Facts.{pairs_of, HasIds}
use Rattle.manifest_writer.proofs.fact_datum.pairs_of.Given as goal

abbrev pub invariant-loop-facts : goal.invariant-loop-facts
invariant-loop-facts l = (l.pairs.items ≡ pairs_of l.fact (take l.facts-index l.stats)) × HasIds (take l.facts-index l.stats)
