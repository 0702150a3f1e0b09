use Rattle.std.proofs.Common.{◌≡◌, ◌++◌, length}
use Rattle.manifest_writer.specs.PartDatum.{part_datums}
use Rattle.manifest_writer.proofs.part_datum.part_datums.Given as goal

abbrev pub invariant-loop-rest : goal.invariant-loop-rest
invariant-loop-rest l = l.datums.items ++ part_datums l.columns l.rest l.left ≡ part_datums l.columns l.parts l.values

abbrev pub decreases-loop-rest : goal.decreases-loop-rest
decreases-loop-rest l = length l.rest
