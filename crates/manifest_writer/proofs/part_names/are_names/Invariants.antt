use Rattle.std.proofs.Common.{◌≡◌, length}
use Rattle.manifest_writer.specs.PartNames.{are_names}
use Rattle.manifest_writer.proofs.part_names.are_names.Given as goal

abbrev pub invariant-loop-rest : goal.invariant-loop-rest
invariant-loop-rest l = are_names l.rest ≡ are_names l.parts

abbrev pub decreases-loop-rest : goal.decreases-loop-rest
decreases-loop-rest l = length l.rest
