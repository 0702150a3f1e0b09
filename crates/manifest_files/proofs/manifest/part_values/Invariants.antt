use Rattle.std.proofs.Common.{◌≡◌, [], length}
use Rattle.manifest_files.specs.Entries.{part_values}
use Rattle.manifest_files.proofs.manifest.part_values.Given as goal

-- the fields that are left give the same values, behind those that are read
abbrev pub invariant-loop-rest : goal.invariant-loop-rest
invariant-loop-rest l = part_values l.values l.row.items l.rest ≡ part_values l.values [] l.parts

abbrev pub decreases-loop-rest : goal.decreases-loop-rest
decreases-loop-rest l = length l.rest
