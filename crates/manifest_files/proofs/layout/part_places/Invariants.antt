use Rattle.std.proofs.Common.{◌≡◌, [], length}
use Rattle.manifest_files.specs.Places.{part_places}
use Rattle.manifest_files.proofs.layout.part_places.Given as goal

-- the fields of the spec that are left give the same places, behind those that are found
abbrev pub invariant-loop-rest : goal.invariant-loop-rest
invariant-loop-rest l = part_places l.columns l.fields l.places.items l.rest ≡ part_places l.columns l.fields [] l.parts

abbrev pub decreases-loop-rest : goal.decreases-loop-rest
decreases-loop-rest l = length l.rest
