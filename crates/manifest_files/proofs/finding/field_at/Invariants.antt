use Rattle.std.proofs.Common.{◌≡◌, ◌+◌, length}
use Rattle.manifest_files.specs.Places.{field_from}
use Rattle.manifest_files.proofs.finding.field_at.Given as goal

-- the fields that are left give the same field
abbrev pub invariant-loop-rest : goal.invariant-loop-rest
invariant-loop-rest l = record { same : field_from l.id l.place l.rest ≡ field_from l.id 0 l.fields; count : l.place + length l.rest ≡ length l.fields }

abbrev pub decreases-loop-rest : goal.decreases-loop-rest
decreases-loop-rest l = length l.rest
