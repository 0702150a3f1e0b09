use Rattle.std.proofs.Common.{◌≡◌, ◌+◌, length}
use Rattle.table_scan.specs.Scanning.{place_of}
use Rattle.table_scan.proofs.ordering.place_of.Given as goal

abbrev pub invariant-loop-rest : goal.invariant-loop-rest
invariant-loop-rest l = (l.place + length l.rest ≡ length l.files) × (l.place + place_of l.path l.rest ≡ place_of l.path l.files)

abbrev pub decreases-loop-rest : goal.decreases-loop-rest
decreases-loop-rest l = length l.rest
