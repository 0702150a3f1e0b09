use Rattle.std.proofs.Common.{◌≡◌, length}
use Rattle.table_names.specs.Versions.{first_compressed}
use Rattle.table_names.proofs.version.first_compressed.Given as goal

-- the names that are left give the same answer
abbrev pub invariant-loop-rest : goal.invariant-loop-rest
invariant-loop-rest l = first_compressed l.prefix l.rest ≡ first_compressed l.prefix l.names

abbrev pub decreases-loop-rest : goal.decreases-loop-rest
decreases-loop-rest l = length l.rest
