use Rattle.std.proofs.Common.{◌≡◌, drop}
use Rattle.std.specs.Prelude.{max}
use Rattle.table_names.specs.Versions.{greatest_version}
use Rattle.table_names.proofs.version.greatest_version.Given as goal

-- the greatest so far and the greatest of the others give the greatest of all
abbrev pub invariant-loop-name : goal.invariant-loop-name
invariant-loop-name l = max l.greatest (greatest_version l.prefix (drop l.name-index l.names)) ≡ greatest_version l.prefix l.names
