use Rattle.std.proofs.Common.{◌≡◌, ◌++◌, take, drop}
use Rattle.store_core.specs.Names.{with_name}
use Rattle.store_core.proofs.names.place_of.Given as goal

-- the name belongs after those that were passed
abbrev pub invariant-loop-at : goal.invariant-loop-at
invariant-loop-at l = with_name l.name l.names ≡ take l.at l.names ++ with_name l.name (drop l.at l.names)
