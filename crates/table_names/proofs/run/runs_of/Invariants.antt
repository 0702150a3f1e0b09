use Rattle.std.proofs.Common.{◌≡◌, take}
use Rattle.table_names.specs.Runs.{runs_of}
use Rattle.table_names.proofs.run.runs_of.Given as goal

-- the runs of the names so far
abbrev pub invariant-loop-name : goal.invariant-loop-name
invariant-loop-name l = l.runs.items ≡ runs_of l.prefix (take l.name-index l.names)
