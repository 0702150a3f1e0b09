use Rattle.std.proofs.Common.{◌≡◌, drop}
use Rattle.std.specs.FinMap as finite
use Rattle.store_core.specs.Memory.{files_of}
use Rattle.store_core.proofs.names.names_of.Given as goal

abbrev pub invariant-loop-left : goal.invariant-loop-left
invariant-loop-left l = l.names.items ≡ finite.keys (files_of (drop l.left l.files))
