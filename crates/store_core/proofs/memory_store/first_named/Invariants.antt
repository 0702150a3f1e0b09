use Rattle.std.proofs.Common.{◌≡◌, drop}
use Rattle.std.specs.FinMap as map
use Rattle.std.specs.Ordering.{nat_cmp}
use Rattle.std.specs.Cmp.Lexicographic.{slice_cmp}
use Rattle.store_core.specs.Memory.{pairs}
use Rattle.store_core.proofs.memory_store.first_named.Given as goal

abbrev pub invariant-loop-file : goal.invariant-loop-file
invariant-loop-file l = map.find (slice_cmp nat_cmp) l.name (pairs (drop l.file-index l.files)) ≡ map.find (slice_cmp nat_cmp) l.name (pairs l.files)
