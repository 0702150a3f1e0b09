use Rattle.std.proofs.Common.{◌≡◌, map, take}
use Rattle.dml_program.proofs.twice.paths_of.Given as goal

-- the paths of the entries so far
abbrev pub invariant-loop-entry : goal.invariant-loop-entry
invariant-loop-entry l = map (λ path. path.now) l.paths.items ≡ map (λ entry. entry.path) (take l.entry-index l.entries)
