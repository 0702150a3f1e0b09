use Rattle.std.proofs.Common.{◌≡◌, map, take}
use Rattle.change_sets.specs.Scanned.{entry_of}
use Rattle.cow_writer.proofs.writing.entries_of.Given as goal

abbrev pub invariant-loop-file : goal.invariant-loop-file
invariant-loop-file l = l.entries ≡ map entry_of (take l.file-index l.scanned)
