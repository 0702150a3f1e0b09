use Rattle.std.proofs.Common.{◌≡◌, drop}
use Rattle.table_names.specs.Marks.{marked, marks_of}
use Rattle.table_names.proofs.marks.marks_of.Given as goal

-- the numbers that are left lead to the same marks
abbrev pub invariant-loop-number : goal.invariant-loop-number
invariant-loop-number l = marked l.marks.items (drop l.number-index l.numbers) ≡ marks_of l.numbers
