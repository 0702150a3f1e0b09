use Rattle.std.proofs.Common.{◌≡◌, length, map}
use Rattle.script_words.specs.Keywords.{find_keyword}
use Rattle.script_words.proofs.keyword.find_keyword.Given as goal

-- the entries that are left give the same answer
abbrev pub invariant-loop-table : goal.invariant-loop-table
invariant-loop-table l = find_keyword (map (λ entry. (entry.0.now, entry.1)) l.table) l.word ≡ find_keyword (map (λ entry. (entry.0.now, entry.1)) l.initial.table) l.word

abbrev pub decreases-loop-table : goal.decreases-loop-table
decreases-loop-table l = length l.table
