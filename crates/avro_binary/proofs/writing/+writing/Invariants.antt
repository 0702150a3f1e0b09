use Rattle.std.proofs.Common.{◌≡◌, ◌++◌, map, drop}
use Rattle.std.specs.List.{concat}
use Rattle.plain_types.specs.Appends.{IsFront}
use Rattle.avro_binary.specs.Spelling.{spelling, pair_spelling}
use Rattle.avro_binary.proofs.writing.+writing.Given as goal

abbrev pub invariant-put_each-loop-value : goal.invariant-put_each-loop-value
invariant-put_each-loop-value l = (l.out.items ++ concat (map spelling (drop l.value-index l.values)) ≡ l.fn.out.items ++ concat (map spelling l.values))
    × IsFront l.fn.out.items l.out.items

abbrev pub invariant-put_each_pair-loop-pair : goal.invariant-put_each_pair-loop-pair
invariant-put_each_pair-loop-pair l = (l.out.items ++ concat (map pair_spelling (drop l.pair-index l.pairs)) ≡ l.fn.out.items ++ concat (map pair_spelling l.pairs))
    × IsFront l.fn.out.items l.out.items
