use Rattle.std.proofs.Common.{◌≡◌, ◌++◌, map, drop}
use Rattle.std.specs.List.{concat}
use Rattle.plain_types.specs.Appends.{IsFront}
use Rattle.avro_container.specs.ContainerText.{pair_text}
use Rattle.avro_container.proofs.writing.put_pairs.Given as goal

abbrev pub invariant-loop-pair : goal.invariant-loop-pair
invariant-loop-pair l = (l.out.items ++ concat (map pair_text (drop l.pair-index l.pairs)) ≡ l.fn.out.items ++ concat (map pair_text l.pairs))
    × IsFront l.fn.out.items l.out.items
