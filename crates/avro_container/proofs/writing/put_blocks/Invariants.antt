use Rattle.std.proofs.Common.{◌≡◌, ◌++◌, length}
use Rattle.plain_types.specs.Appends.{IsFront}
use Rattle.avro_container.specs.ContainerText.{blocks_text}
use Rattle.avro_container.proofs.writing.put_blocks.Given as goal

abbrev pub invariant-loop-rest : goal.invariant-loop-rest
invariant-loop-rest l = (l.out.items ++ blocks_text l.limit l.rest ≡ l.fn.out.items ++ blocks_text l.limit l.datums)
    × IsFront l.fn.out.items l.out.items

abbrev pub decreases-loop-rest : goal.decreases-loop-rest
decreases-loop-rest l = length l.rest
