use Rattle.std.proofs.Common.{◌≡◌, ◌-◌, [], length}
use Rattle.avro_binary.specs.Shape.{shape}
use Rattle.avro_container.specs.Container.{blocks_at}
use Rattle.avro_container.proofs.container.blocks_at.Given as goal

abbrev pub invariant-loop-block : goal.invariant-loop-block
invariant-loop-block l = blocks_at (shape l.schema) l.sync l.whole (length l.bytes - l.block) l.block l.all.items l.rest ≡ blocks_at (shape l.schema) l.sync l.whole (length l.bytes) 0 [] l.bytes
