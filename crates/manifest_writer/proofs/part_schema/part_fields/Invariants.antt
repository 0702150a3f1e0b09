use Rattle.std.proofs.Common.{◌≡◌, take, map}
use Rattle.manifest_writer.specs.PartTypes.{part_field}
use Rattle.manifest_writer.proofs.part_schema.part_fields.Given as goal

abbrev pub invariant-loop-part : goal.invariant-loop-part
invariant-loop-part l = l.fields.items ≡ map (part_field l.columns l.keeps) (take l.part-index l.parts)
