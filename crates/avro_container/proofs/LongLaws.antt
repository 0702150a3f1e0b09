-- Longs are datums of the schema `long`.
use Rattle.std.proofs.Common.{◌≡◌, ℤ, List, [], ◌∷◌, ◌++◌, refl, sym, ap, ◌∙◌}
use Rattle.std.specs.List.{AllByRecursion}
use Rattle.avro_binary.specs.declared.datum.Datum as datums
use Rattle.avro_binary.specs.declared.datum.Datum.TheVariants as datum
use Rattle.avro_binary.specs.declared.schema.Schema.TheOpen as open_schema
use Rattle.avro_binary.specs.declared.schema.Schema.TheVariants as schema
use Rattle.avro_binary.specs.declared.schema.Schema.TheFolds.{fold-roll-Schema}
use Rattle.avro_binary.specs.declared.schema.Logical.{Logical}
use Rattle.avro_binary.specs.Shape.{Shape, long_shape, shape, level, field_level}
use Rattle.avro_binary.specs.Spelling.{IsSignedOf, Fits}
use Rattle.avro_container.specs.ContainerText.{AreMeta}

pub long_is : (logical : Logical) → shape (schema.Long logical) ≡ long_shape
long_is logical = ap shape (sym (schema.rolls-Long logical)) ∙ fold-roll-Schema Shape Shape level field_level (open_schema.Long logical)

pub one_more_long : (ds : List datums.Datum) (z : ℤ) → AllByRecursion (Fits long_shape) ds → IsSignedOf 63 z
    → AllByRecursion (Fits long_shape) (ds ++ datum.Long z ∷ [])
unfolding Fits
one_more_long [] z all lt = ((z, lt, refl), tt)
one_more_long (d ∷ ds) z all lt = (all.0, one_more_long ds z all.1 lt)

pub no_meta : AreMeta []
no_meta = record { texts = tt; distinct = tt; no_schema = tt; no_codec = tt }
