-- The shapes of a list of schemas.
use Rattle.std.proofs.Common.{◌≡◌, ℕ, zero, suc, List, [], ◌∷◌, map, length, Some, None, slice_get, refl, ap, Err}
use Rattle.avro_binary.specs.declared.fault.FaultKind.TheVariants.{Branch}
use Rattle.avro_binary.specs.declared.schema.Schema.{Schema}
use Rattle.avro_binary.specs.declared.schema.Schema.TheFolds.{fold_out-Field}
use Rattle.avro_binary.specs.declared.schema.Field.{Field}
use Rattle.avro_binary.specs.Answer.{spot}
use Rattle.avro_binary.specs.Shape.{Shape, level, field_level, shape, field_shape, shapes, shape_count}
use Rattle.avro_binary.specs.Reading.{datum_at, branch_at}

pub shape_count_is : (ss : List Schema) → shape_count (shapes (map shape ss)) ≡ length ss
shape_count_is [] = refl
shape_count_is (s ∷ ss) = ap suc (shape_count_is ss)

pub branch_is : (ss : List Schema) (i : ℕ) (s : Schema) (bytes : List ℕ) → slice_get ss i ≡ Some s
    → branch_at (shapes (map shape ss)) i bytes ≡ datum_at (shape s) bytes
unfolding branch_at
branch_is [] i s bytes e = absurd cc
branch_is (x ∷ ss) zero s bytes e = ap (λ (y : Schema). datum_at (shape y) bytes) cc
branch_is (x ∷ ss) (suc i) s bytes e = branch_is ss i s bytes e

pub branch_none : (ss : List Schema) (i : ℕ) (bytes : List ℕ) → slice_get ss i ≡ None → branch_at (shapes (map shape ss)) i bytes ≡ Err (spot Branch bytes)
unfolding branch_at
branch_none [] i bytes e = refl
branch_none (x ∷ ss) zero bytes e = absurd cc
branch_none (x ∷ ss) (suc i) bytes e = branch_none ss i bytes e

pub field_shape_is : (f : Field) → field_shape f ≡ shape f.schema
field_shape_is f = fold_out-Field Shape Shape level field_level f
