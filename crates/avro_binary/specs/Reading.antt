-- Reading a datum from left to right (Avro 1.11.1, 'Binary Encoding'), with the first fault that is met.
use Rattle.std.specs.Prelude.{ℕ, zero, suc, Bool, true, false, List, [], ◌∷◌, ◌++◌, length, Ok, Err, ◌==◌, if◌then◌else◌}
use Rattle.plain_types.specs.Steps.{◌>>=◌}
use Rattle.avro_binary.specs.declared.fault.FaultKind.TheVariants.{Branch}
use Rattle.avro_binary.specs.declared.datum.Datum.{Datum}
use Rattle.avro_binary.specs.declared.datum.Datum.TheVariants as datum
use Rattle.avro_binary.specs.declared.datum.MapPair.{MapPair}
use Rattle.avro_binary.specs.Answer.{Part, ended, spot}
use Rattle.avro_binary.specs.Number.{int_at, long_at, index_at, front_at, bytes_at, text_at, count_at}
use Rattle.avro_binary.specs.Shape.{Shape, null_shape, boolean_shape, int_shape, long_shape, bytes_shape, text_shape, record_shape, enum_shape, array_shape, map_shape, union_shape, fixed_shape, Shapes, no_shapes, more_shapes, shape_count}

-- what was read, under f
abbrev pub under : {A B : Type 0} → (A → B) → Part A → Part B
under f answer = answer >>= λ x. Ok (f x.0, x.1)

-- one byte, 0 or 1
unfoldable pub boolean_at : List ℕ → Part Bool
boolean_at [] = Err ended
boolean_at (zero ∷ rest) = Ok (false, rest)
boolean_at (suc zero ∷ rest) = Ok (true, rest)
boolean_at (suc (suc b) ∷ rest) = Err (spot Branch (suc (suc b) ∷ rest))

-- so many items
unfoldable pub items_at : {A : Type 0} → (List ℕ → Part A) → ℕ → List ℕ → Part (List A)
items_at reader zero bytes = Ok ([], bytes)
items_at reader (suc count) bytes = do
  first ← reader bytes
  others ← items_at reader count first.1
  Ok (first.0 ∷ others.0, others.1)

-- blocks of items, of which the last has none; at most `more` blocks, which are all where that many bytes are left
unfoldable pub blocks_at : {A : Type 0} → (List ℕ → Part A) → ℕ → List ℕ → Part (List A)
blocks_at reader zero bytes = Err ended
blocks_at reader (suc more) bytes = do
  count ← count_at bytes
  if count.0 == 0 then Ok ([], count.1) else (items_at reader count.0 count.1 >>= λ block. blocks_at reader more block.1 >>= λ others. Ok (block.0 ++ others.0, others.1))

-- a key and a value
unfoldable pub pair_at : (List ℕ → Part Datum) → List ℕ → Part MapPair
pair_at reader bytes = do
  key ← text_at bytes
  value ← reader key.1
  Ok (record { key = key.0; value = value.0 }, value.1)

unfoldable mutual
  pub datum_at : Shape → List ℕ → Part Datum
  datum_at null_shape bytes = Ok (datum.Null, bytes)
  datum_at boolean_shape bytes = under datum.Boolean (boolean_at bytes)
  datum_at int_shape bytes = under datum.Int (int_at bytes)
  datum_at long_shape bytes = under datum.Long (long_at bytes)
  datum_at bytes_shape bytes = under datum.Bytes (bytes_at bytes)
  datum_at text_shape bytes = under datum.Text (text_at bytes)
  datum_at (record_shape fields) bytes = under datum.Record (fields_at fields bytes)
  datum_at (enum_shape count) bytes = under datum.Enum (index_at count bytes)
  datum_at (array_shape items) bytes = under datum.Array (blocks_at (datum_at items) (length bytes) bytes)
  datum_at (map_shape values) bytes = under datum.Map (blocks_at (pair_at (datum_at values)) (length bytes) bytes)
  datum_at (union_shape branches) bytes = index_at (shape_count branches) bytes >>= λ branch. under (datum.Union branch.0) (branch_at branches branch.0 branch.1)
  datum_at (fixed_shape size) bytes = under datum.Fixed (front_at size bytes)

  -- one field after the other
  pub fields_at : Shapes → List ℕ → Part (List Datum)
  fields_at no_shapes bytes = Ok ([], bytes)
  fields_at (more_shapes s ss) bytes = datum_at s bytes >>= λ first. fields_at ss first.1 >>= λ others. Ok (first.0 ∷ others.0, others.1)

  -- the branch with this index
  pub branch_at : Shapes → ℕ → List ℕ → Part Datum
  branch_at no_shapes index bytes = Err (spot Branch bytes)
  branch_at (more_shapes s ss) zero bytes = datum_at s bytes
  branch_at (more_shapes s ss) (suc index) bytes = branch_at ss index bytes
