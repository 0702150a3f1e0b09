-- How a datum is written (Avro 1.11.1, 'Binary Encoding'): each number by its shortest spelling, and all items of an
-- array or a map in one block.
use Rattle.std.specs.Prelude.{◌≡◌, ℕ, zero, suc, ◌+◌, ◌*◌, ◌/◌, ◌%◌, ◌^◌, ◌<◌, ℤ, pos, negsuc, Bool, true, false, ◌&&◌, ◌||◌, List, [], ◌∷◌, ◌++◌, length, nat_lt, if◌then◌else◌}
use Rattle.std.specs.List.{concat, AllByRecursion}
use Rattle.std.specs.Str.{IsUtf8}
use Rattle.avro_binary.specs.declared.datum.Datum.{Datum, fold-Datum}
use Rattle.avro_binary.specs.declared.datum.Datum.TheVariants as datum
use Rattle.avro_binary.specs.declared.datum.Datum.TheOpen as open_datum
use Rattle.avro_binary.specs.declared.datum.MapPair.{MapPair, fold-MapPair}
use Rattle.avro_binary.specs.Shape.{Shape, null_shape, boolean_shape, int_shape, long_shape, bytes_shape, text_shape, record_shape, enum_shape, array_shape, map_shape, union_shape, fixed_shape, Shapes, no_shapes, more_shapes}

-- ---- numbers

-- groups of seven bits, the lowest first, of which at most `more` follow the first
unfoldable pub groups_up_to : ℕ → ℕ → List ℕ
groups_up_to zero n = n % 128 ∷ []
groups_up_to (suc more) n = if nat_lt n 128 then n ∷ [] else ((n % 128 + 128) ∷ groups_up_to more (n / 128))

-- a number below 2 ^ 64
abbrev pub groups_of : ℕ → List ℕ
groups_of n = groups_up_to 9 n

-- the number that a signed number stands as
abbrev pub zigzag : ℤ → ℕ
zigzag (pos n) = 2 * n
zigzag (negsuc n) = 2 * n + 1

abbrev pub signed_groups : ℤ → List ℕ
signed_groups z = groups_of (zigzag z)

-- a length, a count or an index
abbrev pub natural : ℕ → List ℕ
natural n = groups_of (2 * n)

-- ---- datums

-- a length and the bytes
abbrev pub counted : List ℕ → List ℕ
counted bytes = natural (length bytes) ++ bytes

-- the spelled items in one block, and the count of 0 that ends blocks
abbrev pub block : List (List ℕ) → List ℕ
block [] = 0 ∷ []
block (x ∷ xs) = natural (length (x ∷ xs)) ++ concat (x ∷ xs) ++ 0 ∷ []

-- one level, with each datum and pair inside already spelled
abbrev pub spelling_level : open_datum.Datum-F (List ℕ) (List ℕ) → List ℕ
spelling_level open_datum.Null = []
spelling_level (open_datum.Boolean value) = (if value then 1 else 0) ∷ []
spelling_level (open_datum.Int value) = signed_groups value
spelling_level (open_datum.Long value) = signed_groups value
spelling_level (open_datum.Bytes bytes) = counted bytes
spelling_level (open_datum.Text bytes) = counted bytes
spelling_level (open_datum.Record values) = concat values
spelling_level (open_datum.Enum index) = natural index
spelling_level (open_datum.Array items) = block items
spelling_level (open_datum.Map pairs) = block pairs
spelling_level (open_datum.Union branch value) = natural branch ++ value
spelling_level (open_datum.Fixed bytes) = bytes

abbrev pub pair_level : open_datum.MapPair-F (List ℕ) (List ℕ) → List ℕ
pair_level pair = counted pair.key ++ pair.value

abbrev pub spelling : Datum → List ℕ
spelling = fold-Datum (List ℕ) (List ℕ) spelling_level pair_level

abbrev pub pair_spelling : MapPair → List ℕ
pair_spelling = fold-MapPair (List ℕ) (List ℕ) spelling_level pair_level

-- ---- datums of a schema

abbrev pub IsSignedOf : ℕ → ℤ → Type 0
IsSignedOf bits (pos n) = n < 2 ^ bits
IsSignedOf bits (negsuc n) = n < 2 ^ bits

unfoldable mutual
  -- the datum is one of this shape
  pub Fits : Shape → Datum → Type 0
  Fits null_shape d = d ≡ datum.Null
  Fits boolean_shape d = (value : Bool) × (d ≡ datum.Boolean value)
  Fits int_shape d = (value : ℤ) × IsSignedOf 31 value × (d ≡ datum.Int value)
  Fits long_shape d = (value : ℤ) × IsSignedOf 63 value × (d ≡ datum.Long value)
  Fits bytes_shape d = (bytes : List ℕ) × (d ≡ datum.Bytes bytes)
  Fits text_shape d = (bytes : List ℕ) × IsUtf8 bytes × (d ≡ datum.Text bytes)
  Fits (record_shape fields) d = (values : List Datum) × FitsFields fields values × (d ≡ datum.Record values)
  Fits (enum_shape count) d = (index : ℕ) × (index < count) × (index < 2 ^ 32) × (d ≡ datum.Enum index)
  Fits (array_shape items) d = (values : List Datum) × AllByRecursion (Fits items) values × (d ≡ datum.Array values)
  Fits (map_shape values) d = (pairs : List MapPair) × AllByRecursion (λ pair. IsUtf8 pair.key × Fits values pair.value) pairs × (d ≡ datum.Map pairs)
  Fits (union_shape branches) d = (branch : ℕ) × (value : Datum) × (branch < 2 ^ 32) × FitsBranch branches branch value × (d ≡ datum.Union branch value)
  Fits (fixed_shape size) d = (bytes : List ℕ) × (length bytes ≡ size) × (d ≡ datum.Fixed bytes)

  -- a value for each field
  pub FitsFields : Shapes → List Datum → Type 0
  FitsFields no_shapes values = values ≡ []
  FitsFields (more_shapes s ss) values = (first : Datum) × (others : List Datum) × Fits s first × FitsFields ss others × (values ≡ first ∷ others)

  -- a value of the branch with this index
  pub FitsBranch : Shapes → ℕ → Datum → Type 0
  FitsBranch no_shapes index value = ⊥
  FitsBranch (more_shapes s ss) zero value = Fits s value
  FitsBranch (more_shapes s ss) (suc index) value = FitsBranch ss index value

-- ---- shapes whose datums can be told apart

abbrev mutual
  -- each datum of this shape takes a byte
  pub takes_bytes : Shape → Bool
  takes_bytes null_shape = false
  takes_bytes boolean_shape = true
  takes_bytes int_shape = true
  takes_bytes long_shape = true
  takes_bytes bytes_shape = true
  takes_bytes text_shape = true
  takes_bytes (record_shape fields) = some_takes_bytes fields
  takes_bytes (enum_shape count) = true
  takes_bytes (array_shape items) = true
  takes_bytes (map_shape values) = true
  takes_bytes (union_shape branches) = true
  takes_bytes (fixed_shape size) = nat_lt 0 size

  pub some_takes_bytes : Shapes → Bool
  some_takes_bytes no_shapes = false
  some_takes_bytes (more_shapes s ss) = takes_bytes s || some_takes_bytes ss

abbrev mutual
  -- each item of each array inside takes a byte, so that a count of items never exceeds the bytes after it
  pub items_take_bytes : Shape → Bool
  items_take_bytes null_shape = true
  items_take_bytes boolean_shape = true
  items_take_bytes int_shape = true
  items_take_bytes long_shape = true
  items_take_bytes bytes_shape = true
  items_take_bytes text_shape = true
  items_take_bytes (record_shape fields) = all_items_take_bytes fields
  items_take_bytes (enum_shape count) = true
  items_take_bytes (array_shape items) = takes_bytes items && items_take_bytes items
  items_take_bytes (map_shape values) = items_take_bytes values
  items_take_bytes (union_shape branches) = all_items_take_bytes branches
  items_take_bytes (fixed_shape size) = true

  pub all_items_take_bytes : Shapes → Bool
  all_items_take_bytes no_shapes = true
  all_items_take_bytes (more_shapes s ss) = items_take_bytes s && all_items_take_bytes ss
