-- The grammar of a datum (Avro 1.11.1, 'Binary Encoding'): which bytes spell which datum, whatever follows, and which
-- fault the bytes show first. It is stated on the whole text and the rest after the datum, with no place that moves.
use Rattle.std.specs.Prelude.{◌≡◌, ◌⊎◌, ℕ, zero, suc, min, ◌+◌, ◌*◌, ◌/◌, ◌%◌, ◌^◌, ◌<◌, ◌≤◌, ℤ, true, false, List, [], ◌∷◌, ◌++◌, length}
use Rattle.std.specs.Str.{IsUtf8}
use Rattle.avro_binary.specs.declared.fault.FaultKind.TheVariants.{Long, Branch, Text, Size}
use Rattle.avro_binary.specs.declared.fault.Spot.{Spot}
use Rattle.avro_binary.specs.declared.datum.Datum.{Datum}
use Rattle.avro_binary.specs.declared.datum.Datum.TheVariants as datum
use Rattle.avro_binary.specs.declared.datum.MapPair.{MapPair}
use Rattle.avro_binary.specs.Answer.{ended, spot}
use Rattle.avro_binary.specs.Number.{signed, count_of}
use Rattle.avro_binary.specs.Shape.{Shape, null_shape, boolean_shape, int_shape, long_shape, bytes_shape, text_shape, record_shape, enum_shape, array_shape, map_shape, union_shape, fixed_shape, Shapes, no_shapes, more_shapes, shape_count}

-- ---- one part after another

-- a first part, and then a second one from where the first ends
abbrev pub Then : {A B : Type 0} → (A → List ℕ → Type 0) → (A → List ℕ → B → List ℕ → Type 0) → B → List ℕ → Type 0
Then {A = A} first second y rest = (x : A) × (after : List ℕ) × first x after × second x after y rest

-- the first part fails, or it has a reading and the second part fails
abbrev pub FailsThen : {A : Type 0} → (Spot → Type 0) → (A → List ℕ → Type 0) → (A → List ℕ → Spot → Type 0) → Spot → Type 0
FailsThen {A = A} fails first second f = fails f ⊎ ((x : A) × (after : List ℕ) × first x after × second x after f)

-- a reading that keeps a rule, as what it stands for
abbrev pub Where : {A B : Type 0} → (A → List ℕ → Type 0) → (A → List ℕ → Type 0) → (A → B) → B → List ℕ → Type 0
Where {A = A} reads rule value y rest = (x : A) × reads x rest × rule x rest × (y ≡ value x)

-- no reading, or one that breaks the rule, which is the fault e
abbrev pub FailsWhere : {A : Type 0} → (Spot → Type 0) → (A → List ℕ → Type 0) → (A → List ℕ → Type 0) → Spot → Spot → Type 0
FailsWhere {A = A} fails reads breaks e f = fails f ⊎ ((x : A) × (rest : List ℕ) × reads x rest × breaks x rest × (f ≡ e))

-- what was read, as what it stands for
abbrev pub As : {A B : Type 0} → (A → B) → (A → List ℕ → Type 0) → B → List ℕ → Type 0
As {A = A} value reads y rest = (x : A) × reads x rest × (y ≡ value x)

-- ---- numbers

-- A byte below 128 is the last, and stands for itself. One from 128 on has the low seven bits.
abbrev pub IsNumber : List ℕ → ℕ → Type 0
IsNumber [] n = ⊥
IsNumber (b ∷ []) n = (b < 128) × (n ≡ b)
IsNumber (b ∷ c ∷ bs) n = (128 ≤ b) × ((high : ℕ) × (n ≡ b % 128 + 128 * high) × IsNumber (c ∷ bs) high)

-- each byte says that another follows
abbrev pub GoOn : List ℕ → Type 0
GoOn [] = Unit {0}
GoOn (b ∷ bs) = (128 ≤ b) × GoOn bs

-- a number of at most `most` bytes, below 2 ^ 64; a longer spelling than is needed is read
pub record ReadsGroups (most : ℕ) (bytes : List ℕ) (n : ℕ) (rest : List ℕ) : Type 0 where
  pub spelling : List ℕ
  pub parts : bytes ≡ spelling ++ rest
  pub few : length spelling ≤ most
  pub is : IsNumber spelling n
  pub fits : n < 2 ^ 64

-- the bytes end in the number
pub record EndsIn (most : ℕ) (bytes : List ℕ) : Type 0 where
  pub go_on : GoOn bytes
  pub few : length bytes < most

-- the number goes on past `most` bytes
pub record GoesPast (most : ℕ) (bytes : List ℕ) : Type 0 where
  pub front : List ℕ
  pub rest : List ℕ
  pub parts : bytes ≡ front ++ rest
  pub go_on : GoOn front
  pub long : length front ≡ most

-- the number is too wide
pub record IsWide (most : ℕ) (bytes : List ℕ) : Type 0 where
  pub spelling : List ℕ
  pub rest : List ℕ
  pub number : ℕ
  pub parts : bytes ≡ spelling ++ rest
  pub few : length spelling ≤ most
  pub is : IsNumber spelling number
  pub wide : 2 ^ 64 ≤ number

-- a fault of a number that begins at `whole`
abbrev pub FailsGroups : ℕ → List ℕ → List ℕ → Spot → Type 0
FailsGroups most whole bytes f = (EndsIn most bytes × (f ≡ ended)) ⊎ ((GoesPast most bytes ⊎ IsWide most bytes) × (f ≡ spot Long whole))

abbrev pub ReadsNumber : List ℕ → ℕ → List ℕ → Type 0
ReadsNumber bytes = ReadsGroups 10 bytes

abbrev pub FailsNumber : List ℕ → Spot → Type 0
FailsNumber bytes = FailsGroups 10 bytes bytes

abbrev pub ReadsInt : List ℕ → ℤ → List ℕ → Type 0
ReadsInt bytes = Where (ReadsNumber bytes) (λ n rest. n < 2 ^ 32) signed

abbrev pub FailsInt : List ℕ → Spot → Type 0
FailsInt bytes = FailsWhere (FailsNumber bytes) (ReadsNumber bytes) (λ n rest. 2 ^ 32 ≤ n) (spot Long bytes)

abbrev pub ReadsLong : List ℕ → ℤ → List ℕ → Type 0
ReadsLong bytes = As signed (ReadsNumber bytes)

-- a number that stands for one that isn't negative is even
abbrev pub ReadsLength : List ℕ → ℕ → List ℕ → Type 0
ReadsLength bytes = Where (ReadsNumber bytes) (λ n rest. n % 2 ≡ 0) (λ n. n / 2)

abbrev pub FailsLength : List ℕ → Spot → Type 0
FailsLength bytes = FailsWhere (FailsNumber bytes) (ReadsNumber bytes) (λ n rest. n % 2 ≡ 1) (spot Size bytes)

-- the number of an index below the limit
abbrev pub IsIndex : ℕ → ℕ → Type 0
IsIndex limit n = (n % 2 ≡ 0) × (n / 2 < min limit (2 ^ 32))

abbrev pub ReadsIndex : ℕ → List ℕ → ℕ → List ℕ → Type 0
ReadsIndex limit bytes = Where (ReadsNumber bytes) (λ n rest. IsIndex limit n) (λ n. n / 2)

abbrev pub FailsIndex : ℕ → List ℕ → Spot → Type 0
FailsIndex limit bytes = FailsWhere (FailsNumber bytes) (ReadsNumber bytes) (λ n rest. ¬ (IsIndex limit n)) (spot Branch bytes)

-- ---- bytes and text

abbrev pub ReadsFront : ℕ → List ℕ → List ℕ → List ℕ → Type 0
ReadsFront n bytes text rest = (length text ≡ n) × (bytes ≡ text ++ rest)

abbrev pub FailsFront : ℕ → List ℕ → Spot → Type 0
FailsFront n bytes f = (length bytes < n) × (f ≡ ended)

abbrev pub ReadsBytes : List ℕ → List ℕ → List ℕ → Type 0
ReadsBytes bytes = Then (ReadsLength bytes) ReadsFront

abbrev pub FailsBytes : List ℕ → Spot → Type 0
FailsBytes bytes = FailsThen (FailsLength bytes) (ReadsLength bytes) FailsFront

abbrev pub ReadsText : List ℕ → List ℕ → List ℕ → Type 0
ReadsText bytes = Where (ReadsBytes bytes) (λ text rest. IsUtf8 text) (λ text. text)

abbrev pub FailsText : List ℕ → Spot → Type 0
FailsText bytes = FailsWhere (FailsBytes bytes) (ReadsBytes bytes) (λ text rest. ¬ (IsUtf8 text)) (spot Text bytes)

-- ---- blocks

-- the number of a count, at most as many items as bytes are left
abbrev pub ReadsCounted : List ℕ → ℕ → List ℕ → Type 0
ReadsCounted bytes = Where (ReadsNumber bytes) (λ n rest. count_of n ≤ length rest) (λ n. n)

abbrev pub FailsCounted : List ℕ → Spot → Type 0
FailsCounted bytes = FailsWhere (FailsNumber bytes) (ReadsNumber bytes) (λ n rest. length rest < count_of n) (spot Size bytes)

-- nothing more after a count, or the block's size in bytes after a negative one
abbrev pub ReadsSize : ℕ → List ℕ → ℕ → List ℕ → Type 0
ReadsSize n bytes count rest = ((n % 2 ≡ 0) × (count ≡ n / 2) × (bytes ≡ rest)) ⊎ ((n % 2 ≡ 1) × (count ≡ n / 2 + 1) × ((size : ℕ) × ReadsLength bytes size rest))

abbrev pub FailsSize : ℕ → List ℕ → Spot → Type 0
FailsSize n bytes f = (n % 2 ≡ 1) × FailsLength bytes f

abbrev pub ReadsCount : List ℕ → ℕ → List ℕ → Type 0
ReadsCount bytes = Then (ReadsCounted bytes) ReadsSize

abbrev pub FailsCount : List ℕ → Spot → Type 0
FailsCount bytes = FailsThen (FailsCounted bytes) (ReadsCounted bytes) FailsSize

-- the items one after another
abbrev pub ReadsEach : {A : Type 0} → (List ℕ → A → List ℕ → Type 0) → List A → List ℕ → List ℕ → Type 0
ReadsEach reads [] bytes rest = bytes ≡ rest
ReadsEach reads (x ∷ xs) bytes rest = (after : List ℕ) × reads bytes x after × ReadsEach reads xs after rest

-- the next part fails after these items
abbrev pub FailsAfter : {A : Type 0} → (List ℕ → A → List ℕ → Type 0) → (List ℕ → Spot → Type 0) → List A → List ℕ → Spot → Type 0
FailsAfter reads fails [] bytes f = fails bytes f
FailsAfter reads fails (x ∷ xs) bytes f = (after : List ℕ) × reads bytes x after × FailsAfter reads fails xs after f

abbrev pub ReadsItems : {A : Type 0} → (List ℕ → A → List ℕ → Type 0) → ℕ → List ℕ → List A → List ℕ → Type 0
ReadsItems reads count bytes xs rest = (length xs ≡ count) × ReadsEach reads xs bytes rest

abbrev pub FailsItems : {A : Type 0} → (List ℕ → A → List ℕ → Type 0) → (List ℕ → Spot → Type 0) → ℕ → List ℕ → Spot → Type 0
FailsItems {A = A} reads fails count bytes f = (xs : List A) × (length xs < count) × FailsAfter reads fails xs bytes f

-- a block with items
abbrev pub ReadsBlock : {A : Type 0} → (List ℕ → A → List ℕ → Type 0) → List ℕ → List A → List ℕ → Type 0
ReadsBlock reads bytes xs rest = (items : List ℕ) × (0 < length xs) × ReadsCount bytes (length xs) items × ReadsEach reads xs items rest

abbrev pub FailsBlock : {A : Type 0} → (List ℕ → A → List ℕ → Type 0) → (List ℕ → Spot → Type 0) → List ℕ → Spot → Type 0
FailsBlock reads fails bytes f = FailsCount bytes f ⊎ ((count : ℕ) × (items : List ℕ) × (0 < count) × ReadsCount bytes count items × FailsItems reads fails count items f)

-- blocks, and a count of 0 after the last
abbrev pub ReadsBlocks : {A : Type 0} → (List ℕ → A → List ℕ → Type 0) → List (List A) → List ℕ → List ℕ → Type 0
ReadsBlocks reads [] bytes rest = ReadsCount bytes 0 rest
ReadsBlocks reads (xs ∷ blocks) bytes rest = (after : List ℕ) × ReadsBlock reads bytes xs after × ReadsBlocks reads blocks after rest

abbrev pub joined : {A : Type 0} → List (List A) → List A
joined [] = []
joined (xs ∷ blocks) = xs ++ joined blocks

abbrev pub ReadsAll : {A : Type 0} → (List ℕ → A → List ℕ → Type 0) → List ℕ → List A → List ℕ → Type 0
ReadsAll {A = A} reads bytes xs rest = (blocks : List (List A)) × ReadsBlocks reads blocks bytes rest × (xs ≡ joined blocks)

abbrev pub FailsAll : {A : Type 0} → (List ℕ → A → List ℕ → Type 0) → (List ℕ → Spot → Type 0) → List ℕ → Spot → Type 0
FailsAll {A = A} reads fails bytes f = (blocks : List (List A)) × FailsAfter (ReadsBlock reads) (FailsBlock reads fails) blocks bytes f

-- ---- datums

abbrev pub ReadsBoolean : List ℕ → Datum → List ℕ → Type 0
ReadsBoolean bytes d rest = ((bytes ≡ 0 ∷ rest) × (d ≡ datum.Boolean false)) ⊎ ((bytes ≡ 1 ∷ rest) × (d ≡ datum.Boolean true))

abbrev pub FailsBoolean : List ℕ → Spot → Type 0
FailsBoolean bytes f = ((bytes ≡ []) × (f ≡ ended)) ⊎ ((b : ℕ) × (rest : List ℕ) × (bytes ≡ b ∷ rest) × (2 ≤ b) × (f ≡ spot Branch bytes))

-- a key and a value
abbrev pub ReadsPair : (List ℕ → Datum → List ℕ → Type 0) → List ℕ → MapPair → List ℕ → Type 0
ReadsPair reads bytes = Then (ReadsText bytes) (λ key after. As (λ value. record { key = key; value = value }) (reads after))

abbrev pub FailsPair : (List ℕ → Spot → Type 0) → List ℕ → Spot → Type 0
FailsPair fails bytes = FailsThen (FailsText bytes) (ReadsText bytes) (λ key after. fails after)

unfoldable mutual
  pub Reads : Shape → List ℕ → Datum → List ℕ → Type 0
  Reads null_shape bytes d rest = (d ≡ datum.Null) × (bytes ≡ rest)
  Reads boolean_shape bytes d rest = ReadsBoolean bytes d rest
  Reads int_shape bytes d rest = As datum.Int (ReadsInt bytes) d rest
  Reads long_shape bytes d rest = As datum.Long (ReadsLong bytes) d rest
  Reads bytes_shape bytes d rest = As datum.Bytes (ReadsBytes bytes) d rest
  Reads text_shape bytes d rest = As datum.Text (ReadsText bytes) d rest
  Reads (record_shape fields) bytes d rest = As datum.Record (ReadsFields fields bytes) d rest
  Reads (enum_shape count) bytes d rest = As datum.Enum (ReadsIndex count bytes) d rest
  Reads (array_shape items) bytes d rest = As datum.Array (ReadsAll (Reads items) bytes) d rest
  Reads (map_shape values) bytes d rest = As datum.Map (ReadsAll (ReadsPair (Reads values)) bytes) d rest
  Reads (union_shape branches) bytes d rest = Then (ReadsIndex (shape_count branches) bytes) (λ branch after. As (datum.Union branch) (ReadsBranch branches branch after)) d rest
  Reads (fixed_shape size) bytes d rest = As datum.Fixed (ReadsFront size bytes) d rest

  pub ReadsFields : Shapes → List ℕ → List Datum → List ℕ → Type 0
  ReadsFields no_shapes bytes ds rest = (ds ≡ []) × (bytes ≡ rest)
  ReadsFields (more_shapes s ss) bytes ds rest = Then (Reads s bytes) (λ d after. As (λ others. d ∷ others) (ReadsFields ss after)) ds rest

  pub ReadsBranch : Shapes → ℕ → List ℕ → Datum → List ℕ → Type 0
  ReadsBranch no_shapes index bytes d rest = ⊥
  ReadsBranch (more_shapes s ss) zero bytes d rest = Reads s bytes d rest
  ReadsBranch (more_shapes s ss) (suc index) bytes d rest = ReadsBranch ss index bytes d rest

-- The first fault, by the same cases: a part fails, and the parts before it have readings one after another.
unfoldable mutual
  pub Fails : Shape → List ℕ → Spot → Type 0
  Fails null_shape bytes f = ⊥
  Fails boolean_shape bytes f = FailsBoolean bytes f
  Fails int_shape bytes f = FailsInt bytes f
  Fails long_shape bytes f = FailsNumber bytes f
  Fails bytes_shape bytes f = FailsBytes bytes f
  Fails text_shape bytes f = FailsText bytes f
  Fails (record_shape fields) bytes f = FailsFields fields bytes f
  Fails (enum_shape count) bytes f = FailsIndex count bytes f
  Fails (array_shape items) bytes f = FailsAll (Reads items) (Fails items) bytes f
  Fails (map_shape values) bytes f = FailsAll (ReadsPair (Reads values)) (FailsPair (Fails values)) bytes f
  Fails (union_shape branches) bytes f = FailsThen (FailsIndex (shape_count branches) bytes) (ReadsIndex (shape_count branches) bytes) (FailsBranch branches) f
  Fails (fixed_shape size) bytes f = FailsFront size bytes f

  pub FailsFields : Shapes → List ℕ → Spot → Type 0
  FailsFields no_shapes bytes f = ⊥
  FailsFields (more_shapes s ss) bytes f = FailsThen (Fails s bytes) (Reads s bytes) (λ d after. FailsFields ss after) f

  pub FailsBranch : Shapes → ℕ → List ℕ → Spot → Type 0
  FailsBranch no_shapes index bytes f = ⊥
  FailsBranch (more_shapes s ss) zero bytes f = Fails s bytes f
  FailsBranch (more_shapes s ss) (suc index) bytes f = FailsBranch ss index bytes f
