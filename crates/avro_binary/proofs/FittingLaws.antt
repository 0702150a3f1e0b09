-- What is read is of the schema.
use Rattle.std.proofs.Common.{◌≡◌, ℕ, zero, suc, ◌/◌, ◌%◌, ◌^◌, ◌<◌, ℤ, pos, negsuc, Bool, true, false, eqb, List, [], ◌∷◌, ◌++◌, sym, subst, inl, inr, arith}
use Rattle.std.specs.Prelude.{if◌then◌else◌}
use Rattle.std.specs.List.{AllByRecursion}
use Rattle.std.specs.Str.{IsUtf8}
use Rattle.avro_binary.specs.declared.datum.Datum.{Datum}
use Rattle.avro_binary.specs.declared.datum.MapPair.{MapPair}
use Rattle.avro_binary.specs.Number.{signed}
use Rattle.avro_binary.specs.Shape.{Shape, null_shape, boolean_shape, int_shape, long_shape, bytes_shape, text_shape, record_shape, enum_shape, array_shape, map_shape, union_shape, fixed_shape, Shapes, no_shapes, more_shapes, shape_count}
use Rattle.avro_binary.specs.Grammar.{ReadsIndex, ReadsText, ReadsEach, ReadsBlocks, ReadsAll, ReadsPair, Reads, ReadsFields, ReadsBranch, joined}
use Rattle.avro_binary.specs.Spelling.{IsSignedOf, Fits, FitsFields, FitsBranch}

signed_by : (b : Bool) (n bits : ℕ) → n / 2 < 2 ^ bits → IsSignedOf bits (if b then pos (n / 2) else negsuc (n / 2))
signed_by true n bits lt = lt
signed_by false n bits lt = lt

signed_fits : (n bits : ℕ) (z : ℤ) → n / 2 < 2 ^ bits → z ≡ signed n → IsSignedOf bits z
signed_fits n bits z lt e = subst (λ (w : ℤ). IsSignedOf bits w) (sym e) (signed_by (eqb (n % 2) 0) n bits lt)

text_fits : (bytes text rest : List ℕ) → ReadsText bytes text rest → IsUtf8 text
text_fits bytes text rest (t, reads, utf8, e) = subst IsUtf8 (sym e) utf8

index_fits : (limit : ℕ) (bytes : List ℕ) (index : ℕ) (rest : List ℕ) → ReadsIndex limit bytes index rest → (index < limit) × (index < 2 ^ 32)
index_fits limit bytes index rest (n, r, (even, lt), e) = (omega arith, omega arith)

all_append : {A : Type 0} (P : A → Type 0) (xs ys : List A) → AllByRecursion P xs → AllByRecursion P ys → AllByRecursion P (xs ++ ys)
all_append P [] ys p q = q
all_append P (x ∷ xs) ys p q = (p.0, all_append P xs ys p.1 q)

abbrev Fitting : {A : Type 0} → (A → Type 0) → (List ℕ → A → List ℕ → Type 0) → Type 0
Fitting {A = A} fits reads = (bytes : List ℕ) (x : A) (rest : List ℕ) → reads bytes x rest → fits x

each_fits : {A : Type 0} (fits : A → Type 0) (reads : List ℕ → A → List ℕ → Type 0) → Fitting fits reads
    → (xs : List A) (bytes rest : List ℕ) → ReadsEach reads xs bytes rest → AllByRecursion fits xs
each_fits fits reads law [] bytes rest h = tt
each_fits fits reads law (x ∷ xs) bytes rest (after, r, more) = (law bytes x after r, each_fits fits reads law xs after rest more)

blocks_fit : {A : Type 0} (fits : A → Type 0) (reads : List ℕ → A → List ℕ → Type 0) → Fitting fits reads
    → (blocks : List (List A)) (bytes rest : List ℕ) → ReadsBlocks reads blocks bytes rest → AllByRecursion fits (joined blocks)
blocks_fit fits reads law [] bytes rest h = tt
blocks_fit fits reads law (xs ∷ blocks) bytes rest (after, (items, some, count, each), more) = all_append fits xs (joined blocks) (each_fits fits reads law xs items after each) (blocks_fit fits reads law blocks after rest more)

all_fit : {A : Type 0} (fits : A → Type 0) (reads : List ℕ → A → List ℕ → Type 0) → Fitting fits reads
    → (bytes : List ℕ) (xs : List A) (rest : List ℕ) → ReadsAll reads bytes xs rest → AllByRecursion fits xs
all_fit {A = A} fits reads law bytes xs rest (blocks, r, e) = subst (λ (ys : List A). AllByRecursion fits ys) (sym e) (blocks_fit fits reads law blocks bytes rest r)

abbrev FitsPair : (Datum → Type 0) → MapPair → Type 0
FitsPair fits pair = IsUtf8 pair.key × fits pair.value

pair_fits : (fits : Datum → Type 0) (reads : List ℕ → Datum → List ℕ → Type 0) → Fitting fits reads → Fitting (FitsPair fits) (ReadsPair reads)
pair_fits fits reads law bytes pair rest (key, after, r, (value, s, e)) = subst (λ (p : MapPair). FitsPair fits p) (sym e) (text_fits bytes key after r, law after value rest s)

mutual
  unfolding Fits FitsFields FitsBranch Reads ReadsFields ReadsBranch

  pub read_fits : (s : Shape) → Fitting (Fits s) (Reads s)
  read_fits null_shape bytes d rest h = h.0
  read_fits boolean_shape bytes d rest (inl h) = (false, h.1)
  read_fits boolean_shape bytes d rest (inr h) = (true, h.1)
  read_fits int_shape bytes d rest (z, (n, r, lt, e), is) = let half : n / 2 < 2 ^ 31 = omega arith in (z, signed_fits n 31 z half e, is)
  read_fits long_shape bytes d rest (z, (n, r, e), is) = let fits : n < 2 ^ 64 = r.fits in let half : n / 2 < 2 ^ 63 = omega arith in (z, signed_fits n 63 z half e, is)
  read_fits bytes_shape bytes d rest (text, r, is) = (text, is)
  read_fits text_shape bytes d rest (text, r, is) = (text, text_fits bytes text rest r, is)
  read_fits (record_shape fields) bytes d rest (ds, r, is) = (ds, fields_fit fields bytes ds rest r, is)
  read_fits (enum_shape count) bytes d rest (index, r, is) = let i = index_fits count bytes index rest r in (index, i.0, i.1, is)
  read_fits (array_shape items) bytes d rest (ds, r, is) = (ds, all_fit (Fits items) (Reads items) (read_fits items) bytes ds rest r, is)
  read_fits (map_shape values) bytes d rest (ps, r, is) = (ps, all_fit (FitsPair (Fits values)) (ReadsPair (Reads values)) (pair_fits (Fits values) (Reads values) (read_fits values)) bytes ps rest r, is)
  read_fits (union_shape branches) bytes d rest (branch, after, r, (value, s, is)) = (branch, value, (index_fits (shape_count branches) bytes branch after r).1, branch_fits branches branch after value rest s, is)
  read_fits (fixed_shape size) bytes d rest (text, r, is) = (text, r.0, is)

  fields_fit : (ss : Shapes) → Fitting (FitsFields ss) (ReadsFields ss)
  fields_fit no_shapes bytes ds rest h = h.0
  fields_fit (more_shapes s ss) bytes ds rest (d, after, r, (others, more, is)) = (d, others, read_fits s bytes d after r, fields_fit ss after others rest more, is)

  branch_fits : (ss : Shapes) (index : ℕ) → Fitting (FitsBranch ss index) (ReadsBranch ss index)
  branch_fits no_shapes index bytes d rest h = absurd h
  branch_fits (more_shapes s ss) zero bytes d rest h = read_fits s bytes d rest h
  branch_fits (more_shapes s ss) (suc index) bytes d rest h = branch_fits ss index bytes d rest h
