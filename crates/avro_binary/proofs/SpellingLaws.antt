-- What is written is read again.
use Rattle.std.proofs.Common.{◌≡◌, ◌⊎◌, ℕ, zero, suc, min, ◌+◌, ◌*◌, ◌/◌, ◌%◌, ◌^◌, ◌<◌, ◌≤◌, ℤ, pos, negsuc, Bool, true, false, ◌&&◌}
use Rattle.std.proofs.Common.{◌||◌, List, [], ◌∷◌, ◌++◌, map, length, Ok, refl, sym, ap, subst, ◌∙◌, append_assoc, inl, inr, arith}
use Rattle.std.specs.List.{concat, AllByRecursion}
use Rattle.std.specs.Str.{IsUtf8}
use Rattle.std.proofs.lemmas.Bool.{ltb-true}
use Rattle.std.proofs.lemmas.List.{append-nil, length-append, length-map}
use Rattle.avro_binary.specs.declared.datum.Datum.{Datum}
use Rattle.avro_binary.specs.declared.datum.Datum.TheVariants as datum
use Rattle.avro_binary.specs.declared.datum.MapPair.{MapPair}
use Rattle.avro_binary.specs.Number.{signed, count_of}
use Rattle.avro_binary.specs.Shape.{Shape, null_shape, boolean_shape, int_shape, long_shape, bytes_shape, text_shape, record_shape, enum_shape, array_shape, map_shape, union_shape, fixed_shape, Shapes, no_shapes, more_shapes, shape_count}
use Rattle.avro_binary.specs.Reading.{datum_at}
use Rattle.avro_binary.specs.Grammar.{ReadsNumber, ReadsInt, ReadsLong, ReadsLength, ReadsIndex, ReadsBytes, ReadsText, ReadsCount, ReadsEach, ReadsAll, ReadsPair, Reads, ReadsFields, ReadsBranch}
use Rattle.avro_binary.specs.Spelling.{groups_up_to, groups_of, zigzag, signed_groups, natural, counted, block, spelling, pair_spelling, IsSignedOf, Fits, FitsFields, FitsBranch, takes_bytes, some_takes_bytes, items_take_bytes, all_items_take_bytes}
use Rattle.avro_binary.proofs.DatumLaws.{datum_law}
use Rattle.avro_binary.proofs.ShortestLaws.{groups_are, groups_few, groups_some, fits_limit}
use Rattle.std.specs.Prelude.{if◌then◌else◌}
use Rattle.avro_binary.proofs.Spelled.{spells_null, spells_boolean, spells_int, spells_long, spells_bytes, spells_text, spells_record, spells_enum, spells_array, spells_map, spells_union, spells_fixed, spells_pair}

-- ---- numbers

pub number_again : (n : ℕ) (rest : List ℕ) → n < 2 ^ 64 → ReadsNumber (groups_of n ++ rest) n rest
number_again n rest lt = record { spelling = groups_of n; parts = refl; few = groups_few 9 n; is = groups_are 9 n (fits_limit n lt); fits = lt }

pub half : (n : ℕ) → 2 * n / 2 ≡ n
half n = omega arith

pub even : (n : ℕ) → (2 * n) % 2 ≡ 0
even n = omega arith

signed_again : (z : ℤ) → z ≡ signed (zigzag z)
signed_again (pos n) = rw (even n, half n) refl
signed_again (negsuc n) = let odd : (2 * n + 1) % 2 ≡ 1 = omega arith in let same : (2 * n + 1) / 2 ≡ n = omega arith in rw (odd, same) refl

zigzag_fits : (z : ℤ) → IsSignedOf 63 z → zigzag z < 2 ^ 64
zigzag_fits (pos n) lt = omega arith
zigzag_fits (negsuc n) lt = omega arith

zigzag_narrow : (z : ℤ) → IsSignedOf 31 z → zigzag z < 2 ^ 32
zigzag_narrow (pos n) lt = omega arith
zigzag_narrow (negsuc n) lt = omega arith

int_again : (z : ℤ) (rest : List ℕ) → IsSignedOf 31 z → ReadsInt (signed_groups z ++ rest) z rest
int_again z rest lt = let narrow : zigzag z < 2 ^ 32 = zigzag_narrow z lt in (zigzag z, number_again (zigzag z) rest (omega arith), narrow, signed_again z)

long_again : (z : ℤ) (rest : List ℕ) → IsSignedOf 63 z → ReadsLong (signed_groups z ++ rest) z rest
long_again z rest lt = (zigzag z, number_again (zigzag z) rest (zigzag_fits z lt), signed_again z)

pub length_again : (n : ℕ) (rest : List ℕ) → n < 2 ^ 63 → ReadsLength (natural n ++ rest) n rest
length_again n rest lt = (2 * n, number_again (2 * n) rest (omega arith), even n, sym (half n))

index_again : (limit n : ℕ) (rest : List ℕ) → n < limit → n < 2 ^ 32 → ReadsIndex limit (natural n ++ rest) n rest
index_again limit n rest lt small =
    let is : 2 * n / 2 < min limit (2 ^ 32) = omega (arith, half n) in
    (2 * n, number_again (2 * n) rest (omega arith), (even n, is), sym (half n))

-- a count of no more items than bytes follow
pub count_again : (n : ℕ) (rest : List ℕ) → n < 2 ^ 63 → n ≤ length rest → ReadsCount (natural n ++ rest) n rest
count_again n rest lt le =
    let counts : count_of (2 * n) ≤ length rest = omega (arith, half n, even n) in
    (2 * n, rest, (2 * n, number_again (2 * n) rest (omega arith), counts, refl), inl (even n, sym (half n), refl))

-- ---- bytes and texts

counted_parts : (bytes rest : List ℕ) → counted bytes ++ rest ≡ natural (length bytes) ++ (bytes ++ rest)
counted_parts bytes rest = append_assoc (natural (length bytes)) bytes rest

counted_longer : (bytes : List ℕ) → length bytes ≤ length (counted bytes)
counted_longer bytes = omega (arith, length-append (natural (length bytes)) bytes)

pub bytes_again : (bytes rest : List ℕ) → length (counted bytes) < 2 ^ 63 → ReadsBytes (counted bytes ++ rest) bytes rest
bytes_again bytes rest short =
    let lt : length bytes < 2 ^ 63 = omega (arith, counted_longer bytes) in
    subst (λ (t : List ℕ). ReadsBytes t bytes rest) (sym (counted_parts bytes rest)) (length bytes, bytes ++ rest, length_again (length bytes) (bytes ++ rest) lt, (refl, refl))

pub text_again : (bytes rest : List ℕ) → IsUtf8 bytes → length (counted bytes) < 2 ^ 63 → ReadsText (counted bytes ++ rest) bytes rest
text_again bytes rest utf8 short = (bytes, bytes_again bytes rest short, utf8, refl)

-- ---- items

abbrev pub ReadAgain : {A : Type 0} → (A → Type 0) → (List ℕ → A → List ℕ → Type 0) → (A → List ℕ) → Type 0
ReadAgain {A = A} fits reads spell = (x : A) (rest : List ℕ) → fits x → length (spell x) < 2 ^ 63 → reads (spell x ++ rest) x rest

pub each_again : {A : Type 0} (fits : A → Type 0) (reads : List ℕ → A → List ℕ → Type 0) (spell : A → List ℕ) → ReadAgain fits reads spell
    → (xs : List A) (rest : List ℕ) → AllByRecursion fits xs → length (concat (map spell xs)) < 2 ^ 63 → ReadsEach reads xs (concat (map spell xs) ++ rest) rest
each_again fits reads spell again [] rest all short = refl
each_again fits reads spell again (x ∷ xs) rest all short =
    let others : List ℕ = concat (map spell xs) in
    let len : length (spell x ++ others) ≡ length (spell x) + length others = length-append (spell x) others in
    let first : length (spell x) < 2 ^ 63 = omega arith in
    let less : length others < 2 ^ 63 = omega arith in (
      others ++ rest,
      subst (λ (t : List ℕ). reads t x (others ++ rest)) (sym (append_assoc (spell x) others rest)) (again x (others ++ rest) all.0 first),
      each_again fits reads spell again xs rest all.1 less,
    )

pub items_count : {A : Type 0} (fits : A → Type 0) (spell : A → List ℕ) → ((x : A) → fits x → 0 < length (spell x))
    → (xs : List A) → AllByRecursion fits xs → length xs ≤ length (concat (map spell xs))
items_count fits spell takes [] all = omega arith
items_count fits spell takes (x ∷ xs) all =
    let one : 0 < length (spell x) = takes x all.0 in
    let more : length xs ≤ length (concat (map spell xs)) = items_count fits spell takes xs all.1 in
    omega (arith, length-append (spell x) (concat (map spell xs)))

no_more : (rest : List ℕ) → ReadsCount (0 ∷ rest) 0 rest
unfolding groups_up_to
no_more rest = count_again 0 rest (omega arith) (omega arith)

block_parts : (number items rest : List ℕ) → ((number ++ items) ++ 0 ∷ []) ++ rest ≡ number ++ (items ++ 0 ∷ rest)
block_parts number items rest = simp append_assoc

pub block_again : {A : Type 0} (fits : A → Type 0) (reads : List ℕ → A → List ℕ → Type 0) (spell : A → List ℕ)
    → ReadAgain fits reads spell → ((x : A) → fits x → 0 < length (spell x))
    → (xs : List A) (rest : List ℕ) → AllByRecursion fits xs → length (block (map spell xs)) < 2 ^ 63 → ReadsAll reads (block (map spell xs) ++ rest) xs rest
block_again fits reads spell again takes [] rest all short = ([], no_more rest, refl)
block_again {A = A} fits reads spell again takes (x ∷ xs) rest all short =
    let items : List ℕ = concat (map spell (x ∷ xs)) in
    let number : List ℕ = natural (length (map spell (x ∷ xs))) in
    let same : length (map spell (x ∷ xs)) ≡ length (x ∷ xs) = length-map (x ∷ xs) spell in
    let len : length ((number ++ items) ++ 0 ∷ []) ≡ length (number ++ items) + 1 = length-append (number ++ items) (0 ∷ []) in
    let front : length (number ++ items) ≡ length number + length items = length-append number items in
    let few : length items < 2 ^ 63 = omega arith in
    let count : length (x ∷ xs) ≤ length items = items_count fits spell takes (x ∷ xs) all in
    let left : length (items ++ 0 ∷ rest) ≡ length items + length (0 ∷ rest) = length-append items (0 ∷ rest) in
    let counts : ReadsCount (number ++ (items ++ 0 ∷ rest)) (length (x ∷ xs)) (items ++ 0 ∷ rest) =
    subst (λ (n : ℕ). ReadsCount (natural n ++ (items ++ 0 ∷ rest)) (length (x ∷ xs)) (items ++ 0 ∷ rest)) (sym same) (count_again (length (x ∷ xs)) (items ++ 0 ∷ rest) (omega arith) (omega arith)) in
    subst (λ (t : List ℕ). ReadsAll reads t (x ∷ xs) rest) (sym (block_parts number items rest))
    ((x ∷ xs) ∷ [], (0 ∷ rest, (items ++ 0 ∷ rest, omega arith, counts, each_again fits reads spell again (x ∷ xs) (0 ∷ rest) all few), no_more rest), sym (append-nil (x ∷ xs)))

-- ---- datums take bytes

natural_some : (n : ℕ) → 0 < length (natural n)
natural_some n = groups_some 9 (2 * n)

pub after_natural : (n : ℕ) (rest : List ℕ) → 0 < length (natural n ++ rest)
after_natural n rest = let some : 0 < length (natural n) = natural_some n in omega (arith, length-append (natural n) rest)

block_some : (xs : List (List ℕ)) → 0 < length (block xs)
block_some [] = omega arith
block_some (x ∷ xs) = omega (arith, length-append (natural (length (x ∷ xs)) ++ concat (x ∷ xs)) (0 ∷ []))

one_or_other : (a b : Bool) → (a || b) ≡ true → (a ≡ true) ⊎ (b ≡ true)
one_or_other true b e = inl refl
one_or_other false b e = inr e

pub both : (a b : Bool) → (a && b) ≡ true → (a ≡ true) × (b ≡ true)
both true b e = (refl, e)
both false b e = absurd cc

false_no_true : {P : Type 0} → false ≡ true → P
false_no_true e = absurd cc

spelled_some : (d : Datum) (t : List ℕ) → spelling d ≡ t → 0 < length t → 0 < length (spelling d)
spelled_some d t e some = subst (λ (u : List ℕ). 0 < length u) (sym e) some

mutual
  unfolding Fits FitsFields

  pub takes : (s : Shape) (d : Datum) → takes_bytes s ≡ true → Fits s d → 0 < length (spelling d)
  takes null_shape d is h = false_no_true is
  takes boolean_shape d is h = spelled_some d ((if h.0 then 1 else 0) ∷ []) (ap spelling h.1 ∙ spells_boolean h.0) (omega arith)
  takes int_shape d is h = spelled_some d (signed_groups h.0) (ap spelling h.2 ∙ spells_int h.0) (groups_some 9 (zigzag h.0))
  takes long_shape d is h = spelled_some d (signed_groups h.0) (ap spelling h.2 ∙ spells_long h.0) (groups_some 9 (zigzag h.0))
  takes bytes_shape d is h = spelled_some d (counted h.0) (ap spelling h.1 ∙ spells_bytes h.0) (after_natural (length h.0) h.0)
  takes text_shape d is h = spelled_some d (counted h.0) (ap spelling h.2 ∙ spells_text h.0) (after_natural (length h.0) h.0)
  takes (record_shape fields) d is h = spelled_some d (concat (map spelling h.0)) (ap spelling h.2 ∙ spells_record h.0) (fields_take fields h.0 is h.1)
  takes (enum_shape count) d is h = spelled_some d (natural h.0) (ap spelling h.3 ∙ spells_enum h.0) (natural_some h.0)
  takes (array_shape items) d is h = spelled_some d (block (map spelling h.0)) (ap spelling h.2 ∙ spells_array h.0) (block_some (map spelling h.0))
  takes (map_shape values) d is h = spelled_some d (block (map pair_spelling h.0)) (ap spelling h.2 ∙ spells_map h.0) (block_some (map pair_spelling h.0))
  takes (union_shape branches) d is h = spelled_some d (natural h.0 ++ spelling h.1) (ap spelling h.4 ∙ spells_union h.0 h.1) (after_natural h.0 (spelling h.1))
  takes (fixed_shape size) d is h = let some : 0 < size = ltb-true 0 size is in let len : length h.0 ≡ size = h.1 in spelled_some d h.0 (ap spelling h.2 ∙ spells_fixed h.0) (omega arith)

  fields_take : (ss : Shapes) (ds : List Datum) → some_takes_bytes ss ≡ true → FitsFields ss ds → 0 < length (concat (map spelling ds))
  fields_take no_shapes ds is h = false_no_true is
  fields_take (more_shapes s ss) ds is h =
      let len : length (concat (map spelling ds)) ≡ length (spelling h.0) + length (concat (map spelling h.1)) = ap (λ (ts : List Datum). length (concat (map spelling ts))) h.4 ∙ length-append (spelling h.0) (concat (map spelling h.1)) in
      elim (one_or_other (takes_bytes s) (some_takes_bytes ss) is) [
        | inl first ↦ (let some : 0 < length (spelling h.0) = takes s h.0 first h.2 in omega arith)
        | inr others ↦ (let some : 0 < length (concat (map spelling h.1)) = fields_take ss h.1 others h.3 in omega arith)
      ]

-- ---- datums are read again

pub pair_again : (values : Shape) → ReadAgain (Fits values) (Reads values) spelling
    → ReadAgain (λ (p : MapPair). IsUtf8 p.key × Fits values p.value) (ReadsPair (Reads values)) pair_spelling
pair_again values again p rest fit short =
    let parts : pair_spelling p ≡ counted p.key ++ spelling p.value = spells_pair p in
    let len : length (pair_spelling p) ≡ length (counted p.key) + length (spelling p.value) = ap length parts ∙ length-append (counted p.key) (spelling p.value) in
    let key : length (counted p.key) < 2 ^ 63 = omega arith in
    let value : length (spelling p.value) < 2 ^ 63 = omega arith in
    let whole : pair_spelling p ++ rest ≡ counted p.key ++ (spelling p.value ++ rest) = ap (λ (t : List ℕ). t ++ rest) parts ∙ append_assoc (counted p.key) (spelling p.value) rest in
    subst (λ (t : List ℕ). ReadsPair (Reads values) t p rest) (sym whole)
    (p.key, spelling p.value ++ rest, text_again p.key (spelling p.value ++ rest) fit.0 key, (p.value, again p.value rest fit.1 value, refl))

pair_some : (p : MapPair) → 0 < length (pair_spelling p)
pair_some p =
    let len : length (pair_spelling p) ≡ length (counted p.key) + length (spelling p.value) = ap length (spells_pair p) ∙ length-append (counted p.key) (spelling p.value) in
    let some : 0 < length (counted p.key) = after_natural (length p.key) p.key in
    omega arith

mutual
  unfolding FitsBranch

  branch_counts : (ss : Shapes) (index : ℕ) (d : Datum) → FitsBranch ss index d → index < shape_count ss
  branch_counts no_shapes index d h = absurd h
  branch_counts (more_shapes s ss) zero d h = omega arith
  branch_counts (more_shapes s ss) (suc index) d h = let lt : index < shape_count ss = branch_counts ss index d h in omega arith

boolean_again : (b : Bool) (rest : List ℕ) → Reads boolean_shape (((if b then 1 else 0) ∷ []) ++ rest) (datum.Boolean b) rest
unfolding Reads
boolean_again true rest = inr (refl, refl)
boolean_again false rest = inl (refl, refl)

-- a law of the spelling, as a law of the datum
spelled : (s : Shape) (d : Datum) (t rest : List ℕ) → spelling d ≡ t → Reads s (t ++ rest) d rest → Reads s (spelling d ++ rest) d rest
spelled s d t rest e reads = subst (λ (u : List ℕ). Reads s (u ++ rest) d rest) (sym e) reads

short_as : (d : Datum) (t : List ℕ) → spelling d ≡ t → length (spelling d) < 2 ^ 63 → length t < 2 ^ 63
short_as d t e short = subst (λ (u : List ℕ). length u < 2 ^ 63) e short

mutual
  unfolding Fits FitsFields FitsBranch Reads ReadsFields ReadsBranch

  pub datum_again : (s : Shape) → items_take_bytes s ≡ true → ReadAgain (Fits s) (Reads s) spelling
  datum_again null_shape room d rest h short = spelled null_shape d [] rest (ap spelling h ∙ spells_null) (h, refl)
  datum_again boolean_shape room d rest h short =
      spelled boolean_shape d ((if h.0 then 1 else 0) ∷ []) rest (ap spelling h.1 ∙ spells_boolean h.0) (subst (λ (x : Datum). Reads boolean_shape (((if h.0 then 1 else 0) ∷ []) ++ rest) x rest) (sym h.1) (boolean_again h.0 rest))
  datum_again int_shape room d rest h short = spelled int_shape d (signed_groups h.0) rest (ap spelling h.2 ∙ spells_int h.0) (h.0, int_again h.0 rest h.1, h.2)
  datum_again long_shape room d rest h short = spelled long_shape d (signed_groups h.0) rest (ap spelling h.2 ∙ spells_long h.0) (h.0, long_again h.0 rest h.1, h.2)
  datum_again bytes_shape room d rest h short =
      let e : spelling d ≡ counted h.0 = ap spelling h.1 ∙ spells_bytes h.0 in
      spelled bytes_shape d (counted h.0) rest e (h.0, bytes_again h.0 rest (short_as d (counted h.0) e short), h.1)
  datum_again text_shape room d rest h short =
      let e : spelling d ≡ counted h.0 = ap spelling h.2 ∙ spells_text h.0 in
      spelled text_shape d (counted h.0) rest e (h.0, text_again h.0 rest h.1 (short_as d (counted h.0) e short), h.2)
  datum_again (record_shape fields) room d rest h short =
      let e : spelling d ≡ concat (map spelling h.0) = ap spelling h.2 ∙ spells_record h.0 in
      spelled (record_shape fields) d (concat (map spelling h.0)) rest e (h.0, fields_again fields h.0 rest room h.1 (short_as d (concat (map spelling h.0)) e short), h.2)
  datum_again (enum_shape count) room d rest h short = spelled (enum_shape count) d (natural h.0) rest (ap spelling h.3 ∙ spells_enum h.0) (h.0, index_again count h.0 rest h.1 h.2, h.3)
  datum_again (array_shape items) room d rest h short =
      let e : spelling d ≡ block (map spelling h.0) = ap spelling h.2 ∙ spells_array h.0 in
      let rooms = both (takes_bytes items) (items_take_bytes items) room in
      spelled (array_shape items) d (block (map spelling h.0)) rest e (h.0, block_again (Fits items) (Reads items) spelling (datum_again items rooms.1) (λ x fit. takes items x rooms.0 fit) h.0 rest h.1 (short_as d (block (map spelling h.0)) e short), h.2)
  datum_again (map_shape values) room d rest h short =
      let e : spelling d ≡ block (map pair_spelling h.0) = ap spelling h.2 ∙ spells_map h.0 in
      spelled (map_shape values) d (block (map pair_spelling h.0)) rest e
      (h.0, block_again (λ (p : MapPair). IsUtf8 p.key × Fits values p.value) (ReadsPair (Reads values)) pair_spelling (pair_again values (datum_again values room)) (λ p fit. pair_some p) h.0 rest h.1 (short_as d (block (map pair_spelling h.0)) e short), h.2)
  datum_again (union_shape branches) room d rest h short =
      let t : List ℕ = natural h.0 ++ spelling h.1 in
      let e : spelling d ≡ t = ap spelling h.4 ∙ spells_union h.0 h.1 in
      let all : length t < 2 ^ 63 = short_as d t e short in
      let len : length t ≡ length (natural h.0) + length (spelling h.1) = length-append (natural h.0) (spelling h.1) in
      let less : length (spelling h.1) < 2 ^ 63 = omega arith in
      let whole : t ++ rest ≡ natural h.0 ++ (spelling h.1 ++ rest) = append_assoc (natural h.0) (spelling h.1) rest in
      spelled (union_shape branches) d t rest e (subst (λ (u : List ℕ). Reads (union_shape branches) u d rest) (sym whole)
      (h.0, spelling h.1 ++ rest, index_again (shape_count branches) h.0 (spelling h.1 ++ rest) (branch_counts branches h.0 h.1 h.3) h.2, (h.1, branch_again branches h.0 h.1 rest room h.3 less, h.4)))
  datum_again (fixed_shape size) room d rest h short = spelled (fixed_shape size) d h.0 rest (ap spelling h.2 ∙ spells_fixed h.0) (h.0, (h.1, refl), h.2)

  fields_again : (ss : Shapes) (ds : List Datum) (rest : List ℕ) → all_items_take_bytes ss ≡ true → FitsFields ss ds
      → length (concat (map spelling ds)) < 2 ^ 63 → ReadsFields ss (concat (map spelling ds) ++ rest) ds rest
  fields_again no_shapes ds rest room h short = (h, ap (λ (ts : List Datum). concat (map spelling ts) ++ rest) h)
  fields_again (more_shapes s ss) ds rest room h short =
      let others : List ℕ = concat (map spelling h.1) in
      let parts : concat (map spelling ds) ≡ spelling h.0 ++ others = ap (λ (ts : List Datum). concat (map spelling ts)) h.4 in
      let len : length (concat (map spelling ds)) ≡ length (spelling h.0) + length others = ap length parts ∙ length-append (spelling h.0) others in
      let first : length (spelling h.0) < 2 ^ 63 = omega arith in
      let less : length others < 2 ^ 63 = omega arith in
      let rooms = both (items_take_bytes s) (all_items_take_bytes ss) room in
      let whole : concat (map spelling ds) ++ rest ≡ spelling h.0 ++ (others ++ rest) = ap (λ (t : List ℕ). t ++ rest) parts ∙ append_assoc (spelling h.0) others rest in
      subst (λ (t : List ℕ). ReadsFields (more_shapes s ss) t ds rest) (sym whole)
      (h.0, others ++ rest, datum_again s rooms.0 h.0 (others ++ rest) h.2 first, (h.1, fields_again ss h.1 rest rooms.1 h.3 less, h.4))

  branch_again : (ss : Shapes) (index : ℕ) (d : Datum) (rest : List ℕ) → all_items_take_bytes ss ≡ true → FitsBranch ss index d
      → length (spelling d) < 2 ^ 63 → ReadsBranch ss index (spelling d ++ rest) d rest
  branch_again no_shapes index d rest room h short = absurd h
  branch_again (more_shapes s ss) zero d rest room h short = datum_again s (both (items_take_bytes s) (all_items_take_bytes ss) room).0 d rest h short
  branch_again (more_shapes s ss) (suc index) d rest room h short = branch_again ss index d rest (both (items_take_bytes s) (all_items_take_bytes ss) room).1 h short

pub datum_read_again : (s : Shape) (d : Datum) (rest : List ℕ) → items_take_bytes s ≡ true → Fits s d
    → length (spelling d) < 2 ^ 63 → datum_at s (spelling d ++ rest) ≡ Ok (d, rest)
datum_read_again s d rest room fit short = (datum_law s (spelling d ++ rest)).only d rest (datum_again s room d rest fit short)
