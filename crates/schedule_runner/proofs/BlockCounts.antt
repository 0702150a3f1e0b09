-- The counts of blocks are how many datums they have.
use Rattle.std.proofs.Common.{◌≡◌, ℕ, ℤ, pos, ◌+◌, List, [], ◌∷◌, ◌++◌, length, length-append, Ok, Err, refl, sym, ap, subst, ◌∙◌, arith}
use Rattle.plain_types.specs.Steps.{◌>>=◌}
use Rattle.avro_binary.specs.declared.datum.Datum.{Datum}
use Rattle.avro_binary.specs.Answer.{Part, ended}
use Rattle.avro_binary.specs.Grammar.{joined}
use Rattle.avro_binary.specs.Number.{front_at, groups_at, length_at, long_at}
use Rattle.avro_binary.specs.Shape.{Shape}
use Rattle.avro_binary.proofs.CallerLemmas.{done, err_no_ok, same_rest, same_value, front_law, length_law, long_law}
use Rattle.avro_container.specs.Grammar.{AreBlocks, ReadsBlock}

-- ---- a block

-- what is read where the datums are passed over
abbrev passed : ℕ → List ℕ → Part ℤ
passed sync bytes = long_at bytes >>= λ count. length_at count.1 >>= λ size. front_at size.0 size.1 >>= λ stored. front_at sync stored.1 >>= λ marker. Ok (count.0, marker.1)

block_passed : (form : Shape) (marker bytes : List ℕ) (ds : List Datum) (rest : List ℕ) → ReadsBlock form marker bytes ds rest
    → passed (length marker) bytes ≡ Ok (pos (length ds), rest)
block_passed form marker bytes ds rest r =
    rw (
      (long_law bytes).only (pos (length ds)) r.sized r.count,
      (length_law r.sized).only (length r.stored) (r.stored ++ (marker ++ rest)) r.size,
      (front_law (length r.stored) (r.stored ++ (marker ++ rest))).only r.stored (marker ++ rest) (refl, refl),
      (front_law (length marker) (marker ++ rest)).only marker rest (refl, refl),
    )
    refl

-- a block's count, as it is said of what was read here
abbrev pub Passes : ℕ → List ℕ → ℤ → List ℕ → Type 0
Passes sync bytes count after = (form : Shape) (marker : List ℕ) (ds : List Datum) (rest : List ℕ) → length marker ≡ sync → ReadsBlock form marker bytes ds rest → (count ≡ pos (length ds)) × (after ≡ rest)

pub passes : (sync : ℕ) (bytes : List ℕ) (count : ℤ) (sized : List ℕ) → long_at bytes ≡ Ok (count, sized)
    → (size : ℕ) (behind : List ℕ) → length_at sized ≡ Ok (size, behind) → (stored synced : List ℕ)
    → front_at size behind ≡ Ok (stored, synced) → (end after : List ℕ) → front_at sync synced ≡ Ok (end, after)
    → Passes sync bytes count after
passes sync bytes count sized a size behind b stored synced c end after d = λ form marker ds rest is r.
    let read : passed sync bytes ≡ Ok (count, after) = rw (a, b, c, d) refl in
    let same : done count after ≡ done (pos (length ds)) rest = sym read ∙ ap (λ (n : ℕ). passed n bytes) (sym is) ∙ block_passed form marker bytes ds rest r in
    (same_value count (pos (length ds)) after rest same, same_rest count (pos (length ds)) after rest same)

no_long : long_at [] ≡ Err ended
unfolding long_at groups_at
no_long = refl

no_block : (form : Shape) (marker : List ℕ) (ds : List Datum) (rest : List ℕ) → ReadsBlock form marker [] ds rest → ⊥
no_block form marker ds rest r = err_no_ok (pos (length ds)) r.sized ended (sym no_long ∙ (long_law []).only (pos (length ds)) r.sized r.count)

-- ---- all blocks

-- the datums of all blocks are as many as are counted, and those of the blocks that are left
abbrev pub Counts : ℕ → List ℕ → ℕ → List ℕ → Type 0
Counts sync bytes count rest = (form : Shape) (marker : List ℕ) (datums : List Datum) → length marker ≡ sync → AreBlocks form marker bytes datums → (others : List Datum) × AreBlocks form marker rest others × (length datums ≡ count + length others)

pub starts : (sync : ℕ) (bytes : List ℕ) → Counts sync bytes 0 bytes
starts sync bytes = λ form marker datums sized are. (datums, are, omega arith)

none_left : (form : Shape) (marker : List ℕ) (datums : List Datum) → AreBlocks form marker [] datums → datums ≡ []
none_left form marker datums ([], is, all) = all
none_left form marker datums (block ∷ blocks, (after, r, others), all) = absurd (no_block form marker block after r)

pub ends : (sync : ℕ) (bytes : List ℕ) (count : ℕ) (rest : List ℕ) → rest ≡ [] → Counts sync bytes count rest
    → (form : Shape) (marker : List ℕ) (datums : List Datum) → length marker ≡ sync → AreBlocks form marker bytes datums
    → count ≡ length datums
ends sync bytes count rest none so_far form marker datums sized are =
    let left = so_far form marker datums sized are in
    let nothing : left.0 ≡ [] = none_left form marker left.0 (subst (λ (r : List ℕ). AreBlocks form marker r left.0) none left.1) in
    let zero : length left.0 ≡ 0 = ap length nothing in
    omega (arith, left.2)

step : (form : Shape) (marker : List ℕ) (sync : ℕ) (rest : List ℕ) (others : List Datum) (more : ℤ) (after : List ℕ)
    → length marker ≡ sync → (rest ≡ [] → ⊥) → Passes sync rest more after → AreBlocks form marker rest others
    → (block : List Datum) × (left : List Datum) × (more ≡ pos (length block)) × AreBlocks form marker after left
    × (length others ≡ length block + length left)
step form marker sync rest others more after sized some read ([], none, all) = absurd (some none)
step form marker sync rest others more after sized some read (block ∷ blocks, (next, r, each), all) =
    let same = read form marker block next sized r in
    (block, joined blocks, same.0, subst (λ (b : List ℕ). AreBlocks form marker b (joined blocks)) (sym same.1) (blocks, each, refl), ap length all ∙ length-append block (joined blocks))

pub goes_on : (sync : ℕ) (bytes : List ℕ) (count : ℕ) (rest : List ℕ) (more : ℤ) (after : List ℕ) (n : ℕ) → (rest ≡ [] → ⊥)
    → Passes sync rest more after → ((k : ℕ) → more ≡ pos k → n ≡ count + k) → Counts sync bytes count rest
    → Counts sync bytes n after
goes_on sync bytes count rest more after n some read sum so_far = λ form marker datums sized are.
    let left = so_far form marker datums sized are in
    let s = step form marker sync rest left.0 more after sized some read left.1 in
    let total : n ≡ count + length s.0 = sum (length s.0) s.2 in
    (s.1, s.3, omega (arith, left.2, s.4))
