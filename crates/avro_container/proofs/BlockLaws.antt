-- Blocks are read by their grammar.
use Rattle.std.proofs.Common.{◌≡◌, ℕ, ℤ, pos, negsuc, zero, suc, ◌+◌, ◌≤◌, ◌<◌, Bool, true, false, cond, eqb, leb, List, [], ◌∷◌, ◌++◌, length, take, drop, Some, None, Ok, Err, refl, sym, ap, subst, ◌∙◌, append_assoc, arith}
use Rattle.std.specs.Str.{bytes_eq}
use Rattle.std.proofs.lemmas.List.{append-nil, nil_from_length, take_at, drop_at, take-append-drop, length-append}
use Rattle.std.proofs.lemmas.Bool.{eqb-true, leb-true, le-leb}
use Rattle.std.proofs.lemmas.Slice.Eq.{bytes_eq-Decides}
use Rattle.plain_types.specs.Steps.{◌>>=◌}
use Rattle.avro_binary.specs.declared.datum.Datum as datums
use Rattle.avro_binary.specs.Number.{long_at, length_at, front_at}
use Rattle.avro_binary.specs.Shape.{Shape}
use Rattle.avro_binary.specs.Reading.{datum_at, items_at}
use Rattle.avro_binary.specs.Grammar.{ReadsLong, ReadsLength, ReadsEach, Reads, Fails, joined}
use Rattle.avro_binary.proofs.CallerLemmas.{long_law, length_law, front_law, datum_law, items_law}
use Rattle.avro_container.specs.declared.fault.ContainerFault.TheVariants.{Count, Sync}
use Rattle.avro_container.specs.Answer.{as_fault, block_fault}
use Rattle.avro_container.specs.Block.{counted, Stored, data_at, datum_fault, datums_of, block_at}
use Rattle.avro_container.specs.Container.{blocks_at}
use Rattle.avro_container.specs.Grammar.{ReadsBlock, AreBlocks}
use Rattle.avro_container.proofs.Binds.{ok, bind_ok, bind_part, same_ok, test_ok, err_no_ok}

-- ---- a block's count and data

abbrev kept : ℤ → List ℕ → Stored
kept count bytes = record { count = count; bytes = bytes }

abbrev Laid : List ℕ → Stored × List ℕ → Type 0
Laid bytes x = (sized : List ℕ) × ReadsLong bytes x.0.count sized × ReadsLength sized (length x.0.bytes) (x.0.bytes ++ x.1)

data_found : (whole block : ℕ) (bytes : List ℕ) (x : Stored × List ℕ) → data_at whole block bytes ≡ Ok x → Laid bytes x
unfolding data_at
data_found whole block bytes x e =
    let fault = block_fault whole block in
    let c = bind_part fault (long_at bytes) (λ count. as_fault fault (length_at count.1) >>= λ size. as_fault fault (front_at size.0 size.1) >>= λ text. Ok (kept count.0 text.0, text.1)) x e in
    let s = bind_part fault (length_at c.0.1) (λ size. as_fault fault (front_at size.0 size.1) >>= λ text. Ok (kept c.0.0 text.0, text.1)) x c.2 in
    let t = bind_part fault (front_at s.0.0 s.0.1) (λ text. Ok (kept c.0.0 text.0, text.1)) x s.2 in
    let front = (front_law s.0.0 s.0.1).found t.0.0 t.0.1 t.1 in
    let size : ReadsLength c.0.1 s.0.0 s.0.1 = (length_law c.0.1).found s.0.0 s.0.1 s.1 in
    let sized : ReadsLength c.0.1 (length t.0.0) (t.0.0 ++ t.0.1) = subst (λ (n : ℕ). ReadsLength c.0.1 n (t.0.0 ++ t.0.1)) (sym front.0) (subst (λ (r : List ℕ). ReadsLength c.0.1 s.0.0 r) front.1 size) in
    subst (λ (y : Stored × List ℕ). Laid bytes y) (same_ok (kept c.0.0 t.0.0, t.0.1) x t.2) (c.0.1, (long_law bytes).found c.0.0 c.0.1 c.1, sized)

data_again : (whole block : ℕ) (bytes : List ℕ) (count : ℤ) (sized stored rest : List ℕ) → long_at bytes ≡ Ok (count, sized)
    → length_at sized ≡ Ok (length stored, stored ++ rest) → front_at (length stored) (stored ++ rest) ≡ Ok (stored, rest)
    → data_at whole block bytes ≡ Ok (kept count stored, rest)
unfolding data_at
data_again whole block bytes count sized stored rest a b c = rw (a, b, c) refl

data_only : (whole block : ℕ) (bytes : List ℕ) (count : ℤ) (sized stored rest : List ℕ) → ReadsLong bytes count sized
    → ReadsLength sized (length stored) (stored ++ rest) → data_at whole block bytes ≡ Ok (kept count stored, rest)
data_only whole block bytes count sized stored rest a b = data_again whole block bytes count sized stored rest ((long_law bytes).only count sized a) ((length_law sized).only (length stored) (stored ++ rest) b) ((front_law (length stored) (stored ++ rest)).only stored rest (refl, refl))

-- ---- its datums

told_found : (shape : Shape) (block n : ℕ) (b : Bool) (bytes : List ℕ) (ds : List datums.Datum)
    → datums_of shape block (cond b (Some n) None) bytes ≡ Ok ds → (b ≡ true) × (length ds ≡ n)
    × ReadsEach (Reads shape) ds bytes []
told_found shape block n false bytes ds e = absurd (err_no_ok (Count block) ds e)
told_found shape block n true bytes ds e =
    let t = bind_part (datum_fault (length bytes) block) (items_at (datum_at shape) n bytes) (λ x. cond (eqb (length x.1) 0) (Ok x.0) (Err (Count block))) ds e in
    let g = test_ok (eqb (length t.0.1) 0) t.0.0 ds (Count block) t.2 in
    let items = (items_law (Reads shape) (Fails shape) (datum_at shape) (datum_law shape) n bytes).found t.0.0 t.0.1 t.1 in
    let none : t.0.1 ≡ [] = nil_from_length t.0.1 (eqb-true (length t.0.1) 0 g.0) in
    let whole : ReadsEach (Reads shape) t.0.0 bytes [] = subst (λ (r : List ℕ). ReadsEach (Reads shape) t.0.0 bytes r) none items.1 in
    subst (λ (xs : List datums.Datum). (true ≡ true) × (length xs ≡ n) × ReadsEach (Reads shape) xs bytes []) g.1 (refl, items.0, whole)

datums_found : (shape : Shape) (block : ℕ) (count : ℤ) (bytes : List ℕ) (ds : List datums.Datum)
    → datums_of shape block (counted count (length bytes)) bytes ≡ Ok ds → (count ≡ pos (length ds)) × (length ds ≤ length bytes)
    × ReadsEach (Reads shape) ds bytes []
datums_found shape block (pos n) bytes ds e =
    let t = told_found shape block n (leb n (length bytes)) bytes ds e in
    let few : n ≤ length bytes = leb-true n (length bytes) t.0 in
    (ap (λ (m : ℕ). pos m) (sym t.1), subst (λ (m : ℕ). m ≤ length bytes) (sym t.1) few, t.2)
datums_found shape block (negsuc n) bytes ds e = absurd (err_no_ok (Count block) ds e)

datums_only : (shape : Shape) (block : ℕ) (bytes : List ℕ) (ds : List datums.Datum) → length ds ≤ length bytes
    → ReadsEach (Reads shape) ds bytes [] → datums_of shape block (counted (pos (length ds)) (length bytes)) bytes ≡ Ok ds
datums_only shape block bytes ds few each =
    let items = (items_law (Reads shape) (Fails shape) (datum_at shape) (datum_law shape) (length ds) bytes).only ds [] (refl, each) in
    rw (le-leb (length ds) (length bytes) few, items) refl

-- ---- a block

block_found : (shape : Shape) (sync : List ℕ) (whole block : ℕ) (bytes : List ℕ) (x : List datums.Datum × List ℕ)
    → block_at shape sync whole block bytes ≡ Ok x → ReadsBlock shape sync bytes x.0 x.1
unfolding block_at
block_found shape sync whole block bytes x e =
    let d = bind_ok (data_at whole block bytes) (λ stored. datums_of shape block (counted stored.0.count (length stored.0.bytes)) stored.0.bytes >>= λ ds. cond (bytes_eq (take 16 stored.1) sync) (Ok (ds, drop 16 stored.1)) (Err (Sync block))) x e in
    let t = bind_ok (datums_of shape block (counted d.0.0.count (length d.0.0.bytes)) d.0.0.bytes) (λ ds. cond (bytes_eq (take 16 d.0.1) sync) (Ok (ds, drop 16 d.0.1)) (Err (Sync block))) x d.2 in
    let g = test_ok (bytes_eq (take 16 d.0.1) sync) (t.0, drop 16 d.0.1) x (Sync block) t.2 in
    let laid = data_found whole block bytes d.0 d.1 in
    let told = datums_found shape block d.0.0.count d.0.0.bytes t.0 t.1 in
    let is_sync : take 16 d.0.1 ≡ sync = (bytes_eq-Decides (take 16 d.0.1) sync).0 g.0 in
    let synced : d.0.1 ≡ sync ++ drop 16 d.0.1 = sym (take-append-drop 16 d.0.1) ∙ ap (λ (r : List ℕ). r ++ drop 16 d.0.1) is_sync in
    subst (λ (y : List datums.Datum × List ℕ). ReadsBlock shape sync bytes y.0 y.1) g.1 (record {
      sized = laid.0;
      stored = d.0.0.bytes;
      count = subst (λ (c : ℤ). ReadsLong bytes c laid.0) told.0 laid.1;
      size = subst (λ (r : List ℕ). ReadsLength laid.0 (length d.0.0.bytes) (d.0.0.bytes ++ r)) synced laid.2;
      few = told.1;
      all = told.2;
    })

block_again : (shape : Shape) (sync : List ℕ) (whole block : ℕ) (bytes : List ℕ) (count : ℤ) (stored synced rest : List ℕ)
    (ds : List datums.Datum) → data_at whole block bytes ≡ Ok (kept count stored, synced)
    → datums_of shape block (counted count (length stored)) stored ≡ Ok ds → bytes_eq (take 16 synced) sync ≡ true
    → drop 16 synced ≡ rest → block_at shape sync whole block bytes ≡ Ok (ds, rest)
unfolding block_at
block_again shape sync whole block bytes count stored synced rest ds a b c d =
    ap (λ r. r >>= λ s. datums_of shape block (counted s.0.count (length s.0.bytes)) s.0.bytes >>= λ xs. cond (bytes_eq (take 16 s.1) sync) (Ok (xs, drop 16 s.1)) (Err (Sync block))) a
    ∙ ap (λ r. r >>= λ xs. cond (bytes_eq (take 16 synced) sync) (Ok (xs, drop 16 synced)) (Err (Sync block))) b
    ∙ ap (λ t. cond t (ok (ds, drop 16 synced)) (Err (Sync block))) c ∙ ap (λ (r : List ℕ). ok (ds, r)) d

block_only : (shape : Shape) (sync : List ℕ) (whole block : ℕ) (bytes : List ℕ) (ds : List datums.Datum) (rest : List ℕ)
    → length sync ≡ 16 → ReadsBlock shape sync bytes ds rest → block_at shape sync whole block bytes ≡ Ok (ds, rest)
block_only shape sync whole block bytes ds rest sixteen r =
    let same : take 16 (sync ++ rest) ≡ sync = take_at sync rest 16 sixteen in
    block_again shape sync whole block bytes (pos (length ds)) r.stored (sync ++ rest) rest ds
    (data_only whole block bytes (pos (length ds)) r.sized r.stored (sync ++ rest) r.count r.size)
    (datums_only shape block r.stored ds r.few r.all)
    ((bytes_eq-Decides (take 16 (sync ++ rest)) sync).1 same) (drop_at sync rest 16 sixteen)

block_shorter : (shape : Shape) (sync bytes : List ℕ) (ds : List datums.Datum) (rest : List ℕ) → length sync ≡ 16
    → ReadsBlock shape sync bytes ds rest → length rest < length bytes
block_shorter shape sync bytes ds rest sixteen r =
    let a = (long_law bytes).parts (pos (length ds)) r.sized ((long_law bytes).only (pos (length ds)) r.sized r.count) in
    let b = (length_law r.sized).parts (length r.stored) (r.stored ++ (sync ++ rest)) ((length_law r.sized).only (length r.stored) (r.stored ++ (sync ++ rest)) r.size) in
    let p : length bytes ≡ length a.0 + length r.sized = ap length a.1 ∙ length-append a.0 r.sized in
    let q : length r.sized ≡ length b.0 + length (r.stored ++ (sync ++ rest)) = ap length b.1 ∙ length-append b.0 (r.stored ++ (sync ++ rest)) in
    let s : length (r.stored ++ (sync ++ rest)) ≡ length r.stored + length (sync ++ rest) = length-append r.stored (sync ++ rest) in
    let t : length (sync ++ rest) ≡ length sync + length rest = length-append sync rest in
    omega arith

-- ---- all blocks

abbrev Each : Shape → List ℕ → List (List datums.Datum) → List ℕ → Type 0
Each shape sync blocks bytes = ReadsEach (λ from block rest. ReadsBlock shape sync from block rest) blocks bytes []

blocks_found : (shape : Shape) (sync : List ℕ) (whole more block : ℕ) (before : List datums.Datum) (bytes : List ℕ)
    (ds : List datums.Datum) → blocks_at shape sync whole more block before bytes ≡ Ok ds → (blocks : List (List datums.Datum))
    × Each shape sync blocks bytes × (ds ≡ before ++ joined blocks)
unfolding blocks_at
blocks_found shape sync whole zero block before [] ds e = ([], refl, sym (same_ok before ds e) ∙ sym (append-nil before))
blocks_found shape sync whole (suc more) block before [] ds e = ([], refl, sym (same_ok before ds e) ∙ sym (append-nil before))
blocks_found shape sync whole zero block before (b ∷ bytes) ds e = absurd (err_no_ok (Count block) ds e)
blocks_found shape sync whole (suc more) block before (b ∷ bytes) ds e =
    let x = bind_ok (block_at shape sync whole block (b ∷ bytes)) (λ x. blocks_at shape sync whole more (block + 1) (before ++ x.0) x.1) ds e in
    let r = blocks_found shape sync whole more (block + 1) (before ++ x.0.0) x.0.1 ds x.2 in
    (x.0.0 ∷ r.0, (x.0.1, block_found shape sync whole block (b ∷ bytes) x.0 x.1, r.1), r.2 ∙ append_assoc before x.0.0 (joined r.0))

blocks_only : (shape : Shape) (sync : List ℕ) (whole more block : ℕ) (before : List datums.Datum) (bytes : List ℕ)
    (blocks : List (List datums.Datum)) → length sync ≡ 16 → length bytes ≤ more → Each shape sync blocks bytes
    → blocks_at shape sync whole more block before bytes ≡ Ok (before ++ joined blocks)
unfolding blocks_at
blocks_only shape sync whole more block before bytes [] sixteen le none = ap (λ (t : List ℕ). blocks_at shape sync whole more block before t) none ∙ ap (λ (xs : List datums.Datum). ok xs) (sym (append-nil before))
blocks_only shape sync whole more block before [] (ds ∷ blocks) sixteen le (after, r, others) = let lt : length after < 0 = block_shorter shape sync [] ds after sixteen r in absurd (omega arith)
blocks_only shape sync whole zero block before (b ∷ bytes) (ds ∷ blocks) sixteen le (after, r, others) = absurd (omega arith)
blocks_only shape sync whole (suc more) block before (b ∷ bytes) (ds ∷ blocks) sixteen le (after, r, others) =
    let lt : length after < length (b ∷ bytes) = block_shorter shape sync (b ∷ bytes) ds after sixteen r in
    let few : length after ≤ more = omega arith in
    ap (λ a. a >>= λ x. blocks_at shape sync whole more (block + 1) (before ++ x.0) x.1) (block_only shape sync whole block (b ∷ bytes) ds after sixteen r) ∙ blocks_only shape sync whole more (block + 1) (before ++ ds) after blocks sixteen few others
    ∙ ap (λ (xs : List datums.Datum). ok xs) (append_assoc before ds (joined blocks))

pub all_found : (shape : Shape) (sync : List ℕ) (whole : ℕ) (bytes : List ℕ) (ds : List datums.Datum)
    → blocks_at shape sync whole (length bytes) 0 [] bytes ≡ Ok ds → AreBlocks shape sync bytes ds
all_found shape sync whole bytes ds e = let r = blocks_found shape sync whole (length bytes) 0 [] bytes ds e in (r.0, r.1, r.2)

pub all_only : (shape : Shape) (sync : List ℕ) (whole : ℕ) (bytes : List ℕ) (ds : List datums.Datum) → length sync ≡ 16
    → AreBlocks shape sync bytes ds → blocks_at shape sync whole (length bytes) 0 [] bytes ≡ Ok ds
all_only shape sync whole bytes ds sixteen (blocks, each, is) = blocks_only shape sync whole (length bytes) 0 [] bytes blocks sixteen (omega arith) each ∙ ap (λ (xs : List datums.Datum). ok xs) (sym is)
