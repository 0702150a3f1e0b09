-- Reading pairs and blocks one after the other, as loops do.
use Rattle.std.proofs.Common.{◌≡◌, ◌≢◌, ℕ, suc, ◌-◌, ◌+◌, ◌≤◌, ◌<◌, Bool, true, false, cond, eqb, List, [], ◌∷◌, ◌++◌, length, Result, Ok, Err, refl, sym, ap, ◌∙◌, append_assoc, arith, add-one, drop, drop-cons, get_or}
use Rattle.std.proofs.lemmas.List.{append-nil, drop_all, nil_from_length}
use Rattle.std.proofs.lemmas.Bool.{eqb-true}
use Rattle.plain_types.specs.Steps.{◌>>=◌}
use Rattle.avro_binary.specs.declared.datum.Datum as datums
use Rattle.avro_binary.specs.declared.fault.Stop as stops
use Rattle.avro_binary.specs.declared.fault.Stop.TheVariants as stop
use Rattle.avro_binary.specs.Answer as parts
use Rattle.avro_binary.specs.Number.{count_at}
use Rattle.avro_binary.specs.Shape.{Shape}
use Rattle.avro_container.specs.declared.fault.ContainerFault.{ContainerFault}
use Rattle.avro_container.specs.declared.fault.ContainerFault.TheVariants.{Short, Count, Memory}
use Rattle.avro_container.specs.declared.pairs.MetaPair.{MetaPair}
use Rattle.avro_container.specs.Answer.{as_fault, head_fault, stopped}
use Rattle.avro_container.specs.Pairs.{pair_at, pairs_at, map_at, is_own, kept, others}
use Rattle.avro_container.specs.Block.{block_at}
use Rattle.avro_container.specs.Container.{blocks_at}

-- why a function stopped, unless memory ran out
abbrev pub Is : {A : Type 0} → ContainerFault → Result A ContainerFault → Type 0
Is f read = f ≢ Memory → read ≡ Err f

differs : (b : Bool) (n m : ℕ) → eqb n m ≡ b → n ≢ m → eqb n m ≡ false
differs true n m e ne = absurd (ne (eqb-true n m e))
differs false n m e ne = e

pub ne-eqb : (n m : ℕ) → n ≢ m → eqb n m ≡ false
ne-eqb n m ne = differs (eqb n m) n m refl ne

-- ---- pairs

pub pairs_goes : (whole count i : ℕ) (before seen : List MetaPair) (bytes : List ℕ) (p : MetaPair) (after : List ℕ)
    (total : Result (List MetaPair × List ℕ) ContainerFault) → i < count → seen ≡ before
    → pair_at whole seen bytes ≡ Ok (p, after)
    → pairs_at whole (count - i) before bytes ≡ total → pairs_at whole (count - (i + 1)) (before ++ p ∷ []) after ≡ total
unfolding pairs_at
pairs_goes whole count i before seen bytes p after total lt same at_seen so_far =
    let h : pair_at whole before bytes ≡ Ok (p, after) = ap (λ (xs : List MetaPair). pair_at whole xs bytes) (sym same) ∙ at_seen in
    let k : count - i ≡ suc (count - (i + 1)) = omega arith in
    let one : pairs_at whole (count - i) before bytes ≡ pairs_at whole (count - (i + 1)) (before ++ p ∷ []) after = rw (k, h) refl in
    sym one ∙ so_far

pub pairs_stops : (f : ContainerFault) (whole count i : ℕ) (before seen : List MetaPair) (bytes : List ℕ)
    (total : Result (List MetaPair × List ℕ) ContainerFault) → i < count → seen ≡ before → Is f (pair_at whole seen bytes)
    → pairs_at whole (count - i) before bytes ≡ total → Is f total
unfolding pairs_at
pairs_stops f whole count i before seen bytes total lt same h so_far no_memory =
    let k : count - i ≡ suc (count - (i + 1)) = omega arith in
    let e : pair_at whole before bytes ≡ Err f = ap (λ (xs : List MetaPair). pair_at whole xs bytes) (sym same) ∙ h no_memory in
    let one : pairs_at whole (count - i) before bytes ≡ Err f = rw (k, e) refl in
    sym so_far ∙ one

pub pairs_done : (whole count i : ℕ) (before : List MetaPair) (bytes : List ℕ)
    (total : Result (List MetaPair × List ℕ) ContainerFault) → count ≤ i → pairs_at whole (count - i) before bytes ≡ total
    → total ≡ Ok (before, bytes)
unfolding pairs_at
pairs_done whole count i before bytes total le so_far =
    let k : count - i ≡ 0 = omega arith in
    let one : pairs_at whole (count - i) before bytes ≡ Ok (before, bytes) = rw k refl in
    sym so_far ∙ one

-- ---- the map

after_count : ℕ → ℕ → List MetaPair → ℕ × List ℕ → Result (List MetaPair × List ℕ) ContainerFault
after_count whole more before count = cond (eqb count.0 0) (Ok (before, count.1)) (pairs_at whole count.0 before count.1 >>= λ x. map_at whole more x.0 x.1)

map_step : (whole n i : ℕ) (before : List MetaPair) (bytes : List ℕ) → i < n
    → map_at whole (n - i) before bytes ≡ (as_fault (head_fault whole)
    (count_at bytes) >>= after_count whole (n - (i + 1)) before)
unfolding map_at after_count
map_step whole n i before bytes lt =
    let k : n - i ≡ suc (n - (i + 1)) = omega arith in
    rw k refl

pub map_ends : (whole n i : ℕ) (before : List MetaPair) (bytes : List ℕ) (count : ℕ) (after : List ℕ)
    (total : Result (List MetaPair × List ℕ) ContainerFault) → i < n → count_at bytes ≡ Ok (count, after) → eqb count 0 ≡ true
    → map_at whole (n - i) before bytes ≡ total → total ≡ Ok (before, after)
unfolding after_count
map_ends whole n i before bytes count after total lt h z so_far =
    let one : (as_fault (head_fault whole) (count_at bytes) >>= after_count whole (n - (i + 1)) before) ≡ Ok (before, after) = rw (h, z) refl in
    sym so_far ∙ map_step whole n i before bytes lt ∙ one

pub map_goes : (whole n i : ℕ) (before : List MetaPair) (bytes : List ℕ) (count : ℕ) (mid : List ℕ) (pairs : List MetaPair)
    (after : List ℕ) (total : Result (List MetaPair × List ℕ) ContainerFault) → i < n → count_at bytes ≡ Ok (count, mid)
    → eqb count 0 ≡ false → pairs_at whole count before mid ≡ Ok (pairs, after)
    → map_at whole (n - i) before bytes ≡ total → map_at whole (n - (i + 1)) pairs after ≡ total
unfolding after_count
map_goes whole n i before bytes count mid pairs after total lt h z read so_far =
    let one : (as_fault (head_fault whole) (count_at bytes) >>= after_count whole (n - (i + 1)) before) ≡ map_at whole (n - (i + 1)) pairs after = rw (h, z, read) refl in
    sym one ∙ sym (map_step whole n i before bytes lt) ∙ so_far

stopped_part : {A B : Type 0} (whole : ℕ) (st : stops.Stop) (read : parts.Part A) (more : A × List ℕ → Result B ContainerFault)
    → parts.Stops st read → stopped whole st ≢ Memory → (as_fault (head_fault whole) read >>= more) ≡ Err (stopped whole st)
stopped_part whole stop.Memory read more h no_memory = absurd (no_memory refl)
stopped_part whole (stop.At s) read more h no_memory = rw h refl

pub map_stops_at_count : (st : stops.Stop) (whole n i : ℕ) (before : List MetaPair) (bytes : List ℕ)
    (total : Result (List MetaPair × List ℕ) ContainerFault) → i < n → parts.Stops st (count_at bytes)
    → map_at whole (n - i) before bytes ≡ total → Is (stopped whole st) total
map_stops_at_count st whole n i before bytes total lt h so_far no_memory =
    sym so_far ∙ map_step whole n i before bytes lt ∙ stopped_part whole st (count_at bytes) (after_count whole (n - (i + 1)) before) h no_memory

pub map_stops_at_pairs : (f : ContainerFault) (whole n i : ℕ) (before : List MetaPair) (bytes : List ℕ) (count : ℕ) (mid : List ℕ)
    (total : Result (List MetaPair × List ℕ) ContainerFault) → i < n → count_at bytes ≡ Ok (count, mid) → eqb count 0 ≡ false
    → Is f (pairs_at whole count before mid)
    → map_at whole (n - i) before bytes ≡ total → Is f total
unfolding after_count
map_stops_at_pairs f whole n i before bytes count mid total lt h z read so_far no_memory =
    let e : pairs_at whole count before mid ≡ Err f = read no_memory in
    let one : (as_fault (head_fault whole) (count_at bytes) >>= after_count whole (n - (i + 1)) before) ≡ Err f = rw (h, z, e) refl in
    sym so_far ∙ map_step whole n i before bytes lt ∙ one

pub map_out : (whole n i : ℕ) (before : List MetaPair) (bytes : List ℕ) (total : Result (List MetaPair × List ℕ) ContainerFault)
    → n ≤ i → map_at whole (n - i) before bytes ≡ total → total ≡ Err (Short whole)
unfolding map_at
map_out whole n i before bytes total le so_far =
    let k : n - i ≡ 0 = omega arith in
    let one : map_at whole (n - i) before bytes ≡ Err (Short whole) = rw k refl in
    sym so_far ∙ one

-- ---- blocks

pub blocks_end : (shape : Shape) (sync : List ℕ) (whole more block : ℕ) (before : List datums.Datum) (bytes : List ℕ)
    (total : Result (List datums.Datum) ContainerFault) → bytes ≡ [] → blocks_at shape sync whole more block before bytes ≡ total
    → total ≡ Ok before
unfolding blocks_at
blocks_end shape sync whole more block before bytes total none so_far =
    let one : blocks_at shape sync whole more block before bytes ≡ Ok before = rw none refl in
    sym so_far ∙ one

block_next : (shape : Shape) (sync : List ℕ) (whole more block : ℕ) (before : List datums.Datum) (bytes : List ℕ) → bytes ≢ []
    → blocks_at shape sync whole (suc more) block before bytes ≡ (block_at shape sync whole block bytes >>= λ x. blocks_at shape sync whole more (block + 1)
    (before ++ x.0) x.1)
unfolding blocks_at
block_next shape sync whole more block before [] some = absurd (some refl)
block_next shape sync whole more block before (b ∷ bytes) some = refl

block_step : (shape : Shape) (sync : List ℕ) (whole n i : ℕ) (before : List datums.Datum) (bytes : List ℕ) → i < n → bytes ≢ []
    → blocks_at shape sync whole (n - i) i before bytes ≡ (block_at shape sync whole i bytes >>= λ x. blocks_at shape sync whole (n - (i + 1))
    (i + 1) (before ++ x.0) x.1)
block_step shape sync whole n i before bytes lt some =
    let k : n - i ≡ suc (n - (i + 1)) = omega arith in
    ap (λ (m : ℕ). blocks_at shape sync whole m i before bytes) k ∙ block_next shape sync whole (n - (i + 1)) i before bytes some

pub blocks_go : (shape : Shape) (sync : List ℕ) (whole n i : ℕ) (before : List datums.Datum) (bytes : List ℕ)
    (block : List datums.Datum) (after : List ℕ) (total : Result (List datums.Datum) ContainerFault) → i < n → bytes ≢ []
    → block_at shape sync whole i bytes ≡ Ok (block, after)
    → blocks_at shape sync whole (n - i) i before bytes ≡ total → blocks_at shape sync whole (n - (i + 1)) (i + 1) (before ++ block) after ≡ total
blocks_go shape sync whole n i before bytes block after total lt some h so_far =
    let one = ap (λ r. r >>= λ x. blocks_at shape sync whole (n - (i + 1)) (i + 1) (before ++ x.0) x.1) h in
    sym one ∙ sym (block_step shape sync whole n i before bytes lt some) ∙ so_far

pub blocks_stop : (f : ContainerFault) (shape : Shape) (sync : List ℕ) (whole n i : ℕ) (before : List datums.Datum)
    (bytes : List ℕ) (total : Result (List datums.Datum) ContainerFault) → i < n → bytes ≢ []
    → Is f (block_at shape sync whole i bytes)
    → blocks_at shape sync whole (n - i) i before bytes ≡ total → Is f total
blocks_stop f shape sync whole n i before bytes total lt some h so_far no_memory =
    let one = ap (λ r. r >>= λ x. blocks_at shape sync whole (n - (i + 1)) (i + 1) (before ++ x.0) x.1) (h no_memory) in
    sym so_far ∙ block_step shape sync whole n i before bytes lt some ∙ one

block_out : (shape : Shape) (sync : List ℕ) (whole block : ℕ) (before : List datums.Datum) (bytes : List ℕ) → bytes ≢ []
    → blocks_at shape sync whole 0 block before bytes ≡ Err (Count block)
unfolding blocks_at
block_out shape sync whole block before [] some = absurd (some refl)
block_out shape sync whole block before (b ∷ bytes) some = refl

pub blocks_out : (shape : Shape) (sync : List ℕ) (whole n i : ℕ) (before : List datums.Datum) (bytes : List ℕ)
    (total : Result (List datums.Datum) ContainerFault) → n ≤ i → i ≤ n → bytes ≢ []
    → blocks_at shape sync whole (n - i) i before bytes ≡ total → total ≡ Err (Count n)
blocks_out shape sync whole n i before bytes total le ge some so_far =
    let k : n - i ≡ 0 = omega arith in
    let same : i ≡ n = omega arith in
    sym so_far ∙ ap (λ (m : ℕ). blocks_at shape sync whole m i before bytes) k ∙ block_out shape sync whole i before bytes some ∙ ap (λ (m : ℕ). Err (Count m)) same

-- ---- the other pairs

others_next : (ps : List MetaPair) (i : ℕ) (p : MetaPair) → i < length ps → p ≡ get_or ps i p → others (drop i ps) ≡ others (p ∷ drop (i + 1) ps)
others_next ps i p lt at =
    let one : others (drop i ps) ≡ others (get_or ps i p ∷ drop (i + 1) ps) = rw (add-one, drop-cons ps i p) refl in
    one ∙ ap (λ (q : MetaPair). others (q ∷ drop (i + 1) ps)) (sym at)

kept_first : (b : Bool) (found : List MetaPair) (p : MetaPair) (ps : List MetaPair)
    → cond b found (found ++ p ∷ []) ++ others ps ≡ found ++ cond b (others ps) (p ∷ others ps)
kept_first true found p ps = refl
kept_first false found p ps = append_assoc found (p ∷ []) (others ps)

pub others_goes : (found more : List MetaPair) (ps : List MetaPair) (i : ℕ) (p : MetaPair) (total : List MetaPair) → i < length ps
    → p ≡ get_or ps i p → more ≡ kept found p → found ++ others (drop i ps) ≡ total → more ++ others (drop (i + 1) ps) ≡ total
unfolding others
others_goes found more ps i p total lt at is so_far =
    ap (λ (xs : List MetaPair). xs ++ others (drop (i + 1) ps)) is ∙ kept_first (is_own p) found p (drop (i + 1) ps) ∙ ap (λ (xs : List MetaPair). found ++ xs) (sym (others_next ps i p lt at)) ∙ so_far

pub others_done : (found ps : List MetaPair) (i : ℕ) (total : List MetaPair) → length ps ≤ i → found ++ others (drop i ps) ≡ total → found ≡ total
unfolding others
others_done found ps i total le so_far =
    let one : found ++ others (drop i ps) ≡ found = rw (drop_all i ps le) (append-nil found) in
    sym one ∙ so_far

-- ---- an empty rest

true_no_false : true ≡ false → ⊥
true_no_false e = cc

pub is_none : (r : Bool) (bytes : List ℕ) → r ≡ true → r ≡ eqb (length bytes) 0 → bytes ≡ []
is_none r bytes e is = nil_from_length bytes (eqb-true (length bytes) 0 (sym is ∙ e))

pub is_some : (r : Bool) (bytes : List ℕ) → r ≡ false → r ≡ eqb (length bytes) 0 → bytes ≢ []
is_some r bytes e is none = true_no_false (sym (is ∙ ap (λ (t : List ℕ). eqb (length t) 0) none) ∙ e)
