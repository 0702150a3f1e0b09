-- Reading items, blocks and fields one after the other, as loops do.
use Rattle.std.proofs.Common.{◌≡◌, ℕ, suc, ◌-◌, ◌+◌, ◌≤◌, ◌<◌, List, [], ◌∷◌, ◌++◌, length, drop, get_or, map, Ok, Err, refl, sym, ap, ◌∙◌, ◌≢◌, append_assoc, arith, add-one, drop-cons, cond, eqb, true, false, Bool}
use Rattle.std.proofs.lemmas.Bool.{eqb-true}
use Rattle.std.proofs.lemmas.List.{append-nil, drop_all}
use Rattle.plain_types.specs.Steps.{◌>>=◌}
use Rattle.avro_binary.specs.declared.fault.Stop.{Stop}
use Rattle.avro_binary.specs.declared.fault.Stop.TheVariants.{Memory, At}
use Rattle.avro_binary.specs.declared.datum.Datum.{Datum}
use Rattle.avro_binary.specs.declared.schema.Field.{Field}
use Rattle.avro_binary.specs.Answer.{Part, ended, Stops}
use Rattle.avro_binary.specs.Number.{count_at}
use Rattle.avro_binary.specs.Shape.{Shape, shape, shapes, field_shape}
use Rattle.avro_binary.proofs.Shapes.{field_shape_is}
use Rattle.avro_binary.specs.Reading.{datum_at, fields_at, items_at, blocks_at}

-- what was read before, and what is still read
abbrev pub with_front : {A : Type 0} → List A → Part (List A) → Part (List A)
with_front front read = read >>= λ x. Ok (front ++ x.0, x.1)

pub stops_along : {A : Type 0} (e : Stop) (s t : Part A) → Stops e s → s ≡ t → Stops e t
stops_along Memory s t h same = tt
stops_along (At f) s t h same = sym same ∙ h

regroup : {A : Type 0} (front : List A) (x : A) (read : Part (List A))
    → with_front front (read >>= λ y. Ok (x ∷ y.0, y.1)) ≡ with_front (front ++ x ∷ []) read
regroup {A = A} front x (Ok y) = ap (λ (xs : List A). Ok (xs, y.1)) (simp append_assoc)
regroup front x (Err f) = refl

regroup_block : {A : Type 0} (front block : List A) (read : Part (List A))
    → with_front front (read >>= λ y. Ok (block ++ y.0, y.1)) ≡ with_front (front ++ block) read
regroup_block {A = A} front block (Ok y) = ap (λ (xs : List A). Ok (xs, y.1)) (simp append_assoc)
regroup_block front block (Err f) = refl

ends_front : {A : Type 0} (front : List A) (bytes : List ℕ) → with_front front (Ok ([], bytes)) ≡ Ok (front, bytes)
ends_front {A = A} front bytes = ap (λ (xs : List A). Ok (xs, bytes)) (append-nil front)

differs : (b : Bool) (n m : ℕ) → eqb n m ≡ b → n ≢ m → eqb n m ≡ false
differs true n m e ne = absurd (ne (eqb-true n m e))
differs false n m e ne = e

pub ne-eqb : (n m : ℕ) → n ≢ m → eqb n m ≡ false
ne-eqb n m ne = differs (eqb n m) n m refl ne

-- ---- a first step that goes on, or stops

stops_first : {A B : Type 0} (e : Stop) (front : List B) (first : Part A) (more : A × List ℕ → Part (List B)) → Stops e first
    → Stops e (with_front front (first >>= more))
stops_first Memory front first more h = tt
stops_first (At f) front first more h = rw h refl

-- ---- items

pub items_goes : {A : Type 0} (reader : List ℕ → Part A) (front : List A) (count i : ℕ) (bytes : List ℕ) (x : A)
    (after : List ℕ) (total : Part (List A)) → i < count → reader bytes ≡ Ok (x, after)
    → with_front front (items_at reader (count - i) bytes) ≡ total → with_front (front ++ x ∷ []) (items_at reader (count - (i + 1)) after) ≡ total
unfolding items_at
items_goes reader front count i bytes x after total lt h so_far =
    let k : count - i ≡ suc (count - (i + 1)) = omega arith in
    let one : with_front front (items_at reader (count - i) bytes) ≡ with_front (front ++ x ∷ []) (items_at reader (count - (i + 1)) after) = rw (k, h) (regroup front x (items_at reader (count - (i + 1)) after)) in
    sym one ∙ so_far

pub items_stops : {A : Type 0} (e : Stop) (reader : List ℕ → Part A) (front : List A) (count i : ℕ) (bytes : List ℕ)
    (total : Part (List A)) → i < count → Stops e (reader bytes)
    → with_front front (items_at reader (count - i) bytes) ≡ total → Stops e total
unfolding items_at
items_stops e reader front count i bytes total lt h so_far =
    let k : count - i ≡ suc (count - (i + 1)) = omega arith in
    let one : with_front front (items_at reader (suc (count - (i + 1))) bytes) ≡ total = ap (λ (n : ℕ). with_front front (items_at reader n bytes)) (sym k) ∙ so_far in
    stops_along e (with_front front (items_at reader (suc (count - (i + 1))) bytes)) total (stops_first e front (reader bytes) (λ first. items_at reader (count - (i + 1)) first.1 >>= λ others. Ok (first.0 ∷ others.0, others.1)) h) one

pub items_done : {A : Type 0} (reader : List ℕ → Part A) (front : List A) (count i : ℕ) (bytes : List ℕ)
    (total : Part (List A)) → count ≤ i → with_front front (items_at reader (count - i) bytes) ≡ total
    → total ≡ Ok (front, bytes)
unfolding items_at
items_done reader front count i bytes total le so_far =
    let k : count - i ≡ 0 = omega arith in
    let one : with_front front (items_at reader (count - i) bytes) ≡ Ok (front, bytes) = rw k (ends_front front bytes) in
    sym so_far ∙ one

-- ---- blocks

block_at : {A : Type 0} → (List ℕ → Part A) → ℕ → ℕ × List ℕ → Part (List A)
block_at reader more count = cond (eqb count.0 0) (Ok ([], count.1)) (items_at reader count.0 count.1 >>= λ block. blocks_at reader more block.1 >>= λ others. Ok (block.0 ++ others.0, others.1))

blocks_step : {A : Type 0} (reader : List ℕ → Part A) (front : List A) (n i : ℕ) (bytes : List ℕ) → i < n
    → with_front front (blocks_at reader (n - i) bytes) ≡ with_front front (count_at bytes >>= block_at reader (n - (i + 1)))
unfolding blocks_at block_at
blocks_step reader front n i bytes lt =
    let k : n - i ≡ suc (n - (i + 1)) = omega arith in
    rw k refl

pub blocks_ends : {A : Type 0} (reader : List ℕ → Part A) (front : List A) (n i : ℕ) (bytes : List ℕ) (count : ℕ)
    (after : List ℕ) (total : Part (List A)) → i < n → count_at bytes ≡ Ok (count, after) → eqb count 0 ≡ true
    → with_front front (blocks_at reader (n - i) bytes) ≡ total → total ≡ Ok (front, after)
unfolding block_at
blocks_ends reader front n i bytes count after total lt h z so_far =
    let one : with_front front (count_at bytes >>= block_at reader (n - (i + 1))) ≡ Ok (front, after) = rw (h, z) (ends_front front after) in
    sym so_far ∙ blocks_step reader front n i bytes lt ∙ one

pub blocks_goes : {A : Type 0} (reader : List ℕ → Part A) (front : List A) (n i : ℕ) (bytes : List ℕ) (count : ℕ)
    (items : List ℕ) (block : List A) (after : List ℕ) (total : Part (List A)) → i < n → count_at bytes ≡ Ok (count, items)
    → eqb count 0 ≡ false → items_at reader count items ≡ Ok (block, after)
    → with_front front (blocks_at reader (n - i) bytes) ≡ total → with_front (front ++ block) (blocks_at reader (n - (i + 1)) after) ≡ total
unfolding block_at
blocks_goes reader front n i bytes count items block after total lt h z read so_far =
    let one : with_front front (count_at bytes >>= block_at reader (n - (i + 1))) ≡ with_front (front ++ block) (blocks_at reader (n - (i + 1)) after) = rw (h, z, read) (regroup_block front block (blocks_at reader (n - (i + 1)) after)) in
    sym one ∙ sym (blocks_step reader front n i bytes lt) ∙ so_far

pub blocks_stops_at_count : {A : Type 0} (e : Stop) (reader : List ℕ → Part A) (front : List A) (n i : ℕ) (bytes : List ℕ)
    (total : Part (List A)) → i < n → Stops e (count_at bytes)
    → with_front front (blocks_at reader (n - i) bytes) ≡ total → Stops e total
blocks_stops_at_count e reader front n i bytes total lt h so_far =
    stops_along e (with_front front (count_at bytes >>= block_at reader (n - (i + 1)))) total (stops_first e front (count_at bytes) (block_at reader (n - (i + 1))) h) (sym (blocks_step reader front n i bytes lt) ∙ so_far)

pub blocks_stops_at_items : {A : Type 0} (e : Stop) (reader : List ℕ → Part A) (front : List A) (n i : ℕ) (bytes : List ℕ)
    (count : ℕ) (items : List ℕ) (total : Part (List A)) → i < n → count_at bytes ≡ Ok (count, items) → eqb count 0 ≡ false
    → Stops e (items_at reader count items)
    → with_front front (blocks_at reader (n - i) bytes) ≡ total → Stops e total
unfolding block_at
blocks_stops_at_items {A = A} e reader front n i bytes count items total lt h z read so_far =
    let more : List A × List ℕ → Part (List A) = λ block. blocks_at reader (n - (i + 1)) block.1 >>= λ others. Ok (block.0 ++ others.0, others.1) in
    let one : with_front front (count_at bytes >>= block_at reader (n - (i + 1))) ≡ with_front front (items_at reader count items >>= more) = rw (h, z) refl in
    stops_along e (with_front front (items_at reader count items >>= more)) total (stops_first e front (items_at reader count items) more read) (sym one ∙ sym (blocks_step reader front n i bytes lt) ∙ so_far)

pub blocks_out : {A : Type 0} (reader : List ℕ → Part A) (front : List A) (n i : ℕ) (bytes : List ℕ) (total : Part (List A))
    → n ≤ i → with_front front (blocks_at reader (n - i) bytes) ≡ total → total ≡ Err ended
unfolding blocks_at
blocks_out reader front n i bytes total le so_far =
    let k : n - i ≡ 0 = omega arith in
    let one : with_front front (blocks_at reader (n - i) bytes) ≡ Err ended = rw k refl in
    sym so_far ∙ one

-- ---- fields

field_next : (fields : List Field) (i : ℕ) (d : Field) → i < length fields → d ≡ get_or fields i d
    → shapes (map field_shape (drop i fields)) ≡ shapes (shape d.schema ∷ map field_shape (drop (i + 1) fields))
field_next fields i d lt at =
    let one : shapes (map field_shape (drop i fields)) ≡ shapes (field_shape (get_or fields i d) ∷ map field_shape (drop (i + 1) fields)) = rw (add-one, drop-cons fields i d) refl in
    one ∙ ap (λ (s : Shape). shapes (s ∷ map field_shape (drop (i + 1) fields))) (ap field_shape (sym at) ∙ field_shape_is d)

pub fields_goes : (fields : List Field) (front : List Datum) (i : ℕ) (d : Field) (bytes : List ℕ) (x : Datum) (after : List ℕ)
    (total : Part (List Datum)) → i < length fields → d ≡ get_or fields i d → datum_at (shape d.schema) bytes ≡ Ok (x, after)
    → with_front front (fields_at (shapes (map field_shape (drop i fields))) bytes) ≡ total → with_front (front ++ x ∷ []) (fields_at (shapes (map field_shape (drop (i + 1) fields))) after) ≡ total
unfolding fields_at
fields_goes fields front i d bytes x after total lt at h so_far =
    let one : with_front front (fields_at (shapes (map field_shape (drop i fields))) bytes) ≡ with_front (front ++ x ∷ []) (fields_at (shapes (map field_shape (drop (i + 1) fields))) after) = rw
    (field_next fields i d lt at, h) (regroup front x (fields_at (shapes (map field_shape (drop (i + 1) fields))) after)) in
    sym one ∙ so_far

pub fields_stops : (e : Stop) (fields : List Field) (front : List Datum) (i : ℕ) (d : Field) (bytes : List ℕ)
    (total : Part (List Datum)) → i < length fields → d ≡ get_or fields i d → Stops e (datum_at (shape d.schema) bytes)
    → with_front front (fields_at (shapes (map field_shape (drop i fields))) bytes) ≡ total → Stops e total
unfolding fields_at
fields_stops e fields front i d bytes total lt at h so_far =
    let more : Datum × List ℕ → Part (List Datum) = λ first. fields_at (shapes (map field_shape (drop (i + 1) fields))) first.1 >>= λ others. Ok (first.0 ∷ others.0, others.1) in
    let one : with_front front (fields_at (shapes (map field_shape (drop i fields))) bytes) ≡ with_front front (datum_at (shape d.schema) bytes >>= more) = rw (field_next fields i d lt at) refl in
    stops_along e (with_front front (datum_at (shape d.schema) bytes >>= more)) total (stops_first e front (datum_at (shape d.schema) bytes) more h) (sym one ∙ so_far)

pub fields_done : (fields : List Field) (front : List Datum) (i : ℕ) (bytes : List ℕ) (total : Part (List Datum))
    → length fields ≤ i → with_front front (fields_at (shapes (map field_shape (drop i fields))) bytes) ≡ total
    → total ≡ Ok (front, bytes)
unfolding fields_at
fields_done fields front i bytes total le so_far =
    let k : drop i fields ≡ [] = drop_all i fields le in
    let one : with_front front (fields_at (shapes (map field_shape (drop i fields))) bytes) ≡ Ok (front, bytes) = rw k (ends_front front bytes) in
    sym so_far ∙ one
