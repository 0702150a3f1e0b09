-- Cutting a list into pieces.
use Rattle.std.proofs.Common.{◌≡◌, ℕ, zero, suc, ◌-◌, ◌<◌, ◌≤◌, false, eqb, List, [], ◌∷◌, ◌++◌, length, take, drop, map, refl, sym, ap, ◌∙◌, append_assoc, arith}
use Rattle.std.specs.List.{concat, AllByRecursion}
use Rattle.std.proofs.lemmas.List.{length-drop, take-append-drop, append-nil, nil_from_length}
use Rattle.avro_binary.specs.declared.datum.Datum as datums
use Rattle.avro_binary.specs.Grammar.{joined}
use Rattle.avro_container.specs.ContainerText.{pieces, block_text, blocks_text}

shorter : {A : Type 0} (limit : ℕ) (x : A) (xs : List A) → 0 < limit → length (drop limit (x ∷ xs)) ≤ length xs
shorter limit x xs some = let e : length (drop limit (x ∷ xs)) ≡ length (x ∷ xs) - limit = length-drop limit (x ∷ xs) in omega arith

pub enough : {A : Type 0} (limit m n : ℕ) (xs : List A) → 0 < limit → length xs ≤ m → length xs ≤ n → pieces limit m xs ≡ pieces limit n xs
unfolding pieces
enough limit zero zero xs some p q = refl
enough limit zero (suc n) [] some p q = refl
enough limit zero (suc n) (x ∷ xs) some p q = absurd (omega arith)
enough limit (suc m) zero [] some p q = refl
enough limit (suc m) zero (x ∷ xs) some p q = absurd (omega arith)
enough limit (suc m) (suc n) [] some p q = refl
enough {A = A} limit (suc m) (suc n) (x ∷ xs) some p q =
    let less : length (drop limit (x ∷ xs)) ≤ length xs = shorter limit x xs some in
    ap (λ (ys : List (List A)). take limit (x ∷ xs) ∷ ys) (enough limit m n (drop limit (x ∷ xs)) some (omega arith) (omega arith))

-- a first piece, and the others
pub first_piece : {A : Type 0} (limit : ℕ) (xs : List A) → 0 < limit → 0 < length xs
    → pieces limit (length xs) xs ≡ take limit xs ∷ pieces limit (length (drop limit xs)) (drop limit xs)
unfolding pieces
first_piece limit [] some h = absurd (omega arith)
first_piece {A = A} limit (x ∷ xs) some h = ap (λ (ys : List (List A)). take limit (x ∷ xs) ∷ ys) (enough limit (length xs) (length (drop limit (x ∷ xs))) (drop limit (x ∷ xs)) some (shorter limit x xs some) (omega arith))

pub blocks_go_on : (limit : ℕ) (ds front rest : List datums.Datum) (before now total : List ℕ) → 0 < limit → 0 < length ds
    → front ≡ take limit ds → rest ≡ drop limit ds → now ≡ before ++ block_text front
    → before ++ blocks_text limit ds ≡ total → now ++ blocks_text limit rest ≡ total
blocks_go_on limit ds front rest before now total some h is others written so_far =
    let whole : blocks_text limit ds ≡ block_text (take limit ds) ++ blocks_text limit (drop limit ds) = ap (λ (ps : List (List datums.Datum)). concat (map block_text ps)) (first_piece limit ds some h) in
    ap (λ (t : List ℕ). t ++ blocks_text limit rest) (written ∙ ap (λ (t : List datums.Datum). before ++ block_text t) is)
    ∙ ap (λ (t : List datums.Datum). (before ++ block_text (take limit ds)) ++ blocks_text limit t) others
    ∙ append_assoc before (block_text (take limit ds)) (blocks_text limit (drop limit ds))
    ∙ ap (λ (t : List ℕ). before ++ t) (sym whole)
    ∙ so_far

no_piece : (limit : ℕ) (ds : List datums.Datum) → ds ≡ [] → blocks_text limit ds ≡ []
unfolding pieces
no_piece limit ds e = ap (blocks_text limit) e

pub blocks_are_done : (limit : ℕ) (ds : List datums.Datum) (now total : List ℕ) → length ds ≡ 0 → now ++ blocks_text limit ds ≡ total → now ≡ total
blocks_are_done limit ds now total none so_far = sym (append-nil now) ∙ ap (λ (t : List ℕ). now ++ t) (sym (no_piece limit ds (nil_from_length ds none))) ∙ so_far

pub some_left : (n : ℕ) → false ≡ eqb n 0 → 0 < n
some_left zero e = absurd cc
some_left (suc n) e = omega arith

-- ---- what the pieces hold

pub joined_pieces : {A : Type 0} (limit more : ℕ) (xs : List A) → 0 < limit → length xs ≤ more → xs ≡ joined (pieces limit more xs)
unfolding pieces
joined_pieces limit zero [] some le = refl
joined_pieces limit zero (x ∷ xs) some le = absurd (omega arith)
joined_pieces limit (suc more) [] some le = refl
joined_pieces {A = A} limit (suc more) (x ∷ xs) some le =
    let less : length (drop limit (x ∷ xs)) ≤ length xs = shorter limit x xs some in
    sym (take-append-drop limit (x ∷ xs)) ∙ ap (λ (ys : List A). take limit (x ∷ xs) ++ ys) (joined_pieces limit more (drop limit (x ∷ xs)) some (omega arith))

all_taken : {A : Type 0} (P : A → Type 0) (n : ℕ) (xs : List A) → AllByRecursion P xs → AllByRecursion P (take n xs)
all_taken P zero xs h = tt
all_taken P (suc n) [] h = tt
all_taken P (suc n) (x ∷ xs) h = (h.0, all_taken P n xs h.1)

all_dropped : {A : Type 0} (P : A → Type 0) (n : ℕ) (xs : List A) → AllByRecursion P xs → AllByRecursion P (drop n xs)
all_dropped P zero xs h = h
all_dropped P (suc n) [] h = tt
all_dropped P (suc n) (x ∷ xs) h = all_dropped P n xs h.1

pub all_pieces : {A : Type 0} (P : A → Type 0) (limit more : ℕ) (xs : List A) → AllByRecursion P xs
    → AllByRecursion (λ piece. AllByRecursion P piece) (pieces limit more xs)
unfolding pieces
all_pieces P limit zero xs h = tt
all_pieces P limit (suc more) [] h = tt
all_pieces P limit (suc more) (x ∷ xs) h = (all_taken P limit (x ∷ xs) h, all_pieces P limit more (drop limit (x ∷ xs)) (all_dropped P limit (x ∷ xs) h))
