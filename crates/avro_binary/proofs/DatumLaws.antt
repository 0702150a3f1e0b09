-- Datums of every shape are read by their grammar.
use Rattle.std.proofs.Common.{◌≡◌, ◌⊎◌, ℕ, zero, suc, ◌<◌, ◌≤◌, Bool, true, false, cond, eqb, List, [], ◌∷◌, ◌++◌, length, Ok, Err, refl, sym, ap, subst, ◌∙◌, inl, inr, arith}
use Rattle.std.proofs.lemmas.Bool.{cases_lt}
use Rattle.std.proofs.lemmas.List.{length-append, nil_from_length}
use Rattle.plain_types.specs.Steps.{◌>>=◌}
use Rattle.avro_binary.specs.declared.fault.FaultKind.TheVariants.{Branch}
use Rattle.avro_binary.specs.declared.fault.Spot.{Spot}
use Rattle.avro_binary.specs.declared.datum.Datum.{Datum}
use Rattle.avro_binary.specs.declared.datum.Datum.TheVariants as datum
use Rattle.avro_binary.specs.declared.datum.MapPair.{MapPair}
use Rattle.avro_binary.specs.Answer.{Part, ended, spot}
use Rattle.avro_binary.specs.Number.{count_at, counted_at, groups_at}
use Rattle.avro_binary.specs.Shape.{Shape, null_shape, boolean_shape, int_shape, long_shape, bytes_shape, text_shape, record_shape, enum_shape, array_shape, map_shape, union_shape, fixed_shape, Shapes, no_shapes, more_shapes, shape_count}
use Rattle.avro_binary.specs.Reading.{under, boolean_at, items_at, blocks_at, pair_at, datum_at, fields_at, branch_at}
use Rattle.avro_binary.specs.Grammar.{Then, FailsThen, As, ReadsNumber, ReadsIndex, ReadsCount, FailsCount, ReadsItems, FailsItems, joined, ReadsAll, FailsAll, ReadsBoolean, FailsBoolean, ReadsPair, FailsPair, Reads, ReadsFields, ReadsBranch, Fails, FailsFields, FailsBranch, IsNumber}
use Rattle.avro_binary.proofs.Laws.{Law, done, same_value, same_rest, bind_ok, bind_err, ok_no_err, err_no_ok, law_then, law_under, law_ok, law_as, law_along}
use Rattle.avro_binary.proofs.Loops.{ne-eqb}
use Rattle.avro_binary.proofs.PartLaws.{int_law, long_law, index_law, front_law, bytes_law, text_law, count_law}

-- ---- items

items_back : {A : Type 0} (reads : List ℕ → A → List ℕ → Type 0) (count : ℕ) (bytes : List ℕ) (ys : List A) (rest : List ℕ)
    → ReadsItems reads (suc count) bytes ys rest → Then (reads bytes)
    (λ x after. As (λ xs. x ∷ xs) (ReadsItems reads count after)) ys rest
items_back reads count bytes [] rest h = let e : 0 ≡ suc count = h.0 in absurd (omega arith)
items_back reads count bytes (y ∷ ys) rest h = let e : suc (length ys) ≡ suc count = h.0 in (y, h.1.0, h.1.1, (ys, (omega arith, h.1.2), refl))

items_to : {A : Type 0} (reads : List ℕ → A → List ℕ → Type 0) (count : ℕ) (bytes : List ℕ) (ys : List A) (rest : List ℕ)
    → Then (reads bytes) (λ x after. As (λ xs. x ∷ xs) (ReadsItems reads count after)) ys rest
    → ReadsItems reads (suc count) bytes ys rest
items_to {A = A} reads count bytes ys rest (x, after, r, (xs, (len, each), e)) = subst (λ (zs : List A). ReadsItems reads (suc count) bytes zs rest) (sym e) (ap suc len, (after, r, each))

fails_items_to : {A : Type 0} (reads : List ℕ → A → List ℕ → Type 0) (fails : List ℕ → Spot → Type 0) (count : ℕ) (bytes : List ℕ)
    (f : Spot) → FailsThen (fails bytes) (reads bytes) (λ x after. FailsItems reads fails count after) f
    → FailsItems reads fails (suc count) bytes f
fails_items_to reads fails count bytes f (inl h) = ([], omega arith, h)
fails_items_to reads fails count bytes f (inr (x, after, r, (xs, lt, h))) = (x ∷ xs, omega arith, (after, r, h))

fails_items_back : {A : Type 0} (reads : List ℕ → A → List ℕ → Type 0) (fails : List ℕ → Spot → Type 0) (count : ℕ)
    (bytes : List ℕ) (f : Spot) → FailsItems reads fails (suc count) bytes f
    → FailsThen (fails bytes) (reads bytes) (λ x after. FailsItems reads fails count after) f
fails_items_back reads fails count bytes f ([], lt, h) = inl h
fails_items_back reads fails count bytes f (x ∷ xs, lt, (after, r, h)) = inr (x, after, r, (xs, omega arith, h))

no_items_only : {A : Type 0} (reads : List ℕ → A → List ℕ → Type 0) (bytes : List ℕ) (ys : List A) (rest : List ℕ)
    → ReadsItems reads 0 bytes ys rest → (ys ≡ []) × (bytes ≡ rest)
no_items_only reads bytes [] rest h = (refl, h.1)
no_items_only reads bytes (y ∷ ys) rest h = let e : suc (length ys) ≡ 0 = h.0 in absurd (omega arith)

no_items_to : {A : Type 0} (reads : List ℕ → A → List ℕ → Type 0) (bytes : List ℕ) (ys : List A) (rest : List ℕ) → (ys ≡ [])
    × (bytes ≡ rest) → ReadsItems reads 0 bytes ys rest
no_items_to {A = A} reads bytes ys rest h = subst (λ (zs : List A). ReadsItems reads 0 bytes zs rest) (sym h.0) (refl, h.1)

pub items_law : {A : Type 0} (reads : List ℕ → A → List ℕ → Type 0) (fails : List ℕ → Spot → Type 0) (reader : List ℕ → Part A)
    → ((bytes : List ℕ) → Law bytes (reads bytes) (fails bytes) (reader bytes))
    → (count : ℕ) (bytes : List ℕ) → Law bytes (ReadsItems reads count bytes) (FailsItems reads fails count bytes) (items_at reader count bytes)
unfolding items_at
items_law reads fails reader law zero bytes = law_as (ReadsItems reads 0 bytes) (FailsItems reads fails 0 bytes) (law_ok [] bytes) (λ ys rest h. no_items_to reads bytes ys rest h)
    (λ ys rest h. no_items_only reads bytes ys rest h) (λ f h. absurd h) (λ f h. absurd (let lt : length h.0 < 0 = h.1 in omega arith))
items_law reads fails reader law (suc count) bytes =
    law_as (ReadsItems reads (suc count) bytes) (FailsItems reads fails (suc count) bytes)
    (law_then (λ x after. As (λ xs. x ∷ xs) (ReadsItems reads count after)) (λ x after. FailsItems reads fails count after) (λ first. under (λ xs. first.0 ∷ xs) (items_at reader count first.1))
    (law bytes) (λ x after e. law_under (λ xs. x ∷ xs) (items_law reads fails reader law count after)))
    (λ ys rest h. items_to reads count bytes ys rest h) (λ ys rest h. items_back reads count bytes ys rest h) (λ f h. fails_items_to reads fails count bytes f h) (λ f h. fails_items_back reads fails count bytes f h)

-- ---- blocks

has_bytes : (spelling : List ℕ) (n : ℕ) → IsNumber spelling n → 0 < length spelling
has_bytes [] n is = absurd is
has_bytes (b ∷ bs) n is = omega arith

not_longer : (bytes after : List ℕ) → ((front : List ℕ) × (bytes ≡ front ++ after)) → length after ≤ length bytes
not_longer bytes after p = let e : length bytes ≡ length (p.0 ++ after) = ap length p.1 in omega (arith, length-append p.0 after)

number_shorter : (bytes : List ℕ) (n : ℕ) (rest : List ℕ) → ReadsNumber bytes n rest → length rest < length bytes
number_shorter bytes n rest r =
    let some : 0 < length r.spelling = has_bytes r.spelling n r.is in
    let e : length bytes ≡ length (r.spelling ++ rest) = ap length r.parts in
    omega (arith, length-append r.spelling rest)

count_shorter : (bytes : List ℕ) (count : ℕ) (rest : List ℕ) → ReadsCount bytes count rest → length rest < length bytes
count_shorter bytes count rest (n, after, (m, r, rule, e), inl (z, c, same)) = let lt : length after < length bytes = number_shorter bytes m after r in let e : length after ≡ length rest = ap length same in omega arith
count_shorter bytes count rest (n, after, (m, r, rule, e), inr (o, c, (size, (k, s, even, half)))) = let lt : length after < length bytes = number_shorter bytes m after r in let less : length rest < length after = number_shorter after k rest s in omega arith

-- what stands after a count
abbrev Counted : {A : Type 0} → (List ℕ → A → List ℕ → Type 0) → ℕ → List ℕ → List A → List ℕ → Type 0
Counted reads count bytes ys rest = ((count ≡ 0) × (ys ≡ []) × (bytes ≡ rest)) ⊎ ((0 < count) × Then (ReadsItems reads count bytes) (λ xs after. As (λ zs. xs ++ zs) (ReadsAll reads after)) ys rest)

abbrev FailsCounting : {A : Type 0} → (List ℕ → A → List ℕ → Type 0) → (List ℕ → Spot → Type 0) → ℕ → List ℕ → Spot → Type 0
FailsCounting reads fails count bytes f = (0 < count) × FailsThen (FailsItems reads fails count bytes) (ReadsItems reads count bytes) (λ xs after. FailsAll reads fails after) f

blocks_to : {A : Type 0} (reads : List ℕ → A → List ℕ → Type 0) (bytes : List ℕ) (ys : List A) (rest : List ℕ)
    → Then (ReadsCount bytes) (Counted reads) ys rest → ReadsAll reads bytes ys rest
blocks_to reads bytes ys rest (count, mid, r, inl (z, none, same)) = ([], subst (λ (t : List ℕ). ReadsCount bytes 0 t) same (subst (λ (n : ℕ). ReadsCount bytes n mid) z r), none)
blocks_to {A = A} reads bytes ys rest (count, mid, r, inr (some, (xs, after, (len, each), (zs, (blocks, more, es), e)))) =
    (xs ∷ blocks, (after, (mid, subst (λ (n : ℕ). 0 < n) (sym len) some, subst (λ (n : ℕ). ReadsCount bytes n mid) (sym len) r, each), more), e ∙ ap (λ (t : List A). xs ++ t) es)

blocks_back : {A : Type 0} (reads : List ℕ → A → List ℕ → Type 0) (bytes : List ℕ) (ys : List A) (rest : List ℕ)
    → ReadsAll reads bytes ys rest → Then (ReadsCount bytes) (Counted reads) ys rest
blocks_back reads bytes ys rest ([], r, e) = (0, rest, r, inl (refl, e, refl))
blocks_back reads bytes ys rest (xs ∷ blocks, (after, (mid, some, r, each), more), e) = (length xs, mid, r, inr (some, (xs, after, (refl, each), (joined blocks, (blocks, more, refl), e))))

fails_blocks_to : {A : Type 0} (reads : List ℕ → A → List ℕ → Type 0) (fails : List ℕ → Spot → Type 0) (bytes : List ℕ) (f : Spot)
    → FailsThen (FailsCount bytes) (ReadsCount bytes) (FailsCounting reads fails) f → FailsAll reads fails bytes f
fails_blocks_to reads fails bytes f (inl h) = ([], inl h)
fails_blocks_to reads fails bytes f (inr (count, mid, r, (some, inl h))) = ([], inr (count, mid, some, r, h))
fails_blocks_to reads fails bytes f (inr (count, mid, r, (some, inr (xs, after, (len, each), (blocks, h))))) =
    (xs ∷ blocks, (after, (mid, subst (λ (n : ℕ). 0 < n) (sym len) some, subst (λ (n : ℕ). ReadsCount bytes n mid) (sym len) r, each), h))

fails_blocks_back : {A : Type 0} (reads : List ℕ → A → List ℕ → Type 0) (fails : List ℕ → Spot → Type 0) (bytes : List ℕ)
    (f : Spot) → FailsAll reads fails bytes f → FailsThen (FailsCount bytes) (ReadsCount bytes) (FailsCounting reads fails) f
fails_blocks_back reads fails bytes f ([], inl h) = inl h
fails_blocks_back reads fails bytes f ([], inr (count, mid, some, r, h)) = inr (count, mid, r, (some, inl h))
fails_blocks_back reads fails bytes f (xs ∷ blocks, (after, (mid, some, r, each), h)) = inr (length xs, mid, r, (some, inr (xs, after, (refl, each), (blocks, h))))

after_count : {A : Type 0} → (List ℕ → Part A) → ℕ → ℕ × List ℕ → Part (List A)
after_count reader more count = cond (eqb count.0 0) (Ok ([], count.1)) (items_at reader count.0 count.1 >>= λ block. under (λ others. block.0 ++ others) (blocks_at reader more block.1))

zero_or_more : (n : ℕ) → (n ≡ 0) ⊎ (0 < n)
zero_or_more n = elim (cases_lt 0 n) [ inl lt ↦ inr lt | inr le ↦ inl (omega arith) ]

not_both : {P : Type 0} (n : ℕ) → n ≡ 0 → 0 < n → P
not_both n e lt = absurd (omega arith)

counted_zero : {A : Type 0} (reads : List ℕ → A → List ℕ → Type 0) (fails : List ℕ → Spot → Type 0) (reader : List ℕ → Part A)
    (more count : ℕ) (bytes : List ℕ) → count ≡ 0 → Law bytes (Counted reads count bytes) (FailsCounting reads fails count bytes)
    (after_count reader more (count, bytes))
unfolding after_count
counted_zero {A = A} reads fails reader more count bytes z =
    let is : after_count reader more (count, bytes) ≡ done {A = List A} [] bytes = ap (λ (b : Bool). cond b (Ok ([], bytes)) (items_at reader count bytes >>= λ block. under (λ others. block.0 ++ others) (blocks_at reader more block.1))) (ap (λ n. eqb n 0) z) in
    law_along (Ok ([], bytes)) (after_count reader more (count, bytes)) is
    (law_as (Counted reads count bytes) (FailsCounting reads fails count bytes) (law_ok {A = List A} [] bytes) (λ ys rest h. inl (z, h.0, h.1)) (λ ys rest h. elim h [ inl l ↦ (l.1, l.2) | inr r ↦ not_both count z r.0 ]) (λ f h. absurd h) (λ f h. not_both count z h.0))

counted_some : {A : Type 0} (reads : List ℕ → A → List ℕ → Type 0) (fails : List ℕ → Spot → Type 0) (reader : List ℕ → Part A)
    → ((bytes : List ℕ) → Law bytes (reads bytes) (fails bytes) (reader bytes)) → (more count : ℕ) (bytes : List ℕ)
    → ((after : List ℕ) → length after ≤ length bytes → Law after (ReadsAll reads after) (FailsAll reads fails after) (blocks_at reader more after)) → 0 < count → Law bytes (Counted reads count bytes) (FailsCounting reads fails count bytes) (after_count reader more (count, bytes))
unfolding after_count
counted_some {A = A} reads fails reader law more count bytes others some =
    let whole : Part (List A) = items_at reader count bytes >>= λ block. under (λ zs. block.0 ++ zs) (blocks_at reader more block.1) in
    let items = items_law reads fails reader law count bytes in
    let is : after_count reader more (count, bytes) ≡ whole = ap (λ (b : Bool). cond b (Ok ([], bytes)) whole) (ne-eqb count 0 (λ z. not_both count z some)) in
    law_along whole (after_count reader more (count, bytes)) is
    (law_as (Counted reads count bytes) (FailsCounting reads fails count bytes)
    (law_then (λ xs after. As (λ zs. xs ++ zs) (ReadsAll reads after)) (λ xs after. FailsAll reads fails after) (λ block. under (λ zs. block.0 ++ zs) (blocks_at reader more block.1)) items
    (λ xs after e. law_under (λ zs. xs ++ zs) (others after (not_longer bytes after (items.parts xs after e)))))
    (λ ys rest h. inr (some, h)) (λ ys rest h. elim h [ inl l ↦ not_both count l.0 some | inr r ↦ r.1 ]) (λ f h. (some, h)) (λ f h. h.1))

blocks_step_law : {A : Type 0} (reads : List ℕ → A → List ℕ → Type 0) (fails : List ℕ → Spot → Type 0)
    (reader : List ℕ → Part A) → ((bytes : List ℕ) → Law bytes (reads bytes) (fails bytes) (reader bytes))
    → (more : ℕ) (bytes : List ℕ)
    → ((after : List ℕ) → length after < length bytes → Law after (ReadsAll reads after) (FailsAll reads fails after) (blocks_at reader more after)) → Law bytes (ReadsAll reads bytes) (FailsAll reads fails bytes) (blocks_at reader (suc more) bytes)
unfolding blocks_at after_count
blocks_step_law reads fails reader law more bytes others =
    let count = count_law bytes in
    law_as (ReadsAll reads bytes) (FailsAll reads fails bytes)
    (law_then (Counted reads) (FailsCounting reads fails) (after_count reader more) count
    (λ n mid e. let shorter : length mid < length bytes = count_shorter bytes n mid (count.found n mid e) in elim (zero_or_more n) [
      | inl z ↦ counted_zero reads fails reader more n mid z
      | inr some ↦ counted_some reads fails reader law more n mid (λ after le. others after (omega arith)) some
    ]))
    (λ ys rest h. blocks_to reads bytes ys rest h) (λ ys rest h. blocks_back reads bytes ys rest h) (λ f h. fails_blocks_to reads fails bytes f h) (λ f h. fails_blocks_back reads fails bytes f h)

no_blocks : {A : Type 0} (reader : List ℕ → Part A) (bytes : List ℕ) → bytes ≡ [] → blocks_at reader 0 bytes ≡ blocks_at reader (suc 0) bytes
unfolding blocks_at count_at counted_at groups_at
no_blocks reader bytes e = sym (ap (λ (t : List ℕ). blocks_at reader (suc 0) t) e)

pub blocks_law : {A : Type 0} (reads : List ℕ → A → List ℕ → Type 0) (fails : List ℕ → Spot → Type 0) (reader : List ℕ → Part A)
    → ((bytes : List ℕ) → Law bytes (reads bytes) (fails bytes) (reader bytes))
    → (more : ℕ) (bytes : List ℕ) → length bytes ≤ more → Law bytes (ReadsAll reads bytes) (FailsAll reads fails bytes) (blocks_at reader more bytes)
blocks_law reads fails reader law zero bytes le =
    law_along (blocks_at reader (suc 0) bytes) (blocks_at reader 0 bytes) (no_blocks reader bytes (nil_from_length bytes (omega arith)))
    (blocks_step_law reads fails reader law 0 bytes (λ after lt. absurd (omega arith)))
blocks_law reads fails reader law (suc more) bytes le = blocks_step_law reads fails reader law more bytes (λ after lt. blocks_law reads fails reader law more after (omega arith))

-- ---- datums

boolean_found : (bytes : List ℕ) (b : Bool) (rest : List ℕ) → boolean_at bytes ≡ Ok (b, rest) → ReadsBoolean bytes (datum.Boolean b) rest
unfolding boolean_at
boolean_found [] b rest e = absurd (err_no_ok b rest ended e)
boolean_found (zero ∷ bytes) b rest e = inl (ap (λ (t : List ℕ). 0 ∷ t) (same_rest false b bytes rest e), ap (λ (c : Bool). datum.Boolean c) (sym (same_value false b bytes rest e)))
boolean_found (suc zero ∷ bytes) b rest e = inr (ap (λ (t : List ℕ). 1 ∷ t) (same_rest true b bytes rest e), ap (λ (c : Bool). datum.Boolean c) (sym (same_value true b bytes rest e)))
boolean_found (suc (suc n) ∷ bytes) b rest e = absurd (err_no_ok b rest (spot Branch (suc (suc n) ∷ bytes)) e)

boolean_fault : (bytes : List ℕ) (f : Spot) → boolean_at bytes ≡ Err f → FailsBoolean bytes f
unfolding boolean_at
boolean_fault [] f e = inl (refl, cc)
boolean_fault (zero ∷ bytes) f e = absurd (ok_no_err false bytes f e)
boolean_fault (suc zero ∷ bytes) f e = absurd (ok_no_err true bytes f e)
boolean_fault (suc (suc n) ∷ bytes) f e = inr (suc (suc n), bytes, refl, omega arith, cc)

boolean_bad : (b : ℕ) (rest : List ℕ) → 2 ≤ b → boolean_at (b ∷ rest) ≡ Err (spot Branch (b ∷ rest))
unfolding boolean_at
boolean_bad zero rest two = absurd (omega arith)
boolean_bad (suc zero) rest two = absurd (omega arith)
boolean_bad (suc (suc n)) rest two = refl

boolean_first : (bytes : List ℕ) (f : Spot) → FailsBoolean bytes f → boolean_at bytes ≡ Err f
unfolding boolean_at
boolean_first bytes f (inl (none, e)) = ap boolean_at none ∙ ap (λ (g : Spot). Err g) (sym e)
boolean_first bytes f (inr (b, rest, is, two, e)) = ap boolean_at is ∙ boolean_bad b rest two ∙ ap (λ (t : List ℕ). Err (spot Branch t)) (sym is) ∙ ap (λ (g : Spot). Err g) (sym e)

boolean_law : (bytes : List ℕ) → Law bytes (ReadsBoolean bytes) (FailsBoolean bytes) (under datum.Boolean (boolean_at bytes))
unfolding boolean_at
boolean_law bytes = record {
  found = λ d rest e. (let p = bind_ok (boolean_at bytes) (λ x. Ok (datum.Boolean x.0, x.1)) d rest e in
      let same : p.1 ≡ rest = same_rest (datum.Boolean p.0) d p.1 rest p.3 in
      let value : datum.Boolean p.0 ≡ d = same_value (datum.Boolean p.0) d p.1 rest p.3 in
      subst (λ (x : Datum). ReadsBoolean bytes x rest) value (subst (λ (t : List ℕ). ReadsBoolean bytes (datum.Boolean p.0) t) same (boolean_found bytes p.0 p.1 p.2)));
  only = λ d rest h. elim h [
    | inl l ↦ ap (λ t. under datum.Boolean (boolean_at t)) l.0 ∙ ap (λ (x : Datum). done x rest) (sym l.1)
    | inr r ↦ ap (λ t. under datum.Boolean (boolean_at t)) r.0 ∙ ap (λ (x : Datum). done x rest) (sym r.1)
  ];
  fault = λ f e. elim (bind_err (boolean_at bytes) (λ x. Ok (datum.Boolean x.0, x.1)) f e) [ inl l ↦ boolean_fault bytes f l | inr r ↦ absurd (ok_no_err (datum.Boolean r.0) r.1 f r.3) ];
  first = λ f h. ap (under datum.Boolean) (boolean_first bytes f h);
  parts = λ d rest e. (let p = bind_ok (boolean_at bytes) (λ x. Ok (datum.Boolean x.0, x.1)) d rest e in
      let same : p.1 ≡ rest = same_rest (datum.Boolean p.0) d p.1 rest p.3 in
      elim (boolean_found bytes p.0 p.1 p.2) [
        | inl l ↦ (0 ∷ [], l.0 ∙ ap (λ (t : List ℕ). 0 ∷ t) same)
        | inr r ↦ (1 ∷ [], r.0 ∙ ap (λ (t : List ℕ). 1 ∷ t) same)
      ]);
}

pair_law : (reads : List ℕ → Datum → List ℕ → Type 0) (fails : List ℕ → Spot → Type 0) (reader : List ℕ → Part Datum)
    → ((bytes : List ℕ) → Law bytes (reads bytes) (fails bytes) (reader bytes))
    → (bytes : List ℕ) → Law bytes (ReadsPair reads bytes) (FailsPair fails bytes) (pair_at reader bytes)
unfolding pair_at
pair_law reads fails reader law bytes =
    let named : List ℕ → Datum → MapPair = λ key value. record { key = key; value = value } in
    law_then (λ key after. As (named key) (reads after)) (λ key after. fails after) (λ key. under (named key.0) (reader key.1)) (text_law bytes) (λ key after e. law_under (named key) (law after))

index_in : (limit : ℕ) (bytes : List ℕ) (index : ℕ) (rest : List ℕ) → ReadsIndex limit bytes index rest → index < limit
index_in limit bytes index rest (n, r, (even, lt), e) = omega arith

mutual
  unfolding datum_at fields_at branch_at Reads ReadsFields ReadsBranch Fails FailsFields FailsBranch

  pub datum_law : (s : Shape) (bytes : List ℕ) → Law bytes (Reads s bytes) (Fails s bytes) (datum_at s bytes)
  datum_law null_shape bytes = law_ok datum.Null bytes
  datum_law boolean_shape bytes = boolean_law bytes
  datum_law int_shape bytes = law_under datum.Int (int_law bytes)
  datum_law long_shape bytes = law_under datum.Long (long_law bytes)
  datum_law bytes_shape bytes = law_under datum.Bytes (bytes_law bytes)
  datum_law text_shape bytes = law_under datum.Text (text_law bytes)
  datum_law (record_shape fields) bytes = law_under datum.Record (fields_law fields bytes)
  datum_law (enum_shape count) bytes = law_under datum.Enum (index_law count bytes)
  datum_law (array_shape items) bytes = law_under datum.Array (blocks_law (Reads items) (Fails items) (datum_at items) (datum_law items) (length bytes) bytes (omega arith))
  datum_law (map_shape values) bytes = law_under datum.Map (blocks_law (ReadsPair (Reads values)) (FailsPair (Fails values)) (pair_at (datum_at values)) (pair_law (Reads values) (Fails values) (datum_at values) (datum_law values)) (length bytes) bytes (omega arith))
  datum_law (union_shape branches) bytes =
      let index = index_law (shape_count branches) bytes in
      law_then (λ branch after. As (datum.Union branch) (ReadsBranch branches branch after)) (FailsBranch branches) (λ branch. under (datum.Union branch.0) (branch_at branches branch.0 branch.1)) index
      (λ branch after e. law_under (datum.Union branch) (branch_law branches branch after (index_in (shape_count branches) bytes branch after (index.found branch after e))))
  datum_law (fixed_shape size) bytes = law_under datum.Fixed (front_law size bytes)

  pub fields_law : (ss : Shapes) (bytes : List ℕ) → Law bytes (ReadsFields ss bytes) (FailsFields ss bytes) (fields_at ss bytes)
  fields_law no_shapes bytes = law_ok [] bytes
  fields_law (more_shapes s ss) bytes =
      law_then (λ d after. As (λ others. d ∷ others) (ReadsFields ss after)) (λ d after. FailsFields ss after) (λ first. under (λ others. first.0 ∷ others) (fields_at ss first.1)) (datum_law s bytes) (λ d after e. law_under (λ others. d ∷ others) (fields_law ss after))

  pub branch_law : (ss : Shapes) (index : ℕ) (bytes : List ℕ) → index < shape_count ss
      → Law bytes (ReadsBranch ss index bytes) (FailsBranch ss index bytes) (branch_at ss index bytes)
  branch_law no_shapes index bytes lt = absurd (omega arith)
  branch_law (more_shapes s ss) zero bytes lt = datum_law s bytes
  branch_law (more_shapes s ss) (suc index) bytes lt = branch_law ss index bytes (omega arith)
