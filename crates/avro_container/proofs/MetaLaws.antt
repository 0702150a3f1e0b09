-- The metadata is read by its grammar.
use Rattle.std.proofs.Common.{◌≡◌, ℕ, zero, suc, ◌-◌, Bool, true, false, cond, eqb, List, [], ◌∷◌, ◌++◌, length, Option, Some, None, is_some, Result, Ok, Err, refl, sym, ap, subst, ◌∙◌, append_assoc, arith}
use Rattle.std.proofs.lemmas.List.{append-nil}
use Rattle.plain_types.specs.Steps.{◌>>=◌}
use Rattle.avro_binary.specs.declared.fault.Spot.{Spot}
use Rattle.avro_binary.specs.Answer as parts
use Rattle.avro_binary.specs.Number.{text_at, bytes_at, count_at}
use Rattle.avro_binary.specs.Reading as reading
use Rattle.avro_binary.specs.Grammar.{FailsThen, As, ReadsText, FailsText, ReadsBytes, FailsBytes, ReadsAll}
use Rattle.avro_binary.proofs.CallerLemmas as laws
use Rattle.avro_binary.proofs.CallerLemmas.{text_law, bytes_law, blocks_law}
use Rattle.avro_container.specs.declared.fault.ContainerFault.{ContainerFault}
use Rattle.avro_container.specs.declared.fault.ContainerFault.TheVariants.{Short, Meta}
use Rattle.avro_container.specs.declared.pairs.MetaPair.{MetaPair}
use Rattle.avro_container.specs.Answer.{as_fault, head_fault}
use Rattle.avro_container.specs.Pairs.{value_of, key_at, pair_at, pairs_at, map_at}
use Rattle.avro_container.specs.Grammar.{ReadsMetaPair}
use Rattle.avro_container.proofs.KeyLaws.{NewKeys}
use Rattle.avro_container.proofs.Binds.{ok, bind_ok, bind_part, same_ok, guard_ok, err_no_ok}

-- a pair without a look at the pairs before it
abbrev meta_pair : List ℕ → List ℕ → MetaPair
meta_pair key value = record { key = key; value = value }

unfoldable pub meta_at : List ℕ → parts.Part MetaPair
meta_at bytes = ◌>>=◌ (text_at bytes) (λ key. reading.under (λ value. meta_pair key.0 value) (bytes_at key.1))

abbrev FailsPair : List ℕ → Spot → Type 0
FailsPair bytes = FailsThen (FailsText bytes) (ReadsText bytes) (λ key after. FailsBytes after)

meta_law : (bytes : List ℕ) → laws.Law bytes (ReadsMetaPair bytes) (FailsPair bytes) (meta_at bytes)
unfolding meta_at
meta_law bytes = laws.law_then (λ key after. As (λ value. meta_pair key value) (ReadsBytes after)) (λ key after. FailsBytes after)
    (λ key. reading.under (λ value. meta_pair key.0 value) (bytes_at key.1)) (text_law bytes) (λ key after e. laws.law_under (λ value. meta_pair key value) (bytes_law after))

-- ---- one pair

not_some : (found : Option (List ℕ)) → is_some found ≡ false → found ≡ None
not_some (Some x) e = absurd cc
not_some None e = refl

pair_found : (whole : ℕ) (before : List MetaPair) (bytes : List ℕ) (x : MetaPair × List ℕ) → pair_at whole before bytes ≡ Ok x
    → (meta_at bytes ≡ Ok x) × (value_of x.0.key before ≡ None)
unfolding pair_at key_at meta_at
pair_found whole before bytes x e =
    let k = bind_ok (key_at whole before bytes) (λ key. as_fault (head_fault whole) (bytes_at key.1) >>= λ value. Ok (meta_pair key.0 value.0, value.1)) x e in
    let t = bind_part (head_fault whole) (text_at bytes) (λ key. cond (is_some (value_of key.0 before)) (Err (Meta (whole - length bytes))) (Ok key)) k.0 k.1 in
    let g = guard_ok (is_some (value_of t.0.0 before)) t.0 k.0 (Meta (whole - length bytes)) t.2 in
    let v = bind_part (head_fault whole) (bytes_at k.0.1) (λ value. Ok (meta_pair k.0.0 value.0, value.1)) x k.2 in
    let same : (meta_pair k.0.0 v.0.0, v.0.1) ≡ x = same_ok (meta_pair k.0.0 v.0.0, v.0.1) x v.2 in
    let text : text_at bytes ≡ Ok k.0 = t.1 ∙ ap (λ (y : List ℕ × List ℕ). Ok y) g.1 in
    let read : meta_at bytes ≡ Ok x = ap (λ r. ◌>>=◌ r (λ key. reading.under (λ value. meta_pair key.0 value) (bytes_at key.1))) text ∙ ap (λ r. reading.under (λ value. meta_pair k.0.0 value) r) v.1 ∙ ap (λ (y : MetaPair × List ℕ). Ok y) same in
    let key : k.0.0 ≡ x.0.key = ap (λ (y : MetaPair × List ℕ). y.0.key) same in
    let fresh : value_of k.0.0 before ≡ None = subst (λ (y : List ℕ × List ℕ). value_of y.0 before ≡ None) g.1 (not_some (value_of t.0.0 before) g.0) in
    (read, subst (λ (y : List ℕ). value_of y before ≡ None) key fresh)

pair_again : (whole : ℕ) (before : List MetaPair) (bytes key mid value rest : List ℕ) → text_at bytes ≡ Ok (key, mid)
    → bytes_at mid ≡ Ok (value, rest) → value_of key before ≡ None → pair_at whole before bytes ≡ Ok (meta_pair key value, rest)
unfolding pair_at key_at
pair_again whole before bytes key mid value rest text read none = rw (text, none, read) refl

pair_only : (whole : ℕ) (before : List MetaPair) (bytes : List ℕ) (x : MetaPair × List ℕ) → meta_at bytes ≡ Ok x
    → value_of x.0.key before ≡ None → pair_at whole before bytes ≡ Ok x
unfolding meta_at
pair_only whole before bytes x e none =
    let t = laws.bind_ok (text_at bytes) (λ key. reading.under (λ value. meta_pair key.0 value) (bytes_at key.1)) x.0 x.1 e in
    let v = laws.bind_ok (bytes_at t.1) (λ value. Ok (meta_pair t.0 value.0, value.1)) x.0 x.1 t.3 in
    let same : meta_pair t.0 v.0 ≡ x.0 = laws.same_value (meta_pair t.0 v.0) x.0 v.1 x.1 v.3 in
    let rest : v.1 ≡ x.1 = laws.same_rest (meta_pair t.0 v.0) x.0 v.1 x.1 v.3 in
    let key : t.0 ≡ x.0.key = ap (λ (y : MetaPair). y.key) same in
    pair_again whole before bytes t.0 t.1 v.0 v.1 t.2 v.2 (subst (λ (y : List ℕ). value_of y before ≡ None) (sym key) none) ∙ ap (λ (y : MetaPair). ok (y, v.1)) same ∙ ap (λ (t : List ℕ). ok (x.0, t)) rest

-- ---- so many pairs

pub items_found : (whole count : ℕ) (before : List MetaPair) (bytes : List ℕ) (x : List MetaPair × List ℕ)
    → pairs_at whole count before bytes ≡ Ok x → (ps : List MetaPair) × (reading.items_at meta_at count bytes ≡ Ok (ps, x.1))
    × (x.0 ≡ before ++ ps) × NewKeys before ps
unfolding pairs_at reading.items_at
items_found whole zero before bytes x e =
    let same : (before, bytes) ≡ x = same_ok (before, bytes) x e in
    ([], ap (λ (y : List MetaPair × List ℕ). Ok ([], y.1)) same, ap (λ (y : List MetaPair × List ℕ). y.0) (sym same) ∙ sym (append-nil before), tt)
items_found whole (suc count) before bytes x e =
    let p = bind_ok (pair_at whole before bytes) (λ p. pairs_at whole count (before ++ p.0 ∷ []) p.1) x e in
    let one = pair_found whole before bytes p.0 p.1 in
    let more = items_found whole count (before ++ p.0.0 ∷ []) p.0.1 x p.2 in
    (p.0.0 ∷ more.0, ap (λ r. ◌>>=◌ r (λ first. reading.under (λ others. first.0 ∷ others) (reading.items_at meta_at count first.1))) one.0 ∙ ap (reading.under (λ others. p.0.0 ∷ others)) more.1, more.2 ∙ append_assoc before (p.0.0 ∷ []) more.0, (one.1, more.3))

pub items_only : (whole count : ℕ) (before : List MetaPair) (bytes : List ℕ) (ps : List MetaPair) (rest : List ℕ)
    → reading.items_at meta_at count bytes ≡ Ok (ps, rest) → NewKeys before ps
    → pairs_at whole count before bytes ≡ Ok (before ++ ps, rest)
unfolding pairs_at reading.items_at
items_only whole zero before bytes ps rest e new =
    let none : [] ≡ ps = laws.same_value [] ps bytes rest e in
    let same : bytes ≡ rest = laws.same_rest [] ps bytes rest e in
    ap (λ (t : List ℕ). ok (before, t)) same ∙ ap (λ (xs : List MetaPair). ok (xs, rest)) (sym (append-nil before) ∙ ap (λ (xs : List MetaPair). before ++ xs) none)
items_only whole (suc count) before bytes ps rest e new =
    let p = laws.bind_ok (meta_at bytes) (λ first. reading.under (λ others. first.0 ∷ others) (reading.items_at meta_at count first.1)) ps rest e in
    let q = laws.bind_ok (reading.items_at meta_at count p.1) (λ others. Ok (p.0 ∷ others.0, others.1)) ps rest p.3 in
    let is : p.0 ∷ q.0 ≡ ps = laws.same_value (p.0 ∷ q.0) ps q.1 rest q.3 in
    let same : q.1 ≡ rest = laws.same_rest (p.0 ∷ q.0) ps q.1 rest q.3 in
    let keys : NewKeys before (p.0 ∷ q.0) = subst (λ (xs : List MetaPair). NewKeys before xs) (sym is) new in
    let one = pair_only whole before bytes (p.0, p.1) p.2 keys.0 in
    let more = items_only whole count (before ++ p.0 ∷ []) p.1 q.0 q.1 q.2 keys.1 in
    ap (λ r. r >>= λ y. pairs_at whole count (before ++ y.0 ∷ []) y.1) one ∙ more ∙ ap (λ (xs : List MetaPair). ok (xs, q.1)) (append_assoc before (p.0 ∷ []) q.0 ∙ ap (λ (xs : List MetaPair). before ++ xs) is) ∙ ap (λ (t : List ℕ). ok (before ++ ps, t)) same

-- ---- the map

join_new : (before ps qs : List MetaPair) → NewKeys before ps → NewKeys (before ++ ps) qs → NewKeys before (ps ++ qs)
join_new before [] qs a b = subst (λ (xs : List MetaPair). NewKeys xs qs) (append-nil before) b
join_new before (p ∷ ps) qs a b = (a.0, join_new (before ++ p ∷ []) ps qs a.1 (subst (λ (xs : List MetaPair). NewKeys xs qs) (sym (append_assoc before (p ∷ []) ps)) b))

split_new : (before ps qs : List MetaPair) → NewKeys before (ps ++ qs) → NewKeys before ps × NewKeys (before ++ ps) qs
split_new before [] qs a = (tt, subst (λ (xs : List MetaPair). NewKeys xs qs) (sym (append-nil before)) a)
split_new before (p ∷ ps) qs a = let more = split_new (before ++ p ∷ []) ps qs a.1 in ((a.0, more.0), subst (λ (xs : List MetaPair). NewKeys xs qs) (append_assoc before (p ∷ []) ps) more.1)

-- what is read after a count, with and without a look at the pairs before it
abbrev counted : ℕ → ℕ → List MetaPair → ℕ → List ℕ → Bool → Result (List MetaPair × List ℕ) ContainerFault
counted whole more before count mid b = cond b (Ok (before, mid)) (pairs_at whole count before mid >>= λ x. map_at whole more x.0 x.1)

abbrev counted_meta : ℕ → ℕ → List ℕ → Bool → parts.Part (List MetaPair)
counted_meta more count mid b = cond b (Ok ([], mid)) (◌>>=◌ (reading.items_at meta_at count mid) (λ block. reading.under (λ others. block.0 ++ others) (reading.blocks_at meta_at more block.1)))

abbrev MapFound : ℕ → ℕ → Type 0
MapFound whole more = (before : List MetaPair) (bytes : List ℕ) (x : List MetaPair × List ℕ) → map_at whole more before bytes ≡ Ok x → (ps : List MetaPair) × (reading.blocks_at meta_at more bytes ≡ Ok (ps, x.1)) × (x.0 ≡ before ++ ps) × NewKeys before ps

abbrev MapOnly : ℕ → ℕ → Type 0
MapOnly whole more = (before : List MetaPair) (bytes : List ℕ) (ps : List MetaPair) (rest : List ℕ) → reading.blocks_at meta_at more bytes ≡ Ok (ps, rest) → NewKeys before ps → map_at whole more before bytes ≡ Ok (before ++ ps, rest)

counted_found : (whole more : ℕ) → MapFound whole more → (before : List MetaPair) (count : ℕ) (mid : List ℕ) (b : Bool)
    (x : List MetaPair × List ℕ) → counted whole more before count mid b ≡ Ok x → (ps : List MetaPair)
    × (counted_meta more count mid b ≡ Ok (ps, x.1)) × (x.0 ≡ before ++ ps) × NewKeys before ps
counted_found whole more others before count mid true x e =
    let same : (before, mid) ≡ x = same_ok (before, mid) x e in
    ([], ap (λ (y : List MetaPair × List ℕ). Ok ([], y.1)) same, ap (λ (y : List MetaPair × List ℕ). y.0) (sym same) ∙ sym (append-nil before), tt)
counted_found whole more others before count mid false x e =
    let y = bind_ok (pairs_at whole count before mid) (λ y. map_at whole more y.0 y.1) x e in
    let one = items_found whole count before mid y.0 y.1 in
    let rest = others y.0.0 y.0.1 x y.2 in
    let read : counted_meta more count mid false ≡ Ok (one.0 ++ rest.0, x.1) = ap (λ r. ◌>>=◌ r (λ block. reading.under (λ zs. block.0 ++ zs) (reading.blocks_at meta_at more block.1))) one.1 ∙ ap (reading.under (λ zs. one.0 ++ zs)) rest.1 in
    (one.0 ++ rest.0, read, rest.2 ∙ ap (λ (xs : List MetaPair). xs ++ rest.0) one.2 ∙ append_assoc before one.0 rest.0, join_new before one.0 rest.0 one.3 (subst (λ (xs : List MetaPair). NewKeys xs rest.0) one.2 rest.3))

counted_only : (whole more : ℕ) → MapOnly whole more → (before : List MetaPair) (count : ℕ) (mid : List ℕ) (b : Bool)
    (ps : List MetaPair) (rest : List ℕ) → counted_meta more count mid b ≡ Ok (ps, rest) → NewKeys before ps
    → counted whole more before count mid b ≡ Ok (before ++ ps, rest)
counted_only whole more others before count mid true ps rest e new =
    ap (λ (t : List ℕ). ok (before, t)) (laws.same_rest [] ps mid rest e) ∙ ap (λ (xs : List MetaPair). ok (xs, rest)) (sym (append-nil before) ∙ ap (λ (xs : List MetaPair). before ++ xs) (laws.same_value [] ps mid rest e))
counted_only whole more others before count mid false ps rest e new =
    let p = laws.bind_ok (reading.items_at meta_at count mid) (λ block. reading.under (λ zs. block.0 ++ zs) (reading.blocks_at meta_at more block.1)) ps rest e in
    let q = laws.bind_ok (reading.blocks_at meta_at more p.1) (λ zs. Ok (p.0 ++ zs.0, zs.1)) ps rest p.3 in
    let is : p.0 ++ q.0 ≡ ps = laws.same_value (p.0 ++ q.0) ps q.1 rest q.3 in
    let same : q.1 ≡ rest = laws.same_rest (p.0 ++ q.0) ps q.1 rest q.3 in
    let keys = split_new before p.0 q.0 (subst (λ (xs : List MetaPair). NewKeys before xs) (sym is) new) in
    let one = items_only whole count before mid p.0 p.1 p.2 keys.0 in
    let two = others (before ++ p.0) p.1 q.0 q.1 q.2 keys.1 in
    ap (λ r. r >>= λ y. map_at whole more y.0 y.1) one ∙ two ∙ ap (λ (xs : List MetaPair). ok (xs, q.1)) (append_assoc before p.0 q.0 ∙ ap (λ (xs : List MetaPair). before ++ xs) is) ∙ ap (λ (t : List ℕ). ok (before ++ ps, t)) same

map_found : (whole more : ℕ) → MapFound whole more
unfolding map_at reading.blocks_at
map_found whole zero = λ before bytes x e. absurd (err_no_ok (Short whole) x e)
map_found whole (suc more) = λ before bytes x e.
    let c = bind_part (head_fault whole) (count_at bytes) (λ count. counted whole more before count.0 count.1 (eqb count.0 0)) x e in
    let r = counted_found whole more (map_found whole more) before c.0.0 c.0.1 (eqb c.0.0 0) x c.2 in
    (r.0, ap (λ a. ◌>>=◌ a (λ count. counted_meta more count.0 count.1 (eqb count.0 0))) c.1 ∙ r.1, r.2, r.3)

map_only : (whole more : ℕ) → MapOnly whole more
unfolding map_at reading.blocks_at
map_only whole zero = λ before bytes ps rest e new. absurd (laws.err_no_ok ps rest parts.ended e)
map_only whole (suc more) = λ before bytes ps rest e new.
    let c = laws.bind_ok (count_at bytes) (λ count. counted_meta more count.0 count.1 (eqb count.0 0)) ps rest e in
    ap (λ r. as_fault (head_fault whole) r >>= λ count. counted whole more before count.0 count.1 (eqb count.0 0)) c.2 ∙ counted_only whole more (map_only whole more) before c.0 c.1 (eqb c.0 0) ps rest c.3 new

pub meta_found : (whole : ℕ) (bytes : List ℕ) (x : List MetaPair × List ℕ) → map_at whole (length bytes) [] bytes ≡ Ok x
    → ReadsAll ReadsMetaPair bytes x.0 x.1 × NewKeys [] x.0
meta_found whole bytes x e =
    let m = map_found whole (length bytes) [] bytes x e in
    let law = blocks_law ReadsMetaPair FailsPair meta_at meta_law (length bytes) bytes (omega arith) in
    (subst (λ (ps : List MetaPair). ReadsAll ReadsMetaPair bytes ps x.1) (sym m.2) (law.found m.0 x.1 m.1), subst (λ (ps : List MetaPair). NewKeys [] ps) (sym m.2) m.3)

pub meta_only : (whole : ℕ) (bytes : List ℕ) (ps : List MetaPair) (rest : List ℕ) → ReadsAll ReadsMetaPair bytes ps rest
    → NewKeys [] ps → map_at whole (length bytes) [] bytes ≡ Ok (ps, rest)
meta_only whole bytes ps rest reads new =
    let law = blocks_law ReadsMetaPair FailsPair meta_at meta_law (length bytes) bytes (omega arith) in
    map_only whole (length bytes) [] bytes ps rest (law.only ps rest reads) new
