-- Reading nodes one after the other, as loops do.
use Rattle.std.proofs.Common.{◌≡◌, ◌≢◌, ℕ, ◌+◌, ◌≤◌, ◌<◌, List, [], ◌∷◌, ◌++◌, length, drop, get_or, map, Result, Ok, Err, refl, sym, ap, ◌∙◌, append_assoc, add-one, drop-cons}
use Rattle.std.proofs.lemmas.List.{append-nil, drop_all}
use Rattle.serde_json.specs.Data.{Data, Items}
use Rattle.serde_json.specs.View.{view, items_of, items_view}
use Rattle.serde_json.specs.declared.value.Value.{Value}
use Rattle.plain_types.specs.Steps.{◌>>=◌}
use Rattle.avro_binary.specs.declared.schema_fault.SchemaFault.{SchemaFault}
use Rattle.avro_binary.specs.declared.schema_fault.SchemaFault.TheVariants.{Memory}
use Rattle.avro_binary.specs.declared.names.Names.{Names}
use Rattle.avro_binary.specs.SchemaText.{each}

-- what was read before, and what is still read
abbrev pub with_front : {A : Type 0} → List A → Result (List A × Names) SchemaFault → Result (List A × Names) SchemaFault
with_front front read = read >>= λ x. Ok (front ++ x.0, x.1)

-- why a function stopped, unless memory ran out
abbrev pub Is : {A : Type 0} → SchemaFault → Result A SchemaFault → Type 0
Is f read = f ≢ Memory → read ≡ Err f

regroup : {A : Type 0} (front : List A) (x : A) (read : Result (List A × Names) SchemaFault)
    → with_front front (read >>= λ y. Ok (x ∷ y.0, y.1)) ≡ with_front (front ++ x ∷ []) read
regroup {A = A} front x (Ok y) = ap (λ (xs : List A). Ok (xs, y.1)) (simp append_assoc)
regroup front x (Err f) = refl

next : {A : Type 0} (step : Data → Names → Result (A × Names) SchemaFault) (vs : List Value) (i : ℕ) (v : Value) (front : List A)
    (names : Names) → i < length vs → v ≡ get_or vs i v
    → with_front front (each step (items_view (drop i vs)) names) ≡ with_front front (step (view v) names >>= λ first. each step (items_view (drop (i + 1) vs)) first.1 >>= λ others. Ok (first.0 ∷ others.0, others.1))
unfolding each
next step vs i v front names lt at =
    let one : items_view (drop i vs) ≡ items_of (view (get_or vs i v) ∷ map view (drop (i + 1) vs)) = rw (add-one, drop-cons vs i v) refl in
    let two : items_view (drop i vs) ≡ items_of (view v ∷ map view (drop (i + 1) vs)) = one ∙ ap (λ (x : Value). items_of (view x ∷ map view (drop (i + 1) vs))) (sym at) in
    ap (λ (ds : Items). with_front front (each step ds names)) two

pub each_goes : {A : Type 0} (step : Data → Names → Result (A × Names) SchemaFault) (vs : List Value) (front : List A) (i : ℕ)
    (v : Value) (names : Names) (x : A) (after : Names) (total : Result (List A × Names) SchemaFault) → i < length vs
    → v ≡ get_or vs i v → step (view v) names ≡ Ok (x, after)
    → with_front front (each step (items_view (drop i vs)) names) ≡ total → with_front (front ++ x ∷ []) (each step (items_view (drop (i + 1) vs)) after) ≡ total
each_goes step vs front i v names x after total lt at h so_far =
    let one = sym (next step vs i v front names lt at) ∙ so_far in
    sym (regroup front x (each step (items_view (drop (i + 1) vs)) after)) ∙ ap (λ r. with_front front (r >>= λ first. each step (items_view (drop (i + 1) vs)) first.1 >>= λ others. Ok (first.0 ∷ others.0, others.1))) (sym h) ∙ one

pub each_stops : {A : Type 0} (f : SchemaFault) (step : Data → Names → Result (A × Names) SchemaFault) (vs : List Value)
    (front : List A) (i : ℕ) (v : Value) (names : Names) (total : Result (List A × Names) SchemaFault) → i < length vs
    → v ≡ get_or vs i v → Is f (step (view v) names)
    → with_front front (each step (items_view (drop i vs)) names) ≡ total → Is f total
each_stops f step vs front i v names total lt at h so_far no_memory =
    let one = sym (next step vs i v front names lt at) ∙ so_far in
    sym one ∙ ap (λ r. with_front front (r >>= λ first. each step (items_view (drop (i + 1) vs)) first.1 >>= λ others. Ok (first.0 ∷ others.0, others.1))) (h no_memory)

pub each_done : {A : Type 0} (step : Data → Names → Result (A × Names) SchemaFault) (vs : List Value) (front : List A) (i : ℕ)
    (names : Names) (total : Result (List A × Names) SchemaFault) → length vs ≤ i
    → with_front front (each step (items_view (drop i vs)) names) ≡ total → total ≡ Ok (front, names)
unfolding each
each_done {A = A} step vs front i names total le so_far =
    let one : with_front front (each step (items_view (drop i vs)) names) ≡ Ok (front, names) = rw (drop_all i vs le) (ap (λ (xs : List A). Ok (xs, names)) (append-nil front)) in
    sym so_far ∙ one
