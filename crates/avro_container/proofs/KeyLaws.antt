-- What is looked up among the pairs, and what is left of them, by the grammar.
use Rattle.std.proofs.Common.{◌≡◌, ◌≢◌, ◌⊎◌, ℕ, Bool, true, false, ◌||◌, cond, List, [], ◌∷◌, ◌++◌, Option, Some, None, refl, sym, ap, subst, ◌∙◌, inl, inr}
use Rattle.std.specs.Prelude.{codes}
use Rattle.std.specs.Str.{bytes_eq}
use Rattle.std.proofs.lemmas.Slice.Eq.{bytes_eq-Decides}
use Rattle.avro_container.specs.declared.pairs.MetaPair.{MetaPair}
use Rattle.avro_container.specs.Pairs.{value_of, is_own, others}
use Rattle.avro_container.specs.Grammar.{Lacks, Has, Distinct, IsOwn, AreOthers}

true_no_false : true ≡ false → ⊥
true_no_false e = cc

not_equal : (xs ys : List ℕ) → bytes_eq xs ys ≡ false → xs ≢ ys
not_equal xs ys e same = true_no_false (sym ((bytes_eq-Decides xs ys).1 same) ∙ e)

tested : (b : Bool) (xs ys : List ℕ) → bytes_eq xs ys ≡ b → xs ≢ ys → bytes_eq xs ys ≡ false
tested true xs ys e other = absurd (other ((bytes_eq-Decides xs ys).0 e))
tested false xs ys e other = e

-- ---- the value of a key

abbrev first_of_key : List ℕ → MetaPair → List MetaPair → Bool → Option (List ℕ)
first_of_key key p ps b = cond b (Some p.value) (value_of key ps)

some_no_none : (x : List ℕ) → Some x ≡ None → ⊥
some_no_none x e = cc

none_no_some : (x : List ℕ) → None ≡ Some x → ⊥
none_no_some x e = cc

same_some : (x y : List ℕ) → Some x ≡ Some y → x ≡ y
same_some x y e = cc

lacks_step : (b : Bool) (key : List ℕ) (p : MetaPair) (ps : List MetaPair) → bytes_eq p.key key ≡ b
    → first_of_key key p ps b ≡ None → (p.key ≢ key) × (value_of key ps ≡ None)
lacks_step true key p ps is e = absurd (some_no_none p.value e)
lacks_step false key p ps is e = (not_equal p.key key is, e)

pub none_lacks : (key : List ℕ) (ps : List MetaPair) → value_of key ps ≡ None → Lacks key ps
unfolding value_of
none_lacks key [] e = tt
none_lacks key (p ∷ ps) e = let s = lacks_step (bytes_eq p.key key) key p ps refl e in (s.0, none_lacks key ps s.1)

pub lacks_none : (key : List ℕ) (ps : List MetaPair) → Lacks key ps → value_of key ps ≡ None
unfolding value_of
lacks_none key [] l = refl
lacks_none key (p ∷ ps) l = ap (first_of_key key p ps) (tested (bytes_eq p.key key) p.key key refl l.0) ∙ lacks_none key ps l.1

has_step : (b : Bool) (key value : List ℕ) (p : MetaPair) (ps : List MetaPair) → bytes_eq p.key key ≡ b
    → first_of_key key p ps b ≡ Some value → ((p.key ≡ key) × (p.value ≡ value)) ⊎ (value_of key ps ≡ Some value)
has_step true key value p ps is e = inl ((bytes_eq-Decides p.key key).0 is, same_some p.value value e)
has_step false key value p ps is e = inr e

pub some_has : (key value : List ℕ) (ps : List MetaPair) → value_of key ps ≡ Some value → Has key value ps
unfolding value_of
some_has key value [] e = none_no_some value e
some_has key value (p ∷ ps) e = elim (has_step (bytes_eq p.key key) key value p ps refl e) [ inl here ↦ inl here | inr later ↦ inr (some_has key value ps later) ]

not_lacked : (key value : List ℕ) (ps : List MetaPair) → Has key value ps → Lacks key ps → ⊥
not_lacked key value [] h l = h
not_lacked key value (p ∷ ps) (inl here) l = l.0 here.0
not_lacked key value (p ∷ ps) (inr later) l = not_lacked key value ps later l.1

pub has_some : (key value : List ℕ) (ps : List MetaPair) → Distinct ps → Has key value ps → value_of key ps ≡ Some value
unfolding value_of
has_some key value [] d h = absurd h
has_some key value (p ∷ ps) d (inl here) = ap (first_of_key key p ps) ((bytes_eq-Decides p.key key).1 here.0) ∙ ap (λ (v : List ℕ). Some v) here.1
has_some key value (p ∷ ps) d (inr later) =
    let other : p.key ≢ key = λ same. not_lacked key value ps later (subst (λ (k : List ℕ). Lacks k ps) same d.0) in
    ap (first_of_key key p ps) (tested (bytes_eq p.key key) p.key key refl other) ∙ has_some key value ps d.1 later

-- ---- keys that differ

-- each of these pairs has a key that no pair before it has
abbrev pub NewKeys : List MetaPair → List MetaPair → Type 0
NewKeys before [] = Unit {0}
NewKeys before (p ∷ ps) = (value_of p.key before ≡ None) × NewKeys (before ++ p ∷ []) ps

-- none of these pairs has a key of those before them
abbrev Apart : List MetaPair → List MetaPair → Type 0
Apart before [] = Unit {0}
Apart before (p ∷ ps) = Lacks p.key before × Apart before ps

lacks_more : (key : List ℕ) (xs : List MetaPair) (p : MetaPair) → Lacks key xs → p.key ≢ key → Lacks key (xs ++ p ∷ [])
lacks_more key [] p l other = (other, tt)
lacks_more key (x ∷ xs) p l other = (l.0, lacks_more key xs p l.1 other)

lacks_fewer : (key : List ℕ) (xs : List MetaPair) (p : MetaPair) → Lacks key (xs ++ p ∷ []) → Lacks key xs × (p.key ≢ key)
lacks_fewer key [] p l = (tt, l.0)
lacks_fewer key (x ∷ xs) p l = let r = lacks_fewer key xs p l.1 in ((l.0, r.0), r.1)

apart_more : (before : List MetaPair) (p : MetaPair) (ps : List MetaPair) → Apart before ps → Lacks p.key ps → Apart (before ++ p ∷ []) ps
apart_more before p [] a l = tt
apart_more before p (q ∷ qs) a l = (lacks_more q.key before p a.0 (λ e. l.0 (sym e)), apart_more before p qs a.1 l.1)

apart_fewer : (before : List MetaPair) (p : MetaPair) (ps : List MetaPair) → Apart (before ++ p ∷ []) ps → Apart before ps × Lacks p.key ps
apart_fewer before p [] a = (tt, tt)
apart_fewer before p (q ∷ qs) a =
    let one = lacks_fewer q.key before p a.0 in
    let more = apart_fewer before p qs a.1 in
    ((one.0, more.0), ((λ e. one.1 (sym e)), more.1))

new_apart : (before ps : List MetaPair) → NewKeys before ps → Apart before ps × Distinct ps
new_apart before [] n = (tt, tt)
new_apart before (p ∷ ps) n =
    let more = new_apart (before ++ p ∷ []) ps n.1 in
    let fewer = apart_fewer before p ps more.0 in
    ((none_lacks p.key before n.0, fewer.0), (fewer.1, more.1))

apart_new : (before ps : List MetaPair) → Apart before ps → Distinct ps → NewKeys before ps
apart_new before [] a d = tt
apart_new before (p ∷ ps) a d = (lacks_none p.key before a.0, apart_new (before ++ p ∷ []) ps (apart_more before p ps a.1 d.0) d.1)

nothing_before : (ps : List MetaPair) → Apart [] ps
nothing_before [] = tt
nothing_before (p ∷ ps) = (tt, nothing_before ps)

pub new_distinct : (ps : List MetaPair) → NewKeys [] ps → Distinct ps
new_distinct ps n = (new_apart [] ps n).1

pub distinct_new : (ps : List MetaPair) → Distinct ps → NewKeys [] ps
distinct_new ps d = apart_new [] ps (nothing_before ps) d

-- ---- the other pairs

either : (a b : Bool) → (a || b) ≡ true → (a ≡ true) ⊎ (b ≡ true)
either true b e = inl refl
either false b e = inr e

left_true : (a b : Bool) → a ≡ true → (a || b) ≡ true
left_true a b e = ap (λ c. c || b) e

right_true : (a b : Bool) → b ≡ true → (a || b) ≡ true
right_true true b e = refl
right_true false b e = e

own_true : (p : MetaPair) → IsOwn p → is_own p ≡ true
own_true p (inl e) = left_true (bytes_eq p.key (codes "avro.schema")) (bytes_eq p.key (codes "avro.codec")) ((bytes_eq-Decides p.key (codes "avro.schema")).1 e)
own_true p (inr e) = right_true (bytes_eq p.key (codes "avro.schema")) (bytes_eq p.key (codes "avro.codec")) ((bytes_eq-Decides p.key (codes "avro.codec")).1 e)

true_own : (p : MetaPair) → is_own p ≡ true → IsOwn p
true_own p e = elim (either (bytes_eq p.key (codes "avro.schema")) (bytes_eq p.key (codes "avro.codec")) e) [
  | inl l ↦ inl ((bytes_eq-Decides p.key (codes "avro.schema")).0 l)
  | inr r ↦ inr ((bytes_eq-Decides p.key (codes "avro.codec")).0 r)
]

not_own : (b : Bool) (p : MetaPair) → is_own p ≡ b → (IsOwn p → ⊥) → is_own p ≡ false
not_own true p e other = absurd (other (true_own p e))
not_own false p e other = e

others_step : (b : Bool) (p : MetaPair) (ps more : List MetaPair) → is_own p ≡ b → AreOthers ps more → AreOthers (p ∷ ps) (cond b more (p ∷ more))
others_step true p ps more e h = inl (true_own p e, h)
others_step false p ps more e h = inr ((λ own. true_no_false (sym (own_true p own) ∙ e)), (more, refl, h))

pub are_others : (ps : List MetaPair) → AreOthers ps (others ps)
unfolding others
are_others [] = refl
are_others (p ∷ ps) = others_step (is_own p) p ps (others ps) refl (are_others ps)

pub only_others : (ps meta : List MetaPair) → AreOthers ps meta → meta ≡ others ps
unfolding others
only_others [] meta e = e
only_others (p ∷ ps) meta (inl (own, h)) = only_others ps meta h ∙ sym (ap (λ b. cond b (others ps) (p ∷ others ps)) (own_true p own))
only_others (p ∷ ps) meta (inr (other, (more, e, h))) =
    e ∙ ap (λ (xs : List MetaPair). p ∷ xs) (only_others ps more h) ∙ sym (ap (λ b. cond b (others ps) (p ∷ others ps)) (not_own (is_own p) p refl other))
