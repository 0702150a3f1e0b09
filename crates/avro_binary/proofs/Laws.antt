-- That a reading function and a grammar agree, and that they go on agreeing as parts are put together.
use Rattle.std.proofs.Common.{◌≡◌, ◌⊎◌, ℕ, Bool, true, false, cond, List, [], ◌++◌, Ok, Err, refl, sym, ap, subst, ◌∙◌, append_assoc, inl, inr}
use Rattle.plain_types.specs.Steps.{◌>>=◌}
use Rattle.avro_binary.specs.declared.fault.Spot.{Spot}
use Rattle.avro_binary.specs.Answer.{Part}
use Rattle.avro_binary.specs.Reading.{under}
use Rattle.avro_binary.specs.Grammar.{Then, FailsThen, Where, FailsWhere, As}

-- what is answered at these bytes is what the grammar has, and the fault is the first one
pub record Law {A : Type 0} (bytes : List ℕ) (reads : A → List ℕ → Type 0) (fails : Spot → Type 0) (answer : Part A) : Type 0 where
  pub found : (x : A) (rest : List ℕ) → answer ≡ Ok (x, rest) → reads x rest
  pub only : (x : A) (rest : List ℕ) → reads x rest → answer ≡ Ok (x, rest)
  pub fault : (f : Spot) → answer ≡ Err f → fails f
  pub first : (f : Spot) → fails f → answer ≡ Err f
  pub parts : (x : A) (rest : List ℕ) → answer ≡ Ok (x, rest) → (front : List ℕ) × (bytes ≡ front ++ rest)

abbrev pub done : {A : Type 0} → A → List ℕ → Part A
done x rest = Ok (x, rest)

abbrev pair : {A : Type 0} → A → List ℕ → A × List ℕ
pair x rest = (x, rest)

same_pair : {A : Type 0} (x y : A) (a b : List ℕ) → done x a ≡ done y b → pair x a ≡ pair y b
same_pair x y a b e = cc

-- the value and the rest of an answer
pub same_value : {A : Type 0} (x y : A) (a b : List ℕ) → done x a ≡ done y b → x ≡ y
same_value {A = A} x y a b e = ap (λ (p : A × List ℕ). p.0) (same_pair x y a b e)

pub same_rest : {A : Type 0} (x y : A) (a b : List ℕ) → done x a ≡ done y b → a ≡ b
same_rest {A = A} x y a b e = ap (λ (p : A × List ℕ). p.1) (same_pair x y a b e)

pub ok_no_err : {A : Type 0} (x : A) (rest : List ℕ) (f : Spot) → done x rest ≡ Err f → ⊥
ok_no_err x rest f e = cc

pub err_no_ok : {A : Type 0} (x : A) (rest : List ℕ) (f : Spot) → Err f ≡ done x rest → ⊥
err_no_ok x rest f e = cc

pub bind_ok : {A B : Type 0} (r : Part A) (k : A × List ℕ → Part B) (y : B) (rest : List ℕ) → (r >>= k) ≡ Ok (y, rest)
    → (x : A) × (after : List ℕ) × (r ≡ Ok (x, after)) × (k (x, after) ≡ Ok (y, rest))
bind_ok (Ok p) k y rest e = (p.0, p.1, refl, e)
bind_ok (Err f) k y rest e = absurd cc

pub bind_err : {A B : Type 0} (r : Part A) (k : A × List ℕ → Part B) (f : Spot) → (r >>= k) ≡ Err f
    → (r ≡ Err f) ⊎ ((x : A) × (after : List ℕ) × (r ≡ Ok (x, after)) × (k (x, after) ≡ Err f))
bind_err (Ok p) k f e = inr (p.0, p.1, refl, e)
bind_err {A = A} (Err g) k f e = let same : g ≡ f = cc in inl (ap (λ (h : Spot). Err h) same)

pub law_then : {A B : Type 0} {bytes : List ℕ} {reads : A → List ℕ → Type 0} {fails : Spot → Type 0} {answer : Part A}
    (second : A → List ℕ → B → List ℕ → Type 0) (fails_second : A → List ℕ → Spot → Type 0) (k : A × List ℕ → Part B)
    → Law bytes reads fails answer → ((x : A) (after : List ℕ) → answer ≡ Ok (x, after) → Law after (second x after) (fails_second x after) (k (x, after)))
    → Law bytes (Then reads second) (FailsThen fails reads fails_second) (answer >>= k)
law_then {bytes = bytes} {fails = fails} {answer = answer} second fails_second k a b = record {
  found = λ y rest e. let p = bind_ok answer k y rest e in (p.0, p.1, a.found p.0 p.1 p.2, (b p.0 p.1 p.2).found y rest p.3);
  only = λ y rest h. let e = a.only h.0 h.1 h.2 in ap (λ r. r >>= k) e ∙ (b h.0 h.1 e).only y rest h.3;
  fault = λ f e. elim (bind_err answer k f e) [ inl l ↦ inl (a.fault f l) | inr r ↦ inr (r.0, r.1, a.found r.0 r.1 r.2, (b r.0 r.1 r.2).fault f r.3) ];
  first = λ f h. elim h [ inl l ↦ ap (λ r. r >>= k) (a.first f l) | inr r ↦ (let e = a.only r.0 r.1 r.2 in ap (λ r. r >>= k) e ∙ (b r.0 r.1 e).first f r.3) ];
  parts = λ y rest e. let p = bind_ok answer k y rest e in let l = a.parts p.0 p.1 p.2 in let r = (b p.0 p.1 p.2).parts y rest p.3 in (l.0 ++ r.0, l.1 ∙ ap (λ (t : List ℕ). l.0 ++ t) r.1 ∙ sym (append_assoc l.0 r.0 rest));
}

pub law_under : {A B : Type 0} {bytes : List ℕ} {reads : A → List ℕ → Type 0} {fails : Spot → Type 0} {answer : Part A}
    (value : A → B) → Law bytes reads fails answer → Law bytes (As value reads) fails (under value answer)
law_under {A = A} {B = B} {answer = answer} value a = record {
  found = λ y rest e. let p = bind_ok answer (λ x. Ok (value x.0, x.1)) y rest e in (p.0, a.found p.0 rest (p.2 ∙ ap (λ (t : List ℕ). done p.0 t) (same_rest (value p.0) y p.1 rest p.3)), sym (same_value (value p.0) y p.1 rest p.3));
  only = λ y rest h. ap (under value) (a.only h.0 rest h.1) ∙ ap (λ (z : B). done z rest) (sym h.2);
  fault = λ f e. elim (bind_err answer (λ x. Ok (value x.0, x.1)) f e) [ inl l ↦ a.fault f l | inr r ↦ absurd (ok_no_err (value r.0) r.1 f r.3) ];
  first = λ f h. ap (under value) (a.first f h);
  parts = λ y rest e. let p = bind_ok answer (λ x. Ok (value x.0, x.1)) y rest e in let l = a.parts p.0 p.1 p.2 in (l.0, l.1 ∙ ap (λ (t : List ℕ). l.0 ++ t) (same_rest (value p.0) y p.1 rest p.3));
}

-- a test of what was read
abbrev pub checked : {A B : Type 0} → (A → List ℕ → Bool) → (A → B) → Spot → A × List ℕ → Part B
checked test value e p = cond (test p.0 p.1) (Ok (value p.0, p.1)) (Err e)

-- what a test says
pub record Tells {A : Type 0} (test : A → List ℕ → Bool) (rule broken : A → List ℕ → Type 0) : Type 0 where
  pub keeps : (x : A) (rest : List ℕ) → test x rest ≡ true → rule x rest
  pub kept : (x : A) (rest : List ℕ) → rule x rest → test x rest ≡ true
  pub fails : (x : A) (rest : List ℕ) → test x rest ≡ false → broken x rest
  pub failed : (x : A) (rest : List ℕ) → broken x rest → test x rest ≡ false

pub guarded_ok : {A : Type 0} (b : Bool) (x y : A) (after rest : List ℕ) (e : Spot) → cond b (done x after) (Err e) ≡ done y rest
    → (b ≡ true) × (y ≡ x) × (after ≡ rest)
guarded_ok true x y after rest e h = (refl, sym (same_value x y after rest h), same_rest x y after rest h)
guarded_ok false x y after rest e h = absurd (err_no_ok y rest e h)

pub guarded_err : {A : Type 0} (b : Bool) (x : A) (after : List ℕ) (e f : Spot) → cond b (done x after) (Err e) ≡ Err f → (b ≡ false) × (f ≡ e)
guarded_err true x after e f h = absurd (ok_no_err x after f h)
guarded_err false x after e f h = (refl, cc)

pub law_where : {A B : Type 0} {bytes : List ℕ} {reads : A → List ℕ → Type 0} {fails : Spot → Type 0} {answer : Part A}
    (test : A → List ℕ → Bool) (rule breaks : A → List ℕ → Type 0) (value : A → B) (e : Spot)
    → Tells test rule breaks → Law bytes reads fails answer → Law bytes (Where reads rule value) (FailsWhere fails reads breaks e) (answer >>= checked test value e)
law_where {A = A} {B = B} {bytes = bytes} {reads = reads} {fails = fails} {answer = answer} test rule breaks value e tells a = record {
  found = λ y rest h. let p = bind_ok answer (checked test value e) y rest h in let g = guarded_ok (test p.0 p.1) (value p.0) y p.1 rest e p.3 in
      (p.0, a.found p.0 rest (p.2 ∙ ap (λ (t : List ℕ). done p.0 t) g.2), subst (λ (t : List ℕ). rule p.0 t) g.2 (tells.keeps p.0 p.1 g.0), g.1);
  only = λ y rest h. ap (λ r. r >>= checked test value e) (a.only h.0 rest h.1) ∙ ap (λ (b : Bool). cond b (done (value h.0) rest) (Err e)) (tells.kept h.0 rest h.2) ∙ ap (λ (z : B). done z rest) (sym h.3);
  fault = λ f h. elim (bind_err answer (checked test value e) f h) [ inl l ↦ inl (a.fault f l) | inr r ↦ (let g = guarded_err (test r.0 r.1) (value r.0) r.1 e f r.3 in inr (r.0, r.1, a.found r.0 r.1 r.2, tells.fails r.0 r.1 g.0, g.1)) ];
  first = λ f h. elim h [ inl l ↦ ap (λ r. r >>= checked test value e) (a.first f l) | inr r ↦ (ap (λ r. r >>= checked test value e) (a.only r.0 r.1 r.2) ∙ ap (λ (b : Bool). cond b (done (value r.0) r.1) (Err e)) (tells.failed r.0 r.1 r.3) ∙ ap (λ (g : Spot). Err g) (sym r.4)) ];
  parts = λ y rest h. let p = bind_ok answer (checked test value e) y rest h in let g = guarded_ok (test p.0 p.1) (value p.0) y p.1 rest e p.3 in let l = a.parts p.0 p.1 p.2 in (l.0, l.1 ∙ ap (λ (t : List ℕ). l.0 ++ t) g.2);
}

-- an answer that is known
pub law_ok : {A : Type 0} (x : A) (bytes : List ℕ) → Law bytes (λ y rest. (y ≡ x) × (bytes ≡ rest)) (λ f. ⊥) (Ok (x, bytes))
law_ok {A = A} x bytes = record {
  found = λ y rest e. (sym (same_value x y bytes rest e), same_rest x y bytes rest e);
  only = λ y rest h. ap (λ (z : A). done z bytes) (sym h.0) ∙ ap (λ (t : List ℕ). done y t) h.1;
  fault = λ f e. ok_no_err x bytes f e;
  first = λ f h. absurd h;
  parts = λ y rest e. ([], same_rest x y bytes rest e);
}

-- the same grammar in other words
pub law_as : {A : Type 0} {bytes : List ℕ} {reads : A → List ℕ → Type 0} {fails : Spot → Type 0} {answer : Part A}
    (others : A → List ℕ → Type 0) (faults : Spot → Type 0)
    → Law bytes reads fails answer → ((x : A) (rest : List ℕ) → reads x rest → others x rest) → ((x : A) (rest : List ℕ) → others x rest → reads x rest) → ((f : Spot) → fails f → faults f) → ((f : Spot) → faults f → fails f) → Law bytes others faults answer
law_as others faults a to back to_fault back_fault = record {
  found = λ x rest e. to x rest (a.found x rest e);
  only = λ x rest h. a.only x rest (back x rest h);
  fault = λ f e. to_fault f (a.fault f e);
  first = λ f h. a.first f (back_fault f h);
  parts = λ x rest e. a.parts x rest e;
}

-- an answer that is the same
pub law_along : {A : Type 0} {bytes : List ℕ} {reads : A → List ℕ → Type 0} {fails : Spot → Type 0} (answer other : Part A)
    → other ≡ answer → Law bytes reads fails answer → Law bytes reads fails other
law_along answer other same a = record {
  found = λ x rest e. a.found x rest (sym same ∙ e);
  only = λ x rest h. same ∙ a.only x rest h;
  fault = λ f e. a.fault f (sym same ∙ e);
  first = λ f h. same ∙ a.first f h;
  parts = λ x rest e. a.parts x rest (sym same ∙ e);
}

abbrev stopped : {A : Type 0} → Spot → Part A
stopped e = Err e

same_fault : {A : Type 0} (e f : Spot) → stopped {A = A} e ≡ Err f → e ≡ f
same_fault e f h = cc

pub law_err : {A : Type 0} (e : Spot) (bytes : List ℕ) (reads : A → List ℕ → Type 0) (fails : Spot → Type 0)
    → ((x : A) (rest : List ℕ) → reads x rest → ⊥) → ((f : Spot) → fails f → f ≡ e) → fails e → Law bytes reads fails (Err e)
law_err e bytes reads fails none same is = record {
  found = λ x rest h. absurd (err_no_ok x rest e h);
  only = λ x rest h. absurd (none x rest h);
  fault = λ f h. subst fails (same_fault e f h) is;
  first = λ f h. ap (λ (g : Spot). Err g) (sym (same f h));
  parts = λ x rest h. absurd (err_no_ok x rest e h);
}
