-- What callers cite of how calls leave a store.
use Rattle.std.proofs.Common.{◌≡◌, ℕ, Option, Result, Ok, Err, is_ok, is_some, true, List, option_map, refl, ap, ◌∙◌, subst, arith, inl, inr}
use Rattle.std.specs.Prelude.{IsErrOf, IsOk, OnOk}
use Rattle.plain_types.specs.Causes.{HasCause}
use Rattle.store_core.specs.Files.{Files, KeepsFiles, MayAdd, bytes_of, with_file}
use Rattle.store_core.specs.Moves.{Moves}
use Rattle.store_core.specs.declared.store.StoreFault.{StoreFault}
use Rattle.store_core.specs.declared.store.StoreFault.TheVariants as store
use Rattle.store_core.proofs.FilesLemmas.{kept-trans}

on_ok : {T E : Type 0} (P : Type 0) (result : Result T E) → P → OnOk result P
on_ok P (Ok x) p = p
on_ok P (Err e) p = tt

kept_same : (old new : Option Files) → new ≡ old → KeepsFiles old new
kept_same old new same name bytes there = ap (λ (files : Option Files). bytes_of files name) same ∙ there

-- nothing moves, and the answer isn't that the store failed
pub moves_none : {T E : Type 0} (fault want : E) (old new : Option Files) (before now left : ℕ) (result : Result T E)
    → new ≡ old → now ≡ before → (IsErrOf result fault → ⊥) → Moves fault want old new before now left result
moves_none fault want old new before now left result files faults other = record {
  kept = kept_same old new files;
  told = ap (λ (f : Option Files). is_some f) files;
  cause = record {
    later = omega (arith, faults);
    failed = λ is. absurd (other is);
    memory = λ is. faults;
    kept = on_ok (now ≡ before) result faults;
  };
  unsettled = λ is. absurd (other is);
}

ok_as : {T U E F : Type 0} (P : Type 0) (result : Result T E) (other : Result U F) → (IsOk other → IsOk result) → OnOk result P → OnOk other P
ok_as P result (Err f) ok p = tt
ok_as P (Ok x) (Ok y) ok p = p
ok_as {T} {E = E} P (Err e) (Ok y) ok p =
    let is : is_ok {T = T} {E = E} (Err e) ≡ true = ok refl in
    absurd cc

-- an answer, and another that is Ok, `fault` or `want` only where the first one is
pub moves_as : {T U E F : Type 0} (fault want : E) (failed wanted : F) (old new : Option Files) (before now left : ℕ)
    (result : Result T E) (other : Result U F)
    → (IsOk other → IsOk result) → (IsErrOf other failed → IsErrOf result fault) → (IsErrOf other wanted → IsErrOf result want)
    → Moves fault want old new before now left result → Moves failed wanted old new before now left other
moves_as fault want failed wanted old new before now left result other ok fault_is want_is moves = record {
  kept = moves.kept;
  told = moves.told;
  cause = record {
    later = moves.cause.later;
    failed = λ is. moves.cause.failed (fault_is is);
    memory = λ is. moves.cause.memory (want_is is);
    kept = ok_as (now ≡ before) result other ok moves.cause.kept;
  };
  unsettled = λ is. moves.unsettled (fault_is is);
}

-- an Ok of a part is an Ok of the whole
pub moves_ok : {T U E F : Type 0} (fault want : E) (failed wanted : F) (old new : Option Files) (before now left : ℕ) (x : T) (y : U)
    → Moves fault want old new before now left (Ok x) → Moves failed wanted old new before now left (Ok y)
moves_ok {T} {U} {E} {F} fault want failed wanted old new before now left x y moves =
    moves_as fault want failed wanted old new before now left (Ok x) (Ok y) (λ is. refl) (λ is. absurd cc) (λ is. absurd cc) moves

-- and a fault of a part is one of the whole, where the words for faults go over one by one
pub moves_err : {T U E F : Type 0} (fault want : E) (failed wanted : F) (old new : Option Files) (before now left : ℕ) (e : E) (f : F)
    → (f ≡ failed → e ≡ fault) → (f ≡ wanted → e ≡ want)
    → Moves {T = T} fault want old new before now left (Err e) → Moves {T = U} failed wanted old new before now left (Err f)
moves_err {T} {U} {E} {F} fault want failed wanted old new before now left e f fault_is want_is moves =
    moves_as {T = T} {U = U} fault want failed wanted old new before now left (Err e) (Err f) (λ is. absurd cc)
    (λ is. ap Err (fault_is cc)) (λ is. ap Err (want_is cc)) moves

-- a call that answered Ok, and then another
pub moves_then : {T U E : Type 0} (fault want : E) (old middle new : Option Files) (before between now left last : ℕ)
    (x : T) (result : Result U E) → Moves {E = E} fault want old middle before between left (Ok x)
    → Moves fault want middle new between now last result → Moves fault want old new before now last result
moves_then fault want old middle new before between now left last x result first second =
    let same : between ≡ before = first.cause.kept in
    record {
      kept = kept-trans old middle new first.kept second.kept;
      told = second.told ∙ first.told;
      cause = subst (λ count. HasCause fault want count now result) same second.cause;
      unsettled = second.unsettled;
    }

-- whatever a put answers, its file alone may have come
pub may_add-put : {T : Type 0} (name bytes : List ℕ) (old new : Option Files) (result : Result T StoreFault)
    → OnOk result (new ≡ option_map (with_file name bytes) old) → (IsErrOf result store.Failed → MayAdd name old new)
    → (IsErrOf result store.Memory → new ≡ old) → MayAdd name old new
may_add-put name bytes old new (Ok x) ok failed memory = inr (bytes, ok)
may_add-put name bytes old new (Err store.Failed) ok failed memory = failed refl
may_add-put name bytes old new (Err store.Memory) ok failed memory = inl (memory refl)
