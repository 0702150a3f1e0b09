-- One step of a reading after another, where the whole has an answer.
use Rattle.std.proofs.Common.{◌≡◌, ℕ, Bool, true, false, cond, List, Result, Ok, Err, refl, ap}
use Rattle.plain_types.specs.Steps.{◌>>=◌}
use Rattle.avro_binary.specs.declared.fault.Spot.{Spot}
use Rattle.avro_binary.specs.Answer as parts
use Rattle.avro_container.specs.declared.fault.ContainerFault.{ContainerFault}
use Rattle.avro_container.specs.Answer.{as_fault}

abbrev pub ok : {A : Type 0} → A → Result A ContainerFault
ok x = Ok x

pub same_ok : {A : Type 0} (x y : A) → ok x ≡ Ok y → x ≡ y
same_ok x y e = cc

pub err_no_ok : {A : Type 0} (f : ContainerFault) (x : A) → Err f ≡ ok x → ⊥
err_no_ok f x e = cc

pub bind_ok : {A B : Type 0} (r : Result A ContainerFault) (k : A → Result B ContainerFault) (y : B) → (r >>= k) ≡ Ok y → (x : A) × (r ≡ Ok x) × (k x ≡ Ok y)
bind_ok (Ok x) k y e = (x, refl, e)
bind_ok (Err f) k y e = absurd (err_no_ok f y e)

pub part_ok : {A : Type 0} (fault : Spot → ContainerFault) (r : parts.Part A) (x : A × List ℕ) → as_fault fault r ≡ Ok x → r ≡ Ok x
part_ok {A = A} fault (Ok x) y e = ap (λ (z : A × List ℕ). Ok z) (same_ok x y e)
part_ok fault (Err s) y e = absurd (err_no_ok (fault s) y e)

pub bind_part : {A B : Type 0} (fault : Spot → ContainerFault) (r : parts.Part A) (k : A × List ℕ → Result B ContainerFault)
    (y : B) → (as_fault fault r >>= k) ≡ Ok y → (x : A × List ℕ) × (r ≡ Ok x) × (k x ≡ Ok y)
bind_part fault (Ok x) k y e = (x, refl, e)
bind_part fault (Err s) k y e = absurd (err_no_ok (fault s) y e)

-- a test that must fail
pub guard_ok : {A : Type 0} (b : Bool) (x y : A) (f : ContainerFault) → cond b (Err f) (ok x) ≡ Ok y → (b ≡ false) × (x ≡ y)
guard_ok true x y f e = absurd (err_no_ok f y e)
guard_ok false x y f e = (refl, same_ok x y e)

-- a test that must hold
pub test_ok : {A : Type 0} (b : Bool) (x y : A) (f : ContainerFault) → cond b (ok x) (Err f) ≡ Ok y → (b ≡ true) × (x ≡ y)
test_ok true x y f e = (refl, same_ok x y e)
test_ok false x y f e = absurd (err_no_ok f y e)
