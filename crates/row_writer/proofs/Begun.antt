-- Names that stand in a list of names or don't.
use Rattle.std.proofs.Common.{◌≡◌, ℕ, List, [], ◌∷◌, ◌++◌, Bool, true, false, cond, Option, Some, None, ap}
use Rattle.std.specs.Str.{bytes_eq}
use Rattle.avro_binary.specs.Naming.{has_begun}
use Rattle.avro_binary.specs.SchemaOnce.{one_name}

begun_by : (b c later other : Bool) → cond b true later ≡ false → (later ≡ false → other ≡ false) → cond b true other ≡ false
begun_by true c later other h more = absurd cc
begun_by false c later other h more = more h

pub begun_append : (name : List ℕ) (xs ys : List (List ℕ)) → has_begun name xs ≡ false → has_begun name ys ≡ false → has_begun name (xs ++ ys) ≡ false
unfolding has_begun
begun_append name [] ys h k = k
begun_append name (x ∷ xs) ys h k = begun_by (bytes_eq x name) true (has_begun name xs) (has_begun name (xs ++ ys)) h (λ more. begun_append name xs ys more k)

pub one_is : (name : List ℕ) (begun : List (List ℕ)) → has_begun name begun ≡ false → one_name name begun ≡ Some (begun ++ name ∷ [])
one_is name begun h = ap (λ (b : Bool). (let o : Option (List (List ℕ)) = cond b None (Some (begun ++ name ∷ [])) in o)) h
