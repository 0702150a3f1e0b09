-- A location that no slash ends.
use Rattle.std.proofs.Common.{◌≡◌, ◌≢◌, ◌-◌, ℕ, zero, suc, arith, List, [], ◌∷◌, ◌++◌, length, take, Bool, true, false, nat_eq, Option, Some, None, refl, sym, ap, ◌∙◌}
use Rattle.std.specs.Prelude.{slice_get, if◌then◌else◌}
use Rattle.std.proofs.lemmas.Bool.{eqb-true}
use Rattle.plain_types.specs.Steps.{by_option}
use Rattle.table_names.specs.Paths.{folder_of}

ends_at : (bytes : List ℕ) (b n : ℕ) → suc n ≡ length bytes → slice_get bytes n ≡ Some b → (front : List ℕ) × (bytes ≡ front ++ b ∷ [])
ends_at [] b n is e = absurd cc
ends_at (x ∷ []) b zero is e =
    let same : x ≡ b = cc in
    ([], ap (λ y. y ∷ []) same)
ends_at (x ∷ []) b (suc n) is e = absurd cc
ends_at (x ∷ y ∷ ys) b zero is e = absurd (omega arith)
ends_at (x ∷ y ∷ ys) b (suc n) is e =
    let h = ends_at (y ∷ ys) b n (omega arith) e in
    (x ∷ h.0, ap (λ bytes. x ∷ bytes) h.1)

ends_with : (bytes : List ℕ) (b : ℕ) → slice_get bytes (length bytes - 1) ≡ Some b → (front : List ℕ) × (bytes ≡ front ++ b ∷ [])
ends_with [] b e = absurd cc
ends_with (x ∷ xs) b e = ends_at (x ∷ xs) b (length (x ∷ xs) - 1) (omega arith) e

no_slash_by : (location : List ℕ) (b : ℕ) → slice_get location (length location - 1) ≡ Some b
    → ((front : List ℕ) → location ≢ front ++ 47 ∷ []) → (t : Bool) → nat_eq b 47 ≡ t → nat_eq b 47 ≡ false
no_slash_by location b is none false e = e
no_slash_by location b is none true e =
    let h = ends_with location b is in
    absurd (none h.0 (h.1 ∙ ap (λ last. h.0 ++ last ∷ []) (eqb-true b 47 e)))

no_slash : (location : List ℕ) (found : Option ℕ) → slice_get location (length location - 1) ≡ found
    → ((front : List ℕ) → location ≢ front ++ 47 ∷ []) → by_option found (λ b. nat_eq b 47) false ≡ false
no_slash location None is none = refl
no_slash location (Some b) is none = no_slash_by location b is none (nat_eq b 47) refl

pub stands : (location : List ℕ) → ((front : List ℕ) → location ≢ front ++ 47 ∷ []) → location ≡ folder_of location
stands location none = sym (ap (λ t. if t then take (length location - 1) location else location) (no_slash location (slice_get location (length location - 1)) refl none))
