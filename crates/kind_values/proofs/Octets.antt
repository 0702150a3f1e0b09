-- Bytes are below 256.
use Rattle.std.proofs.Common.{◌≡◌, ℕ, suc, ◌<◌, List, [], ◌∷◌, get_or, nat_lt, true, arith, refl, sym}
use Rattle.std.specs.List.{list_all}
use Rattle.std.proofs.lemmas.Bool.Decides.{nat_tests}

test : (b : ℕ) → b < 256 → nat_lt b 256 ≡ true
test b lt = grind (arith, nat_tests)

pub all_octets : (bytes : List ℕ) → ((i : ℕ) → get_or bytes i 0 < 256) → list_all (λ b. nat_lt b 256) bytes ≡ true
all_octets [] below = refl
all_octets (b ∷ bytes) below = rw (test b (below 0)) (all_octets bytes (λ i. below (suc i)))

pub are_octets : (bytes : List ℕ) → ((i : ℕ) → get_or bytes i 0 < 256) → true ≡ list_all (λ b. nat_lt b 256) bytes
are_octets bytes below = sym (all_octets bytes below)
