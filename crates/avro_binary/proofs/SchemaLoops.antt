-- Writing schemas one after the other, as loops do.
use Rattle.std.proofs.Common.{ℕ, List, ◌++◌}

-- what was written before, and what is still written
abbrev pub with_front : {A : Type 0} → List A → List A × List (List ℕ) → List A × List (List ℕ)
with_front front rest = (front ++ rest.0, rest.1)
