-- How a swap ends.
use Rattle.std.specs.Prelude.{◌≡◌, ◌⊎◌, ℕ, nat_eq, List, Option, Some, None, Result, Ok, Err, option_map, if◌then◌else◌}
use Rattle.std.specs.Cmp.Lexicographic.{pointwise}
use Rattle.store_core.specs.Files.{Files, swapped}
use Rattle.store_core.specs.declared.store.SwapAnswer.{SwapAnswer}
use Rattle.store_core.specs.declared.store.SwapAnswer.TheVariants.{Won, Lost}
use Rattle.branch_commit.specs.declared.swapping.SwapFault.{SwapFault}
use Rattle.branch_commit.specs.declared.swapping.SwapFault.TheVariants as fault

-- what stands under a name says how a swap of these bytes ended, where something stands there
abbrev pub seen : List ℕ → Option (List ℕ) → Option SwapAnswer
seen bytes None = None
seen bytes (Some found) = Some (if pointwise nat_eq found bytes then Won else Lost)

-- The files after a swap: with the file, unless its name was there; unchanged where the store failed and the name is not
-- there; and one of the two where it is not known.
abbrev pub Leaves : List ℕ → List ℕ → Option Files → Option Files → Result SwapAnswer SwapFault → Type 0
Leaves name bytes old new (Ok answer) = new ≡ option_map (swapped name bytes) old
Leaves name bytes old new (Err fault.Store) = new ≡ old
Leaves name bytes old new (Err fault.Unknown) = (new ≡ old) ⊎ (new ≡ option_map (swapped name bytes) old)
Leaves name bytes old new (Err fault.Memory) = (new ≡ old) ⊎ (new ≡ option_map (swapped name bytes) old)
