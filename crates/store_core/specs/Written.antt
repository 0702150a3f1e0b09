-- What a sink has taken.
use Rattle.std.specs.Prelude.{◌≡◌, ◌≤◌, ◌<◌, ℕ, Option, List, ◌++◌, length, take, Result, IfOk, OnErr, option_map}
use Rattle.plain_types.specs.Causes.{Rose}

-- what was written, and then these bytes
abbrev pub appended : List ℕ → Option (List ℕ) → Option (List ℕ)
appended bytes written = option_map (λ before. before ++ bytes) written

-- a front of the bytes was written, and no more
abbrev pub TakesFront : List ℕ → Option (List ℕ) → Option (List ℕ) → Type 0
TakesFront bytes old new = (count : ℕ) × (count ≤ length bytes) × (new ≡ appended (take count bytes) old)

-- A write and the count of the sink's faults: it rose where the write failed or took nothing of a piece that isn't
-- empty, and stays where the write took something.
pub record HasSinkCause {E : Type 0} (piece : List ℕ) (before now : ℕ) (result : Result ℕ E) : Type 0 where
  pub later : before ≤ now
  pub failed : OnErr result (Rose before now)
  pub stuck : IfOk result (λ count. count ≡ 0 → 0 < length piece → Rose before now)
  pub kept : IfOk result (λ count. 0 < count → now ≡ before)
