-- What a read of an input gives.
use Rattle.std.specs.Prelude.{ℕ, nat_lt, length, List, Option, Some, None, if◌then◌else◌}
use Rattle.store_core.specs.declared.inputs.InputAnswer.{InputAnswer}
use Rattle.store_core.specs.declared.inputs.InputAnswer.TheVariants.{Found, Missing, TooLong}

-- of at most so many bytes of what is there
abbrev pub given_of : ℕ → Option (List ℕ) → InputAnswer
given_of most None = Missing
given_of most (Some bytes) = if nat_lt most (length bytes) then TooLong else Found bytes
