-- How a call leaves a store in which it may make files.
use Rattle.std.specs.Prelude.{◌≡◌, ◌<◌, ℕ, Option, Result, is_some, IsErrOf}
use Rattle.plain_types.specs.Causes.{HasCause}
use Rattle.store_core.specs.Files.{Files, KeepsFiles}

-- The files and the count of faults before the call and after it, how many faults are left unsettled, and the call's answer.
pub record Moves {T E : Type 0} (fault want : E) (old new : Option Files) (before now left : ℕ) (result : Result T E) : Type 0 where
  pub kept : KeepsFiles old new
  -- the files are told just where they were
  pub told : is_some new ≡ is_some old
  pub cause : HasCause fault want before now result
  -- no read has settled what failed
  pub unsettled : IsErrOf result fault → 0 < left
