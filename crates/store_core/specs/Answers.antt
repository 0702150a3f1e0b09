-- What the answers of a store say, and how they move its count of failed calls that no read has settled.
use Rattle.std.specs.Prelude.{ℕ, Bool, true, false, Option, Some, None, Result, Ok, Err, List}
use Rattle.plain_types.specs.Causes.{bump}
use Rattle.store_core.specs.declared.store.StoreFault.{StoreFault}
use Rattle.store_core.specs.declared.store.StoreFault.TheVariants.{Failed, Memory}
use Rattle.store_core.specs.declared.store.ReadAnswer.{ReadAnswer}
use Rattle.store_core.specs.declared.store.ReadAnswer.TheVariants.{Found, Missing}
use Rattle.store_core.specs.declared.store.SwapAnswer.{SwapAnswer}
use Rattle.store_core.specs.declared.store.SwapAnswer.TheVariants.{Won, Lost}

abbrev pub found : ReadAnswer → Option (List ℕ)
found (Found bytes) = Some bytes
found Missing = None

abbrev pub is_lost : SwapAnswer → Bool
is_lost Won = false
is_lost Lost = true

-- a failed call counts
abbrev pub unsettled_after : {T : Type 0} → Result T StoreFault → ℕ → ℕ
unsettled_after (Err Failed) count = bump count
unsettled_after (Err Memory) count = count
unsettled_after (Ok answer) count = count

-- and a read that finds its file settles what failed before it
abbrev pub unsettled_after_read : Result ReadAnswer StoreFault → ℕ → ℕ
unsettled_after_read (Ok (Found bytes)) count = 0
unsettled_after_read (Ok Missing) count = count
unsettled_after_read (Err Failed) count = bump count
unsettled_after_read (Err Memory) count = count
