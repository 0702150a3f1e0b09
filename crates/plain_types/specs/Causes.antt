-- When a call to the outside may answer a fault: counts of faults that never fall and stand still at the end of
-- their type.
use Rattle.std.specs.Prelude.{◌≡◌, ℕ, ◌+◌, ◌-◌, ◌^◌, ◌≤◌, min, max, Result, IsErrOf, OnOk}

-- the count after one more, of a count of 64 bits that stops at its greatest value
abbrev pub bump : ℕ → ℕ
bump count = max count (min (count + 1) (2 ^ 64 - 1))

-- the count rose between the two moments, or stands at its end
abbrev pub Rose : ℕ → ℕ → Type 0
Rose before now = min (before + 1) (2 ^ 64 - 1) ≤ now

-- the count rose by two or more, or stands at its end
abbrev pub RoseTwice : ℕ → ℕ → Type 0
RoseTwice before now = min (before + 2) (2 ^ 64 - 1) ≤ now

-- A call's answer and the count of its object's faults: the count never falls, `fault` comes only where it rose, and
-- `want`, the answer of want of memory, and Ok leave it.
pub record HasCause {T E : Type 0} (fault want : E) (before now : ℕ) (result : Result T E) : Type 0 where
  pub later : before ≤ now
  pub failed : IsErrOf result fault → Rose before now
  pub memory : IsErrOf result want → now ≡ before
  pub kept : OnOk result (now ≡ before)
