-- Steps of a reading that may fail, one after another.
use Rattle.std.specs.Prelude.{Bool, true, false, Option, Some, None, Result, Ok, Err, ⊤}

infixl 10 ◌>>=◌
abbrev pub ◌>>=◌ : {A B E : Type 0} → Result A E → (A → Result B E) → Result B E
Ok a >>= f = f a
Err e >>= f = Err e

-- what is there, or the fault where nothing is
abbrev pub or_fault : {A E : Type 0} → E → Option A → Result A E
or_fault e None = Err e
or_fault e (Some a) = Ok a

-- the fault where the test says true
abbrev pub fault_if : {E : Type 0} → E → Bool → Result ⊤ E
fault_if e true = Err e
fault_if e false = Ok tt

-- what is made of the value, or the other where there is none
abbrev pub by_option : {A B : Type 0} → Option A → (A → B) → B → B
by_option (Some a) f b = f a
by_option None f b = b

-- the same reading with its fault under another name
abbrev pub fault_as : {A E F : Type 0} → (E → F) → Result A E → Result A F
fault_as f (Ok a) = Ok a
fault_as f (Err e) = Err (f e)
