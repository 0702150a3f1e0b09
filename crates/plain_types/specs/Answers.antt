-- What a call answers against what is wanted of it.
use Rattle.std.specs.Prelude.{◌≡◌, ◌≢◌, Option, Result, Ok, Err}
use Rattle.std.specs.Option.{ForSome}

-- What a call answered, seen by view, is what is wanted, or else the one fault that may come at any time.
abbrev pub Answers : {X Y E : Type 0} → E → (X → Y) → Result X E → Result Y E → Type 0
Answers free view (Ok x) wanted = wanted ≡ Ok (view x)
Answers free view (Err f) wanted = f ≢ free → wanted ≡ Err f

-- Likewise of what is wanted by files that may be told, with a second such fault, of the store that holds them.
abbrev pub AnswersTold : {F X Y E : Type 0} → E → E → (X → Y) → Result X E → Option F → (F → Result Y E) → Type 0
AnswersTold failed free view (Ok x) told wanted = ForSome told (λ files. wanted files ≡ Ok (view x))
AnswersTold failed free view (Err f) told wanted = f ≢ failed → f ≢ free → ForSome told (λ files. wanted files ≡ Err f)
