-- What an answer says of its Ok and of its fault.
use Rattle.std.proofs.Common.{◌≡◌, ◌≢◌, Option, Result, Ok, Err, IfOk, IfErr, ◌∙◌}
use Rattle.std.specs.Option.{ForSome}
use Rattle.plain_types.specs.Answers.{Answers, AnswersTold}

pub ok_of : {X Y E : Type 0} (free : E) (view : X → Y) (result : Result X E) (wanted : Result Y E)
    → Answers free view result wanted → IfOk result (λ x. wanted ≡ Ok (view x))
ok_of free view (Ok x) wanted a = a
ok_of free view (Err f) wanted a = tt

pub err_of : {X Y E : Type 0} (free : E) (view : X → Y) (result : Result X E) (wanted : Result Y E)
    → Answers free view result wanted → IfErr result (λ f. f ≢ free → wanted ≡ Err f)
err_of free view (Ok x) wanted a = tt
err_of free view (Err f) wanted a = a

pub told_ok_of : {F X Y E : Type 0} (failed free : E) (view : X → Y) (result : Result X E) (told : Option F) (wanted : F → Result Y E)
    → AnswersTold failed free view result told wanted → IfOk result (λ x. ForSome told (λ files. wanted files ≡ Ok (view x)))
told_ok_of failed free view (Ok x) told wanted a = a
told_ok_of failed free view (Err f) told wanted a = tt

pub told_err_of : {F X Y E : Type 0} (failed free : E) (view : X → Y) (result : Result X E) (told : Option F) (wanted : F → Result Y E)
    → AnswersTold failed free view result told wanted
    → IfErr result (λ f. f ≢ failed → f ≢ free → ForSome told (λ files. wanted files ≡ Err f))
told_err_of failed free view (Ok x) told wanted a = tt
told_err_of failed free view (Err f) told wanted a = a

-- what is wanted, said otherwise
pub told_as : {F X Y E : Type 0} (failed free : E) (view : X → Y) (result : Result X E) (told : Option F) (first second : F → Result Y E)
    → ((files : F) → second files ≡ first files) → AnswersTold failed free view result told first
    → AnswersTold failed free view result told second
told_as failed free view (Ok x) told first second same a = λ files is. same files ∙ a files is
told_as failed free view (Err f) told first second same a = λ store memory files is. same files ∙ a store memory files is
