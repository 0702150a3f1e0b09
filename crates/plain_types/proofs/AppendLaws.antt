-- Calls that write at the end of a list, one after another.
use Rattle.std.proofs.Common.{◌≡◌, List, [], ◌++◌, Result, Ok, Err, ap, ◌∙◌, append_assoc, sym}
use Rattle.std.proofs.lemmas.List.{append-nil}
use Rattle.plain_types.specs.Appends.{Appends, IsFront}

-- a call that failed behind items that were written leaves what was there before them
pub front_of_more : {A : Type 0} (old first mid new : List A) → mid ≡ old ++ first → IsFront mid new → IsFront old new
front_of_more {A = A} old first mid new e (rest, f) = (first ++ rest, f ∙ ap (λ (t : List A). t ++ rest) e ∙ append_assoc old first rest)

-- a list stands in front of itself
pub front_of_same : {A : Type 0} (old new : List A) → new ≡ old → IsFront old new
front_of_same old new e = ([], e ∙ sym (append-nil old))

-- items that were written, and the rest of them behind these
pub appends_more : {A X E : Type 0} (old first more all mid new : List A) (r : Result X E) → mid ≡ old ++ first → Appends mid new more r → all ≡ first ++ more → Appends old new all r
appends_more {A = A} old first more all mid new (Ok x) e a g = a ∙ ap (λ (t : List A). t ++ more) e ∙ append_assoc old first more ∙ ap (λ (t : List A). old ++ t) (sym g)
appends_more old first more all mid new (Err f) e a g = front_of_more old first mid new e a
