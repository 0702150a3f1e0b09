-- What a sink has taken after one write more.
use Rattle.std.proofs.Common.{◌≡◌, ℕ, ◌+◌, List, ◌++◌, take, drop, Option, None, Some, refl, sym, ap, ◌∙◌, append_assoc}
use Rattle.std.proofs.Math.Seq.{take-add}
use Rattle.store_core.specs.Written.{appended}

-- a front, and then a front of what is left
pub appended-more : (bytes : List ℕ) (n k : ℕ) (written : Option (List ℕ))
    → appended (take k (drop n bytes)) (appended (take n bytes) written) ≡ appended (take (n + k) bytes) written
appended-more bytes n k None = refl
appended-more bytes n k (Some before) =
    ap Some (append_assoc before (take n bytes) (take k (drop n bytes)) ∙ ap (λ front. before ++ front) (sym (take-add n k bytes)))
