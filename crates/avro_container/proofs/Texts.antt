-- A text that was read is UTF-8.
use Rattle.std.proofs.Common.{◌≡◌, ℕ, List, Ok, sym, subst}
use Rattle.std.specs.Str.{IsUtf8}
use Rattle.avro_binary.specs.Number.{text_at}
use Rattle.avro_binary.proofs.CallerLemmas.{text_law}

pub text_is : (bytes text rest : List ℕ) → text_at bytes ≡ Ok (text, rest) → IsUtf8 text
text_is bytes text rest e = let h = (text_law bytes).found text rest e in subst (λ (t : List ℕ). IsUtf8 t) (sym h.3) h.2
