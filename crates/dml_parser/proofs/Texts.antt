-- Bytes that are a text, and bytes that are none.
use Rattle.std.proofs.Common.{◌≡◌, ℕ, Bool, true, false, List, refl, Ok, Err, if◌then◌else◌}
use Rattle.std.specs.Str.{is_utf8, IsUtf8}
use Rattle.std.proofs.lemmas.Str.{IsUtf8-from_is_utf8, is_utf8-from_IsUtf8}
use Rattle.dml_parser.specs.Values.{text_of}
use Rattle.dml_parser.specs.declared.script.ScriptFault.TheVariants as fault

pub a_text : (bytes text : List ℕ) → IsUtf8 bytes → text ≡ bytes → text_of bytes ≡ Ok text
a_text bytes text u e =
    let test = is_utf8-from_IsUtf8 bytes u in
    rw (e, test) refl

is_none : (bytes : List ℕ) (b : Bool) → is_utf8 bytes ≡ b → ¬ (IsUtf8 bytes) → (if b then Ok bytes else Err fault.Text) ≡ Err fault.Text
is_none bytes true e none = absurd (none (IsUtf8-from_is_utf8 bytes e))
is_none bytes false e none = refl

pub no_text : (bytes : List ℕ) → ¬ (IsUtf8 bytes) → text_of bytes ≡ Err fault.Text
no_text bytes none = is_none bytes (is_utf8 bytes) refl none
