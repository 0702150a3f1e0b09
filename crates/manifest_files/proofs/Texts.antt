-- Whether bytes are a text.
use Rattle.std.proofs.Common.{◌≡◌, ℕ, List, Some, None, Bool, true, false, refl}
use Rattle.std.specs.Str.{is_utf8, IsUtf8}
use Rattle.std.proofs.lemmas.Str.{IsUtf8-from_is_utf8, is_utf8-from_IsUtf8}
use Rattle.manifest_files.specs.Datums.{as_text}

pub a_text : (bytes text : List ℕ) → IsUtf8 bytes → text ≡ bytes → Some text ≡ as_text bytes
a_text bytes text utf8 is =
    let e = is_utf8-from_IsUtf8 bytes utf8 in
    rw (is, e) refl

test_false : (bytes : List ℕ) (b : Bool) → is_utf8 bytes ≡ b → (IsUtf8 bytes → ⊥) → is_utf8 bytes ≡ false
test_false bytes true e refused = absurd (refused (IsUtf8-from_is_utf8 bytes e))
test_false bytes false e refused = e

pub no_text : (bytes : List ℕ) → (IsUtf8 bytes → ⊥) → None ≡ as_text bytes
no_text bytes refused = rw (test_false bytes (is_utf8 bytes) refl refused) refl
