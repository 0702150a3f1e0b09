-- Whether bytes are a value of text.
use Rattle.std.proofs.Common.{◌≡◌, ℕ, List, Some, None, Bool, true, false, refl, sym}
use Rattle.std.specs.Str.{is_utf8, IsUtf8}
use Rattle.std.proofs.lemmas.Str.{IsUtf8-from_is_utf8, is_utf8-from_IsUtf8}
use Rattle.row_values.specs.declared.kind.Kind.TheVariants as kind
use Rattle.row_values.specs.declared.value.Value.TheVariants as value
use Rattle.kind_values.specs.KindValues.{of_kind}

pub a_text : (bytes text : List ℕ) → IsUtf8 bytes → text ≡ bytes → Some (value.Text text) ≡ of_kind kind.Text (value.Text bytes)
a_text bytes text utf8 is =
    let e = is_utf8-from_IsUtf8 bytes utf8 in
    rw (is, e) refl

test_false : (bytes : List ℕ) (b : Bool) → is_utf8 bytes ≡ b → (IsUtf8 bytes → ⊥) → is_utf8 bytes ≡ false
test_false bytes true e refused = absurd (refused (IsUtf8-from_is_utf8 bytes e))
test_false bytes false e refused = e

pub no_text : (bytes : List ℕ) → (IsUtf8 bytes → ⊥) → None ≡ of_kind kind.Text (value.Text bytes)
no_text bytes refused = rw (test_false bytes (is_utf8 bytes) refl refused) refl

pub is_text : (bytes : List ℕ) → IsUtf8 bytes → true ≡ is_utf8 bytes
is_text bytes utf8 = sym (is_utf8-from_IsUtf8 bytes utf8)
