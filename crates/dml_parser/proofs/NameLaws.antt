-- The names of sessions are plain: of letters, digits and low lines.
use Rattle.std.proofs.Common.{◌≡◌, ◌≢◌, ◌<◌, ℕ, Bool, true, false, not, ◌&&◌, List, [], ◌∷◌, refl, zero, suc, arith, lit<}
use Rattle.std.specs.Prelude.{if◌then◌else◌}
use Rattle.std.specs.List.{AllByRecursion}
use Rattle.std.specs.Str.{IsAscii, IsUtf8}
use Rattle.std.proofs.lemmas.Bool.{and_parts, false≢true}
use Rattle.std.proofs.lemmas.Bool.Decides.{nat_tests}
use Rattle.std.proofs.lemmas.Str.{IsUtf8-from_ascii}
use Rattle.script_words.specs.PlainNames.{are_name_bytes, is_plain_name}
use Rattle.script_words.specs.Words.{is_digit, is_name_start}
use Rattle.dml_parser.specs.Read.{HasNo, IsPlainName}

-- an ASCII byte that is neither a hyphen nor a slash
record IsPlainByte (b : ℕ) : Type 0 where
  ascii : b < 128
  hyphen : b ≢ 45
  slash : b ≢ 47

start_byte : (b : ℕ) → is_name_start b ≡ true → IsPlainByte b
start_byte b h = record { ascii = grind (arith, nat_tests); hyphen = λ same. grind (arith, nat_tests); slash = λ same. grind (arith, nat_tests) }

digit_byte : (b : ℕ) → is_digit b ≡ true → IsPlainByte b
digit_byte b h = record { ascii = grind (arith, nat_tests); hyphen = λ same. grind (arith, nat_tests); slash = λ same. grind (arith, nat_tests) }

plain_bytes : (bytes : List ℕ) → are_name_bytes bytes ≡ true → AllByRecursion IsPlainByte bytes
unfolding are_name_bytes
plain_bytes [] h = tt
plain_bytes (b ∷ bytes) h = by (is_name_start b) (is_digit b) refl refl (plain_bytes bytes) h
  where
    by : (start digit : Bool) → is_name_start b ≡ start → is_digit b ≡ digit → (are_name_bytes bytes ≡ true → AllByRecursion IsPlainByte bytes)
        → (if not start && not digit then false else are_name_bytes bytes) ≡ true → IsPlainByte b × AllByRecursion IsPlainByte bytes
    by true digit e f rest h = (start_byte b e, rest h)
    by false true e f rest h = (digit_byte b f, rest h)
    by false false e f rest h = absurd (false≢true h)

name_bytes : (name : List ℕ) → is_plain_name name ≡ true → AllByRecursion IsPlainByte name
name_bytes [] h = absurd (false≢true h)
name_bytes (b ∷ bytes) h = let both = and_parts (is_name_start b) (are_name_bytes bytes) h in (start_byte b both.0, plain_bytes bytes both.1)

session_bytes : (name : List ℕ) → IsPlainName name → AllByRecursion IsPlainByte name
session_bytes name h = name_bytes name (and_parts _ _ h).1

are_ascii : (bytes : List ℕ) → AllByRecursion IsPlainByte bytes → IsAscii bytes
are_ascii [] are i = lit< tt
are_ascii (b ∷ bytes) are zero = are.0.ascii
are_ascii (b ∷ bytes) are (suc i) = are_ascii bytes are.1 i

no_hyphens : (bytes : List ℕ) → AllByRecursion IsPlainByte bytes → HasNo 45 bytes
no_hyphens [] are = tt
no_hyphens (b ∷ bytes) are = (are.0.hyphen, no_hyphens bytes are.1)

no_slashes : (bytes : List ℕ) → AllByRecursion IsPlainByte bytes → HasNo 47 bytes
no_slashes [] are = tt
no_slashes (b ∷ bytes) are = (are.0.slash, no_slashes bytes are.1)

pub plain_is_utf8 : (name : List ℕ) → IsPlainName name → IsUtf8 name
plain_is_utf8 name h = IsUtf8-from_ascii name (are_ascii name (session_bytes name h))

pub plain_has_no_hyphen : (name : List ℕ) → IsPlainName name → HasNo 45 name
plain_has_no_hyphen name h = no_hyphens name (session_bytes name h)

pub plain_has_no_slash : (name : List ℕ) → IsPlainName name → HasNo 47 name
plain_has_no_slash name h = no_slashes name (session_bytes name h)
